-- What a line of the script asks for.
use Rattle.std.specs.Prelude.{ℕ, ◌+◌, Bool, true, cond, not, List, [], ◌∷◌, length, take, drop, codes, ◌==◌, Some, None, Ok, Err, Option, Result}
use Rattle.std.specs.List.{prefix_len}
use Rattle.std.specs.Str.{bytes_eq}
use Rattle.readback.specs.declared.command.Command.{Command}
use Rattle.readback.specs.declared.command.Command.TheVariants.{Clause, Reverse, Scan, View, Explain}
use Rattle.readback.specs.declared.command.Mistake.{Mistake}
use Rattle.readback.specs.declared.command.Mistake.TheVariants.{UnknownCommand, TooManyWords}

-- a byte is not the mark
abbrev pub other : ℕ → ℕ → Bool
other mark b = not (b == mark)

-- the bytes before the first mark, and those behind it
abbrev pub before_mark : ℕ → List ℕ → List ℕ
before_mark mark line = take (prefix_len (other mark) line) line

abbrev pub behind_mark : ℕ → List ℕ → List ℕ
behind_mark mark line = drop (prefix_len (other mark) line + 1) line

-- a line's first word, and what stands behind the space after it
abbrev pub head : List ℕ → List ℕ
head line = before_mark 32 line

abbrev pub rest : List ℕ → List ℕ
rest line = behind_mark 32 line

pub data Meant : Type 0 where
  nothing : Meant
  clause : List ℕ → Meant
  reverse : Meant
  scan : List ℕ → Meant
  view : List ℕ → Meant
  explain : List ℕ → Meant
  wrong : Mistake → Meant

abbrev pub meant_by : Command → Meant
meant_by (Clause text) = clause text.now
meant_by Reverse = reverse
meant_by (Scan args) = scan args.now
meant_by (View args) = view args.now
meant_by (Explain args) = explain args.now

abbrev pub meant : Result (Option Command) Mistake → Meant
meant (Ok None) = nothing
meant (Ok (Some c)) = meant_by c
meant (Err m) = wrong m

-- whether a line is empty or a comment
abbrev pub passed_over : List ℕ → Bool
passed_over [] = true
passed_over (b ∷ bs) = b == 35

abbrev pub command : List ℕ → Meant
command line =
    cond (passed_over line) nothing (
    cond (bytes_eq (head line) (codes "clause")) (clause (rest line)) (
    cond (bytes_eq (head line) (codes "reverse")) (cond (length (rest line) == 0) reverse (wrong TooManyWords)) (
    cond (bytes_eq (head line) (codes "scan")) (scan (rest line)) (
    cond (bytes_eq (head line) (codes "view")) (view (rest line)) (
    cond (bytes_eq (head line) (codes "explain")) (explain (rest line)) (
    wrong UnknownCommand))))))
