-- What a transcript view means: a first line number and a list of lines, each a key or unmarked.
use Rattle.std.specs.Prelude.{ℕ, ◌+◌, ◌-◌, cond, List, length, None, Ok, Err, Option, Result, nat_le, nat_lt, slice_index_or}
use Rattle.frame.specs.declared.refusal.Refusal.{Refusal}
use Rattle.frame.specs.declared.refusal.Reason.TheVariants.{TooManyLines}
use Rattle.frame.specs.declared.refusal.Layer.TheVariants.{Transcript}

-- the line numbered n, unmarked outside the view
abbrev pub at_line : {K : Type 0} → ℕ → List (Option K) → ℕ → Option K
at_line first xs n = cond (nat_lt n first) None (slice_index_or xs (n - first) None)

-- a line count would pass the limit
abbrev pub too_many : Refusal
too_many = record { reason = TooManyLines; place = 0; layer = Transcript }

-- a view of all these lines from a first line number on, unless its total would pass the limit
abbrev pub viewed : {K : Type 0} → ℕ → List (Option K) → Result (ℕ × List (Option K)) Refusal
viewed first xs = cond (nat_le (first + length xs) 4294967295) (Ok (first, xs)) (Err too_many)
