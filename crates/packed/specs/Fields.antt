-- The reading of one packed line: a bit map, then only the fields whose bit stands.
use Rattle.std.specs.Prelude.{ℕ, ◌+◌, ◌*◌, Bool, true, false, cond, not, List, [], ◌∷◌, length, take, drop, Some, None, Ok, Err, Option, Result, ◌==◌, bit_and, nat_le}
use Rattle.std.specs.Borrow.{Bor}
use Rattle.packed.specs.declared.line.LineFault.{LineFault}
use Rattle.packed.specs.declared.line.LineFault.TheVariants.{UnknownBits, CutShort}

-- a line by its fields, each of which may be absent
pub record Line : Type 0 where
  pub speaker : Option ℕ
  pub question : Option ℕ
  pub elapsed : Option ℕ
  pub text : Option (List ℕ)

-- go on with what was read, unless there is a fault
abbrev pub next : {A B : Type 0} → Result A LineFault → (A → Result B LineFault) → Result B LineFault
next (Ok x) f = f x
next (Err e) f = Err e

-- what code has read, and the bytes behind it as a list
abbrev pub seen : {A B : Type 0} → (A → B) → Result (A × Bor (List ℕ)) LineFault → Result (B × List ℕ) LineFault
seen f (Err e) = Err e
seen f (Ok x) = Ok (f x.0, x.1.now)

-- the number that bytes spell, lowest byte first
abbrev pub little : List ℕ → ℕ
little [] = 0
little (b ∷ bs) = b + little bs * 256

-- the first n bytes as a number, and the bytes behind them
abbrev pub number : ℕ → List ℕ → Result (ℕ × List ℕ) LineFault
number n bs = cond (nat_le n (length bs)) (Ok (little (take n bs), drop n bs)) (Err CutShort)

-- a field of n bytes, if its bit stands
abbrev pub field : Bool → ℕ → List ℕ → Result (Option ℕ × List ℕ) LineFault
field false n bs = Ok (None, bs)
field true n bs = next (number n bs) (λ x. Ok (Some x.0, x.1))

-- the text, if its bit stands: a length byte and that many bytes
abbrev pub text_of : Bool → List ℕ → Result (Option (List ℕ) × List ℕ) LineFault
text_of false bs = Ok (None, bs)
text_of true bs = next (number 1 bs) (λ x. cond (nat_le x.0 (length x.1)) (Ok (Some (take x.0 x.1), drop x.0 x.1)) (Err CutShort))

-- whether the bit of this weight stands in a bit map
abbrev pub stands : ℕ → ℕ → Bool
stands map weight = not (bit_and map weight == 0)

-- the line at the front of the bytes, and the bytes behind it
abbrev pub line_of : List ℕ → Result (Line × List ℕ) LineFault
line_of [] = Err CutShort
line_of (map ∷ bs) =
    cond (stands map 240) (Err UnknownBits) (
    next (field (stands map 1) 1 bs) (λ s.
    next (field (stands map 2) 4 s.1) (λ q.
    next (field (stands map 4) 8 q.1) (λ e.
    next (text_of (stands map 8) e.1) (λ t.
    Ok (record { speaker = s.0; question = q.0; elapsed = e.0; text = t.0 }, t.1))))))
