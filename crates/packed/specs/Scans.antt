-- What a scan of packed bytes answers, and what the place table holds after it.
use Rattle.std.specs.Prelude.{◌≡◌, ℕ, ◌+◌, ◌-◌, ◌^◌, ◌<◌, Bool, false, cond, not, ◌&&◌, List, [], ◌∷◌, length, Ok, Err, Result, ◌==◌, nat_le, nat_lt}
use Rattle.frame.specs.declared.refusal.Refusal.{Refusal}
use Rattle.frame.specs.declared.refusal.Reason.{Reason}
use Rattle.frame.specs.declared.refusal.Reason.TheVariants as reasons
use Rattle.frame.specs.declared.refusal.Layer.TheVariants as layers
use Rattle.transcript.specs.Lines.{too_many}
use Rattle.packed.specs.declared.line.LineFault.{LineFault}
use Rattle.packed.specs.declared.line.LineFault.TheVariants.{UnknownBits, CutShort}
use Rattle.packed.specs.Fields.{line_of}

-- a refusal of the transcript layer
abbrev pub refuse : Reason → ℕ → Refusal
refuse r p = record { reason = r; place = p; layer = layers.Transcript }

abbrev pub reason_of : LineFault → Reason
reason_of UnknownBits = reasons.UnknownBits
reason_of CutShort = reasons.LineCutShort

-- what follows from a line that was read, or from its fault
abbrev pub by_line : {A B : Type 0} → Result A LineFault → (A → B) → (LineFault → B) → B
by_line (Ok x) f g = f x
by_line (Err e) f g = g e

-- The lines of bs, of which the first is line n and stands at a byte place: each wants an entry of the
-- table. Every line is checked for its entry, its bits, its end and, where strict, for the entry's value.
-- The answer is the count of lines.
abbrev pub walk_of : Bool → List ℕ → ℕ → ℕ → List ℕ → Result ℕ Refusal
walk_of strict [] n at [] = Ok n
walk_of strict (e ∷ es) n at [] = Ok n
walk_of strict [] n at (b ∷ bs) = Err (refuse reasons.NoPlaceEntry at)
walk_of strict (e ∷ es) n at (b ∷ bs) =
    cond (nat_lt at 4294967296)
    (by_line (line_of (b ∷ bs))
    (λ x. cond (strict && not (e == at)) (Err (refuse reasons.WrongPlaceEntry n)) (walk_of strict es (n + 1) (at + (length (b ∷ bs) - length x.1)) x.1))
    (λ f. Err (refuse (reason_of f) at)))
    (Err (refuse reasons.NoPlaceEntry at))

-- a test of an entry at a place, which answers no exactly where strict and the entry is not the place
abbrev pub TestsEntry : Bool → (ℕ → ℕ → Bool → Type 0) → Type 0
TestsEntry strict answers = (e p : ℕ) (b : Bool) → e < 2 ^ 32 → p < 2 ^ 64 → answers e p b → not b ≡ (strict && not (e == p))

-- last of all, the count of lines from a first line number on
abbrev pub limited : ℕ → Result ℕ Refusal → Result ℕ Refusal
limited first (Ok n) = cond (nat_le (first + n) 4294967295) (Ok n) (Err too_many)
limited first (Err e) = Err e

abbrev pub scan_of : List ℕ → List ℕ → Result ℕ Refusal
scan_of table bs = limited 0 (walk_of false table 0 0 bs)

-- the table with the places of the lines of bs, the first of which stands at a place; other entries stay
abbrev pub filled : List ℕ → ℕ → List ℕ → List ℕ
filled [] at bs = []
filled (e ∷ es) at bs = by_line (line_of bs) (λ x. at ∷ filled es (at + (length bs - length x.1)) x.1) (λ _. e ∷ es)
