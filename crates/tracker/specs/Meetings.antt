-- A packed transcript's meeting with a slip.
use Rattle.std.specs.Prelude.{◌≡◌, ℕ, ◌+◌, ◌-◌, List, length, Ok, Err, Option, Result}
use Rattle.std.specs.Borrow.{Bor}
use Rattle.frame.specs.declared.refusal.Refusal.{Refusal}
use Rattle.frame.specs.declared.refusal.Layer.TheVariants as layers
use Rattle.packed.specs.declared.view.PackedView.{PackedView}
use Rattle.packed.specs.Fields.{Line}
use Rattle.packed.specs.Views.{held, from_line, behind}
use Rattle.tracker.specs.declared.slip.Slip.{Slip}
use Rattle.tracker.specs.Rolls.{slip_fault, given_back}

-- the bytes handed on, or the refusal with the slip
abbrev pub handed : Result (Bor (List ℕ)) (Refusal × Slip) → Result (List ℕ) (Refusal × Slip)
handed (Ok r) = Ok r.now
handed (Err e) = Err e

module _ {K : Type 0} (reads : Line → Option K) (v : PackedView K) (s : Slip) where
  -- the slip is for another view's lines
  abbrev pub packed_fault : Option Refusal
  packed_fault = slip_fault layers.Transcript v.first (v.first + length (held reads v)) s

  -- the bytes from the first kept line on, as the place table has it
  abbrev pub hands_on : Result (List ℕ) (Refusal × Slip)
  hands_on = given_back s packed_fault (from_line v s.to)

  -- the same as the bytes behind the lines that go
  abbrev pub HandsOnKept : Result (Bor (List ℕ)) (Refusal × Slip) → Type 0
  HandsOnKept r = handed r ≡ given_back s packed_fault (behind (s.to - v.first) v.bytes.now)
