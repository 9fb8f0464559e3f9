-- Filing and the meeting of its slip as one call: where either is refused, nothing changes.
use Rattle.std.specs.Prelude.{ℕ, List, Ok, Err, Option, Result}
use Rattle.std.specs.Borrow.{Bor}
use Rattle.frame.specs.declared.refusal.Refusal.{Refusal}
use Rattle.sitting.specs.State.{State}
use Rattle.sitting.specs.Rules.{or_else, file_fault}
use Rattle.tracker.specs.declared.slip.Slip.{Slip}
use Rattle.tracker.specs.Rolls.{RollNumbers, meet_fault}

-- the slip of a filing up to n
abbrev pub slip_of : State → ℕ → Slip
slip_of s n = record { from = s.filed; to = n }

-- the filing's fault, then the meeting's
abbrev pub either_fault : State → ℕ → Option Refusal → Option Refusal
either_fault s n meeting = or_else (file_fault s.last s.filed n) meeting

abbrev pub roll_fault : State → ℕ → RollNumbers → ℕ → Option Refusal
roll_fault s n h room = either_fault s n (meet_fault h room (slip_of s n))

-- what is handed on, with the filed count before
abbrev pub passed_on : Result (ℕ × Bor (List ℕ)) Refusal → Result (ℕ × List ℕ) Refusal
passed_on (Ok x) = Ok (x.0, x.1.now)
passed_on (Err e) = Err e
