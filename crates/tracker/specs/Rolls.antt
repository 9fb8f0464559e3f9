-- What a roll's calls answer, and what the roll and its array hold after them.
use Rattle.std.specs.Prelude.{ℕ, ◌+◌, ◌-◌, Bool, cond, ◌&&◌, List, length, take, Some, None, Ok, Err, Option, Result, ◌==◌, nat_le, slice_set}
use Rattle.frame.specs.declared.refusal.Refusal.{Refusal}
use Rattle.frame.specs.declared.refusal.Reason.{Reason}
use Rattle.frame.specs.declared.refusal.Reason.TheVariants.{TooManyLines, OtherSlip, ArrayShort}
use Rattle.frame.specs.declared.refusal.Layer.{Layer}
use Rattle.frame.specs.declared.refusal.Layer.TheVariants as layers
use Rattle.sitting.specs.Rules.{answered, settled}
use Rattle.tracker.specs.declared.roll.Roll.{Roll}
use Rattle.tracker.specs.declared.slip.Slip.{Slip}
use Rattle.tracker.specs.Slots.{moved}

abbrev pub refuse : Reason → ℕ → Refusal
refuse r p = record { reason = r; place = p; layer = layers.Roll }

-- a roll: the number of its first line, and how many lines there are
pub record RollNumbers : Type 0 where
  pub first : ℕ
  pub count : ℕ

abbrev pub held_of : Roll → RollNumbers
held_of r = record { first = r.first; count = r.count }

-- the array cannot hold so many lines
abbrev pub room_fault : ℕ → ℕ → Option Refusal
room_fault count room = cond (nat_le count room) None (Some (refuse ArrayShort room))

-- one line more: the count of lines, then the array
abbrev pub add_fault : RollNumbers → ℕ → Option Refusal
add_fault h room = cond (nat_le (h.first + h.count + 1) 4294967295) (room_fault (h.count + 1) room) (Some (refuse TooManyLines 0))

-- it has the number behind the last line's
abbrev pub adding : RollNumbers → ℕ → Result ℕ Refusal
adding h room = answered (add_fault h room) (h.first + h.count)

abbrev pub added : RollNumbers → ℕ → RollNumbers
added h room = settled (add_fault h room) h (record { first = h.first; count = h.count + 1 })

abbrev pub add_slots : {X : Type 0} → RollNumbers → X → List X → List X
add_slots h x xs = settled (add_fault h (length xs)) xs (slice_set xs h.count x)

-- a slip is for lines from first to before total: it begins at first, and ends no earlier and not past the total
abbrev pub fits_slip : ℕ → ℕ → Slip → Bool
fits_slip first total s = s.from == first && (nat_le s.from s.to && nat_le s.to total)

-- another slip than the one that is for these lines
abbrev pub slip_fault : Layer → ℕ → ℕ → Slip → Option Refusal
slip_fault l first total s = cond (fits_slip first total s) None (Some (record { reason = OtherSlip; place = first; layer = l }))

-- a meeting: the array, then the slip
abbrev pub meet_fault : RollNumbers → ℕ → Slip → Option Refusal
meet_fault h room s = cond (nat_le h.count room) (slip_fault layers.Roll h.first (h.first + h.count) s) (Some (refuse ArrayShort room))

-- a refusal gives the slip back
abbrev pub given_back : {X : Type 0} → Slip → Option Refusal → X → Result X (Refusal × Slip)
given_back s (Some e) x = Err (e, s)
given_back s None x = Ok x

-- the lines before line n go
abbrev pub kept_from : ℕ → RollNumbers → RollNumbers
kept_from n h = record { first = n; count = h.count - (n - h.first) }

-- the kept lines move to the front
abbrev pub kept_slots : {X : Type 0} → ℕ → RollNumbers → List X → List X
kept_slots n h xs = moved (n - h.first) (h.count - (n - h.first)) xs

abbrev pub met : RollNumbers → ℕ → Slip → RollNumbers
met h room s = settled (meet_fault h room s) h (kept_from s.to h)

abbrev pub met_slots : {X : Type 0} → RollNumbers → Slip → List X → List X
met_slots h s xs = settled (meet_fault h (length xs) s) xs (kept_slots s.to h xs)

-- a view of the lines in front
abbrev pub rolled : {X : Type 0} → RollNumbers → List X → Result (ℕ × List X) Refusal
rolled h xs = answered (room_fault h.count (length xs)) (h.first, take h.count xs)
