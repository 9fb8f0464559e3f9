-- On which key kinds a frame can be opened.
use Rattle.std.specs.Prelude.{ℕ, Bool, cond, ◌||◌, Ok, Err, Result, ◌==◌}
use Rattle.frame.specs.declared.bound.WindowFrameUnits.{WindowFrameUnits}
use Rattle.frame.specs.declared.bound.WindowFrameUnits.TheVariants.{Rows, Range, Groups}
use Rattle.frame.specs.declared.refusal.Refusal.{Refusal}
use Rattle.frame.specs.declared.refusal.Reason.{Reason}
use Rattle.frame.specs.declared.refusal.Reason.TheVariants.{RangeColumns, GroupsColumns}
use Rattle.frame.specs.declared.refusal.Layer.TheVariants as layers
use Rattle.frame.specs.Frames.{Frame, free}

abbrev pub not_opened : Reason → Refusal
not_opened r = record { reason = r; place = 0; layer = layers.Opening }

-- ROWS on any; RANGE where it is free or there is one order column; GROUPS where there is one at least
abbrev pub opened_by : WindowFrameUnits → Bool → ℕ → Result (Unit {0}) Refusal
opened_by Rows f columns = Ok tt
opened_by Range f columns = cond (f || columns == 1) (Ok tt) (Err (not_opened RangeColumns))
opened_by Groups f columns = cond (columns == 0) (Err (not_opened GroupsColumns)) (Ok tt)

abbrev pub opened : Frame → ℕ → Result (Unit {0}) Refusal
opened f columns = opened_by f.units (free f) columns
