-- How frames and refusals are written.
use Rattle.std.specs.Prelude.{◌≡◌, ℕ, List, ◌++◌, Ok, codes, decimal}
use Rattle.frame.specs.declared.bound.WindowFrameUnits.{WindowFrameUnits}
use Rattle.frame.specs.declared.bound.WindowFrameUnits.TheVariants.{Rows, Range, Groups}
use Rattle.frame.specs.declared.bound.WindowFrameBound.{WindowFrameBound}
use Rattle.frame.specs.declared.bound.WindowFrameBound.TheVariants.{UnboundedPreceding, Preceding, CurrentRow, Following, UnboundedFollowing}
use Rattle.frame.specs.declared.refusal.Refusal.{Refusal}
use Rattle.frame.specs.Clause.{clause}
use Rattle.frame.specs.Refusals.{number_of, layer_of}
use Rattle.frame.specs.Frames.{Frame, Admitted}

abbrev pub unit_text : WindowFrameUnits → List ℕ
unit_text Rows = codes "ROWS"
unit_text Range = codes "RANGE"
unit_text Groups = codes "GROUPS"

abbrev pub bound_text : WindowFrameBound → List ℕ
bound_text UnboundedPreceding = codes "UNBOUNDED PRECEDING"
bound_text (Preceding n) = decimal n ++ codes " PRECEDING"
bound_text CurrentRow = codes "CURRENT ROW"
bound_text (Following n) = decimal n ++ codes " FOLLOWING"
bound_text UnboundedFollowing = codes "UNBOUNDED FOLLOWING"

-- both bounds are always written
abbrev pub frame_text : Frame → List ℕ
frame_text f = unit_text f.units ++ (codes " BETWEEN " ++ (bound_text f.start ++ (codes " AND " ++ bound_text f.end)))

-- a refusal by its numbers
abbrev pub refusal_text : Refusal → List ℕ
refusal_text r = codes "refused " ++ (decimal (number_of r.reason) ++ (codes " place " ++ (decimal r.place ++ (codes " layer " ++ decimal (layer_of r.layer)))))

-- what is written of a frame is read as that frame
abbrev pub ShownReadsBack : Type 0
ShownReadsBack = (f : Frame) → Admitted f → clause (frame_text f) ≡ Ok f
