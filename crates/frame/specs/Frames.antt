-- Frames, and what turning one round gives.
use Rattle.std.specs.Prelude.{◌≡◌, ◌^◌, ◌<◌, Bool, ◌&&◌}
use Rattle.frame.specs.declared.bound.WindowFrameUnits.{WindowFrameUnits}
use Rattle.frame.specs.declared.bound.WindowFrameBound.{WindowFrameBound}
use Rattle.frame.specs.declared.frame.WindowFrame.{WindowFrame}
use Rattle.frame.specs.Bounds.{kind, offset, turned, free_bound}

pub record Frame : Type 0 where
  pub units : WindowFrameUnits
  pub start : WindowFrameBound
  pub end : WindowFrameBound

-- the frame that the code's frame stands for
abbrev pub framed : WindowFrame → Frame
framed f = record { units = f.units; start = f.start_bound; end = f.end_bound }

-- a frame that can exist: it never starts at UNBOUNDED FOLLOWING, never ends at UNBOUNDED PRECEDING
pub record Admitted (f : Frame) : Type 0 where
  pub starts : kind f.start < 4
  pub ends : 0 < kind f.end
  pub start_fits : offset f.start < 2 ^ 64
  pub end_fits : offset f.end < 2 ^ 64

-- neither bound has an offset
abbrev pub free : Frame → Bool
free f = free_bound f.start && free_bound f.end

-- the bounds swapped, and each turned
abbrev pub reversed : Frame → Frame
reversed f = record { units = f.units; start = turned f.end; end = turned f.start }

-- reversed twice, a frame is itself again
abbrev pub ReverseTwice : Type 0
ReverseTwice = (f : Frame) → reversed (reversed f) ≡ f

-- a reversed frame is one that can exist
abbrev pub ReverseAdmitted : Type 0
ReverseAdmitted = (f : Frame) → Admitted f → Admitted (reversed f)
