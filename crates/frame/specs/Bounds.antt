-- What bounds mean for a frame.
use Rattle.std.specs.Prelude.{ℕ, Bool, true, false, ◌==◌, nat_lt}
use Rattle.frame.specs.declared.bound.WindowFrameUnits.{WindowFrameUnits}
use Rattle.frame.specs.declared.bound.WindowFrameUnits.TheVariants.{Rows, Range, Groups}
use Rattle.frame.specs.declared.bound.WindowFrameBound.{WindowFrameBound}
use Rattle.frame.specs.declared.bound.WindowFrameBound.TheVariants.{UnboundedPreceding, Preceding, CurrentRow, Following, UnboundedFollowing}

-- the number of a bound's kind
abbrev pub kind : WindowFrameBound → ℕ
kind UnboundedPreceding = 0
kind (Preceding n) = 1
kind CurrentRow = 2
kind (Following n) = 3
kind UnboundedFollowing = 4

-- a bound's offset, 0 where it has none
abbrev pub offset : WindowFrameBound → ℕ
offset UnboundedPreceding = 0
offset (Preceding n) = n
offset CurrentRow = 0
offset (Following n) = n
offset UnboundedFollowing = 0

-- PRECEDING for FOLLOWING, and back
abbrev pub turned : WindowFrameBound → WindowFrameBound
turned UnboundedPreceding = UnboundedFollowing
turned (Preceding n) = Following n
turned CurrentRow = CurrentRow
turned (Following n) = Preceding n
turned UnboundedFollowing = UnboundedPreceding

-- a bound without an offset: kinds 0, 2 and 4
abbrev pub free_bound : WindowFrameBound → Bool
free_bound UnboundedPreceding = true
free_bound (Preceding n) = false
free_bound CurrentRow = true
free_bound (Following n) = false
free_bound UnboundedFollowing = true

-- under ROWS, by the end: yes unless it is UNBOUNDED FOLLOWING, or n FOLLOWING with n > 0
abbrev pub causal_rows : WindowFrameBound → Bool
causal_rows UnboundedPreceding = true
causal_rows (Preceding n) = true
causal_rows CurrentRow = true
causal_rows (Following n) = n == 0
causal_rows UnboundedFollowing = false

-- under RANGE and GROUPS, by the end: yes exactly when it is n PRECEDING with n > 0
abbrev pub causal_peers : WindowFrameBound → Bool
causal_peers UnboundedPreceding = false
causal_peers (Preceding n) = nat_lt 0 n
causal_peers CurrentRow = false
causal_peers (Following n) = false
causal_peers UnboundedFollowing = false

-- whether a frame of these units and this end is causal
abbrev pub causal : WindowFrameUnits → WindowFrameBound → Bool
causal Rows e = causal_rows e
causal Range e = causal_peers e
causal Groups e = causal_peers e
