-- ROWS: the window of line i over t lines.
use Rattle.std.specs.Prelude.{ℕ, ◌+◌, ◌-◌, min, cond, length, nat_lt}
use Rattle.frame.specs.declared.bound.WindowFrameBound.{WindowFrameBound}
use Rattle.frame.specs.declared.bound.WindowFrameBound.TheVariants.{UnboundedPreceding, Preceding, CurrentRow, Following, UnboundedFollowing}
use Rattle.meaning.specs.Edges.{Edge}

abbrev pub row_start : WindowFrameBound → ℕ → ℕ → ℕ
row_start UnboundedPreceding t i = 0
row_start (Preceding n) t i = i - n
row_start CurrentRow t i = i
row_start (Following n) t i = min (i + n) t
row_start UnboundedFollowing t i = t

abbrev pub row_end : WindowFrameBound → ℕ → ℕ → ℕ
row_end UnboundedPreceding t i = 0
row_end (Preceding n) t i = cond (nat_lt i n) 0 (i - n + 1)
row_end CurrentRow t i = i + 1
row_end (Following n) t i = min (i + n + 1) t
row_end UnboundedFollowing t i = t

abbrev pub rows_start : {L : Type 0} → WindowFrameBound → Edge L
rows_start b xs i = row_start b (length xs) i

abbrev pub rows_end : {L : Type 0} → WindowFrameBound → Edge L
rows_end b xs i = row_end b (length xs) i
