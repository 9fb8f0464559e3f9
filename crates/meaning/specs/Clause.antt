-- A frame's window over any lines: its two edges, and which lines lie between its bounds.
use Rattle.std.specs.Prelude.{◌≡◌, ℕ, ◌+◌, ◌≤◌, Bool, true, false, List, ℤ, pos, negsuc, is_some, Some, None, ◌==◌, slice_index_or}
use Rattle.frame.specs.declared.bound.WindowFrameBound.{WindowFrameBound}
use Rattle.frame.specs.declared.bound.WindowFrameBound.TheVariants.{UnboundedPreceding, Preceding, CurrentRow, Following, UnboundedFollowing}
use Rattle.frame.specs.declared.bound.WindowFrameUnits.{WindowFrameUnits}
use Rattle.frame.specs.declared.bound.WindowFrameUnits.TheVariants.{Rows, Range, Groups}
use Rattle.frame.specs.Frames.{Frame}
use Rattle.meaning.specs.declared.options.SortOptions.{SortOptions}
use Rattle.meaning.specs.Lines.{Line}
use Rattle.meaning.specs.Edges.{Edge}
use Rattle.meaning.specs.Rows.{rows_start, rows_end}
use Rattle.meaning.specs.Turns.{turn_of, groups_start, groups_end}
use Rattle.meaning.specs.Ranges.{before, target, range_start, range_end, InOrder}

abbrev pub same_rank : ℤ → ℤ → Bool
same_rank (pos a) (pos b) = a == b
same_rank (pos a) (negsuc b) = false
same_rank (negsuc a) (pos b) = false
same_rank (negsuc a) (negsuc b) = a == b

-- same keys, or both unmarked
abbrev pub same_line : Line → Line → Bool
same_line (Some a) (Some b) = same_rank a b
same_line (Some a) None = false
same_line None (Some b) = false
same_line None None = true

-- where the window of line i starts, by a unit and a bound
abbrev pub starts : SortOptions → WindowFrameUnits → WindowFrameBound → Edge Line
starts o Rows b xs i = rows_start b xs i
starts o Range b xs i = range_start o b xs i
starts o Groups b xs i = groups_start None same_line b xs i

abbrev pub ends : SortOptions → WindowFrameUnits → WindowFrameBound → Edge Line
ends o Rows b xs i = rows_end b xs i
ends o Range b xs i = range_end o b xs i
ends o Groups b xs i = groups_end None same_line b xs i

-- RANGE asks for lines in order
abbrev pub Fit : SortOptions → WindowFrameUnits → List Line → Type 0
Fit o Rows F = Unit {0}
Fit o Range F = InOrder o F
Fit o Groups F = Unit {0}

-- under RANGE an unmarked line is its own target
abbrev pub Settled : WindowFrameUnits → List Line → ℕ → Type 0
Settled Rows F i = Unit {0}
Settled Range F i = is_some (slice_index_or F i None) ≡ true
Settled Groups F i = Unit {0}

-- number h, seen from number g, is not before a bound, and not after it
abbrev pub FromOn : WindowFrameBound → ℕ → ℕ → Type 0
FromOn UnboundedPreceding g h = Unit {0}
FromOn (Preceding n) g h = g ≤ h + n
FromOn CurrentRow g h = g ≤ h
FromOn (Following n) g h = g + n ≤ h
FromOn UnboundedFollowing g h = ⊥

abbrev pub UpTo : WindowFrameBound → ℕ → ℕ → Type 0
UpTo UnboundedPreceding g h = ⊥
UpTo (Preceding n) g h = h + n ≤ g
UpTo CurrentRow g h = h ≤ g
UpTo (Following n) g h = h ≤ g + n
UpTo UnboundedFollowing g h = Unit {0}

-- the same of lines, by their order
abbrev pub LineFromOn : SortOptions → WindowFrameBound → Line → Line → Type 0
LineFromOn o UnboundedPreceding x y = Unit {0}
LineFromOn o (Preceding n) x y = before o y (target o (Preceding n) x) ≡ false
LineFromOn o CurrentRow x y = before o y (target o CurrentRow x) ≡ false
LineFromOn o (Following n) x y = before o y (target o (Following n) x) ≡ false
LineFromOn o UnboundedFollowing x y = ⊥

abbrev pub LineUpTo : SortOptions → WindowFrameBound → Line → Line → Type 0
LineUpTo o UnboundedPreceding x y = ⊥
LineUpTo o (Preceding n) x y = before o (target o (Preceding n) x) y ≡ false
LineUpTo o CurrentRow x y = before o (target o CurrentRow x) y ≡ false
LineUpTo o (Following n) x y = before o (target o (Following n) x) y ≡ false
LineUpTo o UnboundedFollowing x y = Unit {0}

-- line j is not before bound b of line i: by numbers, by order, by turns
abbrev pub From : SortOptions → WindowFrameUnits → WindowFrameBound → List Line → ℕ → ℕ → Type 0
From o Rows b F i j = FromOn b i j
From o Range b F i j = LineFromOn o b (slice_index_or F i None) (slice_index_or F j None)
From o Groups b F i j = FromOn b (turn_of None same_line F i) (turn_of None same_line F j)

abbrev pub To : SortOptions → WindowFrameUnits → WindowFrameBound → List Line → ℕ → ℕ → Type 0
To o Rows b F i j = UpTo b i j
To o Range b F i j = LineUpTo o b (slice_index_or F i None) (slice_index_or F j None)
To o Groups b F i j = UpTo b (turn_of None same_line F i) (turn_of None same_line F j)

-- the window of line i over some lines: its first line, and the line after its last
abbrev pub window : SortOptions → Frame → List Line → ℕ → ℕ × ℕ
window o f xs i = (starts o f.units f.start xs i, ends o f.units f.end xs i)
