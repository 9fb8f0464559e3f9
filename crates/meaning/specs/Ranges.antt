-- RANGE: lines in their order, and the window as two counts.
use Rattle.std.specs.Prelude.{◌≡◌, ℕ, ◌+◌, ◌-◌, ◌<◌, ◌≤◌, Bool, true, false, not, List, map, length, ℤ, pos, ◌+ℤ◌, ◌-ℤ◌, neg_ℤ, Some, None, count_by, int_lt, nat_lt, slice_index_or}
use Rattle.frame.specs.declared.bound.WindowFrameBound.{WindowFrameBound}
use Rattle.frame.specs.declared.bound.WindowFrameBound.TheVariants.{UnboundedPreceding, Preceding, CurrentRow, Following, UnboundedFollowing}
use Rattle.meaning.specs.Lines.{Line}
use Rattle.meaning.specs.declared.options.SortOptions.{SortOptions}
use Rattle.meaning.specs.Counts.{walk}
use Rattle.meaning.specs.Edges.{Edge}

-- rank a comes before rank b
abbrev pub rank_before : Bool → ℤ → ℤ → Bool
rank_before false a b = int_lt a b
rank_before true a b = int_lt b a

-- the rank n back from a, and n on
abbrev pub back : Bool → ℤ → ℕ → ℤ
back false a n = a -ℤ pos n
back true a n = a +ℤ pos n

abbrev pub onward : Bool → ℤ → ℕ → ℤ
onward false a n = a +ℤ pos n
onward true a n = a -ℤ pos n

-- line x is ordered before line y
abbrev pub before : SortOptions → Line → Line → Bool
before o (Some a) (Some b) = rank_before o.descending a b
before o (Some a) None = not o.unmarked_first
before o None (Some b) = o.unmarked_first
before o None None = false

-- the rank that a bound aims at, from a rank
abbrev pub rank_target : Bool → WindowFrameBound → ℤ → ℤ
rank_target d UnboundedPreceding a = a
rank_target d (Preceding n) a = back d a n
rank_target d CurrentRow a = a
rank_target d (Following n) a = onward d a n
rank_target d UnboundedFollowing a = a

-- the target of a bound, from a line: an unmarked line is its own
abbrev pub target : SortOptions → WindowFrameBound → Line → Line
target o b (Some a) = Some (rank_target o.descending b a)
target o b None = None

-- a key of rank x is ordered before the target of a bound from a key of rank y
abbrev pub key_leads : Bool → WindowFrameBound → ℤ → ℤ → Bool
key_leads d b x y = rank_before d x (rank_target d b y)

-- how many lines are ordered before y, and how many are not after it
abbrev pub lead : SortOptions → List Line → Line → ℕ
lead o xs y = count_by (λ x. before o x y) xs

abbrev pub reach : SortOptions → List Line → Line → ℕ
reach o xs y = count_by (λ x. not (before o y x)) xs

abbrev pub range_start : SortOptions → WindowFrameBound → Edge Line
range_start o UnboundedPreceding xs i = 0
range_start o (Preceding n) xs i = lead o xs (target o (Preceding n) (slice_index_or xs i None))
range_start o CurrentRow xs i = lead o xs (target o CurrentRow (slice_index_or xs i None))
range_start o (Following n) xs i = lead o xs (target o (Following n) (slice_index_or xs i None))
range_start o UnboundedFollowing xs i = length xs

abbrev pub range_end : SortOptions → WindowFrameBound → Edge Line
range_end o UnboundedPreceding xs i = 0
range_end o (Preceding n) xs i = reach o xs (target o (Preceding n) (slice_index_or xs i None))
range_end o CurrentRow xs i = reach o xs (target o CurrentRow (slice_index_or xs i None))
range_end o (Following n) xs i = reach o xs (target o (Following n) (slice_index_or xs i None))
range_end o UnboundedFollowing xs i = length xs

-- no line is ordered before the one in front of it
abbrev pub InOrder : SortOptions → List Line → Type 0
InOrder o F = (j : ℕ) → j + 1 < length F → before o (slice_index_or F (j + 1) None) (slice_index_or F j None) ≡ false

-- in order, the lines before any y are a front, and so are those not after it: each count is the first line that fails
abbrev pub RangeFronts : Type 0
RangeFronts = (o : SortOptions) (F : List Line) → InOrder o F → (y : Line) (j : ℕ) → j < length F → (before o (slice_index_or F j None) y ≡ nat_lt j (lead o F y)) × (not (before o y (slice_index_or F j None)) ≡ nat_lt j (reach o F y))

-- in order, a walk from any line that still passes ends at the count
abbrev pub RangeWalked : Type 0
RangeWalked = (o : SortOptions) (F : List Line) → InOrder o F → (y : Line) (a : ℕ) → (a ≤ lead o F y → walk (λ j. before o (slice_index_or F j None) y) a (length F - a) ≡ lead o F y) × (a ≤ reach o F y → walk (λ j. not (before o y (slice_index_or F j None))) a (length F - a) ≡ reach o F y)

-- the opposite rank
abbrev pub opposite : Line → Line
opposite (Some a) = Some (neg_ℤ a)
opposite None = None

abbrev pub sorting : Bool → Bool → SortOptions
sorting d u = record { descending = d; unmarked_first = u }

-- descending, the window is the ascending one over opposite ranks
abbrev pub RangeMirror : Type 0
RangeMirror = (u : Bool) (b : WindowFrameBound) (F : List Line) (i : ℕ) → (range_start (sorting true u) b F i ≡ range_start (sorting false u) b (map opposite F) i) × (range_end (sorting true u) b F i ≡ range_end (sorting false u) b (map opposite F) i)
