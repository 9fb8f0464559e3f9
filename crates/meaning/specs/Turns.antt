-- Turns, longest stretches of neighbouring lines that are the same, and the GROUPS window.
use Rattle.std.specs.Prelude.{◌≡◌, ℕ, ◌+◌, ◌-◌, ◌<◌, ◌≤◌, min, Bool, true, cond, not, ◌||◌, ltb, List, ◌∷◌, ◌++◌, map, length, take, drop, count_by, filter, ◌==◌, nat_le, nat_lt, slice_index_or}
use Rattle.std.specs.List.{range_with_len}
use Rattle.meaning.specs.Counts.{how_many}
use Rattle.frame.specs.declared.bound.WindowFrameBound.{WindowFrameBound}
use Rattle.frame.specs.declared.bound.WindowFrameBound.TheVariants.{UnboundedPreceding, Preceding, CurrentRow, Following, UnboundedFollowing}
use Rattle.meaning.specs.Edges.{Edge, Lawful, Monotone, Causal}

-- same says which lines are the same; none is any line
module _ {L : Type 0} (none : L) (same : L → L → Bool) where
  -- line j + 1 is not the same as line j
  abbrev pub parts : List L → ℕ → Bool
  parts xs j = not (same (slice_index_or xs j none) (slice_index_or xs (j + 1) none))

  -- the turn of line i, counted from 0
  abbrev pub turn_of : List L → ℕ → ℕ
  turn_of xs i = how_many (parts xs) i

  -- a turn ends after the first j lines
  abbrev pub is_end : List L → ℕ → Bool
  is_end xs j = j == length xs || parts xs (j - 1)

  -- the ends of all turns, rising
  abbrev pub turn_ends : List L → List ℕ
  turn_ends xs = filter (is_end xs) (range_with_len 1 (length xs))

  -- the first line of turn k: as many lines stand in turns before it
  abbrev pub first_of : List L → ℕ → ℕ
  first_of xs k = how_many (λ j. ltb (turn_of xs j) k) (length xs)

  -- the end of turn k
  abbrev pub end_of : List L → ℕ → ℕ
  end_of xs k = first_of xs (k + 1)

  abbrev pub groups_start : WindowFrameBound → Edge L
  groups_start UnboundedPreceding xs i = 0
  groups_start (Preceding n) xs i = first_of xs (turn_of xs i - n)
  groups_start CurrentRow xs i = first_of xs (turn_of xs i)
  groups_start (Following n) xs i = first_of xs (turn_of xs i + n)
  groups_start UnboundedFollowing xs i = length xs

  abbrev pub groups_end : WindowFrameBound → Edge L
  groups_end UnboundedPreceding xs i = 0
  groups_end (Preceding n) xs i = cond (nat_lt (turn_of xs i) n) 0 (end_of xs (turn_of xs i - n))
  groups_end CurrentRow xs i = end_of xs (turn_of xs i)
  groups_end (Following n) xs i = end_of xs (turn_of xs i + n)
  groups_end UnboundedFollowing xs i = length xs

-- the turn that a bound reaches from line i
abbrev pub reached : {L : Type 0} → L → (L → L → Bool) → WindowFrameBound → Edge L
reached none same UnboundedPreceding xs i = turn_of none same xs i
reached none same (Preceding n) xs i = turn_of none same xs i
reached none same CurrentRow xs i = turn_of none same xs i
reached none same (Following n) xs i = min (turn_of none same xs i + n) (length (turn_ends none same xs) - 1)
reached none same UnboundedFollowing xs i = turn_of none same xs i

-- so the furthest turn ever reached is that of the last question
abbrev pub ReachedMonotone : Type 0 → Type 0
ReachedMonotone L = (none : L) (same : L → L → Bool) (F : List L) (b : WindowFrameBound) → Monotone F (reached none same b)

-- two lines stand in one turn where each line between them is the same as the next
abbrev pub OneTurn : Type 0 → Type 0
OneTurn L = (none : L) (same : L → L → Bool) (xs : List L) (j k : ℕ) → j ≤ k → let Alike : Type 0 = (m : ℕ) → j ≤ m → m < k → same (slice_index_or xs m none) (slice_index_or xs (m + 1) none) ≡ true in (turn_of none same xs j ≡ turn_of none same xs k → Alike) × (Alike → turn_of none same xs j ≡ turn_of none same xs k)

-- the ends as a list: there are as many as turns, entry k is the end of turn k, and the entry before it that turn's first line, with the number of lines past the last; a line's turn is the number of ends at or below it
pub record Listed (es : List ℕ) (t : ℕ) (turn first end : ℕ → ℕ) : Type 0 where
  pub many : 0 < t → length es ≡ turn (t - 1) + 1
  pub end_is : (k : ℕ) → slice_index_or es k t ≡ end k
  pub first_is : (k : ℕ) → slice_index_or (0 ∷ es) k t ≡ first k
  pub turn_is : (i : ℕ) → i < t → count_by (λ e. nat_le e i) es ≡ turn i

abbrev pub EndsListed : Type 0 → Type 0
EndsListed L = (none : L) (same : L → L → Bool) (xs : List L) → Listed (turn_ends none same xs) (length xs) (turn_of none same xs) (first_of none same xs) (end_of none same xs)

-- the ends past line f are those of the lines from f on
abbrev pub EndsOfRest : Type 0 → Type 0
EndsOfRest L = (none : L) (same : L → L → Bool) (F : List L) (f : ℕ) → f < length F → filter (λ e. ltb f e) (turn_ends none same F) ≡ map (λ e. f + e) (turn_ends none same (drop f F))

-- of the turns of a front only the last may go on
abbrev pub EndsOfFront : Type 0 → Type 0
EndsOfFront L = (none : L) (same : L → L → Bool) (F : List L) (t u : ℕ) → t ≤ u → u ≤ length F → filter (λ e. ltb e t) (turn_ends none same (take t F)) ≡ filter (λ e. ltb e t) (turn_ends none same (take u F))

-- the window's edges, whatever sameness is
abbrev pub GroupsLawful : Type 0 → Type 0
GroupsLawful L = (none : L) (same : L → L → Bool) (F : List L) (b : WindowFrameBound) → Lawful F (groups_start none same b) × Lawful F (groups_end none same b)

abbrev pub GroupsMonotone : Type 0 → Type 0
GroupsMonotone L = (none : L) (same : L → L → Bool) (F : List L) (b : WindowFrameBound) → Monotone F (groups_start none same b) × Monotone F (groups_end none same b)

abbrev pub GroupsCausal : Type 0 → Type 0
GroupsCausal L = (none : L) (same : L → L → Bool) (F : List L) (b : WindowFrameBound) (n i : ℕ) → 0 < n → Causal F (groups_start none same b) (groups_end none same (Preceding n)) i

-- the table: the ends of the turns from the first that ends past f to turn r
abbrev pub table : {L : Type 0} → L → (L → L → Bool) → List L → ℕ → ℕ → List ℕ
table none same xs f r = filter (λ e. ltb f e) (take (r + 1) (turn_ends none same xs))

-- the table as a view from line f on shows it, and a filing up to n
abbrev pub TableView : Type 0 → Type 0
TableView L = (none : L) (same : L → L → Bool) (F : List L) (b : WindowFrameBound) (f i : ℕ) → f ≤ i → i < length F → table none same F f (reached none same b F i) ≡ map (λ e. f + e) (take (reached none same b (drop f F) (i - f) + 1) (turn_ends none same (drop f F)))

abbrev pub TableFiled : Type 0 → Type 0
TableFiled L = (none : L) (same : L → L → Bool) (F : List L) (f n r : ℕ) → f ≤ n → filter (λ e. ltb n e) (table none same F f r) ≡ table none same F n r

-- the last line that a table's entries hold; f where there is none
abbrev pub last_held : ℕ → List ℕ → ℕ
last_held f es = slice_index_or es (length es - 1) (f + 1) - 1

-- the ends that a table's entries and the lines from f on give together: the last turn of the table may have gone on
abbrev pub grown : {L : Type 0} → L → (L → L → Bool) → ℕ → List ℕ → List L → List ℕ
grown none same f es xs = take (length es - 1) es ++ map (λ e. last_held f es + e) (turn_ends none same (drop (last_held f es - f) xs))

-- where the entries are those of a front of these lines, that is all ends
abbrev pub EndsGrow : Type 0 → Type 0
EndsGrow L = (none : L) (same : L → L → Bool) (f k s : ℕ) (xs : List L) → s ≤ length xs → grown none same f (map (λ e. f + e) (take k (turn_ends none same (take s xs)))) xs ≡ map (λ e. f + e) (turn_ends none same xs)

-- the ends of the lines from line n on, counted over all: the end of the turn of n, and the ends of the lines from there on
abbrev pub EndsWalk : Type 0 → Type 0
EndsWalk L = (none : L) (same : L → L → Bool) (xs : List L) (n : ℕ) → n < length xs → let e : ℕ = end_of none same xs (turn_of none same xs n) in (n < e) × (e ≤ length xs) × (map (λ k. n + k) (turn_ends none same (drop n xs)) ≡ e ∷ map (λ k. e + k) (turn_ends none same (drop e xs)))

-- so the table of an earlier total, with the lines now shown, gives all their ends
abbrev pub TableGrows : Type 0 → Type 0
TableGrows L = (none : L) (same : L → L → Bool) (F : List L) (f s t r : ℕ) → f < s → s ≤ t → t ≤ length F → turn_of none same (take s F) f ≤ r + 1 → grown none same f (table none same (take s F) f r) (drop f (take t F)) ≡ map (λ e. f + e) (turn_ends none same (drop f (take t F)))
