-- GROUPS windows read off a list of turn ends, of which the first turn begins at line first or before and the last ends at total.
use Rattle.std.specs.Prelude.{◌≡◌, ℕ, ◌+◌, ◌-◌, ◌<◌, ◌≤◌, min, max, Bool, cond, List, ◌∷◌, map, length, take, count_by, nat_le, nat_lt, slice_index_or}
use Rattle.frame.specs.declared.bound.WindowFrameBound.{WindowFrameBound}
use Rattle.frame.specs.declared.bound.WindowFrameBound.TheVariants.{UnboundedPreceding, Preceding, CurrentRow, Following, UnboundedFollowing}
use Rattle.meaning.specs.Turns.{turn_of, turn_ends, groups_start, groups_end, reached, last_held}
use Rattle.tracker.specs.Walks.{Rise}

-- the entry of a line's turn
abbrev pub entry_of : List ℕ → ℕ → ℕ
entry_of es line = count_by (λ e. nat_le e line) es

-- where entry k begins, and ends
abbrev pub begins : ℕ → ℕ → List ℕ → ℕ → ℕ
begins first total es k = slice_index_or (first ∷ es) k total

abbrev pub stops : ℕ → List ℕ → ℕ → ℕ
stops total es k = slice_index_or es k total

-- the window of a line whose turn is entry g
abbrev pub start_by : WindowFrameBound → ℕ → ℕ → List ℕ → ℕ → ℕ
start_by UnboundedPreceding first total es g = first
start_by (Preceding n) first total es g = begins first total es (g - n)
start_by CurrentRow first total es g = begins first total es g
start_by (Following n) first total es g = begins first total es (g + n)
start_by UnboundedFollowing first total es g = total

abbrev pub end_by : WindowFrameBound → ℕ → ℕ → List ℕ → ℕ → ℕ
end_by UnboundedPreceding first total es g = first
end_by (Preceding n) first total es g = cond (nat_lt g n) first (stops total es (g - n))
end_by CurrentRow first total es g = stops total es g
end_by (Following n) first total es g = stops total es (g + n)
end_by UnboundedFollowing first total es g = total

-- the entry that a bound reaches
abbrev pub reach_by : WindowFrameBound → List ℕ → ℕ → ℕ
reach_by UnboundedPreceding es g = g
reach_by (Preceding n) es g = g
reach_by CurrentRow es g = g
reach_by (Following n) es g = min (g + n) (length es - 1)
reach_by UnboundedFollowing es g = g

-- how many entries reach as far as a bound does, if there are so many turns
abbrev pub far : WindowFrameBound → ℕ → ℕ
far UnboundedPreceding g = g + 1
far (Preceding n) g = g + 1
far CurrentRow g = g + 1
far (Following n) g = g + n + 1
far UnboundedFollowing g = g + 1

-- how many entries a question needs, where so many are there
abbrev pub needed : WindowFrameBound → WindowFrameBound → List ℕ → ℕ → ℕ → ℕ
needed b e es live g = max live (max (reach_by b es g) (reach_by e es g) + 1)

-- off the ends of lines from line first on, these are the line's turn, its window and its reach over those lines
abbrev pub ReadOff : Type 0 → Type 0
ReadOff L = (none : L) (same : L → L → Bool) (first : ℕ) (xs : List L) (i : ℕ) → i < length xs → let es : List ℕ = map (λ e. first + e) (turn_ends none same xs) in (entry_of es (first + i) ≡ turn_of none same xs i) × ((b : WindowFrameBound) → (start_by b first (first + length xs) es (turn_of none same xs i) ≡ first + groups_start none same b xs i) × (end_by b first (first + length xs) es (turn_of none same xs i) ≡ first + groups_end none same b xs i) × (reach_by b es (turn_of none same xs i) ≡ reached none same b xs i))

-- entries that a table can hold: they rise past first, and hold no line from total on
pub record Held (first total : ℕ) (es : List ℕ) : Type 0 where
  pub rises : Rise first es
  pub below : last_held first es < total

-- the entries that a question needs are enough to read its window off them
abbrev pub Enough : Type 0
Enough = (b e : WindowFrameBound) (first total : ℕ) (es : List ℕ) (live g : ℕ) → g < length es → live ≤ length es → let n : ℕ = needed b e es live g in (n ≤ length es) × (start_by b first total (take n es) g ≡ start_by b first total es g) × (end_by e first total (take n es) g ≡ end_by e first total es g)
