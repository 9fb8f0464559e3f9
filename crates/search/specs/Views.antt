-- Turns and windows over a view's lines, by line numbers.
use Rattle.std.specs.Prelude.{◌≡◌, ℕ, ◌+◌, ◌-◌, ◌<◌, ◌≤◌, cond, ◌&&◌, List, length, ℤ, Some, None, Option, nat_le, nat_lt}
use Rattle.meaning.specs.Lines.{ranked}
use Rattle.meaning.specs.Turns.{turn_of, first_of, end_of}
use Rattle.frame.specs.declared.bound.WindowFrameBound.{WindowFrameBound}
use Rattle.frame.specs.declared.bound.WindowFrameBound.TheVariants.{UnboundedPreceding, Preceding, CurrentRow, Following, UnboundedFollowing}
use Rattle.frame.specs.Frames.{Frame}
use Rattle.meaning.specs.declared.options.SortOptions.{SortOptions}
use Rattle.meaning.specs.Clause.{same_line, starts, ends}

abbrev pub total_of : {K : Type 0} → ℕ → List (Option K) → ℕ
total_of first xs = first + length xs

-- a number, if it is below the total
abbrev pub if_below : ℕ → ℕ → Option ℕ
if_below total n = cond (nat_lt n total) (Some n) None

-- where a bound stands: at the first line or the total where it is unbounded, and else at a line that is reckoned
abbrev pub edge_at : WindowFrameBound → ℕ → ℕ → ℕ → ℕ
edge_at UnboundedPreceding first total at = first
edge_at (Preceding n) first total at = at
edge_at CurrentRow first total at = at
edge_at (Following n) first total at = at
edge_at UnboundedFollowing first total at = total

module _ {K : Type 0} (rank : K → ℤ) (first : ℕ) (xs : List (Option K)) where
  -- the turn of line n
  abbrev pub turn_at : ℕ → ℕ
  turn_at n = turn_of None same_line (ranked rank xs) (n - first)

  -- the first line of turn k
  abbrev pub turn_begins : ℕ → ℕ
  turn_begins k = first + first_of None same_line (ranked rank xs) k

  -- the end of the run that holds line n, if that is held; n itself past the last line
  pub record RunEnd (n r : ℕ) : Type 0 where
    pub inside : first ≤ n → n < total_of first xs → r ≡ first + end_of None same_line (ranked rank xs) (turn_at n)
    pub past : total_of first xs ≤ n → r ≡ n

  -- the window of line n over just these lines, by line numbers; none where it is not one of them
  abbrev pub window_at : SortOptions → Frame → ℕ → Option (ℕ × ℕ)
  window_at o f n = cond (nat_le first n && nat_lt n (total_of first xs)) (Some (first + starts o f.units f.start (ranked rank xs) (n - first), first + ends o f.units f.end (ranked rank xs) (n - first))) None
