-- A window's edges over a view's lines in order, walked to from an earlier window's.
use Rattle.std.specs.Prelude.{ℕ, ◌+◌, ◌-◌, not, List, length}
use Rattle.frame.specs.declared.bound.WindowFrameBound.{WindowFrameBound}
use Rattle.frame.specs.declared.bound.WindowFrameBound.TheVariants.{UnboundedPreceding, Preceding, CurrentRow, Following, UnboundedFollowing}
use Rattle.transcript.specs.Lines.{at_line}
use Rattle.meaning.specs.declared.options.SortOptions.{SortOptions}
use Rattle.meaning.specs.Counts.{walk}
use Rattle.meaning.specs.Lines.{Line}
use Rattle.meaning.specs.Ranges.{before, target}

module _ (o : SortOptions) (first : ℕ) (xs : List Line) (line from : ℕ) where
  -- the first line from there on that is not ordered before the target, and that is ordered after it
  abbrev pub lead_from : WindowFrameBound → ℕ
  lead_from b = walk (λ j. before o (at_line first xs j) (target o b (at_line first xs line))) from (first + length xs - from)

  abbrev pub reach_from : WindowFrameBound → ℕ
  reach_from b = walk (λ j. not (before o (target o b (at_line first xs line)) (at_line first xs j))) from (first + length xs - from)

  abbrev pub start_from : WindowFrameBound → ℕ
  start_from UnboundedPreceding = first
  start_from (Preceding n) = lead_from (Preceding n)
  start_from CurrentRow = lead_from CurrentRow
  start_from (Following n) = lead_from (Following n)
  start_from UnboundedFollowing = first + length xs

  abbrev pub end_from : WindowFrameBound → ℕ
  end_from UnboundedPreceding = first
  end_from (Preceding n) = reach_from (Preceding n)
  end_from CurrentRow = reach_from CurrentRow
  end_from (Following n) = reach_from (Following n)
  end_from UnboundedFollowing = first + length xs
