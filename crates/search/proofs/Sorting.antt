-- The lines of a view that pass a test against a line are counted as those of its list.
use Rattle.std.proofs.Common.{◌≡◌, ℕ, ◌+◌, ◌-◌, ◌≤◌, not, List, length, get_or, ℤ, None, Option, sym, ap, ◌∙◌, arith}
use Rattle.frame.specs.declared.bound.WindowFrameBound.{WindowFrameBound}
use Rattle.frame.specs.declared.bound.WindowFrameBound.TheVariants.{UnboundedPreceding, Preceding, CurrentRow, Following, UnboundedFollowing}
use Rattle.meaning.specs.declared.options.SortOptions.{SortOptions}
use Rattle.meaning.specs.Counts.{how_many_from}
use Rattle.meaning.specs.Lines.{Line, ranked}
use Rattle.meaning.specs.Ranges.{before, target, lead, reach, range_start, range_end}
use Rattle.meaning.proofs.Counts.{count_same}
use Rattle.meaning.proofs.Ranges.{count_list}
use Rattle.search.specs.Tests.{line_at, led, reached_at}
use Rattle.search.specs.Views.{total_of, edge_at}
use Rattle.search.proofs.Seeking.{line_is, ranked_length}

module _ {K : Type 0} (rank : K → ℤ) (f : ℕ) (xs : List (Option K)) (o : SortOptions) (n : ℕ) (low : f ≤ n) where
  asked : line_at rank f xs n ≡ get_or (ranked rank xs) (n - f) None
  asked = let e : n ≡ f + (n - f) = omega arith in ap (line_at rank f xs) e ∙ line_is rank f xs (n - f)

  lead_counted : (b : WindowFrameBound) → f + how_many_from (led rank f xs o b n) f (length xs) ≡ f + lead o (ranked rank xs) (target o b (get_or (ranked rank xs) (n - f) None))
  lead_counted b =
      let y = target o b (get_or (ranked rank xs) (n - f) None) in
      ap (λ (m : ℕ). f + how_many_from (led rank f xs o b n) f m) (sym (ranked_length rank xs))
      ∙ ap (λ (m : ℕ). f + m)
      (count_same (λ j. led rank f xs o b n (f + j)) (λ j. before o (get_or (ranked rank xs) j None) y) (length (ranked rank xs)) (λ j l. ap (λ (x : Line). before o x (target o b (line_at rank f xs n))) (line_is rank f xs j) ∙ ap (λ (z : Line). before o (get_or (ranked rank xs) j None) (target o b z)) asked)
      ∙ sym (count_list (λ x. before o x y) None (ranked rank xs)))

  reach_counted : (b : WindowFrameBound) → f + how_many_from (reached_at rank f xs o b n) f (length xs) ≡ f + reach o (ranked rank xs) (target o b (get_or (ranked rank xs) (n - f) None))
  reach_counted b =
      let y = target o b (get_or (ranked rank xs) (n - f) None) in
      ap (λ (m : ℕ). f + how_many_from (reached_at rank f xs o b n) f m) (sym (ranked_length rank xs))
      ∙ ap (λ (m : ℕ). f + m)
      (count_same (λ j. reached_at rank f xs o b n (f + j)) (λ j. not (before o y (get_or (ranked rank xs) j None))) (length (ranked rank xs)) (λ j l. ap (λ (x : Line). not (before o (target o b (line_at rank f xs n)) x)) (line_is rank f xs j) ∙ ap (λ (z : Line). not (before o (target o b z) (get_or (ranked rank xs) j None))) asked)
      ∙ sym (count_list (λ x. not (before o y x)) None (ranked rank xs)))

  -- and these counts are where a RANGE window starts and ends
  pub starts_counted : (b : WindowFrameBound) → edge_at b f (total_of f xs) (f + how_many_from (led rank f xs o b n) f (length xs)) ≡ f + range_start o b (ranked rank xs) (n - f)
  starts_counted UnboundedPreceding = omega arith
  starts_counted (Preceding m) = lead_counted (Preceding m)
  starts_counted CurrentRow = lead_counted CurrentRow
  starts_counted (Following m) = lead_counted (Following m)
  starts_counted UnboundedFollowing = omega (arith, ranked_length rank xs)

  pub ends_counted : (b : WindowFrameBound) → edge_at b f (total_of f xs) (f + how_many_from (reached_at rank f xs o b n) f (length xs)) ≡ f + range_end o b (ranked rank xs) (n - f)
  ends_counted UnboundedPreceding = omega arith
  ends_counted (Preceding m) = reach_counted (Preceding m)
  ends_counted CurrentRow = reach_counted CurrentRow
  ends_counted (Following m) = reach_counted (Following m)
  ends_counted UnboundedFollowing = omega (arith, ranked_length rank xs)
