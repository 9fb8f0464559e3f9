-- A view's lines by key and by rank: the same walks.
use Rattle.std.proofs.Common.{◌≡◌, ℕ, zero, suc, ◌+◌, ◌-◌, max, Bool, true, false, cond, not, ltb, List, [], ◌∷◌, length, get_or, ℤ, None, Option, sym, refl, ap, ◌∙◌}
use Rattle.std.specs.Option.{option_map}
use Rattle.frame.specs.declared.bound.WindowFrameBound.{WindowFrameBound}
use Rattle.frame.specs.declared.bound.WindowFrameBound.TheVariants.{UnboundedPreceding, Preceding, CurrentRow, Following, UnboundedFollowing}
use Rattle.frame.specs.declared.bound.WindowFrameUnits.{WindowFrameUnits}
use Rattle.frame.specs.declared.bound.WindowFrameUnits.TheVariants.{Range}
use Rattle.frame.specs.declared.refusal.Reason.TheVariants.{OutOfOrder}
use Rattle.transcript.specs.Lines.{at_line}
use Rattle.meaning.specs.declared.options.SortOptions.{SortOptions}
use Rattle.meaning.specs.Counts.{walk}
use Rattle.meaning.specs.Lines.{Line, ranked}
use Rattle.meaning.specs.Ranges.{before, target}
use Rattle.search.specs.Tests.{line_at, orderly, led, reached_at}
use Rattle.search.specs.Views.{total_of, if_below, edge_at}
use Rattle.search.proofs.Seeking.{ranked_length}
use Rattle.tracker.specs.Edges.{lead_from, reach_from, start_from, end_from}
use Rattle.sitting.specs.Rules.{refuse, disorder, order_fault}

-- walks by equal tests
pub walk_same : (p q : ℕ → Bool) → ((j : ℕ) → p j ≡ q j) → (a m : ℕ) → walk p a m ≡ walk q a m
walk_same p q h a zero = refl
walk_same p q h a (suc m) = ap (λ b. cond b (walk p (a + 1) m) a) (h a) ∙ ap (λ n. cond (q a) n a) (walk_same p q h (a + 1) m)

module _ {K : Type 0} (rank : K → ℤ) where
  ranked_at : (xs : List (Option K)) (j : ℕ) → option_map rank (get_or xs j None) ≡ get_or (ranked rank xs) j None
  ranked_at [] j = refl
  ranked_at (x ∷ xs) zero = refl
  ranked_at (x ∷ xs) (suc j) = ranked_at xs j

  by_cond : (b : Bool) (x : Option K) (y : Line) → option_map rank x ≡ y → option_map rank (cond b None x) ≡ cond b None y
  by_cond b x y h =
      let P : Bool → Type 0 = λ b. option_map rank (cond b None x) ≡ cond b None y in
      elim b as P [ true ↦ refl | false ↦ h ]

  -- the line numbered n
  pub line_ranked : (first : ℕ) (xs : List (Option K)) (n : ℕ) → line_at rank first xs n ≡ at_line first (ranked rank xs) n
  line_ranked first xs n = by_cond (ltb n first) _ _ (ranked_at xs (n - first))

  pub same_disorder : (o : SortOptions) (first : ℕ) (xs : List (Option K)) (n : ℕ) → if_below (total_of first xs) (walk (orderly rank first xs o) n (total_of first xs - n)) ≡ disorder o first (ranked rank xs) n
  same_disorder o first xs n =
      let X = ranked rank xs in
      let q : ℕ → Bool = λ j. not (before o (at_line first X j) (at_line first X (j - 1))) in
      ap (if_below (total_of first xs)) (walk_same (orderly rank first xs o) q (λ j. ap (λ x. not (before o x (line_at rank first xs (j - 1)))) (line_ranked first xs j) ∙ ap (λ y. not (before o (at_line first X j) y)) (line_ranked first xs (j - 1))) n (total_of first xs - n))
      ∙ ap (λ k. if_below (first + k) (walk q n (first + k - n))) (sym (ranked_length rank xs))

  -- what is refused where a search for disorder has found this
  pub order_told : (u : WindowFrameUnits) (o : SortOptions) (first : ℕ) (xs : List (Option K)) (seen n : ℕ) (found : Option ℕ) → u ≡ Range → n ≡ max seen 1 → found ≡ if_below (total_of first xs) (walk (orderly rank first xs o) n (total_of first xs - n)) → order_fault u o first (ranked rank xs) seen ≡ option_map (refuse OutOfOrder) found
  order_told u o first xs seen n found h i e =
      ap (λ v. order_fault v o first (ranked rank xs) seen) h
      ∙ ap (λ k. option_map (refuse OutOfOrder) (disorder o first (ranked rank xs) k)) (sym i)
      ∙ ap (option_map (refuse OutOfOrder)) (sym (e ∙ same_disorder o first xs n))

  pub all_shown : (first : ℕ) (xs : List (Option K)) → first + length xs ≡ first + length (ranked rank xs)
  all_shown first xs = ap (λ k. first + k) (sym (ranked_length rank xs))

  module _ (o : SortOptions) (first : ℕ) (xs : List (Option K)) (line from : ℕ) where
    long : (p : ℕ → Bool) → walk p from (total_of first xs - from) ≡ walk p from (first + length (ranked rank xs) - from)
    long p = ap (λ k. walk p from (first + k - from)) (sym (ranked_length rank xs))

    -- the walks of a search over keys
    leads_from : (b : WindowFrameBound) → walk (led rank first xs o b line) from (total_of first xs - from) ≡ lead_from o first (ranked rank xs) line from b
    leads_from b =
        let X = ranked rank xs in
        walk_same (led rank first xs o b line) _ (λ j. ap (λ x. before o x (target o b (line_at rank first xs line))) (line_ranked first xs j) ∙ ap (λ y. before o (at_line first X j) (target o b y)) (line_ranked first xs line)) from (total_of first xs - from)
        ∙ long (λ j. before o (at_line first X j) (target o b (at_line first X line)))

    reaches_from : (b : WindowFrameBound) → walk (reached_at rank first xs o b line) from (total_of first xs - from) ≡ reach_from o first (ranked rank xs) line from b
    reaches_from b =
        let X = ranked rank xs in
        walk_same (reached_at rank first xs o b line) _ (λ j. ap (λ y. not (before o (target o b (line_at rank first xs line)) y)) (line_ranked first xs j) ∙ ap (λ x. not (before o (target o b x) (at_line first X j))) (line_ranked first xs line)) from (total_of first xs - from)
        ∙ long (λ j. not (before o (target o b (at_line first X line)) (at_line first X j)))

    -- and the edges that they are for
    pub starts_from : (b : WindowFrameBound) → edge_at b first (total_of first xs) (walk (led rank first xs o b line) from (total_of first xs - from)) ≡ start_from o first (ranked rank xs) line from b
    starts_from UnboundedPreceding = refl
    starts_from (Preceding n) = leads_from (Preceding n)
    starts_from CurrentRow = leads_from CurrentRow
    starts_from (Following n) = leads_from (Following n)
    starts_from UnboundedFollowing = all_shown first xs

    pub ends_from : (b : WindowFrameBound) → edge_at b first (total_of first xs) (walk (reached_at rank first xs o b line) from (total_of first xs - from)) ≡ end_from o first (ranked rank xs) line from b
    ends_from UnboundedPreceding = refl
    ends_from (Preceding n) = reaches_from (Preceding n)
    ends_from CurrentRow = reaches_from CurrentRow
    ends_from (Following n) = reaches_from (Following n)
    ends_from UnboundedFollowing = all_shown first xs
