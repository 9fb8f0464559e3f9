-- RANGE: the laws.
use Rattle.std.proofs.Common.{◌≡◌, ℕ, zero, suc, ◌+◌, ◌-◌, ◌<◌, ◌≤◌, Bool, true, false, cond, not, ltb, List, length, get_or, take, drop, ℤ, Some, None, count_by, sym, refl, ap, ◌∙◌, subst, ⊎_elim, arith}
use Rattle.std.proofs.lemmas.Bool.{cases_Bool, cases_lt, both_ways, not-true, not-false, not_from_false, not_from_true}
use Rattle.std.proofs.lemmas.List.{get_or-take, get_or-drop, take_all}
use Rattle.std.proofs.lemmas.List.Sums.{sum_by_more}
use Rattle.std.proofs.lemmas.Int.{ints}
use Rattle.meaning.specs.Counts.{how_many, Front}
use Rattle.frame.specs.declared.bound.WindowFrameBound.{WindowFrameBound}
use Rattle.frame.specs.declared.bound.WindowFrameBound.TheVariants.{UnboundedPreceding, Preceding, CurrentRow, Following, UnboundedFollowing}
use Rattle.meaning.specs.Lines.{Line}
use Rattle.meaning.specs.Edges.{Lawful}
use Rattle.meaning.specs.declared.options.SortOptions.{SortOptions}
use Rattle.meaning.specs.Ranges.{rank_before, back, onward, before, target, lead, reach, range_start, range_end, InOrder, RangeFronts}
use Rattle.meaning.proofs.Counts.{fails_past, front_first}
use Rattle.meaning.proofs.Edges.{by_test, in_words, none_lawful, all_lawful}

-- a count over a list, by places
pub count_list : {X : Type 0} (p : X → Bool) (d : X) (xs : List X) → count_by p xs ≡ how_many (λ j. p (get_or xs j d)) (length xs)
count_list p d xs = ap (count_by p) (sym (take_all (length xs) xs (omega arith))) ∙ upto (length xs) (omega arith)
  where
    upto : (t : ℕ) → t ≤ length xs → count_by p (take t xs) ≡ how_many (λ j. p (get_or xs j d)) t
    upto zero h = refl
    upto (suc t) h =
        let e : t + 1 ≡ suc t = omega arith in
        let s : count_by p (take (suc t) xs) ≡ count_by p (take t xs) + cond (p (get_or xs t d)) 1 0 = rw e at (sum_by_more (λ x. cond (p x) 1 0) xs t d (omega arith)) in
        s ∙ ap (λ n. n + cond (p (get_or xs t d)) 1 0) (upto t (omega arith))

-- b is not after a, which is before c
rank_leads : (f : Bool) (a b c : ℤ) → rank_before f a b ≡ false → rank_before f a c ≡ true → rank_before f b c ≡ true
rank_leads false a b c h k = grind (arith, ints)
rank_leads true a b c h k = grind (arith, ints)

rank_back : (f : Bool) (a b : ℤ) (n : ℕ) → rank_before f b a ≡ false → rank_before f (back f b n) (back f a n) ≡ false
rank_back false a b n h = grind (arith, ints)
rank_back true a b n h = grind (arith, ints)

rank_onward : (f : Bool) (a b : ℤ) (n : ℕ) → rank_before f b a ≡ false → rank_before f (onward f b n) (onward f a n) ≡ false
rank_onward false a b n h = grind (arith, ints)
rank_onward true a b n h = grind (arith, ints)

rank_early : (f : Bool) (a : ℤ) (n : ℕ) → 0 < n → rank_before f (back f a n) a ≡ true
rank_early false a n h = grind (arith, ints)
rank_early true a n h = grind (arith, ints)

rank_itself : (f : Bool) (a : ℤ) → rank_before f a a ≡ false
rank_itself false a = grind (arith, ints)
rank_itself true a = grind (arith, ints)

module _ (o : SortOptions) where
  -- y is not after x, which is before z
  pub leads : (x y z : Line) → before o x y ≡ false → before o x z ≡ true → before o y z ≡ true
  leads (Some a) (Some b) (Some c) h k = rank_leads o.descending a b c h k
  leads (Some a) (Some b) None h k = k
  leads (Some a) None (Some c) h k = not-false _ h
  leads (Some a) None None h k = absurd (both_ways _ h k)
  leads None (Some b) (Some c) h k = absurd (both_ways _ h k)
  leads None (Some b) None h k = not_from_false _ h
  leads None None (Some c) h k = k
  leads None None None h k = k

  -- x is before y, which is not after z
  pub leads_on : (x y z : Line) → before o x y ≡ true → before o z y ≡ false → before o x z ≡ true
  leads_on x y z h k =
      ⊎_elim
      (λ (w : before o x z ≡ true). w)
      (λ (w : before o x z ≡ false). absurd (both_ways _ k (leads x z y w h)))
      (cases_Bool (before o x z))

  -- x is not after y, nor y after z
  pub not_after : (x y z : Line) → before o y x ≡ false → before o z y ≡ false → before o z x ≡ false
  not_after x y z h k =
      ⊎_elim
      (λ (w : before o z x ≡ true). absurd (both_ways _ h (leads z y x k w)))
      (λ (w : before o z x ≡ false). w)
      (cases_Bool (before o z x))

  -- from a line that is not after another a bound has a target that is not after the other's
  pub target_rises : (b : WindowFrameBound) (x y : Line) → before o y x ≡ false → before o (target o b y) (target o b x) ≡ false
  target_rises (Preceding n) (Some a) (Some c) h = rank_back o.descending a c n h
  target_rises (Following n) (Some a) (Some c) h = rank_onward o.descending a c n h
  target_rises UnboundedPreceding (Some a) (Some c) h = h
  target_rises CurrentRow (Some a) (Some c) h = h
  target_rises UnboundedFollowing (Some a) (Some c) h = h
  target_rises b (Some a) None h = h
  target_rises b None (Some c) h = h
  target_rises b None None h = h

  itself : (x : Line) → before o x x ≡ false
  itself (Some a) = rank_itself o.descending a
  itself None = refl

module _ (o : SortOptions) (F : List Line) (sorted : InOrder o F) where
  pub ordered : (j k : ℕ) → j ≤ k → k < length F → before o (get_or F k None) (get_or F j None) ≡ false
  ordered j zero h l = let e : j ≡ 0 = omega arith in rw e (itself o (get_or F 0 None))
  ordered j (suc k) h l =
      let s : k + 1 ≡ suc k = omega arith in
      ⊎_elim
      (λ (w : j < suc k).
      let n : before o (get_or F (suc k) None) (get_or F k None) ≡ false = rw s at (sorted k (omega arith)) in
      not_after o (get_or F j None) (get_or F k None) (get_or F (suc k) None) (ordered j k (omega arith) (omega arith)) n)
      (λ (g : suc k ≤ j). let e : j ≡ suc k = omega arith in rw e (itself o (get_or F (suc k) None)))
      (cases_lt j (suc k))

  abbrev leads_at : Line → ℕ → Bool
  leads_at y j = before o (get_or F j None) y

  abbrev reaches_at : Line → ℕ → Bool
  reaches_at y j = not (before o y (get_or F j None))

  pub lead_front : (y : Line) → Front (leads_at y) (length F)
  lead_front y j k h l p = leads o (get_or F k None) (get_or F j None) y (ordered j k h l) p

  pub reach_front : (y : Line) → Front (reaches_at y) (length F)
  reach_front y j k h l p = not_from_false _ (not_after o (get_or F j None) (get_or F k None) y (ordered j k h l) (not-true _ p))

  at_rest : (f i : ℕ) → f ≤ i → get_or (drop f F) (i - f) None ≡ get_or F i None
  at_rest f i h = let e : f + (i - f) ≡ i = omega arith in get_or-drop f F (i - f) None ∙ ap (λ k. get_or F k None) e

  -- an edge that counts by the target of a bound
  lead_lawful : (b : WindowFrameBound) → Lawful F (λ xs i. lead o xs (target o b (get_or xs i None)))
  lead_lawful b = in_words F _ _ (λ xs i. count_list (λ x. before o x (target o b (get_or xs i None))) None xs) (by_test F (λ xs i j. before o (get_or xs j None) (target o b (get_or xs i None))) (record {
    in_front = λ t i j v w. let a = get_or-take t F i None v in let c = get_or-take t F j None w in rw (a, c);
    in_rest = λ f i j v. let a = at_rest f i v in let c = get_or-drop f F j None in rw (a, c);
    front = λ i. lead_front (target o b (get_or F i None));
    grows = λ i k j v l p. leads_on o (get_or F j None) _ _ p (target_rises o b (get_or F i None) (get_or F k None) (ordered i k v l));
  }))

  reach_lawful : (b : WindowFrameBound) → Lawful F (λ xs i. reach o xs (target o b (get_or xs i None)))
  reach_lawful b = in_words F _ _ (λ xs i. count_list (λ x. not (before o (target o b (get_or xs i None)) x)) None xs) (by_test F (λ xs i j. not (before o (target o b (get_or xs i None)) (get_or xs j None))) (record {
    in_front = λ t i j v w. let a = get_or-take t F i None v in let c = get_or-take t F j None w in rw (a, c);
    in_rest = λ f i j v. let a = at_rest f i v in let c = get_or-drop f F j None in rw (a, c);
    front = λ i. reach_front (target o b (get_or F i None));
    grows = λ i k j v l p. not_from_false _ (not_after o (get_or F j None) _ _ (not-true _ p) (target_rises o b (get_or F i None) (get_or F k None) (ordered i k v l)));
  }))

  pub start_lawful : (b : WindowFrameBound) → Lawful F (range_start o b)
  start_lawful UnboundedPreceding = none_lawful F
  start_lawful (Preceding n) = lead_lawful (Preceding n)
  start_lawful CurrentRow = lead_lawful CurrentRow
  start_lawful (Following n) = lead_lawful (Following n)
  start_lawful UnboundedFollowing = all_lawful F

  pub end_lawful : (b : WindowFrameBound) → Lawful F (range_end o b)
  end_lawful UnboundedPreceding = none_lawful F
  end_lawful (Preceding n) = reach_lawful (Preceding n)
  end_lawful CurrentRow = reach_lawful CurrentRow
  end_lawful (Following n) = reach_lawful (Following n)
  end_lawful UnboundedFollowing = all_lawful F

  pub end_early : (n i : ℕ) (a : ℤ) → 0 < n → i < length F → get_or F i None ≡ Some a → range_end o (Preceding n) F i ≤ i + 1
  end_early n i a h l e =
      let y = target o (Preceding n) (get_or F i None) in
      let P : Line → Type 0 = λ x. before o (target o (Preceding n) x) x ≡ true in
      let w : before o y (get_or F i None) ≡ true = subst P (sym e) (rank_early o.descending a n h) in
      omega (arith, count_list (λ x. not (before o y x)) None F, fails_past (reaches_at y) (length F) i (reach_front y) l (not_from_true _ w))

pub range_fronts : RangeFronts
range_fronts o F s y j l = (
  front_first (leads_at o F s y) (length F) j (lead_front o F s y) l ∙ ap (ltb j) (sym (count_list (λ x. before o x y) None F)),
  front_first (reaches_at o F s y) (length F) j (reach_front o F s y) l ∙ ap (ltb j) (sym (count_list (λ x. not (before o y x)) None F)),
)
