-- How many numbers of a range a filter lets through.
use Rattle.std.proofs.Common.{◌≡◌, ℕ, suc, ◌+◌, ◌-◌, ◌<◌, ◌≤◌, Bool, true, false, Some, None, Option, MatchOption, List, [], ◌∷◌, length, sym, refl, ap, ◌∙◌, subst, arith, Bor}
use Rattle.std.specs.Fn.{Mut, CalledAt}
use Rattle.std.specs.Iterator.{Yields}
use Rattle.std.specs.Iterator.Adapters.{filter_steps}
use Rattle.std.specs.List.{FoldsTo}
use Rattle.std.specs.declared.iter.Filter.{Filter}
use Rattle.std.specs.declared.ops.Range.{Range}
use Rattle.std.proofs.iter.Yields.{nat_range_steps}
use Rattle.std.proofs.lemmas.Iterator.{first_from_Range}
use Rattle.meaning.specs.Counts.{how_many, how_many_from}
use Rattle.meaning.proofs.Counts.{count_yes, count_none, count_same, count_split}
use Rattle.search.proofs.Stopping.{Answers}

-- a count goes on past all that fail
none_from : (p : ℕ → Bool) (a t : ℕ) → ((k : ℕ) → a ≤ k → k < t → p k ≡ false) → how_many_from p a (t - a) ≡ 0
none_from p a t h = count_none (λ j. p (a + j)) (t - a) (λ j l. h (a + j) (omega arith) (omega arith))

next_from : (p : ℕ → Bool) (a i t : ℕ) → a ≤ i → i < t → ((k : ℕ) → a ≤ k → k < i → p k ≡ false) → p i ≡ true → how_many_from p a (t - a) ≡ how_many_from p (i + 1) (t - (i + 1)) + 1
next_from p a i t l u h y =
    let q : ℕ → Bool = λ (j : ℕ). p (a + j) in
    let d : ℕ = i - a in
    let m : ℕ = t - (i + 1) in
    let e : t - a ≡ suc (i - a) + (t - (i + 1)) = omega arith in
    let is : i ≡ a + (i - a) = omega arith in
    let one = count_yes q d (subst (λ (k : ℕ). p k ≡ true) is y) in
    let zero = count_none q d (λ j w. h (a + j) (omega arith) (omega arith)) in
    let rest = count_same (λ j. q (suc d + j)) (λ j. p (i + 1 + j)) m (λ j w. let s : a + (suc (i - a) + j) ≡ i + 1 + j = omega arith in ap p s) in
    let all = ap (how_many q) e ∙ count_split q (suc d) m in
    omega arith

range_end_stays : (xs : List ℕ) (s t : Range ℕ) → Yields nat_range_steps s xs t → t.end ≡ s.end
range_end_stays [] s t e = ap (λ (r : Range ℕ). r.end) (sym e)
range_end_stays (x ∷ xs) s t h = range_end_stays xs h.0 t h.2 ∙ h.1.0

module _ (p : ℕ → Bool) (total : ℕ) where
  -- how many came before what comes at last
  abbrev pub Counted : Option ℕ → ℕ → ℕ → Type 0
  Counted r a n = MatchOption r (n ≡ how_many_from p a (total - a)) (λ i. (a ≤ i) × (i < total) × (p i ≡ true) × (n ≡ how_many_from p a (i - a)))

  one_more : (r : Option ℕ) (a x n : ℕ) → a ≤ x → x < total → ((k : ℕ) → a ≤ k → k < x → p k ≡ false) → p x ≡ true → Counted r (x + 1) n → Counted r a (suc n)
  one_more None a x n l u h y c = omega (arith, c, next_from p a x total l u h y)
  one_more (Some i) a x n l u h y c = (omega (arith, c.0), c.1, c.2, omega (arith, c.3, next_from p a x i l (omega (arith, c.0)) h y))

module _ {F : Type 0} (g : Mut F (Bor ℕ × Unit {0}) Bool) (p : ℕ → Bool) (from total : ℕ) where
  -- a closure answers p in the range, and stays as it is
  abbrev pub Asks : F → Type 0
  Asks f = (x : ℕ) (b : Bool) (q : F) → CalledAt g f x b q → (q ≡ f) × Answers p total from b x

  closure_stays : (xs : List ℕ) (f q j : F) → Asks f → q ≡ f → FoldsTo (λ p x q. CalledAt g p x false q) q xs j → j ≡ f
  closure_stays [] f q j h e d = sym d ∙ e
  closure_stays (x ∷ xs) f q j h e d = closure_stays xs f d.0 j h ((h x false d.0 (subst (λ (k : F). CalledAt g k x false d.0) e d.1)).0) d.2

  pub filtered : (xs : List ℕ) (r : Option ℕ) (s t u : Filter (Range ℕ) F) → Asks s.p → from ≤ s.iter.start → s.iter.end ≡ total → Yields (filter_steps nat_range_steps g) s xs t → filter_steps nat_range_steps g t r u → Counted p total r s.iter.start (length xs)
  filtered [] None s t u h l m y d =
      let e : filter_steps nat_range_steps g s None u = subst (λ (v : Filter (Range ℕ) F). filter_steps nat_range_steps g v None u) (sym y) d in
      let w = first_from_Range s.iter u.iter s.p None (Answers p total from true) (Answers p total from false) (e.0, e.1, e.2, e.3, tt) (λ x q k. (h x true q k).1) (λ x q k. h x false q k) in
      sym (none_from p s.iter.start total (λ k a b. w k a (omega (arith, m)) (omega arith) b))
  filtered [] (Some i) s t u h l m y d =
      let e : filter_steps nat_range_steps g s (Some i) u = subst (λ (v : Filter (Range ℕ) F). filter_steps nat_range_steps g v (Some i) u) (sym y) d in
      let w = first_from_Range s.iter u.iter s.p (Some i) (Answers p total from true) (Answers p total from false) (e.0, e.1, e.2, e.3, (u.p, e.4)) (λ x q k. (h x true q k).1) (λ x q k. h x false q k) in
      let below : i < total = omega (arith, w.1, m) in
      (w.0, below, w.2 (omega (arith, w.0)) below, sym (none_from p s.iter.start i (λ k a b. w.3 k a b (omega arith) (omega arith))))
  filtered (x ∷ xs) r s t u h l m y d =
      let v = y.0 in
      let e = y.1 in
      let w = first_from_Range s.iter v.iter s.p (Some x) (Answers p total from true) (Answers p total from false) (e.0, e.1, e.2, e.3, (v.p, e.4)) (λ x q k. (h x true q k).1) (λ x q k. h x false q k) in
      let same = (h x true v.p (subst (λ (k : F). CalledAt g k x true v.p) (closure_stays e.0 s.p s.p e.1 h refl e.3) e.4)).0 in
      let step = e.2.2 in
      let next : v.iter.start ≡ x + 1 = omega (arith, step.1.1, step.1.2) in
      let stays : v.iter.end ≡ total = step.0 ∙ range_end_stays e.0 s.iter e.2.0 e.2.1 ∙ m in
      let below : x < total = omega (arith, w.1, m) in
      let rest = filtered xs r v t u (subst Asks (sym same) h) (omega (arith, w.0)) stays y.2 d in
      one_more p total r s.iter.start x (length xs) w.0 below (λ k a b. w.3 k a b (omega arith) (omega arith)) (w.2 (omega (arith, w.0)) below) (subst (λ (k : ℕ). Counted p total r k (length xs)) next rest)
