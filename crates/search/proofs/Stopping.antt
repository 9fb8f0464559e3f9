-- Where a search over a range stops.
use Rattle.std.proofs.Common.{◌≡◌, ℕ, zero, suc, ◌+◌, ◌-◌, ◌<◌, ◌≤◌, max, Bool, true, false, Some, None, Option, MatchOption, unwrap_or, cond, sym, ap, ◌∙◌, ⊎_elim, arith}
use Rattle.std.proofs.lemmas.Bool.{cases_lt, lt-ltb, le-ltb}
use Rattle.meaning.specs.Counts.{walk}
use Rattle.meaning.proofs.Walking.{walk_on, walk_off, walk_end}
use Rattle.search.specs.Views.{if_below}

module _ (p : ℕ → Bool) (t : ℕ) where
  -- a walk goes on past all that pass
  past_passing : (m a : ℕ) → a + m ≤ t → ((k : ℕ) → a ≤ k → k < a + m → p k ≡ true) → walk p a (t - a) ≡ walk p (a + m) (t - (a + m))
  past_passing zero a l h = let e : a + 0 ≡ a = omega arith in rw e
  past_passing (suc m) a l h =
      let e : a + 1 + m ≡ a + suc m = omega arith in
      sym (walk_on p a t (omega arith) (h a (omega arith) (omega arith)))
      ∙ past_passing m (a + 1) (omega arith) (λ k x y. h k (omega arith) (omega arith))
      ∙ ap (λ (i : ℕ). walk p i (t - i)) e

  walk_to : (a i : ℕ) → a ≤ i → i ≤ t → ((k : ℕ) → a ≤ k → k < i → p k ≡ true) → walk p a (t - a) ≡ walk p i (t - i)
  walk_to a i l u h =
      let e : a + (i - a) ≡ i = omega arith in
      past_passing (i - a) a (omega arith) (λ k x y. h k x (omega arith)) ∙ ap (λ (j : ℕ). walk p j (t - j)) e

  module _ (a : ℕ) where
    -- what a test of k answers, where k is in the range
    abbrev pub Answers : Bool → ℕ → Type 0
    Answers b k = a ≤ k → k < t → p k ≡ b

    -- the first number that fails, if one does
    abbrev pub Found : Option ℕ → Type 0
    Found r = MatchOption r ((k : ℕ) → a ≤ k → k < t → Answers true k) (λ i. (a ≤ i) × (i < t) × Answers false i × ((k : ℕ) → a ≤ k → k < i → Answers true k))

    -- is where a walk ends
    pub found_or_end : (r : Option ℕ) → Found r → unwrap_or r (max t a) ≡ walk p a (t - a)
    found_or_end (Some i) h = sym (walk_to a i h.0 (omega (arith, h.1)) (λ k x y. h.3 k x y x (omega (arith, h.1))) ∙ walk_off p i t h.1 (h.2 h.0 h.1))
    found_or_end None h =
        ⊎_elim
        (λ (l : a < t). let e : max t a ≡ t = omega arith in e ∙ sym (walk_to a t (omega arith) (omega arith) (λ k x y. h k x y x y) ∙ walk_end p t t (omega arith)))
        (λ (g : t ≤ a). let e : max t a ≡ a = omega arith in e ∙ sym (walk_end p a t g))
        (cases_lt a t)

    pub found_below : (r : Option ℕ) → Found r → r ≡ if_below t (walk p a (t - a))
    found_below (Some i) h = let e : i ≡ walk p a (t - a) = found_or_end (Some i) h in ap (λ (b : Bool). cond b (Some i) None) (sym (lt-ltb i t h.1)) ∙ ap (if_below t) e
    found_below None h = let e : max t a ≡ walk p a (t - a) = found_or_end None h in ap (λ (b : Bool). cond b (Some (max t a)) None) (sym (le-ltb (max t a) t (omega arith))) ∙ ap (if_below t) e
