-- Walks from a number on, and what they have to do with counts.
use Rattle.std.proofs.Common.{◌≡◌, ℕ, zero, suc, ◌+◌, ◌-◌, ◌<◌, ◌≤◌, Bool, true, false, cond, sym, refl, ap, ◌∙◌, subst, ⊎_elim, arith}
use Rattle.std.proofs.lemmas.Bool.{cases_Bool, cases_lt}
use Rattle.meaning.specs.Counts.{how_many, Front, walk, WalkCounts}
use Rattle.meaning.proofs.Counts.{found}

module _ (p : ℕ → Bool) where
  abbrev went : ℕ → ℕ → Bool → ℕ
  went a m b = cond b (walk p (a + 1) m) a

  pub walk_on : (a t : ℕ) → a < t → p a ≡ true → walk p (a + 1) (t - (a + 1)) ≡ walk p a (t - a)
  walk_on a t h y = let e : t - a ≡ suc (t - (a + 1)) = omega arith in sym (ap (walk p a) e ∙ ap (went a (t - (a + 1))) y)

  pub walk_off : (a t : ℕ) → a < t → p a ≡ false → walk p a (t - a) ≡ a
  walk_off a t h n = let e : t - a ≡ suc (t - (a + 1)) = omega arith in ap (walk p a) e ∙ ap (went a (t - (a + 1))) n

  pub walk_end : (a t : ℕ) → t ≤ a → walk p a (t - a) ≡ a
  walk_end a t h = let e : t - a ≡ 0 = omega arith in ap (walk p a) e

  walked : (m a n : ℕ) → n - a ≡ m → Front p n → a ≤ n → ((j : ℕ) → j < a → p j ≡ true) → walk p a m ≡ how_many p n
  walked zero a n e f h y = let d : n ≡ a = omega arith in sym (found p n a f h y (λ l. absurd (omega arith)))
  walked (suc m) a n e f h y =
      ⊎_elim
      (λ (t : p a ≡ true).
      ap (went a m) t
      ∙ walked m (a + 1) n (omega arith) f (omega arith) (λ j l. ⊎_elim (λ (w : j < a). y j w) (λ (w : a ≤ j). let d : a ≡ j = omega arith in subst (λ (i : ℕ). p i ≡ true) d t) (cases_lt j a)))
      (λ (t : p a ≡ false). ap (went a m) t ∙ sym (found p n a f h y (λ l. t)))
      (cases_Bool (p a))

pub walk_counts : WalkCounts
walk_counts p n a f h y = walked p (n - a) a n refl f h y
