-- A window reckoned from all lines of a view.
use Rattle.std.proofs.Common.{◌≡◌, ℕ, ◌+◌, ◌-◌, ◌<◌, ◌≤◌, min, Bool, cond, ltb, List, length, None, sym, refl, ap, ◌∙◌, ⊎_elim, arith}
use Rattle.std.proofs.lemmas.Bool.{cases_lt, lt-ltb, le-ltb}
use Rattle.frame.specs.declared.bound.WindowFrameBound.{WindowFrameBound}
use Rattle.frame.specs.declared.bound.WindowFrameBound.TheVariants.{UnboundedPreceding, Preceding, CurrentRow, Following, UnboundedFollowing}
use Rattle.meaning.specs.Clause.{same_line}
use Rattle.meaning.specs.Counts.{how_many_from}
use Rattle.meaning.specs.Lines.{Line}
use Rattle.meaning.specs.Turns.{parts, turn_of, first_of, end_of}
use Rattle.meaning.proofs.Counts.{count_le, count_all, count_none}
use Rattle.search.specs.Views.{edge_at}

-- a bound that is not unbounded stands where it is reckoned
edge_inside : (b : WindowFrameBound) (first total at : ℕ) → (b ≡ UnboundedPreceding → ⊥) → (b ≡ UnboundedFollowing → ⊥) → edge_at b first total at ≡ at
edge_inside UnboundedPreceding first total at h g = absurd (h refl)
edge_inside (Preceding n) first total at h g = refl
edge_inside CurrentRow first total at h g = refl
edge_inside (Following n) first total at h g = refl
edge_inside UnboundedFollowing first total at h g = absurd (g refl)

-- F and T are the view's first line f and its total over n lines, as the code has them
pub edge_counted : (b : WindowFrameBound) (p : ℕ → Bool) (f n F T r : ℕ) → F ≡ f → T ≡ f + n → (b ≡ UnboundedPreceding → ⊥) → (b ≡ UnboundedFollowing → ⊥) → r ≡ how_many_from p F (T - F) → F + r ≡ edge_at b f (f + n) (f + how_many_from p f n)
edge_counted b p f n F T r first total h g e =
    let d : T - f ≡ n = omega arith in
    ap (λ (k : ℕ). F + k) e
    ∙ ap (λ (k : ℕ). k + how_many_from p k (T - k)) first
    ∙ ap (λ (k : ℕ). f + how_many_from p f k) d
    ∙ sym (edge_inside b f (f + n) (f + how_many_from p f n) h g)

module _ (ys : List Line) where
  -- the end of a turn some turns back
  pub first_back : (g n : ℕ) → first_of None same_line ys (g + 1 - n) ≡ cond (ltb g n) 0 (end_of None same_line ys (g - n))
  first_back g n =
      ⊎_elim
      (λ (l : g < n).
      let e : g + 1 - n ≡ 0 = omega arith in
      ap (first_of None same_line ys) e
      ∙ count_none (λ j. ltb (turn_of None same_line ys j) 0) (length ys) (λ j l. le-ltb _ 0 (omega arith))
      ∙ sym (ap (λ (b : Bool). cond b 0 (end_of None same_line ys (g - n))) (lt-ltb g n l)))
      (λ (l : n ≤ g).
      let e : g + 1 - n ≡ g - n + 1 = omega arith in
      ap (first_of None same_line ys) e ∙ sym (ap (λ (b : Bool). cond b 0 (end_of None same_line ys (g - n))) (le-ltb g n l)))
      (cases_lt g n)

  -- past the last turn every number names the end
  past_turns : (k : ℕ) → length ys ≤ k → first_of None same_line ys k ≡ length ys
  past_turns k h = count_all (λ j. ltb (turn_of None same_line ys j) k) (length ys) (λ j l. lt-ltb _ _ (omega (arith, count_le (parts None same_line ys) j)))

  -- so a sum may stop at a number that no list is as long as
  pub first_on : (t n s d : ℕ) → length ys ≤ 18446744073709551615 → s ≡ min (t + n) 18446744073709551615 → d ≡ t + n → first_of None same_line ys s ≡ first_of None same_line ys d
  first_on t n s d h e is =
      ⊎_elim
      (λ (l : d < 18446744073709551615). let a : s ≡ d = omega arith in ap (first_of None same_line ys) a)
      (λ (g : 18446744073709551615 ≤ d). past_turns s (omega arith) ∙ sym (past_turns d (omega arith)))
      (cases_lt d 18446744073709551615)
