-- RANGE, descending.
use Rattle.std.proofs.Common.{◌≡◌, ℕ, zero, suc, ◌+◌, Bool, true, false, cond, not, List, [], ◌∷◌, map, get_or, Some, None, count_by, sym, refl, ap, ◌∙◌, arith}
use Rattle.std.proofs.lemmas.List.{length-map}
use Rattle.std.proofs.lemmas.List.Sums.{sum_by-cons}
use Rattle.std.proofs.lemmas.Int.{ints}
use Rattle.frame.specs.declared.bound.WindowFrameBound.{WindowFrameBound}
use Rattle.frame.specs.declared.bound.WindowFrameBound.TheVariants.{UnboundedPreceding, Preceding, CurrentRow, Following, UnboundedFollowing}
use Rattle.meaning.specs.Lines.{Line}
use Rattle.meaning.specs.Ranges.{before, target, lead, reach, opposite, sorting, RangeMirror}

count_map : {X Y : Type 0} (p : X → Bool) (q : Y → Bool) (f : X → Y) → ((x : X) → p x ≡ q (f x)) → (xs : List X) → count_by p xs ≡ count_by q (map f xs)
count_map p q f h [] = refl
count_map p q f h (x ∷ xs) =
    sum_by-cons (λ x. cond (p x) 1 0) x xs
    ∙ ap (λ n. cond (p x) 1 0 + n) (count_map p q f h xs)
    ∙ ap (λ b. cond b 1 0 + count_by q (map f xs)) (h x)
    ∙ sym (sum_by-cons (λ y. cond (q y) 1 0) (f x) (map f xs))

at_opposite : (xs : List Line) (i : ℕ) → get_or (map opposite xs) i None ≡ opposite (get_or xs i None)
at_opposite [] i = refl
at_opposite (x ∷ xs) zero = refl
at_opposite (x ∷ xs) (suc i) = at_opposite xs i

module _ (u : Bool) where
  before_opposite : (x y : Line) → before (sorting true u) x y ≡ before (sorting false u) (opposite x) (opposite y)
  before_opposite (Some a) (Some b) = grind (arith, ints)
  before_opposite (Some a) None = refl
  before_opposite None (Some b) = refl
  before_opposite None None = refl

  target_opposite : (b : WindowFrameBound) (x : Line) → opposite (target (sorting true u) b x) ≡ target (sorting false u) b (opposite x)
  target_opposite (Preceding n) (Some a) = ap Some (omega (arith, ints))
  target_opposite (Following n) (Some a) = ap Some (omega (arith, ints))
  target_opposite UnboundedPreceding (Some a) = refl
  target_opposite CurrentRow (Some a) = refl
  target_opposite UnboundedFollowing (Some a) = refl
  target_opposite b None = refl

  module _ (b : WindowFrameBound) (F : List Line) (i : ℕ) where
    aims : opposite (target (sorting true u) b (get_or F i None)) ≡ target (sorting false u) b (get_or (map opposite F) i None)
    aims = target_opposite b (get_or F i None) ∙ ap (target (sorting false u) b) (sym (at_opposite F i))

    leads : lead (sorting true u) F (target (sorting true u) b (get_or F i None)) ≡ lead (sorting false u) (map opposite F) (target (sorting false u) b (get_or (map opposite F) i None))
    leads =
        let y = target (sorting true u) b (get_or F i None) in
        count_map (λ x. before (sorting true u) x y) (λ x. before (sorting false u) x (opposite y)) opposite (λ x. before_opposite x y) F
        ∙ ap (lead (sorting false u) (map opposite F)) aims

    reaches : reach (sorting true u) F (target (sorting true u) b (get_or F i None)) ≡ reach (sorting false u) (map opposite F) (target (sorting false u) b (get_or (map opposite F) i None))
    reaches =
        let y = target (sorting true u) b (get_or F i None) in
        count_map (λ x. not (before (sorting true u) y x)) (λ x. not (before (sorting false u) (opposite y) x)) opposite (λ x. ap not (before_opposite y x)) F
        ∙ ap (reach (sorting false u) (map opposite F)) aims

pub range_mirror : RangeMirror
range_mirror u UnboundedPreceding F i = (refl, refl)
range_mirror u (Preceding n) F i = (leads u (Preceding n) F i, reaches u (Preceding n) F i)
range_mirror u CurrentRow F i = (leads u CurrentRow F i, reaches u CurrentRow F i)
range_mirror u (Following n) F i = (leads u (Following n) F i, reaches u (Following n) F i)
range_mirror u UnboundedFollowing F i = (sym (length-map F opposite), sym (length-map F opposite))
