-- Windows read off the ends of a view's turns are the clause's.
use Rattle.std.proofs.Common.{◌≡◌, ℕ, zero, suc, ◌+◌, ◌-◌, ◌<◌, ◌≤◌, min, Bool, true, false, cond, ltb, leb, List, [], ◌∷◌, map, length, get_or, count_by, sym, refl, ap, ◌∙◌, ⊎_elim, arith}
use lib.ListN.{length-map}
use Rattle.std.proofs.lemmas.Bool.Decides.{nat_tests}
use Rattle.std.proofs.lemmas.Bool.{cases_lt, lt-ltb, le-ltb}
use Rattle.std.proofs.lemmas.List.Sums.{sum_by-cons}
use Rattle.frame.specs.declared.bound.WindowFrameBound.{WindowFrameBound}
use Rattle.frame.specs.declared.bound.WindowFrameBound.TheVariants.{UnboundedPreceding, Preceding, CurrentRow, Following, UnboundedFollowing}
use Rattle.meaning.specs.Turns.{turn_of, first_of, end_of, turn_ends, groups_start, groups_end, reached}
use Rattle.meaning.proofs.Ends.{ends_listed}
use Rattle.tracker.specs.Ends.{entry_of, begins, stops, start_by, end_by, reach_by, ReadOff}

-- numbers moved on by f
moved_get : (f m : ℕ) (es : List ℕ) (k : ℕ) → get_or (map (λ e. f + e) es) k (f + m) ≡ f + get_or es k m
moved_get f m [] k = refl
moved_get f m (e ∷ es) zero = refl
moved_get f m (e ∷ es) (suc k) = moved_get f m es k

moved_count : (f line : ℕ) → f ≤ line → (es : List ℕ) → count_by (λ e. leb e line) (map (λ e. f + e) es) ≡ count_by (λ e. leb e (line - f)) es
moved_count f line h [] = refl
moved_count f line h (e ∷ es) =
    let p : ℕ → ℕ = λ e. cond (leb e line) 1 0 in
    let q : ℕ → ℕ = λ e. cond (leb e (line - f)) 1 0 in
    let b : leb (f + e) line ≡ leb e (line - f) = grind (arith, nat_tests) in
    let s : p (f + e) ≡ q e = ap (λ t. cond t 1 0) b in
    sum_by-cons p (f + e) (map (λ e. f + e) es) ∙ omega (arith, s, moved_count f line h es) ∙ sym (sum_by-cons q e es)

module _ {L : Type 0} (none : L) (same : L → L → Bool) (f : ℕ) (xs : List L) where
  pub is_entry : (line : ℕ) → f ≤ line → line < f + length xs → entry_of (map (λ e. f + e) (turn_ends none same xs)) line ≡ turn_of none same xs (line - f)
  is_entry line low high = moved_count f line low (turn_ends none same xs) ∙ (ends_listed L none same xs).turn_is (line - f) (omega arith)

  is_begin : (k : ℕ) → begins f (f + length xs) (map (λ e. f + e) (turn_ends none same xs)) k ≡ f + first_of none same xs k
  is_begin k =
      let z : f ≡ f + 0 = omega arith in
      ap (λ i. get_or (i ∷ map (λ e. f + e) (turn_ends none same xs)) k (f + length xs)) z
      ∙ moved_get f (length xs) (0 ∷ turn_ends none same xs) k
      ∙ ap (λ i. f + i) ((ends_listed L none same xs).first_is k)

  is_stop : (k : ℕ) → stops (f + length xs) (map (λ e. f + e) (turn_ends none same xs)) k ≡ f + end_of none same xs k
  is_stop k = moved_get f (length xs) (turn_ends none same xs) k ∙ ap (λ i. f + i) ((ends_listed L none same xs).end_is k)

  starts_by : (b : WindowFrameBound) (i : ℕ) → start_by b f (f + length xs) (map (λ e. f + e) (turn_ends none same xs)) (turn_of none same xs i) ≡ f + groups_start none same b xs i
  starts_by UnboundedPreceding i = omega arith
  starts_by (Preceding n) i = is_begin (turn_of none same xs i - n)
  starts_by CurrentRow i = is_begin (turn_of none same xs i)
  starts_by (Following n) i = is_begin (turn_of none same xs i + n)
  starts_by UnboundedFollowing i = refl

  ends_by : (b : WindowFrameBound) (i : ℕ) → end_by b f (f + length xs) (map (λ e. f + e) (turn_ends none same xs)) (turn_of none same xs i) ≡ f + groups_end none same b xs i
  ends_by UnboundedPreceding i = omega arith
  ends_by (Preceding n) i =
      let g = turn_of none same xs i in
      ⊎_elim
      (λ (l : g < n). let y : ltb g n ≡ true = lt-ltb _ _ l in rw y (omega arith))
      (λ (h : n ≤ g). let y : ltb g n ≡ false = le-ltb _ _ h in rw y (is_stop (g - n)))
      (cases_lt g n)
  ends_by CurrentRow i = is_stop (turn_of none same xs i)
  ends_by (Following n) i = is_stop (turn_of none same xs i + n)
  ends_by UnboundedFollowing i = refl

  reaches_by : (b : WindowFrameBound) (i : ℕ) → reach_by b (map (λ e. f + e) (turn_ends none same xs)) (turn_of none same xs i) ≡ reached none same b xs i
  reaches_by UnboundedPreceding i = refl
  reaches_by (Preceding n) i = refl
  reaches_by CurrentRow i = refl
  reaches_by (Following n) i = ap (λ k. min (turn_of none same xs i + n) (k - 1)) (length-map (turn_ends none same xs) (λ e. f + e))
  reaches_by UnboundedFollowing i = refl

pub read_off : (L : Type 0) → ReadOff L
read_off L none same first xs i h =
    let at : first + i - first ≡ i = omega arith in (
      is_entry none same first xs (first + i) (omega arith) (omega arith) ∙ ap (turn_of none same xs) at,
      λ b. (starts_by none same first xs b i, ends_by none same first xs b i, reaches_by none same first xs b i),
    )
