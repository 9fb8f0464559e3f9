-- Ends rise, and what a walk over them passes.
use Rattle.std.proofs.Common.{◌≡◌, ℕ, zero, suc, ◌+◌, ◌-◌, ◌<◌, ◌≤◌, min, max, Bool, true, false, cond, ◌||◌, ltb, leb, List, [], ◌∷◌, map, length, get_or, take, count_by, filter, sym, ap, ◌∙◌, subst, ⊎_elim, true≢false, arith}
use Rattle.std.specs.List.{range_with_len}
use Rattle.std.proofs.lemmas.Bool.{cases_lt, cases_Bool, le-leb, lt-leb, ltb-true, ltb-false}
use Rattle.std.proofs.lemmas.List.{get_or_default}
use Rattle.std.proofs.lemmas.List.Sums.{sum_by-cons}
use Rattle.meaning.specs.Turns.{is_end, turn_ends}
use Rattle.tracker.specs.Walks.{goes, walked, Rise, EndsRise, WalkedCounts}

rise_kept : (p : ℕ → Bool) (e a n : ℕ) → e < a → Rise e (filter p (range_with_len a n))
rise_kept p e a zero h = tt
rise_kept p e a (suc n) h =
    let X = filter p (range_with_len (a + 1) n) in
    let P : Bool → Type 0 = λ b. Rise e (cond b (a ∷ X) X) in
    elim (p a) as P [ true ↦ (h, rise_kept p a (a + 1) n (omega arith)) | false ↦ rise_kept p e (a + 1) n (omega arith) ]

rise_moved : (p e : ℕ) (es : List ℕ) → Rise e es → Rise (p + e) (map (λ k. p + k) es)
rise_moved p e [] h = tt
rise_moved p e (q ∷ es) h = (omega (arith, h.0), rise_moved p q es h.1)

pub ends_rise : (L : Type 0) → EndsRise L
ends_rise L none same p xs =
    let P : ℕ → Type 0 = λ e. Rise e (map (λ k. p + k) (turn_ends none same xs)) in
    subst P (omega arith) (rise_moved p 0 (turn_ends none same xs) (rise_kept (is_end none same xs) 0 1 (length xs) (omega arith)))

module _ (line : ℕ) where
  pub counted_in : (e : ℕ) (es : List ℕ) → e ≤ line → count_by (λ x. leb x line) (e ∷ es) ≡ 1 + count_by (λ x. leb x line) es
  counted_in e es h = sum_by-cons (λ x. cond (leb x line) 1 0) e es ∙ ap (λ b. cond b 1 0 + count_by (λ x. leb x line) es) (le-leb e line h)

  pub counted_out : (e : ℕ) (es : List ℕ) → line < e → count_by (λ x. leb x line) (e ∷ es) ≡ 0 + count_by (λ x. leb x line) es
  counted_out e es h = sum_by-cons (λ x. cond (leb x line) 1 0) e es ∙ ap (λ b. cond b 1 0 + count_by (λ x. leb x line) es) (lt-leb e line h)

  pub none_below : (e : ℕ) (es : List ℕ) → line < e → Rise e es → count_by (λ x. leb x line) (e ∷ es) ≡ 0
  none_below e [] h r = counted_out e [] h
  none_below e (q ∷ es) h r = omega (arith, counted_out e (q ∷ es) h, none_below q es (omega (arith, r.0)) r.1)

  abbrev pub amount : ℕ → ℕ → ℕ → List ℕ → ℕ
  amount entries k e es = min (length es) (max (count_by (λ x. leb x line) (e ∷ es)) (entries - k))

  -- a walk that goes on passes one more than it does from the next end on
  one_more : (entries k e q : ℕ) (es : List ℕ) → Rise e (q ∷ es) → goes line entries k e ≡ true → amount entries k e (q ∷ es) ≡ 1 + amount entries (k + 1) q es
  one_more entries k e q es r g =
      ⊎_elim
      (λ (v : line < e).
      let a = none_below e (q ∷ es) v r in
      let b = none_below q es (omega (arith, r.0)) r.1 in
      let no : leb e line ≡ false = lt-leb e line v in
      let more : k < entries = ltb-true k entries (ap (λ t. t || ltb k entries) (sym no) ∙ g) in
      omega arith)
      (λ (w : e ≤ line). let a = counted_in e (q ∷ es) w in omega arith)
      (cases_lt line e)

  none_more : (entries k e : ℕ) (es : List ℕ) → Rise e es → goes line entries k e ≡ false → amount entries k e es ≡ 0
  none_more entries k e es r g =
      ⊎_elim
      (λ (v : line < e).
      let a = none_below e es v r in
      let no : leb e line ≡ false = lt-leb e line v in
      let few : entries ≤ k = ltb-false k entries (ap (λ t. t || ltb k entries) (sym no) ∙ g) in
      omega arith)
      (λ (w : e ≤ line). let y : leb e line ≡ true = le-leb e line w in absurd (true≢false (ap (λ t. t || ltb k entries) (sym y) ∙ g)))
      (cases_lt line e)

pub walked_counts : WalkedCounts
walked_counts line entries k e [] r =
    let m : min 0 (max (count_by (λ x. leb x line) (e ∷ [])) (entries - k)) ≡ 0 = omega arith in
    rw m (ap (λ i. (i, e)) (omega arith))
walked_counts line entries k e (q ∷ es) r =
    let w = walked line entries in
    ⊎_elim
    (λ (g : goes line entries k e ≡ true).
    let m = amount line entries (k + 1) q es in
    let n = one_more line entries k e q es r g in
    let i = walked_counts line entries (k + 1) q es r.1 in
    let s : k + 1 + m ≡ k + suc m = omega arith in
    let n' : amount line entries k e (q ∷ es) ≡ suc m = omega arith in
    let in_range : m < length (q ∷ es) = omega arith in
    ap (λ b. cond b (w es (k + 1) q) (k, e)) g
    ∙ i
    ∙ ap (λ i. (i, get_or (q ∷ es) m q)) s
    ∙ ap (λ i. (k + suc m, i)) (get_or_default (q ∷ es) m q e in_range)
    ∙ ap (λ i. (k + i, get_or (e ∷ q ∷ es) i e)) (sym n'))
    (λ (g : goes line entries k e ≡ false).
    let n = none_more line entries k e (q ∷ es) r g in
    let z : k ≡ k + 0 = omega arith in
    ap (λ b. cond b (w es (k + 1) q) (k, e)) g ∙ ap (λ i. (i, e)) z ∙ ap (λ i. (k + i, get_or (e ∷ q ∷ es) i e)) (sym n))
    (cases_Bool (goes line entries k e))

-- numbers that rise, by places
pub rise_above : (e d : ℕ) (es : List ℕ) (k : ℕ) → Rise e es → k < length es → e < get_or es k d
rise_above e d [] k r h = absurd (omega arith)
rise_above e d (q ∷ es) zero r h = r.0
rise_above e d (q ∷ es) (suc k) r h = omega (arith, r.0, rise_above q d es k r.1 (omega arith))

pub rise_get : (e d : ℕ) (es : List ℕ) (i k : ℕ) → Rise e es → i ≤ k → k < length es → get_or es i d ≤ get_or es k d
rise_get e d [] i k r h l = absurd (omega arith)
rise_get e d (q ∷ es) zero zero r h l = omega arith
rise_get e d (q ∷ es) zero (suc k) r h l = let a = rise_above q d es k r.1 (omega arith) in omega arith
rise_get e d (q ∷ es) (suc i) zero r h l = absurd (omega arith)
rise_get e d (q ∷ es) (suc i) (suc k) r h l = rise_get q d es i k r.1 (omega arith) (omega arith)

pub rise_take : (e n : ℕ) (es : List ℕ) → Rise e es → Rise e (take n es)
rise_take e zero es r = tt
rise_take e (suc n) [] r = tt
rise_take e (suc n) (q ∷ es) r = (r.0, rise_take q n es r.1)

-- each number is one more at least
pub rise_long : (e d : ℕ) (es : List ℕ) → Rise e es → 0 < length es → e + length es ≤ get_or es (length es - 1) d
rise_long e d [] r h = absurd (omega arith)
rise_long e d (q ∷ []) r h = omega (arith, r.0)
rise_long e d (q ∷ q2 ∷ es) r h =
    let n : length (q ∷ q2 ∷ es) - 1 ≡ suc (length (q2 ∷ es) - 1) = omega arith in
    let i = rise_long q d (q2 ∷ es) r.1 (omega arith) in
    let P : ℕ → Type 0 = λ k. e + length (q ∷ q2 ∷ es) ≤ get_or (q ∷ q2 ∷ es) k d in
    subst P (sym n) (omega (arith, r.0, i))
