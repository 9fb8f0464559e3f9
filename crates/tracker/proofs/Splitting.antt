-- Entries that rise, split at the first that lies above a number.
use Rattle.std.proofs.Common.{◌≡◌, ℕ, zero, suc, ◌+◌, ◌-◌, ◌<◌, ◌≤◌, true, false, cond, leb, List, [], ◌∷◌, ◌++◌, length, get_or, take, drop, sym, refl, ap, ◌∙◌, ⊎_elim, arith}
use Rattle.std.specs.List.{copy_within}
use Rattle.std.specs.List.Sorted.{IsPartitionPoint, IsPartitionedBy}
use Rattle.std.proofs.lemmas.List.{length-take-le, length-drop, drop-take, get_or_default, get_or-take}
use Rattle.std.proofs.lemmas.Bool.{cases_lt, lt-ltb, le-ltb, le-leb, leb-true, leb-false}
use Rattle.sitting.specs.Tables.{above, in_front}

pub above_from : (n i : ℕ) (es : List ℕ) → i ≤ length es → ((k : ℕ) → k < i → get_or es k 0 ≤ n) → ((k : ℕ) → i ≤ k → k < length es → n < get_or es k 0) → above n es ≡ drop i es
above_from n zero [] h low high = refl
above_from n (suc i) [] h low high = absurd (omega arith)
above_from n zero (x ∷ es) h low high =
    ap (λ b. cond b (x ∷ above n es) (above n es)) (lt-ltb n x (high zero (omega arith) (omega arith)))
    ∙ ap (λ ys. x ∷ ys) (above_from n zero es (omega arith) (λ k l. absurd (omega arith)) (λ k l m. high (suc k) (omega arith) (omega arith)))
above_from n (suc i) (x ∷ es) h low high =
    ap (λ b. cond b (x ∷ above n es) (above n es)) (le-ltb n x (low zero (omega arith)))
    ∙ above_from n i es (omega arith) (λ k l. low (suc k) (omega arith)) (λ k l m. high (suc k) (omega arith) (omega arith))

module _ (n live : ℕ) (table : List ℕ) (room : live ≤ length table) (i : ℕ) (bound : i ≤ live) (point : IsPartitionPoint (λ y. leb y n ≡ true) (λ y. leb y n ≡ false) (take live table) i) where
  long : length (take live table) ≡ live
  long = length-take-le live table room

  kept : above n (take live table) ≡ take (live - i) (drop i table)
  kept =
      let parts : live ≡ i + (live - i) = omega arith in
      above_from n i (take live table) (omega (arith, long)) (λ k h. leb-true _ _ (point.0 k 0 (omega arith) h)) (λ k h m. leb-false _ _ (point.1 k 0 h m))
      ∙ ap (λ m. drop i (take m table)) parts
      ∙ drop-take i (live - i) table

  pub kept_count : live - i ≡ length (above n (take live table))
  kept_count = sym (ap length kept ∙ length-take-le (live - i) (drop i table) (omega (arith, length-drop i table)))

  -- moved to the front, these are written over what stood there
  pub kept_front : copy_within table i live 0 ≡ in_front (above n (take live table)) table
  kept_front =
      let none : 0 + (live - i) ≡ live - i = omega arith in
      ap (λ m. take (live - i) (drop i table) ++ drop m table) none
      ∙ ap (λ ys. ys ++ drop (live - i) table) (sym kept) ∙ ap (λ k. above n (take live table) ++ drop k table) kept_count

-- entries that rise are split by a test that the lesser ones pass
pub rising_splits : (n live : ℕ) (table : List ℕ) → live ≤ length table → ((j k : ℕ) → j < k → k < live → get_or table j 0 < get_or table k 0) → IsPartitionedBy (λ e. leb e n) (take live table)
rising_splits n live table room rising i j d h l passes =
    let long : length (take live table) ≡ live = length-take-le live table room in
    let at : get_or (take live table) j d ≡ get_or table j 0 = get_or_default (take live table) j d 0 l ∙ get_or-take live table j 0 (omega arith) in
    let before : get_or (take live table) i d ≡ get_or table i 0 = get_or_default (take live table) i d 0 (omega arith) ∙ get_or-take live table i 0 (omega arith) in
    le-leb _ _ (
    ⊎_elim
    (λ (v : i < j). omega (arith, at, before, rising i j v (omega arith), leb-true _ _ passes))
    (λ (v : j ≤ i). let same : i ≡ j = omega arith in omega (arith, at, before, ap (λ k. get_or table k 0) same, leb-true _ _ passes))
    (cases_lt i j))
