-- The list of turn ends.
use Rattle.std.proofs.Common.{◌≡◌, ℕ, zero, suc, ◌+◌, ◌-◌, ◌<◌, ◌≤◌, min, Bool, true, false, cond, ◌||◌, eqb, ltb, leb, List, [], ◌∷◌, ◌++◌, map, length, get_or, take, drop, count_by, filter, sym, refl, ap, ◌∙◌, subst, ⊎_elim, arith}
use Rattle.std.specs.List.{range_with_len}
use Rattle.std.proofs.lemmas.Bool.{cases_Bool, cases_lt, lt-ltb, le-ltb, ne_eqb, eq-eqb, not-false, not_from_true, le-leb, lt-leb}
use Rattle.std.proofs.lemmas.Bool.Decides.{nat_tests}
use Rattle.std.proofs.lemmas.List.Elements.{filter-append}
use Rattle.std.proofs.lemmas.List.{length-drop, length-take-le, get_or_append_left, get_or_default, get_or_past, get_or_push, append-nil, length_push}
use Rattle.std.proofs.lemmas.List.Sums.{sum_by_push}
use Rattle.meaning.specs.Counts.{how_many}
use Rattle.meaning.specs.Turns.{parts, turn_of, is_end, turn_ends, first_of, end_of, OneTurn, EndsListed, EndsOfRest, ReachedMonotone}
use Rattle.frame.specs.declared.bound.WindowFrameBound.TheVariants.{UnboundedPreceding, Preceding, CurrentRow, Following, UnboundedFollowing}
use Rattle.meaning.proofs.Counts.{count_yes, count_no, count_longer, count_none, count_split}
use Rattle.meaning.proofs.Turns.{parts_drop, turn_take, turn_rises}

-- none pass where the count is 0
pub none_pass : (p : ℕ → Bool) (n : ℕ) → how_many p n ≡ 0 → (j : ℕ) → j < n → p j ≡ false
none_pass p n e j l =
    ⊎_elim
    (λ (y : p j ≡ true). let a = count_longer p (suc j) n (omega arith) in let z : ◌≡◌ {A = ℕ} 0 1 = omega (arith, count_yes p j y) in absurd (omega arith))
    (λ (z : p j ≡ false). z)
    (cases_Bool (p j))

pub one_turn : (L : Type 0) → OneTurn L
one_turn L none same xs j k h =
    let q : ℕ → Bool = λ m. parts none same xs (j + m) in
    let e : j + (k - j) ≡ k = omega arith in
    let s : turn_of none same xs k ≡ turn_of none same xs j + how_many q (k - j) = rw e at (count_split (parts none same xs) j (k - j)) in (
      λ w m v u.
          let d : j + (m - j) ≡ m = omega arith in
          let z : parts none same xs m ≡ false = rw d at (none_pass q (k - j) (omega arith) (m - j) (omega arith)) in
          not-false _ z,
      λ w. let z : how_many q (k - j) ≡ 0 = count_none q (k - j) (λ m v. not_from_true _ (w (j + m) (omega arith) (omega arith))) in omega arith,
    )

counting_more : (a n : ℕ) → range_with_len a (suc n) ≡ range_with_len a n ++ (a + n) ∷ []
counting_more a zero = let e : a + 0 ≡ a = omega arith in rw e
counting_more a (suc n) =
    let e : a + 1 + n ≡ a + suc n = omega arith in
    let i : range_with_len (a + 1) (suc n) ≡ range_with_len (a + 1) n ++ (a + suc n) ∷ [] = rw e at (counting_more (a + 1) n) in
    ap (λ ys. a ∷ ys) i

kept_more : (p : ℕ → Bool) (a n : ℕ) → filter p (range_with_len a (suc n)) ≡ filter p (range_with_len a n) ++ cond (p (a + n)) ((a + n) ∷ []) []
kept_more p a n = ap (filter p) (counting_more a n) ∙ filter-append p (range_with_len a n) ((a + n) ∷ [])

pub kept_same : (p q : ℕ → Bool) (a n : ℕ) → ((e : ℕ) → a ≤ e → e < a + n → p e ≡ q e) → filter p (range_with_len a n) ≡ filter q (range_with_len a n)
kept_same p q a zero f = refl
kept_same p q a (suc n) f =
    let i = kept_same p q (a + 1) n (λ e h k. f e (omega arith) (omega arith)) in
    let e = f a (omega arith) (omega arith) in
    rw (e, i)

module _ {L : Type 0} (none : L) (same : L → L → Bool) (xs : List L) where
  -- where turns part, after line m at the latest
  abbrev pub breaks : ℕ → List ℕ
  breaks m = filter (λ e. parts none same xs (e - 1)) (range_with_len 1 m)

  breaks_more : (m : ℕ) → breaks (suc m) ≡ breaks m ++ cond (parts none same xs m) ((m + 1) ∷ []) []
  breaks_more m =
      let e : 1 + m ≡ m + 1 = omega arith in
      let d : m + 1 - 1 ≡ m = omega arith in
      kept_more (λ e. parts none same xs (e - 1)) 1 m ∙ rw (e, d)

  breaks_yes : (m : ℕ) → parts none same xs m ≡ true → breaks (suc m) ≡ breaks m ++ (m + 1) ∷ []
  breaks_yes m y = breaks_more m ∙ rw y

  breaks_no : (m : ℕ) → parts none same xs m ≡ false → breaks (suc m) ≡ breaks m
  breaks_no m z = breaks_more m ∙ rw z (append-nil (breaks m))

  pub breaks_length : (m : ℕ) → length (breaks m) ≡ turn_of none same xs m
  breaks_length zero = refl
  breaks_length (suc m) =
      let i = breaks_length m in
      ⊎_elim
      (λ (y : parts none same xs m ≡ true). omega (arith, ap length (breaks_yes m y), length_push (breaks m) (m + 1), count_yes (parts none same xs) m y))
      (λ (z : parts none same xs m ≡ false). omega (arith, ap length (breaks_no m z), count_no (parts none same xs) m z))
      (cases_Bool (parts none same xs m))

  abbrev up_to : ℕ → ℕ → Bool
  up_to k j = ltb (turn_of none same xs j) (k + 1)

  upto_yes : (k j : ℕ) → turn_of none same xs j ≤ k → how_many (up_to k) (suc j) ≡ how_many (up_to k) j + 1
  upto_yes k j h = count_yes (up_to k) j (lt-ltb _ _ (omega arith))

  upto_no : (k j : ℕ) → k < turn_of none same xs j → how_many (up_to k) (suc j) ≡ how_many (up_to k) j
  upto_no k j h = count_no (up_to k) j (le-ltb _ _ (omega arith))

  breaks_get : (m k : ℕ) → get_or (breaks m) k (suc m) ≡ how_many (up_to k) (suc m)
  breaks_get zero k = omega (arith, upto_yes k 0 (omega arith))
  breaks_get (suc m) k =
      let i = breaks_get m k in
      let n = breaks_length m in
      let P : List ℕ → Type 0 = λ ys. get_or ys k (suc (suc m)) ≡ how_many (up_to k) (suc (suc m)) in
      ⊎_elim
      (λ (y : parts none same xs m ≡ true).
      let c = count_yes (parts none same xs) m y in
      let Q : P (breaks m ++ (m + 1) ∷ []) =
      ⊎_elim
      (λ (l : k < length (breaks m)).
      omega (arith, get_or_append_left (breaks m) ((m + 1) ∷ []) (suc (suc m)) k l, get_or_default (breaks m) k (suc (suc m)) (suc m) l, upto_no k (suc m) (omega arith)))
      (λ (g : length (breaks m) ≤ k).
      let past = get_or_past (breaks m) k (suc m) g in
      ⊎_elim
      (λ (l : length (breaks m) < k).
      omega (arith, get_or_past (breaks m ++ (m + 1) ∷ []) k (suc (suc m)) (omega (arith, length_push (breaks m) (m + 1))), upto_yes k (suc m) (omega arith)))
      (λ (w : k ≤ length (breaks m)).
      omega (arith, get_or_push (breaks m) (m + 1) (suc (suc m)) k (omega arith), upto_no k (suc m) (omega arith)))
      (cases_lt (length (breaks m)) k))
      (cases_lt k (length (breaks m))) in
      subst P (sym (breaks_yes m y)) Q)
      (λ (z : parts none same xs m ≡ false).
      let c = count_no (parts none same xs) m z in
      let Q : P (breaks m) =
      ⊎_elim
      (λ (l : k < length (breaks m)).
      omega (arith, get_or_default (breaks m) k (suc (suc m)) (suc m) l, upto_no k (suc m) (omega arith)))
      (λ (g : length (breaks m) ≤ k).
      omega (arith, get_or_past (breaks m) k (suc m) g, get_or_past (breaks m) k (suc (suc m)) g, upto_yes k (suc m) (omega arith)))
      (cases_lt k (length (breaks m))) in
      subst P (sym (breaks_no m z)) Q)
      (cases_Bool (parts none same xs m))

  -- the ends are the breaks, and then the end of all lines
  ends_are : (m : ℕ) → length xs ≡ suc m → turn_ends none same xs ≡ breaks m ++ suc m ∷ []
  ends_are m n =
      let p = is_end none same xs in
      let s : 1 + m ≡ suc m = omega arith in
      let last : p (suc m) ≡ true = ap (λ b. b || parts none same xs (suc m - 1)) (eq-eqb (suc m) (length xs) (omega arith)) in
      let front : filter p (range_with_len 1 m) ≡ breaks m =
      kept_same p (λ e. parts none same xs (e - 1)) 1 m (λ e h k. ap (λ b. b || parts none same xs (e - 1)) (ne_eqb e (length xs) (λ d. omega arith))) in
      let more : filter p (range_with_len 1 (suc m)) ≡ filter p (range_with_len 1 m) ++ cond (p (suc m)) (suc m ∷ []) [] = rw s at (kept_more p 1 m) in
      ap (λ t. filter p (range_with_len 1 t)) n ∙ more ∙ rw (front, last)

  listed : (m k : ℕ) → length xs ≡ suc m → get_or (turn_ends none same xs) k (length xs) ≡ end_of none same xs k
  listed m k n =
      let B = breaks m in
      let g : get_or (B ++ suc m ∷ []) k (suc m) ≡ get_or B k (suc m) =
      ⊎_elim
      (λ (l : k < length B). get_or_append_left B (suc m ∷ []) (suc m) k l)
      (λ (h : length B ≤ k).
      ⊎_elim
      (λ (l : length B < k). omega (arith, get_or_past (B ++ suc m ∷ []) k (suc m) (omega (arith, length_push B (suc m))), get_or_past B k (suc m) h))
      (λ (w : k ≤ length B). omega (arith, get_or_push B (suc m) (suc m) k (omega arith), get_or_past B k (suc m) h))
      (cases_lt (length B) k))
      (cases_lt k (length B)) in
      ap (λ ys. get_or ys k (length xs)) (ends_are m n) ∙ ap (get_or (B ++ suc m ∷ []) k) n ∙ g ∙ breaks_get m k ∙ ap (how_many (up_to k)) (sym n)

  -- the breaks at or below a line
  breaks_below : (m i : ℕ) → count_by (λ e. leb e i) (breaks m) ≡ turn_of none same xs (min m i)
  breaks_below zero i = let e : min 0 i ≡ 0 = omega arith in rw e
  breaks_below (suc m) i =
      let h = breaks_below m i in
      let C : List ℕ → ℕ = count_by (λ e. leb e i) in
      ⊎_elim
      (λ (l : m < i).
      let a : min m i ≡ m = omega arith in
      let b : min (suc m) i ≡ suc m = omega arith in
      let j : C (breaks m) ≡ turn_of none same xs m = rw a at h in
      let r : leb (m + 1) i ≡ true = le-leb _ _ (omega arith) in
      rw b (⊎_elim
      (λ (y : parts none same xs m ≡ true).
      let p : C (breaks m ++ (m + 1) ∷ []) ≡ C (breaks m) + 1 = sum_by_push (λ e. cond (leb e i) 1 0) (breaks m) (m + 1) ∙ ap (λ t. C (breaks m) + cond t 1 0) r in
      ap C (breaks_yes m y) ∙ p ∙ ap (λ t. t + 1) j ∙ sym (count_yes (parts none same xs) m y))
      (λ (z : parts none same xs m ≡ false). ap C (breaks_no m z) ∙ j ∙ sym (count_no (parts none same xs) m z))
      (cases_Bool (parts none same xs m))))
      (λ (g : i ≤ m).
      let a : min m i ≡ i = omega arith in
      let b : min (suc m) i ≡ i = omega arith in
      let j : C (breaks m) ≡ turn_of none same xs i = rw a at h in
      let r : leb (m + 1) i ≡ false = lt-leb _ _ (omega arith) in
      rw b (⊎_elim
      (λ (y : parts none same xs m ≡ true).
      let p : C (breaks m ++ (m + 1) ∷ []) ≡ C (breaks m) + 0 = sum_by_push (λ e. cond (leb e i) 1 0) (breaks m) (m + 1) ∙ ap (λ t. C (breaks m) + cond t 1 0) r in
      let q : C (breaks m) + 0 ≡ C (breaks m) = omega arith in
      ap C (breaks_yes m y) ∙ p ∙ q ∙ j)
      (λ (z : parts none same xs m ≡ false). ap C (breaks_no m z) ∙ j)
      (cases_Bool (parts none same xs m))))
      (cases_lt m i)

  counted : (m i : ℕ) → length xs ≡ suc m → i < length xs → count_by (λ e. leb e i) (turn_ends none same xs) ≡ turn_of none same xs i
  counted m i n l =
      let C : List ℕ → ℕ = count_by (λ e. leb e i) in
      let r : leb (suc m) i ≡ false = lt-leb _ _ (omega arith) in
      let a : min m i ≡ i = omega arith in
      let p : C (breaks m ++ suc m ∷ []) ≡ C (breaks m) + 0 = sum_by_push (λ e. cond (leb e i) 1 0) (breaks m) (suc m) ∙ ap (λ t. C (breaks m) + cond t 1 0) r in
      let q : C (breaks m) + 0 ≡ C (breaks m) = omega arith in
      let j : C (breaks m) ≡ turn_of none same xs i = rw a at (breaks_below m i) in
      ap C (ends_are m n) ∙ p ∙ q ∙ j

pub many_ends : {L : Type 0} (none : L) (same : L → L → Bool) (xs : List L) (m : ℕ) → length xs ≡ suc m → length (turn_ends none same xs) ≡ turn_of none same xs m + 1
many_ends none same xs m h = omega (arith, ap length (ends_are none same xs m h), length_push (breaks none same xs m) (suc m), breaks_length none same xs m)

first_listed : {L : Type 0} (none : L) (same : L → L → Bool) (xs : List L) → ((k : ℕ) → get_or (turn_ends none same xs) k (length xs) ≡ end_of none same xs k) → (k : ℕ) → get_or (0 ∷ turn_ends none same xs) k (length xs) ≡ first_of none same xs k
first_listed none same xs h zero = sym (count_none (λ j. ltb (turn_of none same xs j) 0) (length xs) (λ j w. le-ltb _ _ (omega arith)))
first_listed none same xs h (suc k) = let e : k + 1 ≡ suc k = omega arith in h k ∙ ap (first_of none same xs) e

pub ends_listed : (L : Type 0) → EndsListed L
ends_listed L none same [] = record {
  many = λ h. absurd (omega arith);
  end_is = λ k. refl;
  first_is = first_listed none same [] (λ k. refl);
  turn_is = λ i l. absurd (omega arith);
}
ends_listed L none same (x ∷ xs) =
    let e : (k : ℕ) → get_or (turn_ends none same (x ∷ xs)) k (length (x ∷ xs)) ≡ end_of none same (x ∷ xs) k = λ k. listed none same (x ∷ xs) (length xs) k refl in
    record {
      many = λ h. many_ends none same (x ∷ xs) (length (x ∷ xs) - 1) (omega arith);
      end_is = e;
      first_is = first_listed none same (x ∷ xs) e;
      turn_is = λ i l. counted none same (x ∷ xs) (length xs) i refl l;
    }

module _ {L : Type 0} (none : L) (same : L → L → Bool) (F : List L) (t u i k : ℕ) (h : i ≤ k) (w : t ≤ u) (v : i < t) (z : k < u) (l : u ≤ length F) where
  later_turn : turn_of none same (take t F) i ≤ turn_of none same (take u F) k
  later_turn = omega (arith, turn_take none same F t i v, turn_take none same F u k z, turn_rises none same F i k h)

  more_turns : length (turn_ends none same (take t F)) ≤ length (turn_ends none same (take u F))
  more_turns =
      let a : length (take t F) ≡ t = length-take-le t F (omega arith) in
      let b : length (take u F) ≡ u = length-take-le u F l in
      let c = many_ends none same (take t F) (t - 1) (omega arith) in
      let d = many_ends none same (take u F) (u - 1) (omega arith) in
      omega (arith, turn_take none same F t (t - 1) (omega arith), turn_take none same F u (u - 1) (omega arith), turn_rises none same F (t - 1) (u - 1) (omega arith))

pub reached_monotone : (L : Type 0) → ReachedMonotone L
reached_monotone L none same F UnboundedPreceding t u i k h w v z l = later_turn none same F t u i k h w v z l
reached_monotone L none same F (Preceding n) t u i k h w v z l = later_turn none same F t u i k h w v z l
reached_monotone L none same F CurrentRow t u i k h w v z l = later_turn none same F t u i k h w v z l
reached_monotone L none same F (Following n) t u i k h w v z l = omega (arith, later_turn none same F t u i k h w v z l, more_turns none same F t u i k h w v z l)
reached_monotone L none same F UnboundedFollowing t u i k h w v z l = later_turn none same F t u i k h w v z l

-- a filter of numbers past f
all_past : (p : ℕ → Bool) (f a n : ℕ) → f < a → filter (λ e. ltb f e) (filter p (range_with_len a n)) ≡ filter p (range_with_len a n)
all_past p f a zero h = refl
all_past p f a (suc n) h =
    let i = all_past p f (a + 1) n (omega arith) in
    let y : ltb f a ≡ true = lt-ltb _ _ h in
    let X = filter p (range_with_len (a + 1) n) in
    let P : Bool → Type 0 = λ b. filter (λ e. ltb f e) (cond b (a ∷ X) X) ≡ cond b (a ∷ X) X in
    elim (p a) as P [ true ↦ simp y (ap (λ zs. a ∷ zs) i) | false ↦ i ]

pub past : (p : ℕ → Bool) (f a d n : ℕ) → a + d ≡ f + 1 → filter (λ e. ltb f e) (filter p (range_with_len a (d + n))) ≡ filter p (range_with_len (f + 1) n)
past p f a zero n h =
    let e : 0 + n ≡ n = omega arith in
    let g : a ≡ f + 1 = omega arith in
    rw (e, g) (all_past p f (f + 1) n (omega arith))
past p f a (suc d) n h =
    let e : suc d + n ≡ suc (d + n) = omega arith in
    let i = past p f (a + 1) d n (omega arith) in
    let z : ltb f a ≡ false = le-ltb _ _ (omega arith) in
    let X = filter p (range_with_len (a + 1) (d + n)) in
    let P : Bool → Type 0 = λ b. filter (λ e. ltb f e) (cond b (a ∷ X) X) ≡ filter p (range_with_len (f + 1) n) in
    let r : P (p a) = elim (p a) as P [ true ↦ simp z i | false ↦ i ] in
    rw e r

pub shifted : (p q : ℕ → Bool) (f a n : ℕ) → ((e : ℕ) → a ≤ e → q e ≡ p (f + e)) → filter p (range_with_len (f + a) n) ≡ map (λ e. f + e) (filter q (range_with_len a n))
shifted p q f a zero h = refl
shifted p q f a (suc n) h =
    let s : f + (a + 1) ≡ f + a + 1 = omega arith in
    let X = filter q (range_with_len (a + 1) n) in
    let Y = filter p (range_with_len (f + a + 1) n) in
    let i : Y ≡ map (λ e. f + e) X = rw s at (shifted p q f (a + 1) n (λ e w. h e (omega arith))) in
    let P : Bool → Type 0 = λ b. cond b ((f + a) ∷ Y) Y ≡ map (λ e. f + e) (cond b (a ∷ X) X) in
    let r : P (q a) = elim (q a) as P [ true ↦ ap (λ zs. (f + a) ∷ zs) i | false ↦ i ] in
    let k : p (f + a) ≡ q a = sym (h a (omega arith)) in
    rw k r

pub end_drop : {L : Type 0} (none : L) (same : L → L → Bool) (F : List L) (f : ℕ) → f ≤ length F → (e : ℕ) → 1 ≤ e → is_end none same (drop f F) e ≡ is_end none same F (f + e)
end_drop none same F f l e h =
    let n = length-drop f F in
    let d : f + (e - 1) ≡ f + e - 1 = omega arith in
    let a : parts none same (drop f F) (e - 1) ≡ parts none same F (f + e - 1) = parts_drop none same F f (e - 1) ∙ ap (parts none same F) d in
    let b : eqb e (length (drop f F)) ≡ eqb (f + e) (length F) = grind (arith, nat_tests) in
    rw (a, b)

pub ends_of_rest : (L : Type 0) → EndsOfRest L
ends_of_rest L none same F f l =
    let p = is_end none same F in
    let q = is_end none same (drop f F) in
    let m = length F - f in
    let n : length (drop f F) ≡ m = length-drop f F in
    let s : length F ≡ f + m = omega arith in
    ap (λ t. filter (λ e. ltb f e) (filter p (range_with_len 1 t))) s
    ∙ past p f 1 f m (omega arith)
    ∙ shifted p q f 1 m (end_drop none same F f (omega arith))
    ∙ ap (λ t. map (λ e. f + e) (filter q (range_with_len 1 t))) (sym n)
