-- The table of turn ends.
use Rattle.std.proofs.Common.{◌≡◌, ℕ, zero, suc, ◌+◌, ◌-◌, ◌<◌, ◌≤◌, Bool, true, false, cond, ◌||◌, ltb, List, [], ◌∷◌, ◌++◌, map, length, take, drop, filter, sym, refl, ap, ◌∙◌, ⊎_elim, arith}
use Rattle.std.specs.List.{range_with_len, AllByRecursion}
use Rattle.std.proofs.lemmas.Bool.{cases_Bool, ltb-true, lt-ltb, le-ltb, ne_eqb}
use Rattle.std.proofs.lemmas.List.Elements.{filter-append}
use Rattle.std.proofs.ByRecursion.{all_kept_by, All-take, All-map, All-weaker}
use Rattle.std.proofs.lemmas.List.{length-drop, take-map}
use Rattle.frame.specs.declared.bound.WindowFrameBound.{WindowFrameBound}
use Rattle.frame.specs.declared.bound.WindowFrameBound.TheVariants.{UnboundedPreceding, Preceding, CurrentRow, Following, UnboundedFollowing}
use Rattle.meaning.specs.Turns.{parts, turn_of, is_end, turn_ends, reached, table, TableView, TableFiled}
use Rattle.meaning.proofs.Turns.{turn_drop}
use Rattle.meaning.proofs.Ends.{kept_same, breaks_length, many_ends, shifted, end_drop}

-- a filter after a weaker one
kept_kept : {X : Type 0} (p q : X → Bool) → ((x : X) → q x ≡ true → p x ≡ true) → (xs : List X) → filter q (filter p xs) ≡ filter q xs
kept_kept p q f [] = refl
kept_kept p q f (x ∷ xs) =
    let i = kept_kept p q f xs in
    ⊎_elim
    (λ (y : q x ≡ true). let z = f x y in simp (z, y) (ap (λ ys. x ∷ ys) i))
    (λ (n : q x ≡ false).
    let P : Bool → Type 0 = λ b. filter q (cond b (x ∷ filter p xs) (filter p xs)) ≡ filter q xs in
    let r : P (p x) = elim (p x) as P [ true ↦ simp n i | false ↦ i ] in
    simp n r)
    (cases_Bool (q x))

pub table_filed : (L : Type 0) → TableFiled L
table_filed L none same F f n r h = kept_kept (λ e. ltb f e) (λ e. ltb n e) (λ e y. lt-ltb _ _ (omega (arith, ltb-true n e y))) (take (r + 1) (turn_ends none same F))

-- a filter that all pass, and one that none does
kept_all : {X : Type 0} (q : X → Bool) (xs : List X) → AllByRecursion (λ x. q x ≡ true) xs → filter q xs ≡ xs
kept_all q [] h = refl
kept_all q (x ∷ xs) (y, h) = simp y (ap (λ ys. x ∷ ys) (kept_all q xs h))

kept_none : {X : Type 0} (q : X → Bool) (xs : List X) → AllByRecursion (λ x. q x ≡ false) xs → filter q xs ≡ []
kept_none q [] h = refl
kept_none q (x ∷ xs) (n, h) = simp n (kept_none q xs h)

take_past : {X : Type 0} (xs ys : List X) (n : ℕ) → length xs ≤ n → take n (xs ++ ys) ≡ xs ++ take (n - length xs) ys
take_past [] ys n h = let e : n - 0 ≡ n = omega arith in rw e
take_past (x ∷ xs) ys zero h = absurd (omega arith)
take_past (x ∷ xs) ys (suc n) h =
    let e : suc n - suc (length xs) ≡ n - length xs = omega arith in
    rw e (ap (λ zs. x ∷ zs) (take_past xs ys n (omega arith)))

pub counted_all : (a n : ℕ) → AllByRecursion (λ e. (a ≤ e) × (e < a + n)) (range_with_len a n)
counted_all a zero = tt
counted_all a (suc n) = ((omega arith, omega arith), All-weaker (λ e. (a + 1 ≤ e) × (e < a + 1 + n)) (λ e. (a ≤ e) × (e < a + suc n)) (λ e h. (omega arith, omega arith)) (range_with_len (a + 1) n) (counted_all (a + 1) n))

counting_split : (a m n : ℕ) → range_with_len a (m + n) ≡ range_with_len a m ++ range_with_len (m + a) n
counting_split a zero n = let e : 0 + n ≡ n = omega arith in let d : 0 + a ≡ a = omega arith in rw (e, d)
counting_split a (suc m) n =
    let e : suc m + n ≡ suc (m + n) = omega arith in
    let d : m + (a + 1) ≡ suc m + a = omega arith in
    let i : range_with_len (a + 1) (m + n) ≡ range_with_len (a + 1) m ++ range_with_len (suc m + a) n = rw d at (counting_split (a + 1) m n) in
    rw e (ap (λ ys. a ∷ ys) i)

module _ {L : Type 0} (none : L) (same : L → L → Bool) (F : List L) (f : ℕ) (l : f < length F) where
  filed : List ℕ
  filed = filter (is_end none same F) (range_with_len 1 f)

  left : List ℕ
  left = map (λ e. f + e) (turn_ends none same (drop f F))

  -- the ends at or below f, and those of the rest
  ends_split : turn_ends none same F ≡ filed ++ left
  unfolding filed left
  ends_split =
      let p = is_end none same F in
      let m = length F - f in
      let n : length (drop f F) ≡ m = length-drop f F in
      let s : length F ≡ f + m = omega arith in
      ap (λ t. filter p (range_with_len 1 t)) s
      ∙ ap (filter p) (counting_split 1 f m)
      ∙ filter-append p (range_with_len 1 f) (range_with_len (f + 1) m)
      ∙ ap (λ ys. filter p (range_with_len 1 f) ++ ys) (shifted p (is_end none same (drop f F)) f 1 m (end_drop none same F f (omega arith)) ∙ ap (λ t. map (λ e. f + e) (filter (is_end none same (drop f F)) (range_with_len 1 t))) (sym n))

  filed_length : length filed ≡ turn_of none same F f
  unfolding filed
  filed_length =
      ap length (kept_same (is_end none same F) (λ e. parts none same F (e - 1)) 1 f (λ e h k. ap (λ b. b || parts none same F (e - 1)) (ne_eqb e (length F) (λ d. omega arith))))
      ∙ breaks_length none same F f

  -- the same, written out
  pub split_ends : turn_ends none same F ≡ filter (is_end none same F) (range_with_len 1 f) ++ map (λ e. f + e) (turn_ends none same (drop f F))
  unfolding filed left
  split_ends = ends_split

  pub split_length : length (filter (is_end none same F) (range_with_len 1 f)) ≡ turn_of none same F f
  unfolding filed
  split_length = filed_length

  filed_below : AllByRecursion (λ e. ltb f e ≡ false) filed
  unfolding filed
  filed_below = All-weaker (λ e. (1 ≤ e) × (e < 1 + f)) (λ e. ltb f e ≡ false) (λ e h. le-ltb _ _ (omega arith)) _ (all_kept_by (is_end none same F) (λ e. (1 ≤ e) × (e < 1 + f)) (range_with_len 1 f) (counted_all 1 f))

  left_above : AllByRecursion (λ e. ltb f e ≡ true) left
  unfolding left
  left_above =
      let n = length (drop f F) in
      let Q : ℕ → Type 0 = λ e. (1 ≤ e) × (e < 1 + n) in
      All-map (λ e. ltb f e ≡ true) (λ e. f + e) (turn_ends none same (drop f F))
      (All-weaker Q (λ e. ltb f (f + e) ≡ true) (λ e h. lt-ltb _ _ (omega arith)) _ (all_kept_by (is_end none same (drop f F)) Q (range_with_len 1 n) (counted_all 1 n)))

  pub table_rest : (r k : ℕ) → r + 1 ≡ turn_of none same F f + k → table none same F f r ≡ map (λ e. f + e) (take k (turn_ends none same (drop f F)))
  unfolding left
  table_rest r k h =
      let n = filed_length in
      let e : r + 1 - length filed ≡ k = omega arith in
      ap (λ ys. filter (λ e. ltb f e) (take (r + 1) ys)) ends_split
      ∙ ap (filter (λ e. ltb f e)) (take_past filed left (r + 1) (omega arith))
      ∙ filter-append (λ e. ltb f e) filed (take (r + 1 - length filed) left)
      ∙ ap (λ ys. ys ++ filter (λ e. ltb f e) (take (r + 1 - length filed) left)) (kept_none (λ e. ltb f e) filed filed_below)
      ∙ kept_all (λ e. ltb f e) (take (r + 1 - length filed) left) (All-take (λ e. ltb f e ≡ true) (r + 1 - length filed) left left_above)
      ∙ ap (λ k. take k left) e
      ∙ take-map (λ e. f + e) k (turn_ends none same (drop f F))

  turn_rest : (i : ℕ) → f ≤ i → turn_of none same F i ≡ turn_of none same F f + turn_of none same (drop f F) (i - f)
  turn_rest i h = let e : f + (i - f) ≡ i = omega arith in ap (turn_of none same F) (sym e) ∙ turn_drop none same F f (i - f)

  many_rest : length (turn_ends none same F) ≡ turn_of none same F f + length (turn_ends none same (drop f F))
  many_rest =
      let n = length-drop f F in
      omega (arith, many_ends none same F (length F - 1) (omega arith), many_ends none same (drop f F) (length F - 1 - f) (omega arith), turn_rest (length F - 1) (omega arith))

  some_rest : 0 < length (turn_ends none same (drop f F))
  some_rest = let n = length-drop f F in omega (arith, many_ends none same (drop f F) (length F - 1 - f) (omega arith))

  pub reached_rest : (b : WindowFrameBound) (i : ℕ) → f ≤ i → reached none same b F i ≡ turn_of none same F f + reached none same b (drop f F) (i - f)
  reached_rest UnboundedPreceding i h = turn_rest i h
  reached_rest (Preceding n) i h = turn_rest i h
  reached_rest CurrentRow i h = turn_rest i h
  reached_rest (Following n) i h = omega (arith, turn_rest i h, many_rest, some_rest)
  reached_rest UnboundedFollowing i h = turn_rest i h

pub table_view : (L : Type 0) → TableView L
table_view L none same F b f i h l =
    table_rest none same F f (omega arith) (reached none same b F i) (reached none same b (drop f F) (i - f) + 1) (omega (arith, reached_rest none same F f (omega arith) b i h))
