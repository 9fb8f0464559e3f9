-- Turns: the laws. Nothing is asked of sameness.
use Rattle.std.proofs.Common.{◌≡◌, ℕ, zero, suc, ◌+◌, ◌-◌, ◌<◌, ◌≤◌, Bool, true, false, cond, eqb, ltb, List, [], ◌∷◌, length, take, drop, filter, sym, refl, ap, ◌∙◌, ⊎_elim, arith}
use Rattle.std.proofs.lemmas.Bool.{cases_lt, ltb-true, ltb-false, lt-ltb, le-ltb, ne_eqb}
use Rattle.std.proofs.lemmas.Bool.Decides.{nat_tests}
use Rattle.std.proofs.lemmas.List.{get_or-take, get_or-drop, length-take-le}
use Rattle.std.specs.List.{range_with_len}
use Rattle.meaning.specs.Counts.{Front}
use Rattle.frame.specs.declared.bound.WindowFrameBound.{WindowFrameBound}
use Rattle.frame.specs.declared.bound.WindowFrameBound.TheVariants.{UnboundedPreceding, Preceding, CurrentRow, Following, UnboundedFollowing}
use Rattle.meaning.specs.Edges.{Lawful}
use Rattle.meaning.specs.Turns.{parts, turn_of, is_end, first_of, end_of, groups_start, groups_end, EndsOfFront, GroupsLawful, GroupsMonotone, GroupsCausal}
use Rattle.meaning.proofs.Counts.{count_longer, count_same, count_none, count_split, front_first, fails_past}
use Rattle.meaning.proofs.Edges.{by_test, in_words, none_lawful, all_lawful, monotone, causal}

module _ {L : Type 0} (none : L) (same : L → L → Bool) (F : List L) where
  -- a line of a front stands in the turn in which it stands over all
  pub parts_take : (t j : ℕ) → j + 1 < t → parts none same (take t F) j ≡ parts none same F j
  parts_take t j h =
      let a = get_or-take t F j none (omega arith) in
      let b = get_or-take t F (j + 1) none h in
      rw (a, b)

  pub turn_take : (t i : ℕ) → i < t → turn_of none same (take t F) i ≡ turn_of none same F i
  turn_take t i h = count_same (parts none same (take t F)) (parts none same F) i (λ j l. parts_take t j (omega arith))

  -- lines in turns before k are a front
  pub front_turns : (k n : ℕ) → Front (λ j. ltb (turn_of none same F j) k) n
  front_turns k n i j h w y =
      lt-ltb _ _ (omega (arith, count_longer (parts none same F) i j h, ltb-true _ _ y))

  -- turn k begins at or before line j just if j stands in turn k or later
  pub begins_by : (k j : ℕ) → j < length F → (first_of none same F k ≤ j → k ≤ turn_of none same F j) × (k ≤ turn_of none same F j → first_of none same F k ≤ j)
  begins_by k j l =
      let e : ltb (turn_of none same F j) k ≡ ltb j (first_of none same F k) = front_first (λ j. ltb (turn_of none same F j) k) (length F) j (front_turns k (length F)) l in
      (λ h. ltb-false _ _ (e ∙ le-ltb _ _ h), λ h. ltb-false _ _ (sym e ∙ le-ltb _ _ h))

  pub turn_rises : (i k : ℕ) → i ≤ k → turn_of none same F i ≤ turn_of none same F k
  turn_rises i k h = count_longer (parts none same F) i k h

  -- the end of turn g - n, or 0, is the first line of turn g + 1 - n
  pub end_before : (xs : List L) (g n : ℕ) → cond (ltb g n) 0 (end_of none same xs (g - n)) ≡ first_of none same xs (g + 1 - n)
  end_before xs g n =
      ⊎_elim
      (λ (l : g < n).
      let y : ltb g n ≡ true = lt-ltb _ _ l in
      let z : g + 1 - n ≡ 0 = omega arith in
      rw (y, z) (sym (count_none (λ j. ltb (turn_of none same xs j) 0) (length xs) (λ j w. le-ltb _ _ (omega arith)))))
      (λ (h : n ≤ g).
      let y : ltb g n ≡ false = le-ltb _ _ h in
      let z : g + 1 - n ≡ g - n + 1 = omega arith in
      rw (y, z))
      (cases_lt g n)

  -- the turns of the rest, from line f on, are those from the turn of f on
  pub parts_drop : (f j : ℕ) → parts none same (drop f F) j ≡ parts none same F (f + j)
  parts_drop f j =
      let a = get_or-drop f F j none in
      let b = get_or-drop f F (j + 1) none in
      let e : f + (j + 1) ≡ f + j + 1 = omega arith in
      rw (a, b, e)

  pub turn_drop : (f j : ℕ) → turn_of none same F (f + j) ≡ turn_of none same F f + turn_of none same (drop f F) j
  turn_drop f j = count_split (parts none same F) f j ∙ ap (λ n. turn_of none same F f + n) (sym (count_same (parts none same (drop f F)) (λ j. parts none same F (f + j)) j (λ j l. parts_drop f j)))

  turn_rest : (f i : ℕ) → f ≤ i → turn_of none same F i ≡ turn_of none same F f + turn_of none same (drop f F) (i - f)
  turn_rest f i h = let e : f + (i - f) ≡ i = omega arith in ap (turn_of none same F) (sym e) ∙ turn_drop f (i - f)

  -- an edge that is the first line of a turn, h of the line's own: h rises, and by as much as turns are counted on
  first_lawful : (h : ℕ → ℕ) → ((g k : ℕ) → g ≤ k → h g ≤ h k) → ((c x g : ℕ) → ltb x (h g) ≡ ltb (c + x) (h (c + g))) → Lawful F (λ xs i. first_of none same xs (h (turn_of none same xs i)))
  first_lawful h m s = by_test F (λ xs i j. ltb (turn_of none same xs j) (h (turn_of none same xs i))) (record {
    in_front = λ t i j v w. let a = turn_take t i v in let b = turn_take t j w in rw (a, b);
    in_rest = λ f i j v. let a = turn_rest f i v in let b = turn_drop f j in rw (a, b) (s (turn_of none same F f) (turn_of none same (drop f F) j) (turn_of none same (drop f F) (i - f)));
    front = λ i. front_turns (h (turn_of none same F i)) (length F);
    grows = λ i k j v l y. lt-ltb _ _ (omega (arith, ltb-true _ _ y, m _ _ (turn_rises i k v)));
  })

  pub start_lawful : (b : WindowFrameBound) → Lawful F (groups_start none same b)
  start_lawful UnboundedPreceding = none_lawful F
  start_lawful (Preceding n) = first_lawful (λ g. g - n) (λ g k w. omega arith) (λ c x g. grind (arith, nat_tests))
  start_lawful CurrentRow = first_lawful (λ g. g) (λ g k w. w) (λ c x g. grind (arith, nat_tests))
  start_lawful (Following n) = first_lawful (λ g. g + n) (λ g k w. omega arith) (λ c x g. grind (arith, nat_tests))
  start_lawful UnboundedFollowing = all_lawful F

  pub end_lawful : (b : WindowFrameBound) → Lawful F (groups_end none same b)
  end_lawful UnboundedPreceding = none_lawful F
  end_lawful (Preceding n) = in_words F (groups_end none same (Preceding n)) _ (λ xs i. end_before xs (turn_of none same xs i) n) (first_lawful (λ g. g + 1 - n) (λ g k w. omega arith) (λ c x g. grind (arith, nat_tests)))
  end_lawful CurrentRow = first_lawful (λ g. g + 1) (λ g k w. omega arith) (λ c x g. grind (arith, nat_tests))
  end_lawful (Following n) = first_lawful (λ g. g + n + 1) (λ g k w. omega arith) (λ c x g. grind (arith, nat_tests))
  end_lawful UnboundedFollowing = all_lawful F

  pub end_early : (n i : ℕ) → 0 < n → i < length F → groups_end none same (Preceding n) F i ≤ i + 1
  end_early n i h l =
      let g = turn_of none same F i in
      rw (end_before F g n) (omega (arith, fails_past (λ j. ltb (turn_of none same F j) (g + 1 - n)) (length F) i (front_turns _ (length F)) l (le-ltb _ _ (omega arith))))

  -- what is an end of a front, below the front's end
  pub end_take : (t j : ℕ) → t ≤ length F → 0 < j → j < t → is_end none same (take t F) j ≡ parts none same F (j - 1)
  end_take t j l h w =
      let n : length (take t F) ≡ t = length-take-le t F l in
      let e : eqb j (length (take t F)) ≡ false = ne_eqb _ _ (λ e. omega arith) in
      rw e (parts_take t (j - 1) (omega arith))

pub groups_lawful : (L : Type 0) → GroupsLawful L
groups_lawful L none same F b = (start_lawful none same F b, end_lawful none same F b)

pub groups_monotone : (L : Type 0) → GroupsMonotone L
groups_monotone L none same F b = (monotone F (groups_start none same b) (start_lawful none same F b), monotone F (groups_end none same b) (end_lawful none same F b))

pub groups_causal : (L : Type 0) → GroupsCausal L
groups_causal L none same F b n i h t v l = causal F (groups_start none same b) (groups_end none same (Preceding n)) i (start_lawful none same F b) (end_lawful none same F (Preceding n)) (end_early none same F n i h (omega arith)) t v l

-- what a filter of numbers keeps below t
module _ (t : ℕ) where
  none_below : (p : ℕ → Bool) (a n : ℕ) → t ≤ a → filter (λ e. ltb e t) (filter p (range_with_len a n)) ≡ []
  none_below p a zero h = refl
  none_below p a (suc n) h =
      let i = none_below p (a + 1) n (omega arith) in
      let z : ltb a t ≡ false = le-ltb _ _ h in
      let P : Bool → Type 0 = λ b. filter (λ e. ltb e t) (cond b (a ∷ filter p (range_with_len (a + 1) n)) (filter p (range_with_len (a + 1) n))) ≡ [] in
      elim (p a) as P [ true ↦ simp z i | false ↦ i ]

  same_below : (p q : ℕ → Bool) (a n m : ℕ) → t ≤ a + n → t ≤ a + m → ((e : ℕ) → a ≤ e → e < t → p e ≡ q e) → filter (λ e. ltb e t) (filter p (range_with_len a n)) ≡ filter (λ e. ltb e t) (filter q (range_with_len a m))
  same_below p q a zero m h k f = sym (none_below q a m (omega arith))
  same_below p q a (suc n) zero h k f = none_below p a (suc n) (omega arith)
  same_below p q a (suc n) (suc m) h k f =
      ⊎_elim
      (λ (l : a < t).
      let i = same_below p q (a + 1) n m (omega arith) (omega arith) (λ e w v. f e (omega arith) v) in
      let X = filter p (range_with_len (a + 1) n) in
      let Y = filter q (range_with_len (a + 1) m) in
      let y : ltb a t ≡ true = lt-ltb _ _ l in
      let P : Bool → Type 0 = λ b. filter (λ e. ltb e t) (cond b (a ∷ X) X) ≡ filter (λ e. ltb e t) (cond b (a ∷ Y) Y) in
      let r : P (q a) = elim (q a) as P [ true ↦ simp y (ap (λ zs. a ∷ zs) i) | false ↦ i ] in
      rw (f a (omega arith) l) r)
      (λ (g : t ≤ a). none_below p a (suc n) g ∙ sym (none_below q a (suc m) g))
      (cases_lt a t)

pub ends_of_front : (L : Type 0) → EndsOfFront L
ends_of_front L none same F t u h l =
    let n : length (take t F) ≡ t = length-take-le t F (omega arith) in
    let m : length (take u F) ≡ u = length-take-le u F l in
    same_below t (is_end none same (take t F)) (is_end none same (take u F)) 1 (length (take t F)) (length (take u F)) (omega arith) (omega arith)
    (λ e w v. end_take none same F t e (omega arith) (omega arith) v ∙ sym (end_take none same F u e l (omega arith) (omega arith)))
