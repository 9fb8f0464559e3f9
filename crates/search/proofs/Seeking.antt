-- A view's tests and the lists of its lines.
use Rattle.std.proofs.Common.{◌≡◌, ℕ, zero, suc, ◌+◌, ◌-◌, ◌<◌, ◌≤◌, Bool, true, false, cond, not, ltb, List, [], ◌∷◌, length, get_or, ℤ, None, Option, sym, refl, ap, ◌∙◌, ⊎_elim, arith}
use Rattle.std.specs.Option.{option_map}
use Rattle.std.proofs.lemmas.List.{length-map}
use Rattle.std.proofs.lemmas.Bool.{cases_Bool, lt-ltb, le-ltb}
use Rattle.meaning.specs.Counts.{how_many_from, walk}
use Rattle.meaning.specs.Lines.{Line, ranked}
use Rattle.meaning.specs.Clause.{same_line}
use Rattle.meaning.specs.declared.options.SortOptions.{SortOptions}
use Rattle.meaning.specs.Ranges.{before}
use Rattle.meaning.specs.Turns.{parts, turn_of, end_of}
use Rattle.transcript.specs.Lines.{at_line}
use Rattle.search.specs.Tests.{line_at, alike, parts_at, orderly}
use Rattle.search.specs.Views.{total_of, turn_at, turn_begins}
use Rattle.meaning.proofs.Counts.{count_same, count_yes, count_no, found}
use Rattle.meaning.proofs.Turns.{front_turns, turn_rises}
use Rattle.meaning.proofs.Walking.{walk_counts}

-- a line of a view is an element of its lines
module _ {K : Type 0} (rank : K → ℤ) where
  ranked_at : (xs : List (Option K)) (j : ℕ) → option_map rank (get_or xs j None) ≡ get_or (ranked rank xs) j None
  ranked_at [] j = refl
  ranked_at (x ∷ xs) zero = refl
  ranked_at (x ∷ xs) (suc j) = ranked_at xs j

  pub line_is : (f : ℕ) (xs : List (Option K)) (j : ℕ) → line_at rank f xs (f + j) ≡ get_or (ranked rank xs) j None
  line_is f xs j =
      let e : f + j - f ≡ j = omega arith in
      ap (λ (b : Bool). option_map rank (cond b None (get_or xs (f + j - f) None))) (le-ltb (f + j) f (omega arith))
      ∙ ap (λ (k : ℕ). option_map rank (get_or xs k None)) e ∙ ranked_at xs j

  pub ranked_length : (xs : List (Option K)) → length (ranked rank xs) ≡ length xs
  ranked_length xs = length-map xs (option_map rank)

  -- a line parts from the one before it
  pub parts_is : (f : ℕ) (xs : List (Option K)) (j : ℕ) → parts_at rank f xs (f + 1 + j) ≡ parts None same_line (ranked rank xs) j
  parts_is f xs j =
      let a : f + 1 + j - 1 ≡ f + j = omega arith in
      let b : f + 1 + j ≡ f + (j + 1) = omega arith in
      ap (λ (k : ℕ). not (same_line (line_at rank f xs k) (line_at rank f xs (f + 1 + j)))) a
      ∙ ap (λ (k : ℕ). not (same_line (line_at rank f xs (f + j)) (line_at rank f xs k))) b
      ∙ ap (λ (x : Line). not (same_line x (line_at rank f xs (f + (j + 1))))) (line_is f xs j)
      ∙ ap (λ (y : Line). not (same_line (get_or (ranked rank xs) j None) y)) (line_is f xs (j + 1))

-- the count of the lines that part is the turn
pub turn_counted : {K : Type 0} (rank : K → ℤ) (f : ℕ) (xs : List (Option K)) (n : ℕ) → f ≤ n → how_many_from (parts_at rank f xs) (f + 1) (n + 1 - (f + 1)) ≡ turn_at rank f xs n
turn_counted rank f xs n h =
    let e : n + 1 - (f + 1) ≡ n - f = omega arith in
    ap (how_many_from (parts_at rank f xs) (f + 1)) e
    ∙ count_same (λ j. parts_at rank f xs (f + 1 + j)) (parts None same_line (ranked rank xs)) (n - f) (λ j l. parts_is rank f xs j)

-- a walk in other numbers
shifted : (f : ℕ) (b : Bool) (x y : ℕ) → cond b (f + x) (f + y) ≡ f + cond b x y
shifted f true x y = refl
shifted f false x y = refl

walk_shift : (p q : ℕ → Bool) (f a m : ℕ) → 1 ≤ a → ((j : ℕ) → 1 ≤ j → p (f + j) ≡ q j) → walk p (f + a) m ≡ f + walk q a m
walk_shift p q f a zero l h = refl
walk_shift p q f a (suc m) l h =
    let e : f + a + 1 ≡ f + (a + 1) = omega arith in
    ap (λ (b : Bool). cond b (walk p (f + a + 1) m) (f + a)) (h a l)
    ∙ ap (λ (k : ℕ). cond (q a) (walk p k m) (f + a)) e
    ∙ ap (λ (k : ℕ). cond (q a) k (f + a)) (walk_shift p q f (a + 1) m (omega arith) h)
    ∙ shifted f (q a) (walk q (a + 1) m) a

flip : (b c : Bool) → not b ≡ c → b ≡ not c
flip true c e = ap not e
flip false c e = ap not e

-- a run goes on as long as the turn does
run_turn : (ys : List Line) (g a m : ℕ) → turn_of None same_line ys a ≡ g → walk (λ j. not (parts None same_line ys (j - 1))) (a + 1) m ≡ walk (λ j. ltb (turn_of None same_line ys j) (g + 1)) (a + 1) m
run_turn ys g a zero e = refl
run_turn ys g a (suc m) e =
    let d : a + 1 - 1 ≡ a = omega arith in
    let s : a + 1 ≡ suc a = omega arith in
    let p : ℕ → Bool = λ (j : ℕ). not (parts None same_line ys (j - 1)) in
    let q : ℕ → Bool = λ (j : ℕ). ltb (turn_of None same_line ys j) (g + 1) in
    ⊎_elim
    (λ (y : parts None same_line ys a ≡ true).
    let t : turn_of None same_line ys (a + 1) ≡ g + 1 = ap (turn_of None same_line ys) s ∙ count_yes (parts None same_line ys) a y ∙ ap (λ (n : ℕ). n + 1) e in
    let u : p (a + 1) ≡ false = ap (λ (k : ℕ). not (parts None same_line ys k)) d ∙ ap not y in
    let v : q (a + 1) ≡ false = le-ltb _ _ (omega arith) in
    ap (λ (b : Bool). cond b (walk p (a + 1 + 1) m) (a + 1)) u ∙ sym (ap (λ (b : Bool). cond b (walk q (a + 1 + 1) m) (a + 1)) v))
    (λ (n : parts None same_line ys a ≡ false).
    let t : turn_of None same_line ys (a + 1) ≡ g = ap (turn_of None same_line ys) s ∙ count_no (parts None same_line ys) a n ∙ e in
    let u : p (a + 1) ≡ true = ap (λ (k : ℕ). not (parts None same_line ys k)) d ∙ ap not n in
    let v : q (a + 1) ≡ true = lt-ltb _ _ (omega arith) in
    ap (λ (b : Bool). cond b (walk p (a + 1 + 1) m) (a + 1)) u ∙ run_turn ys g (a + 1) m t ∙ sym (ap (λ (b : Bool). cond b (walk q (a + 1 + 1) m) (a + 1)) v))
    (cases_Bool (parts None same_line ys a))

-- the end of the run that holds line i is the end of its turn
pub run_ends : (ys : List Line) (i : ℕ) → i < length ys → walk (λ j. not (parts None same_line ys (j - 1))) (i + 1) (length ys - (i + 1)) ≡ end_of None same_line ys (turn_of None same_line ys i)
run_ends ys i h =
    run_turn ys (turn_of None same_line ys i) i (length ys - (i + 1)) refl
    ∙ walk_counts (λ j. ltb (turn_of None same_line ys j) (turn_of None same_line ys i + 1)) (length ys) (i + 1) (front_turns None same_line ys (turn_of None same_line ys i + 1) (length ys)) (omega arith)
    (λ j l. lt-ltb _ _ (omega (arith, turn_rises None same_line ys j i (omega arith))))

module _ {K : Type 0} (rank : K → ℤ) (f : ℕ) (xs : List (Option K)) where
  alike_is : (j : ℕ) → 1 ≤ j → alike rank f xs (f + j) ≡ not (parts None same_line (ranked rank xs) (j - 1))
  alike_is j h =
      let e : f + j ≡ f + 1 + (j - 1) = omega arith in
      flip (alike rank f xs (f + j)) _ (ap (λ (n : ℕ). not (alike rank f xs n)) e ∙ parts_is rank f xs (j - 1))

  -- the end of a run, by line numbers
  pub run_ends_at : (n t : ℕ) → t ≡ total_of f xs → f ≤ n → n < t → walk (alike rank f xs) (n + 1) (t - (n + 1)) ≡ f + end_of None same_line (ranked rank xs) (turn_at rank f xs n)
  run_ends_at n t is low high =
      let i : ℕ = n - f in
      let len = ranked_length rank xs in
      let a : n + 1 ≡ f + (n - f + 1) = omega arith in
      let b : t - (n + 1) ≡ length (ranked rank xs) - (n - f + 1) = omega arith in
      ap (λ (k : ℕ). walk (alike rank f xs) k (t - (n + 1))) a
      ∙ ap (walk (alike rank f xs) (f + (n - f + 1))) b
      ∙ walk_shift (alike rank f xs) (λ j. not (parts None same_line (ranked rank xs) (j - 1))) f (n - f + 1) (length (ranked rank xs) - (n - f + 1)) (omega arith) alike_is
      ∙ ap (λ (k : ℕ). f + k) (run_ends (ranked rank xs) (n - f) (omega arith))

  -- where a walk over turns stops is the first line of turn k
  pub begins_at : (k at t : ℕ) → t ≡ total_of f xs → f ≤ at → at ≤ t → ((j : ℕ) → j < at - f → turn_of None same_line (ranked rank xs) j < k) → (at < t → k ≤ turn_at rank f xs at) → at ≡ turn_begins rank f xs k
  begins_at k at t is low high all stop =
      let len = ranked_length rank xs in
      let ys = ranked rank xs in
      let e = found (λ j. ltb (turn_of None same_line ys j) k) (length ys) (at - f) (front_turns None same_line ys k (length ys)) (omega arith) (λ j l. lt-ltb _ _ (all j l)) (λ l. le-ltb _ _ (stop (omega arith))) in
      omega arith

  -- the turn of a line is that of the one before it, or the next
  module _ (n : ℕ) (low : f < n) where
    is_next : turn_at rank f xs n ≡ turn_of None same_line (ranked rank xs) (suc (n - 1 - f))
    is_next = let s : n - f ≡ suc (n - 1 - f) = omega arith in ap (turn_of None same_line (ranked rank xs)) s

    parts_alike : parts None same_line (ranked rank xs) (n - 1 - f) ≡ not (alike rank f xs n)
    parts_alike =
        let a : n ≡ f + 1 + (n - 1 - f) = omega arith in
        sym (parts_is rank f xs (n - 1 - f)) ∙ ap (parts_at rank f xs) (sym a)

    pub turn_same : alike rank f xs n ≡ true → turn_at rank f xs n ≡ turn_at rank f xs (n - 1)
    turn_same y = is_next ∙ count_no (parts None same_line (ranked rank xs)) (n - 1 - f) (parts_alike ∙ ap not y)

    pub turn_next : alike rank f xs n ≡ false → turn_at rank f xs n ≡ turn_at rank f xs (n - 1) + 1
    turn_next y = is_next ∙ count_yes (parts None same_line (ranked rank xs)) (n - 1 - f) (parts_alike ∙ ap not y)

  -- whether a line is the same as the one before it, and in order, by the lines themselves
  pub alike_by : (n : ℕ) (x y : Option K) → x ≡ at_line f xs (n - 1) → y ≡ at_line f xs n → same_line (option_map rank x) (option_map rank y) ≡ alike rank f xs n
  alike_by n x y e d = ap (λ (z : Option K). same_line (option_map rank z) (option_map rank y)) e ∙ ap (λ (z : Option K). same_line (option_map rank (at_line f xs (n - 1))) (option_map rank z)) d

  pub orderly_by : (o : SortOptions) (n : ℕ) (x y : Option K) (b : Bool) → x ≡ at_line f xs n → y ≡ at_line f xs (n - 1) → b ≡ before o (option_map rank x) (option_map rank y) → orderly rank f xs o n ≡ not b
  orderly_by o n x y b h l e = ap not (sym (e ∙ ap (λ (z : Option K). before o (option_map rank z) (option_map rank y)) h ∙ ap (λ (z : Option K). before o (option_map rank (at_line f xs n)) (option_map rank z)) l))

  -- a line is the first of turn k if the one before it stands in an earlier one
  pub turn_begins_at : (k at t : ℕ) → t ≡ total_of f xs → f < at → at ≤ t → turn_at rank f xs (at - 1) < k → (at < t → k ≤ turn_at rank f xs at) → at ≡ turn_begins rank f xs k
  turn_begins_at k at t is low high before stop =
      begins_at k at t is (omega arith) high (λ j h. omega (arith, before, turn_rises None same_line (ranked rank xs) j (at - 1 - f) (omega arith))) stop
