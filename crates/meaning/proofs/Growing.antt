-- A table's last turn goes on as lines come in.
use Rattle.std.proofs.Common.{◌≡◌, ℕ, suc, ◌+◌, ◌-◌, ◌<◌, ◌≤◌, Bool, true, false, ltb, List, [], ◌∷◌, ◌++◌, map, length, get_or, take, drop, filter, sym, refl, ap, ◌∙◌, subst, ⊎_elim, arith}
use mathlib.Core.List.{map-append}
use lib.ListN.{length-map}
use Rattle.std.specs.List.{range_with_len, AllByRecursion}
use Rattle.std.proofs.lemmas.Bool.{cases_lt, cases_Bool, ltb-true, ltb-false, lt-ltb, le-ltb}
use Rattle.std.proofs.ByRecursion.{All-get_or, all_kept_by, All-weaker}
use Rattle.std.proofs.lemmas.List.{get_or-take, get_or-map, get_or_default, get_or_append_left, drop_all, drop-drop, drop-take, length-drop, length-take, length-take-le, take_at, take_all, take-take, take-map}
use Rattle.frame.specs.declared.bound.WindowFrameBound.TheVariants.{CurrentRow}
use Rattle.meaning.specs.Turns.{parts, turn_of, is_end, turn_ends, end_of, last_held, table, grown, EndsGrow, EndsWalk, TableGrows}
use Rattle.meaning.proofs.Counts.{count_le, count_yes, count_no, front_first}
use Rattle.meaning.proofs.Turns.{front_turns, begins_by, end_take, groups_lawful}
use Rattle.meaning.proofs.Ends.{kept_same, many_ends, ends_listed}
use Rattle.meaning.proofs.Table.{counted_all, split_ends, split_length, table_rest}

-- numbers moved on twice
pub moved_twice : (f q : ℕ) (es : List ℕ) → map (λ e. f + e) (map (λ e. q + e) es) ≡ map (λ e. f + q + e) es
moved_twice f q [] = refl
moved_twice f q (e ∷ es) =
    let a : f + (q + e) ≡ f + q + e = omega arith in
    rw a (ap (λ zs. (f + q + e) ∷ zs) (moved_twice f q es))

module _ {L : Type 0} (none : L) (same : L → L → Bool) where
  -- every end lies past the first line
  ends_above : (xs : List L) → AllByRecursion (λ e. 0 < e) (turn_ends none same xs)
  ends_above xs =
      let n = length xs in
      all_kept_by (is_end none same xs) (λ e. 0 < e) (range_with_len 1 n)
      (All-weaker (λ e. (1 ≤ e) × (e < 1 + n)) (λ e. 0 < e) (λ e h. omega (arith, h.0)) (range_with_len 1 n) (counted_all 1 n))

  -- no step counts more than one turn on
  one_more : (xs : List L) (j : ℕ) → turn_of none same xs (suc j) ≤ turn_of none same xs j + 1
  one_more xs j =
      ⊎_elim
      (λ (y : parts none same xs j ≡ true). omega (arith, count_yes (parts none same xs) j y))
      (λ (z : parts none same xs j ≡ false). omega (arith, count_no (parts none same xs) j z))
      (cases_Bool (parts none same xs j))

  -- line q is the last of turn r
  module _ (xs : List L) (r q : ℕ) (l : r < length (turn_ends none same xs)) (e : get_or (turn_ends none same xs) r 0 ≡ q + 1) where
    ends_after : end_of none same xs r ≡ q + 1
    ends_after = sym ((ends_listed L none same xs).end_is r) ∙ get_or_default (turn_ends none same xs) r (length xs) 0 l ∙ e

    inside : q < length xs
    inside = omega (arith, ends_after, count_le (λ j. ltb (turn_of none same xs j) (r + 1)) (length xs))

    last_line_of : turn_of none same xs q ≡ r
    last_line_of =
        let p : ℕ → Bool = λ j. ltb (turn_of none same xs j) (r + 1) in
        let n = ends_after in
        let m = inside in
        let first : (j : ℕ) → j < length xs → p j ≡ ltb j (q + 1) = λ j v. front_first p (length xs) j (front_turns none same xs (r + 1) (length xs)) v ∙ ap (ltb j) n in
        let high = ltb-true _ _ (first q m ∙ lt-ltb q (q + 1) (omega arith)) in
        let many = many_ends none same xs (length xs - 1) (omega arith) in
        ⊎_elim
        (λ (v : suc q < length xs).
        let low = ltb-false _ _ (first (suc q) v ∙ le-ltb (suc q) (q + 1) (omega arith)) in
        omega (arith, one_more xs q))
        (λ (w : length xs ≤ suc q).
        let d : length xs - 1 ≡ q = omega arith in
        let t : turn_of none same xs (length xs - 1) ≡ turn_of none same xs q = ap (turn_of none same xs) d in
        omega arith)
        (cases_lt (suc q) (length xs))

    ends_before : take r (turn_ends none same xs) ≡ filter (is_end none same xs) (range_with_len 1 q)
    ends_before =
        let A = filter (is_end none same xs) (range_with_len 1 q) in
        let B = map (λ e. q + e) (turn_ends none same (drop q xs)) in
        ap (take r) (split_ends none same xs q inside) ∙ take_at A B r (split_length none same xs q inside ∙ last_line_of)

  module _ (f : ℕ) (xs : List L) where
    grown_none : (es : List ℕ) → length es ≡ 0 → grown none same f es xs ≡ map (λ e. f + e) (turn_ends none same xs)
    grown_none [] h =
        let a : f + 1 - 1 ≡ f = omega arith in
        let b : f - f ≡ 0 = omega arith in
        rw (a, b)
    grown_none (e ∷ es) h = absurd (omega arith)

    -- the entries of the first turns of a front, up to turn r
    module _ (s r q : ℕ) (h : s ≤ length xs) (l : r < length (turn_ends none same (take s xs))) (e : get_or (turn_ends none same (take s xs)) r 0 ≡ q + 1) where
      held : q < s
      held = omega (arith, inside (take s xs) r q l e, length-take-le s xs h)

      closed : take r (turn_ends none same (take s xs)) ≡ filter (is_end none same xs) (range_with_len 1 q)
      closed =
          let v = held in
          ends_before (take s xs) r q l e
          ∙ kept_same (is_end none same (take s xs)) (is_end none same xs) 1 q (λ j a b.
          end_take none same xs s j h (omega arith) (omega arith)
          ∙ sym (end_take none same xs (length xs) j (omega arith) (omega arith) (omega arith))
          ∙ ap (λ ys. is_end none same ys j) (take_all (length xs) xs (omega arith)))

      all_ends : map (λ e. f + e) (take r (turn_ends none same (take s xs))) ++ map (λ e. f + q + e) (turn_ends none same (drop q xs)) ≡ map (λ e. f + e) (turn_ends none same xs)
      all_ends =
          let A = filter (is_end none same xs) (range_with_len 1 q) in
          let B = turn_ends none same (drop q xs) in
          let v : q < length xs = omega (arith, held) in
          ap (λ zs. map (λ e. f + e) zs ++ map (λ e. f + q + e) B) closed
          ∙ ap (λ zs. map (λ e. f + e) A ++ zs) (sym (moved_twice f q B))
          ∙ sym (map-append (λ e. f + e) A (map (λ e. q + e) B))
          ∙ ap (map (λ e. f + e)) (sym (split_ends none same xs q v))

  grown_some : (f k s : ℕ) (xs : List L) → s ≤ length xs → 0 < length (take k (turn_ends none same (take s xs))) → grown none same f (map (λ e. f + e) (take k (turn_ends none same (take s xs)))) xs ≡ map (λ e. f + e) (turn_ends none same xs)
  grown_some f k s xs h some =
      let E = turn_ends none same (take s xs) in
      let T = take k E in
      let es = map (λ e. f + e) T in
      let r = length T - 1 in
      let long : length es ≡ length T = length-map T (λ e. f + e) in
      let fits = length-take k E in
      let within : r < length E = omega arith in
      let in_t : r < length T = omega arith in
      let read : get_or T r 0 ≡ get_or E r 0 = get_or-take k E r 0 (omega arith) in
      let q = get_or E r 0 - 1 in
      let above : 0 < get_or E r 0 = All-get_or (λ e. 0 < e) E r 0 within (ends_above (take s xs)) in
      let is : get_or E r 0 ≡ q + 1 = omega arith in
      let last : last_held f es ≡ f + q =
      ap (λ n. get_or es (n - 1) (f + 1) - 1) long ∙ ap (λ n. n - 1) (get_or-map (λ e. f + e) T r 0 (f + 1) in_t) ∙ omega arith in
      let rest : last_held f es - f ≡ q = omega arith in
      let front : take (length es - 1) es ≡ map (λ e. f + e) (take r E) =
      ap (λ n. take (n - 1) es) long ∙ take-map (λ e. f + e) r T ∙ ap (map (λ e. f + e)) (take-take r k E (omega arith)) in
      ap (λ zs. zs ++ map (λ e. last_held f es + e) (turn_ends none same (drop (last_held f es - f) xs))) front
      ∙ ap (λ n. map (λ e. f + e) (take r E) ++ map (λ e. n + e) (turn_ends none same (drop (last_held f es - f) xs))) last
      ∙ ap (λ n. map (λ e. f + e) (take r E) ++ map (λ e. f + q + e) (turn_ends none same (drop n xs))) rest
      ∙ all_ends f xs s r q h within is

pub ends_grow : (L : Type 0) → EndsGrow L
ends_grow L none same f k s xs h =
    let T = take k (turn_ends none same (take s xs)) in
    ⊎_elim
    (λ (v : 0 < length T). grown_some none same f k s xs h v)
    (λ (w : length T ≤ 0). let n = length-map T (λ e. f + e) in grown_none none same f xs (map (λ e. f + e) T) (omega arith))
    (cases_lt 0 (length T))

module _ {L : Type 0} (none : L) (same : L → L → Bool) where
  -- a list of one
  only : (es : List ℕ) (d : ℕ) → length es ≡ 1 → es ≡ get_or es 0 d ∷ []
  only [] d h = absurd (omega arith)
  only (e ∷ []) d h = refl
  only (e ∷ e' ∷ es) d h = absurd (omega arith)

  -- the first turn, and those of the lines behind it
  module _ (xs : List L) (l : 0 < length xs) where
    many : length (turn_ends none same xs) ≡ turn_of none same xs (length xs - 1) + 1
    many = many_ends none same xs (length xs - 1) (omega arith)

    head : get_or (turn_ends none same xs) 0 0 ≡ end_of none same xs 0
    head = get_or_default (turn_ends none same xs) 0 0 (length xs) (omega (arith, many)) ∙ (ends_listed L none same xs).end_is 0

    positive : 0 < end_of none same xs 0
    positive = omega (arith, head, All-get_or (λ e. 0 < e) (turn_ends none same xs) 0 0 (omega (arith, many)) (ends_above none same xs))

    first_end : turn_ends none same xs ≡ end_of none same xs 0 ∷ map (λ e. end_of none same xs 0 + e) (turn_ends none same (drop (end_of none same xs 0) xs))
    first_end =
        let e = end_of none same xs 0 in
        let es = turn_ends none same xs in
        let q = e - 1 in
        let pos = positive in
        let within : 0 < length es = omega (arith, many) in
        let is : get_or es 0 0 ≡ q + 1 = omega (arith, head) in
        let t = last_line_of none same xs 0 q within is in
        let m = inside none same xs 0 q within is in
        ⊎_elim
        (λ (v : e < length xs).
        let A = filter (is_end none same xs) (range_with_len 1 e) in
        let B = map (λ k. e + k) (turn_ends none same (drop e xs)) in
        let p : ℕ → Bool = λ j. ltb (turn_of none same xs j) 1 in
        let low = ltb-false _ _ (front_first p (length xs) e (front_turns none same xs 1 (length xs)) v ∙ le-ltb e e (omega arith)) in
        let d : suc q ≡ e = omega arith in
        let P : ℕ → Type 0 = λ k. turn_of none same xs k ≤ turn_of none same xs q + 1 in
        let high : P e = subst P d (one_more none same xs q) in
        let s = split_ends none same xs e v in
        let one : length A ≡ 1 = split_length none same xs e v ∙ omega arith in
        let a : get_or A 0 0 ≡ e = sym (get_or_append_left A B 0 0 (omega arith)) ∙ ap (λ zs. get_or zs 0 0) (sym s) ∙ head in
        s ∙ ap (λ zs. zs ++ B) (only A 0 one) ∙ ap (λ k. k ∷ B) a)
        (λ (w : length xs ≤ e).
        let d : length xs - 1 ≡ q = omega arith in
        let c : turn_of none same xs (length xs - 1) ≡ turn_of none same xs q = ap (turn_of none same xs) d in
        let one : length es ≡ 1 = omega (arith, many) in
        let none_left : drop e xs ≡ [] = drop_all e xs w in
        only es 0 one ∙ ap (λ k. k ∷ []) head ∙ ap (λ ys. e ∷ map (λ k. e + k) (turn_ends none same ys)) (sym none_left))
        (cases_lt e (length xs))

  -- from any line on: the end of its turn, and the ends past that
  walks : (xs : List L) (n : ℕ) → n < length xs → let e = end_of none same xs (turn_of none same xs n) in map (λ k. n + k) (turn_ends none same (drop n xs)) ≡ e ∷ map (λ k. e + k) (turn_ends none same (drop e xs))
  walks xs n l =
      let e = end_of none same xs (turn_of none same xs n) in
      let ys = drop n xs in
      let d = end_of none same ys 0 in
      let long : length ys ≡ length xs - n = length-drop n xs in
      let z : n - n ≡ 0 = omega arith in
      let cut : d ≡ e - n = rw z at ((groups_lawful L none same xs CurrentRow).1.rest n n (omega arith) l) in
      let pos = positive ys (omega arith) in
      let is : n + d ≡ e = omega arith in
      ap (map (λ k. n + k)) (first_end ys (omega arith))
      ∙ ap (λ zs. (n + d) ∷ zs) (moved_twice n d (turn_ends none same (drop d ys)))
      ∙ ap (λ ys. (n + d) ∷ map (λ k. n + d + k) (turn_ends none same ys)) (drop-drop d n xs)
      ∙ ap (λ i. i ∷ map (λ k. i + k) (turn_ends none same (drop i xs))) is

  -- a turn ends past each of its lines
  ends_past : (xs : List L) (n : ℕ) → n < length xs → n < end_of none same xs (turn_of none same xs n)
  ends_past xs n l =
      let e = end_of none same xs (turn_of none same xs n) in
      ⊎_elim
      (λ (v : n < e). v)
      (λ (w : e ≤ n). absurd (omega (arith, (begins_by none same xs (turn_of none same xs n + 1) n l).0 w)))
      (cases_lt n e)

pub ends_walk : (L : Type 0) → EndsWalk L
ends_walk L none same xs n l =
    (ends_past none same xs n l, count_le (λ j. ltb (turn_of none same xs j) (turn_of none same xs n + 1)) (length xs), walks none same xs n l)

pub table_grows : (L : Type 0) → TableGrows L
table_grows L none same F f s t r h l m v =
    let k = r + 1 - turn_of none same (take s F) f in
    let xs = drop f (take t F) in
    let long : length (take s F) ≡ s = length-take-le s F (omega arith) in
    let all : length xs ≡ t - f = length-drop f (take t F) ∙ ap (λ n. n - f) (length-take-le t F m) in
    let a : f + (s - f) ≡ s = omega arith in
    let b : f + (t - f) ≡ t = omega arith in
    let cut : (n : ℕ) → f + (n - f) ≡ n → drop f (take n F) ≡ take (n - f) (drop f F) = λ n e. ap (λ j. drop f (take j F)) (sym e) ∙ drop-take f (n - f) F in
    let front : drop f (take s F) ≡ take (s - f) xs =
    cut s a ∙ sym (take-take (s - f) (t - f) (drop f F) (omega arith)) ∙ ap (take (s - f)) (sym (cut t b)) in
    let held : table none same (take s F) f r ≡ map (λ e. f + e) (take k (turn_ends none same (take (s - f) xs))) =
    table_rest none same (take s F) f (omega arith) r k (omega arith) ∙ ap (λ ys. map (λ e. f + e) (take k (turn_ends none same ys))) front in
    ap (λ es. grown none same f es xs) held ∙ ends_grow L none same f k (s - f) xs (omega arith)
