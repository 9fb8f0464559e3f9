-- The steps of a walk over the ends of turns.
use Rattle.std.proofs.Common.{◌≡◌, ℕ, ◌+◌, ◌-◌, ◌<◌, ◌≤◌, true, false, List, [], ◌∷◌, ◌++◌, map, length, take, drop, set, ℤ, None, Option, sym, refl, ap, ◌∙◌, ⊎_elim, arith}
use Rattle.std.proofs.lemmas.Bool.{cases_lt}
use Rattle.std.proofs.Math.Seq.{take-append-add}
use Rattle.std.proofs.lemmas.List.{append-nil, append_assoc, drop_all, drop-drop, drop-set-lt, length-append, length-take-le, take-append-drop, take_at, take_more_set}
use Rattle.meaning.specs.Lines.{Line, ranked}
use Rattle.meaning.specs.Turns.{turn_of, end_of, turn_ends}
use Rattle.meaning.specs.Clause.{same_line}
use Rattle.meaning.proofs.Growing.{moved_twice, ends_walk}
use Rattle.search.specs.Views.{total_of, turn_at}
use Rattle.search.proofs.Seeking.{ranked_length}
use Rattle.sitting.specs.Tables.{in_front}
use Rattle.tracker.specs.Walks.{ends_from, goes, walked}

-- a walk that does not go on, and one that has no more ends
pub walked_stop : (line entries : ℕ) (es : List ℕ) (k e : ℕ) → goes line entries k e ≡ false → walked line entries es k e ≡ (k, e)
walked_stop line entries [] k e h = refl
walked_stop line entries (q ∷ es) k e h = rw h refl

pub walked_go : (line entries : ℕ) (q : ℕ) (es : List ℕ) (k e : ℕ) → goes line entries k e ≡ true → walked line entries (q ∷ es) k e ≡ walked line entries es (k + 1) q
walked_go line entries q es k e h = rw h refl

-- r is the end of the turn of line p
pub record Step {K : Type 0} (rank : K → ℤ) (first : ℕ) (xs : List (Option K)) (p r : ℕ) : Type 0 where
  pub past : p < r
  pub within : r ≤ total_of first xs
  pub ends : ends_from rank first xs p ≡ r ∷ ends_from rank first xs r

module _ {K : Type 0} (rank : K → ℤ) (first : ℕ) (xs : List (Option K)) (p : ℕ) where
  pub step : (r : ℕ) → first ≤ p → p < total_of first xs → r ≡ first + end_of None same_line (ranked rank xs) (turn_at rank first xs p) → Step rank first xs p r
  step r low high is =
      let X = ranked rank xs in
      let n = p - first in
      let long : length X ≡ length xs = ranked_length rank xs in
      let e = end_of None same_line X (turn_of None same_line X n) in
      let w = ends_walk Line None same_line X n (omega arith) in
      let at : p ≡ first + n = omega arith in
      let back : e ≡ r - first = omega arith in
      let A = turn_ends None same_line (drop n X) in
      record {
        past = omega (arith, w.0);
        within = omega (arith, w.1);
        ends =
            ap (λ i. map (λ k. i + k) A) at
            ∙ sym (moved_twice first n A)
            ∙ ap (map (λ k. first + k)) w.2
            ∙ ap (λ zs. (first + e) ∷ zs) (moved_twice first e (turn_ends None same_line (drop e X)))
            ∙ ap (λ i. i ∷ map (λ k. i + k) (turn_ends None same_line (drop e X))) (sym is)
            ∙ ap (λ i. r ∷ map (λ k. r + k) (turn_ends None same_line (drop i X))) back;
      }

  pub no_more : total_of first xs ≤ p → ends_from rank first xs p ≡ []
  no_more h =
      let X = ranked rank xs in
      let long : length X ≡ length xs = ranked_length rank xs in
      ap (λ ys. map (λ k. p + k) (turn_ends None same_line ys)) (drop_all (p - first) X (omega arith))

-- a table of which the first entries are written: they and what is left to write are all
pub record Writing (all old now left : List ℕ) (at : ℕ) : Type 0 where
  pub front : take at now ++ left ≡ all
  pub behind : drop at now ≡ drop at old

pub write_next : (all old now left : List ℕ) (at r : ℕ) → at < length now → Writing all old now (r ∷ left) at → Writing all old (set now at r) left (at + 1)
write_next all old now left at r l w = record {
  front = ap (λ ys. ys ++ left) (take_more_set now at r l) ∙ append_assoc (take at now) (r ∷ []) left ∙ w.front;
  behind = drop-set-lt (at + 1) now at r (omega arith) ∙ sym (drop-drop 1 at now) ∙ ap (drop 1) w.behind ∙ drop-drop 1 at old;
}

pub write_done : (all old now left : List ℕ) (at : ℕ) → at ≤ length now → Writing all old now left at → now ≡ in_front (take at all) old
write_done all old now left at l w =
    let long : length (take at now) ≡ at = length-take-le at now l in
    let f : take at now ≡ take at all = sym (take_at (take at now) left at long) ∙ ap (take at) w.front in
    let n : at ≡ length (take at all) = sym (sym (ap length f) ∙ long) in
    sym (take-append-drop at now) ∙ ap (λ ys. ys ++ drop at now) f ∙ ap (λ ys. take at all ++ ys) w.behind ∙ ap (λ i. take at all ++ drop i old) n

-- as long as entries are to be written there are lines
pub more_lines : {K : Type 0} (rank : K → ℤ) (first : ℕ) (xs : List (Option K)) (p at : ℕ) (all old now : List ℕ) → at ≤ length now → at < length all → Writing all old now (ends_from rank first xs p) at → p < total_of first xs
more_lines rank first xs p at all old now l m w =
    let long : length (take at now) ≡ at = length-take-le at now l in
    ⊎_elim
    (λ (v : p < total_of first xs). v)
    (λ (u : total_of first xs ≤ p).
    let z : length (ends_from rank first xs p) ≡ 0 = ap length (no_more rank first xs p u) in
    absurd (omega (arith, length-append (take at now) (ends_from rank first xs p), ap length w.front)))
    (cases_lt p (total_of first xs))

-- where all entries of a part are written, they are all
pub all_written : (all old now left : List ℕ) (at : ℕ) → at ≡ length now → length old ≡ length now → at ≤ length all → Writing all old now left at → now ≡ take at all
all_written all old now left at whole same much w =
    let long : length (take at all) ≡ at = length-take-le at all much in
    write_done all old now left at (omega arith) w
    ∙ ap (λ ys. take at all ++ ys) (drop_all (length (take at all)) old (omega arith))
    ∙ append-nil (take at all)

-- a part written behind the first k entries, up to n of them
pub part_written : (old ends part now : List ℕ) (k n : ℕ) → k ≤ n → n ≤ length old → n - k ≤ length ends → part ≡ take (n - k) ends → take n now ≡ take k old ++ part → drop n now ≡ drop n old → now ≡ in_front (take n (take k old ++ ends)) old
part_written old ends part now k n low high much is front behind =
    let kept : length (take k old) ≡ k = length-take-le k old (omega arith) in
    let size : n ≡ length (take k old) + (n - k) = omega arith in
    let all : take n (take k old ++ ends) ≡ take k old ++ part = ap (λ i. take i (take k old ++ ends)) size ∙ take-append-add (take k old) ends (n - k) ∙ ap (λ ys. take k old ++ ys) (sym is) in
    let long : length (take n (take k old ++ ends)) ≡ n = length-take-le n (take k old ++ ends) (omega (arith, length-append (take k old) ends)) in
    sym (take-append-drop n now)
    ∙ ap (λ ys. ys ++ drop n now) (front ∙ sym all)
    ∙ ap (λ ys. take n (take k old ++ ends) ++ ys) behind
    ∙ ap (λ i. take n (take k old ++ ends) ++ drop i old) (sym long)
