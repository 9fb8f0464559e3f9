-- What a view over packed bytes answers.
use Rattle.std.proofs.Common.{◌≡◌, ℕ, ◌+◌, ◌-◌, ◌<◌, ◌≤◌, Bool, true, cond, List, [], map, length, get_or, take, drop, Ok, Err, Option, Result, IsOkAnd, sym, refl, ap, ◌∙◌, ⊎_elim, arith}
use Rattle.std.proofs.lemmas.List.{get_or_past, get_or_default, length-take-le, drop_all}
use Rattle.std.proofs.lemmas.Bool.{cases_lt, le-leb}
use Rattle.frame.specs.declared.refusal.Refusal.{Refusal}
use Rattle.transcript.specs.Lines.{too_many}
use Rattle.packed.specs.declared.view.PackedView.{PackedView}
use Rattle.packed.specs.Fields.{Line}
use Rattle.packed.specs.Scans.{walk_of, limited}
use Rattle.packed.specs.Views.{first_lines, behind, at_place, keyed, counted, view_of, Agrees, place_of, from_line}
use Rattle.packed.proofs.Walked.{cut, lines_at, gone, behind_at}

ok_with : {E : Type 0} (r : Result ℕ E) (m : ℕ) → IsOkAnd r (λ n. n ≡ m) → r ≡ Ok m
ok_with (Ok n) m h = ap Ok h
ok_with (Err e) m h = absurd h

-- the entries of the lines of a walk, and no others
pub cut_to : (es bs : List ℕ) (n : ℕ) → walk_of true es 0 0 bs ≡ Ok n → (length (take n es) ≡ n) × (walk_of true (take n es) 0 0 bs ≡ Ok (length (take n es)))
cut_to es bs n w =
    let c = cut true es 0 0 bs n (w ∙ ap Ok (omega arith)) in
    let l : length (take n es) ≡ n = length-take-le n es c.0 in
    (l, c.1 ∙ ap Ok (omega (arith, l)))

pub with_ok : {E : Type 0} (r : Result ℕ E) (m : ℕ) → r ≡ Ok m → IsOkAnd r (λ n. n ≡ m)
with_ok r m e = rw e refl

-- a view that is made
pub made_view : {K : Type 0} (reads : Line → Option K) (first : ℕ) (es bs : List ℕ) (n : ℕ) → first + n ≤ 4294967295 → walk_of true es 0 0 bs ≡ Ok n → Ok (first, map (λ p. keyed reads (at_place bs p)) (take n es)) ≡ view_of reads first es bs
made_view {K} reads first es bs n h w =
    let c = cut_to es bs n w in
    let z : walk_of true (take n es) 0 0 bs ≡ Ok (0 + length (take n es)) = c.1 ∙ ap Ok (omega arith) in
    ap (λ (ys : List (Option K)). Ok (first, ys)) (lines_at reads bs (take n es) 0 0 bs refl z ∙ ap (λ (k : ℕ). map reads (first_lines k bs)) c.0)
    ∙ sym (ap (λ (r : Result ℕ Refusal). counted reads first bs (limited first r)) w
    ∙ ap (λ (b : Bool). counted reads first bs (cond b (Ok n) (Err too_many))) (le-leb (first + n) 4294967295 h))

module _ {K : Type 0} (v : PackedView K) where
  pub agreed : Agrees v
  agreed = ok_with _ (length v.places.now) v.agrees

  counted_all : walk_of true v.places.now 0 0 v.bytes.now ≡ Ok (0 + length v.places.now)
  counted_all = agreed ∙ ap Ok (omega arith)

  -- an entry is a place in the bytes
  pub entry_within : (i p : ℕ) → i < length v.places.now → p ≡ get_or v.places.now i 0 → p ≤ length v.bytes.now
  entry_within i p h e = omega (arith, e, (behind_at v.bytes.now v.places.now 0 0 v.bytes.now (length v.places.now) i refl counted_all h).2)

  -- and so is where a line begins
  pub place_within : (i : ℕ) → place_of v i ≤ length v.bytes.now
  place_within i =
      ⊎_elim
      (λ (lt : i < length v.places.now). entry_within i (place_of v i) lt (get_or_default v.places.now i (length v.bytes.now) 0 lt))
      (λ (ge : length v.places.now ≤ i). omega (arith, get_or_past v.places.now i (length v.bytes.now) ge))
      (cases_lt i (length v.places.now))

  -- no line is left
  place_none : (i : ℕ) → length v.places.now ≤ i → drop (place_of v i) v.bytes.now ≡ []
  place_none i h = ap (λ (k : ℕ). drop k v.bytes.now) (get_or_past v.places.now i (length v.bytes.now) h) ∙ drop_all (length v.bytes.now) v.bytes.now (omega arith)

  -- the bytes from a line on
  pub handed : (n : ℕ) → from_line v n ≡ behind (n - v.first) v.bytes.now
  handed n =
      ⊎_elim
      (λ (lt : n - v.first < length v.places.now).
      ap (λ (k : ℕ). drop k v.bytes.now) (sym (get_or_default v.places.now (n - v.first) 0 (length v.bytes.now) lt)) ∙ sym (behind_at v.bytes.now v.places.now 0 0 v.bytes.now (length v.places.now) (n - v.first) refl counted_all lt).1)
      (λ (ge : length v.places.now ≤ n - v.first). place_none (n - v.first) ge ∙ sym (gone v.places.now 0 0 v.bytes.now (length v.places.now) (n - v.first) counted_all ge))
      (cases_lt (n - v.first) (length v.places.now))
