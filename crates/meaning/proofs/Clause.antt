-- The laws of a whole clause.
use Rattle.std.proofs.Common.{◌≡◌, ℕ, zero, suc, ◌+◌, ◌-◌, ◌<◌, ◌≤◌, true, false, ltb, List, length, get_or, take, ℤ, pos, negsuc, is_some, Some, None, Decides, sym, refl, ap, ◌∙◌, ⊎_elim, arith}
use Rattle.std.proofs.lemmas.Bool.{both_ways, cases_lt, not_from_false, not-true, lt-ltb, le-ltb, ltb-true, ltb-false, eqb-true, eqb-false, eq-eqb}
use Rattle.std.proofs.lemmas.Bool.Decides.{nat_tests}
use Rattle.std.proofs.lemmas.List.{get_or-take, length-take-le}
use Rattle.frame.specs.declared.bound.WindowFrameBound.{WindowFrameBound}
use Rattle.frame.specs.declared.bound.WindowFrameBound.TheVariants.{UnboundedPreceding, Preceding, CurrentRow, Following, UnboundedFollowing}
use Rattle.meaning.specs.Lines.{Line}
use Rattle.meaning.specs.Rows.{rows_start, rows_end}
use Rattle.meaning.specs.Turns.{turn_of, first_of, groups_start, groups_end}
use Rattle.meaning.specs.declared.options.SortOptions.{SortOptions}
use Rattle.meaning.specs.Ranges.{before, lead, reach, range_start, range_end, InOrder}
use Rattle.frame.specs.declared.bound.WindowFrameUnits.{WindowFrameUnits}
use Rattle.frame.specs.declared.bound.WindowFrameUnits.TheVariants.{Rows, Range, Groups}
use Rattle.frame.specs.Bounds.{causal}
use Rattle.meaning.specs.Clause.{same_rank, same_line, starts, ends, Fit, Settled, FromOn, UpTo, LineFromOn, LineUpTo, From, To}
use Rattle.meaning.specs.Laws.{SameDecides, ClauseHolds, RangeUnsettled, ClauseLawful, ClauseMonotone, ClauseCausal, ClauseView, ClauseTracked, two, ClauseNotCausal}
use Rattle.meaning.proofs.Edges.{monotone}
use Rattle.meaning.proofs.Edges as E
use Rattle.meaning.proofs.RowEdges as R
use Rattle.meaning.proofs.Turns as G
use Rattle.meaning.proofs.Ranges as V

pub clause_lawful : ClauseLawful
clause_lawful o Rows b F h = (R.start_lawful F b, R.end_lawful F b)
clause_lawful o Range b F h = (V.start_lawful o F h b, V.end_lawful o F h b)
clause_lawful o Groups b F h = (G.start_lawful None same_line F b, G.end_lawful None same_line F b)

pub clause_monotone : ClauseMonotone
clause_monotone o u b F h = let s = clause_lawful o u b F h in (monotone F (starts o u b) s.0, monotone F (ends o u b) s.1)

marked : (x : Line) → is_some x ≡ true → (a : ℤ) × (x ≡ Some a)
marked (Some a) h = (a, refl)
marked None h = absurd (both_ways _ refl h)

early : (o : SortOptions) (u : WindowFrameUnits) (e : WindowFrameBound) (F : List Line) (i : ℕ) → Fit o u F → causal u e ≡ true → Settled u F i → i < length F → ends o u e F i ≤ i + 1
early o Rows UnboundedPreceding F i f c s l = omega arith
early o Rows (Preceding n) F i f c s l = grind (arith, nat_tests)
early o Rows CurrentRow F i f c s l = omega arith
early o Rows (Following n) F i f c s l = let z = eqb-true n 0 c in omega arith
early o Rows UnboundedFollowing F i f c s l = absurd (both_ways _ refl c)
early o Range UnboundedPreceding F i f c s l = absurd (both_ways _ refl c)
early o Range (Preceding n) F i f c s l = let m = marked (get_or F i None) s in V.end_early o F f n i m.0 (ltb-true 0 n c) l m.1
early o Range CurrentRow F i f c s l = absurd (both_ways _ refl c)
early o Range (Following n) F i f c s l = absurd (both_ways _ refl c)
early o Range UnboundedFollowing F i f c s l = absurd (both_ways _ refl c)
early o Groups UnboundedPreceding F i f c s l = absurd (both_ways _ refl c)
early o Groups (Preceding n) F i f c s l = G.end_early None same_line F n i (ltb-true 0 n c) l
early o Groups CurrentRow F i f c s l = absurd (both_ways _ refl c)
early o Groups (Following n) F i f c s l = absurd (both_ways _ refl c)
early o Groups UnboundedFollowing F i f c s l = absurd (both_ways _ refl c)

pub clause_causal : ClauseCausal
clause_causal o u b e F i f c s t v l = E.causal F (starts o u b) (ends o u e) i (clause_lawful o u b F f).0 (clause_lawful o u e F f).1 (early o u e F i f c s (omega arith)) t v l

-- a front of lines in order is in order
fit_take : (o : SortOptions) (u : WindowFrameUnits) (F : List Line) (t : ℕ) → t ≤ length F → Fit o u F → Fit o u (take t F)
fit_take o Rows F t l h = h
fit_take o Range F t l h =
    λ j w.
    let n : length (take t F) ≡ t = length-take-le t F l in
    let a = get_or-take t F j None (omega arith) in
    let b = get_or-take t F (j + 1) None (omega arith) in
    rw (a, b) (h j (omega arith))
fit_take o Groups F t l h = h

pub clause_view : ClauseView
clause_view o u b F h f t i v w l =
    let n : length (take t F) ≡ t = length-take-le t F l in
    let g = fit_take o u F t l h in
    let s = clause_lawful o u b (take t F) g in
    (omega (arith, s.0.rest f i v (omega arith)), omega (arith, s.1.rest f i v (omega arith)))

pub clause_tracked : ClauseTracked
clause_tracked o u b e F h f t i s k v w q z l g p r =
    let a = clause_view o u b F h f s k (omega arith) z l in
    let c = clause_view o u e F h f s k (omega arith) z l in
    let m = (clause_monotone o u b F h).0 t s i k q w v z l in
    let n = (clause_monotone o u e F h).1 t s i k q w v z l in
    (omega (arith, a.0), omega (arith, c.1))

two_sorted : (o : SortOptions) → InOrder o two
two_sorted o zero l = refl
two_sorted o (suc j) l = absurd (omega arith)

pub clause_not_causal : ClauseNotCausal
clause_not_causal o u UnboundedPreceding h c = absurd (h refl)
clause_not_causal o Rows (Preceding n) h c = absurd (both_ways _ c refl)
clause_not_causal o Rows CurrentRow h c = absurd (both_ways _ c refl)
clause_not_causal o Rows (Following n) h c = (tt, omega arith, omega (arith, eqb-false n 0 c))
clause_not_causal o Rows UnboundedFollowing h c = (tt, refl, refl)
clause_not_causal o Range (Preceding n) h c = (two_sorted o, refl, refl)
clause_not_causal o Range CurrentRow h c = (two_sorted o, refl, refl)
clause_not_causal o Range (Following n) h c = (two_sorted o, refl, refl)
clause_not_causal o Range UnboundedFollowing h c = (two_sorted o, refl, refl)
clause_not_causal o Groups (Preceding n) h c = let z : n ≡ 0 = omega (arith, ltb-false 0 n c) in rw z (tt, refl, refl)
clause_not_causal o Groups CurrentRow h c = (tt, refl, refl)
clause_not_causal o Groups (Following n) h c = let z : ltb 0 (0 + n + 1) ≡ true = lt-ltb _ _ (omega arith) in (tt, simp z, simp z)
clause_not_causal o Groups UnboundedFollowing h c = (tt, refl, refl)

-- both ways
abbrev Iff : Type 0 → Type 0 → Type 0
Iff A B = (A → B) × (B → A)

module _ {L : Type 0} (F : List L) (i j : ℕ) (l : j < length F) where
  rows_from : (b : WindowFrameBound) → Iff (rows_start b F i ≤ j) (FromOn b i j)
  rows_from UnboundedPreceding = (λ h. tt, λ h. omega arith)
  rows_from (Preceding n) = (λ h. omega arith, λ h. omega arith)
  rows_from CurrentRow = (λ h. h, λ h. h)
  rows_from (Following n) = (λ h. omega arith, λ h. omega arith)
  rows_from UnboundedFollowing = (λ h. omega arith, λ h. absurd h)

  rows_to : (b : WindowFrameBound) → Iff (j < rows_end b F i) (UpTo b i j)
  rows_to UnboundedPreceding = (λ h. omega arith, λ h. absurd h)
  rows_to (Preceding n) = (λ h. grind (arith, nat_tests), λ h. grind (arith, nat_tests))
  rows_to CurrentRow = (λ h. omega arith, λ h. omega arith)
  rows_to (Following n) = (λ h. omega arith, λ h. omega arith)
  rows_to UnboundedFollowing = (λ h. tt, λ h. l)

module _ (F : List Line) (i j : ℕ) (l : j < length F) where
  turn_from : (k : ℕ) → Iff (first_of None same_line F k ≤ j) (k ≤ turn_of None same_line F j)
  turn_from k = G.begins_by None same_line F k j l

  turn_to : (k : ℕ) → Iff (j < first_of None same_line F k) (turn_of None same_line F j < k)
  turn_to k = (
    λ h. ⊎_elim (λ (w : turn_of None same_line F j < k). w) (λ (w : k ≤ turn_of None same_line F j). absurd (omega (arith, (turn_from k).1 w))) (cases_lt (turn_of None same_line F j) k),
    λ h. ⊎_elim (λ (w : j < first_of None same_line F k). w) (λ (w : first_of None same_line F k ≤ j). absurd (omega (arith, (turn_from k).0 w))) (cases_lt j (first_of None same_line F k)),
  )

  groups_from : (b : WindowFrameBound) → Iff (groups_start None same_line b F i ≤ j) (FromOn b (turn_of None same_line F i) (turn_of None same_line F j))
  groups_from UnboundedPreceding = (λ h. tt, λ h. omega arith)
  groups_from (Preceding n) = (λ h. omega (arith, (turn_from _).0 h), λ h. (turn_from _).1 (omega arith))
  groups_from CurrentRow = turn_from (turn_of None same_line F i)
  groups_from (Following n) = turn_from (turn_of None same_line F i + n)
  groups_from UnboundedFollowing = (λ h. omega arith, λ h. absurd h)

  groups_to : (b : WindowFrameBound) → Iff (j < groups_end None same_line b F i) (UpTo b (turn_of None same_line F i) (turn_of None same_line F j))
  groups_to UnboundedPreceding = (λ h. omega arith, λ h. absurd h)
  groups_to (Preceding n) =
      let e = G.end_before None same_line F F (turn_of None same_line F i) n in
      let k = turn_of None same_line F i + 1 - n in
      (λ h. omega (arith, (turn_to k).0 (rw e at h)), λ h. rw e ((turn_to k).1 (omega arith)))
  groups_to CurrentRow = (λ h. omega (arith, (turn_to _).0 h), λ h. (turn_to _).1 (omega arith))
  groups_to (Following n) = (λ h. omega (arith, (turn_to _).0 h), λ h. (turn_to _).1 (omega arith))
  groups_to UnboundedFollowing = (λ h. tt, λ h. l)

  module _ (o : SortOptions) (s : InOrder o F) where
    line_from : (y : Line) → Iff (lead o F y ≤ j) (before o (get_or F j None) y ≡ false)
    line_from y = let e = (V.range_fronts o F s y j l).0 in (λ h. e ∙ le-ltb _ _ h, λ h. ltb-false _ _ (sym e ∙ h))

    line_to : (y : Line) → Iff (j < reach o F y) (before o y (get_or F j None) ≡ false)
    line_to y = let e = (V.range_fronts o F s y j l).1 in (λ h. not-true _ (e ∙ lt-ltb _ _ h), λ h. ltb-true _ _ (sym e ∙ not_from_false _ h))

    range_from : (b : WindowFrameBound) → Iff (range_start o b F i ≤ j) (LineFromOn o b (get_or F i None) (get_or F j None))
    range_from UnboundedPreceding = (λ h. tt, λ h. omega arith)
    range_from (Preceding n) = line_from _
    range_from CurrentRow = line_from _
    range_from (Following n) = line_from _
    range_from UnboundedFollowing = (λ h. omega arith, λ h. absurd h)

    range_to : (b : WindowFrameBound) → Iff (j < range_end o b F i) (LineUpTo o b (get_or F i None) (get_or F j None))
    range_to UnboundedPreceding = (λ h. omega arith, λ h. absurd h)
    range_to (Preceding n) = line_to _
    range_to CurrentRow = line_to _
    range_to (Following n) = line_to _
    range_to UnboundedFollowing = (λ h. tt, λ h. l)

from_is : (o : SortOptions) (u : WindowFrameUnits) (b : WindowFrameBound) (F : List Line) → Fit o u F → (i j : ℕ) → j < length F → Iff (starts o u b F i ≤ j) (From o u b F i j)
from_is o Rows b F h i j l = rows_from F i j l b
from_is o Range b F h i j l = range_from F i j l o h b
from_is o Groups b F h i j l = groups_from F i j l b

to_is : (o : SortOptions) (u : WindowFrameUnits) (b : WindowFrameBound) (F : List Line) → Fit o u F → (i j : ℕ) → j < length F → Iff (j < ends o u b F i) (To o u b F i j)
to_is o Rows b F h i j l = rows_to F i j l b
to_is o Range b F h i j l = range_to F i j l o h b
to_is o Groups b F h i j l = groups_to F i j l b

pub clause_holds : ClauseHolds
clause_holds o u b e F h i j v l =
    let p = from_is o u b F h i j l in
    let q = to_is o u e F h i j l in
    (λ w. (p.0 w.from, q.0 w.below), λ w. record { from = p.1 w.0; below = q.1 w.1 })

pub range_unsettled : RangeUnsettled
range_unsettled o n = (refl, refl)

rank_decides : (a b : ℤ) → Decides (same_rank a b) (a ≡ b)
rank_decides (pos a) (pos b) = (λ h. ap pos (eqb-true a b h), λ e. eq-eqb a b (cc))
rank_decides (pos a) (negsuc b) = (λ h. cc, λ e. cc)
rank_decides (negsuc a) (pos b) = (λ h. cc, λ e. cc)
rank_decides (negsuc a) (negsuc b) = (λ h. ap negsuc (eqb-true a b h), λ e. eq-eqb a b (cc))

pub same_decides : SameDecides
same_decides (Some a) (Some b) = (λ h. ap Some ((rank_decides a b).0 h), λ e. (rank_decides a b).1 (cc))
same_decides (Some a) None = (λ h. cc, λ e. cc)
same_decides None (Some b) = (λ h. cc, λ e. cc)
same_decides None None = (λ h. refl, λ e. refl)
