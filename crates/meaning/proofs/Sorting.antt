-- Walks over lines in order.
use Rattle.std.proofs.Common.{ℕ, Bool, not, length, get_or, None, sym, ◌∙◌, arith}
use Rattle.std.proofs.lemmas.Bool.{lt-ltb}
use Rattle.meaning.specs.Ranges.{before, RangeWalked}
use Rattle.meaning.proofs.Counts.{count_le}
use Rattle.meaning.proofs.Ranges.{count_list, lead_front, reach_front, range_fronts}
use Rattle.meaning.proofs.Walking.{walk_counts}

pub range_walked : RangeWalked
range_walked o F s y a =
    let p : ℕ → Bool = λ (j : ℕ). before o (get_or F j None) y in
    let q : ℕ → Bool = λ (j : ℕ). not (before o y (get_or F j None)) in
    let c = count_list (λ x. before o x y) None F in
    let d = count_list (λ x. not (before o y x)) None F in
    let m = count_le p (length F) in
    let n = count_le q (length F) in (
      λ h. walk_counts p (length F) a (lead_front o F s y) (omega arith) (λ j l. (range_fronts o F s y j (omega arith)).0 ∙ lt-ltb _ _ (omega arith)) ∙ sym c,
      λ h. walk_counts q (length F) a (reach_front o F s y) (omega arith) (λ j l. (range_fronts o F s y j (omega arith)).1 ∙ lt-ltb _ _ (omega arith)) ∙ sym d,
    )
