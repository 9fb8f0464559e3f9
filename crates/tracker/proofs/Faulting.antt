-- A question's first fault, by the check that finds it.
use Rattle.std.proofs.Common.{◌≡◌, ℕ, ◌+◌, ◌<◌, ◌≤◌, List, Some, length, eq-eqb}
use Rattle.std.proofs.lemmas.Bool.{lt-ltb, le-ltb, le-leb, lt-leb}
use Rattle.frame.specs.declared.refusal.Reason.TheVariants.{TotalFell, LineNotShown, LineBeforeLast}
use Rattle.frame.specs.Frames.{Frame}
use Rattle.meaning.specs.declared.options.SortOptions.{SortOptions}
use Rattle.meaning.specs.Lines.{Line}
use Rattle.sitting.specs.State.{Grant}
use Rattle.sitting.specs.Rules.{refuse, order_fault, fault}

module _ (o : SortOptions) (f : Frame) (g : Grant) (filed first : ℕ) (xs : List Line) (line : ℕ) (next : first ≡ filed) where
  pub total_fell : first + length xs < g.total → fault o f g filed first xs line ≡ Some (refuse TotalFell g.total)
  total_fell fell = rw (eq-eqb first filed next, lt-ltb _ _ fell)

  module _ (grown : g.total ≤ first + length xs) where
    pub not_shown : first + length xs ≤ line → fault o f g filed first xs line ≡ Some (refuse LineNotShown line)
    not_shown past = rw (eq-eqb first filed next, le-ltb _ _ grown, le-leb _ _ past)

    module _ (shown : line < first + length xs) where
      pub before_last : line < g.line → fault o f g filed first xs line ≡ Some (refuse LineBeforeLast g.line)
      before_last before = rw (eq-eqb first filed next, le-ltb _ _ grown, lt-leb _ _ shown, lt-ltb _ _ before)

      pub only_order : g.line ≤ line → fault o f g filed first xs line ≡ order_fault f.units o first xs g.total
      only_order behind = rw (eq-eqb first filed next, le-ltb _ _ grown, lt-leb _ _ shown, le-ltb _ _ behind)
