use Rattle.std.proofs.Common.{true, sym, ◌∙◌, arith, rules}
use Rattle.packed.proofs.Shows.{cut_to, with_ok, made_view}
use Rattle.packed.proofs.view.PackedView.new.Goals as goal

pub slice_bounds-result-end : goal.slice_bounds-result-end
slice_bounds-result-end g c =
    let w = sym (c.walk.ensures true (λ e p b _ _ h. search rules)) ∙ c.in_ok-count.was in
    sym (cut_to _ _ _ w).0

pub invariant_of-result : goal.invariant_of-result
invariant_of-result g c =
    let w = sym (c.walk.ensures true (λ e p b _ _ h. search rules)) ∙ c.in_ok-count.was in
    let cut = cut_to _ _ _ w in
    record { fits = omega (arith, cut.0); agrees = with_ok _ _ cut.1 }

pub returns-clause-view : goal.returns-clause-view
returns-clause-view g c =
    let w = sym (c.walk.ensures true (λ e p b _ _ h. search rules)) ∙ c.in_ok-count.was in
    made_view g.K.PackedKey.reads c.args.first c.args.places.now c.args.bytes.now c.in_ok-count.count (omega arith) w
