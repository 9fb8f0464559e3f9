use Rattle.std.proofs.Common.{Err, sym, ap, ◌∙◌}
use Rattle.std.specs.Option.{option_map}
use Rattle.frame.specs.declared.refusal.Reason.TheVariants.{OutOfOrder}
use Rattle.sitting.specs.Rules.{refuse}
use Rattle.tracker.specs.Checks.{allowed}
use Rattle.tracker.proofs.Ordering.{order_told}
use Rattle.tracker.proofs.checks.check_order.Goals as goal

pub returns-in-Some : goal.returns-in-Some
returns-in-Some g c =
    let told = order_told g.K.KeyKind.rank _ c.args.standing.now.options _ _ _ _ c.first_disorder.result (sym c.units.ensures ∙ c.in-Range.is) c.max.ensures c.first_disorder.ensures in
    ap Err (c.refuse.ensures ∙ ap (refuse OutOfOrder) c.from.ensures) ∙ sym (ap allowed (told ∙ ap (option_map (refuse OutOfOrder)) c.in-Some.is))

pub returns-in-None : goal.returns-in-None
returns-in-None g c =
    let told = order_told g.K.KeyKind.rank _ c.args.standing.now.options _ _ _ _ c.first_disorder.result (sym c.units.ensures ∙ c.in-Range.is) c.max.ensures c.first_disorder.ensures in
    sym (ap allowed (told ∙ ap (option_map (refuse OutOfOrder)) c.in-None.is))
