use Rattle.std.proofs.Common.{not, ap, ◌∙◌}
use Rattle.std.specs.Option.{option_map}
use Rattle.meaning.specs.Ranges.{before, target}
use Rattle.search.proofs.Facing.{faced}
use Rattle.search.proofs.order.reaches.Goals as goal

pub returns : goal.returns
returns g c =
    let o = c.args.options in
    let x = option_map g.K.KeyKind.rank c.args.x in
    let y = option_map g.K.KeyKind.rank c.args.y in
    ap not (c.leads.ensures ∙ ap (λ b. before o y (target o b x)) c.turn.ensures ∙ faced o c.args.bound x y)
