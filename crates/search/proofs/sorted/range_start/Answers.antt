use Rattle.std.proofs.Common.{rules}
use Rattle.search.specs.Tests.{led}
use Rattle.search.proofs.sorted.range_start.Goals as goal

pub returns : goal.returns
returns g c =
    let v = c.args.view.now in
    c.first_that_fails_against.ensures (led g.K.KeyKind.rank (g.V.Transcript.starts v) (g.V.Transcript.lines v) c.args.options c.args.bound c.args.line) (λ n b l h k. search rules)
