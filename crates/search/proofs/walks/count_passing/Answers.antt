use Rattle.std.proofs.Common.{rules}
use Rattle.search.proofs.walks.count_passing.Goals as goal

pub returns : goal.returns
returns g c = c.how_many_pass.ensures.counted (g.T.LineTest.passes c.args.test.now) (λ n b l h k. search rules)
