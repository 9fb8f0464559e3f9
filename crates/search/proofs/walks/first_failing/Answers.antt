use Rattle.std.proofs.Common.{rules}
use Rattle.search.proofs.walks.first_failing.Goals as goal

pub returns : goal.returns
returns g c = c.first_that_fails.ensures (g.T.LineTest.passes c.args.test.now) (λ n b l h k. search rules)
