use Rattle.std.proofs.Common.{rules}
use Rattle.search.proofs.Explaining.{edge_counted}
use Rattle.search.proofs.explain.order_edge.Goals as goal

pub returns : goal.returns
returns g c p h = edge_counted c.args.bound p _ _ _ _ _ c.first-first.ensures c.total-total.ensures c.in_default.not-UnboundedPreceding c.in_default.not-UnboundedFollowing (c.how_many_pass-passing.ensures.counted p (search (rules, h)))
