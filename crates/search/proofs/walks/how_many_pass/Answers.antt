use Rattle.std.proofs.Common.{rules, None, ◌-◌, subst, ap, ◌∙◌, sym, arith}
use Rattle.meaning.specs.Counts.{how_many_from}
use Rattle.search.proofs.Filtering.{Asks, filtered}
use Rattle.search.proofs.walks.how_many_pass.Goals as goal

pub returns-clause-counted : goal.returns-clause-counted
returns-clause-counted g c p h =
    let from = c.args.from in
    let total = c.args.total in
    let ran = c.count.ensures.ran in
    let source = c.filter.ensures.source in
    let first = ap (λ r. r.start) source in
    ran.2
    ∙ filtered _ p from total ran.0 None c.filter.result ran.1.1.0 ran.1.0 (subst (Asks _ p from total) (sym c.filter.ensures.closure) (λ x b q k. search (rules, h))) (omega (arith, first)) (ap (λ r. r.end) source) ran.1.1.1 ran.1.1.2
    ∙ ap (λ r. how_many_from p r (total - r)) first
