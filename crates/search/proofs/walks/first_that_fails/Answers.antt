use Rattle.std.proofs.Common.{rules, true, false, unwrap_or, ap, ◌∙◌}
use Rattle.std.proofs.lemmas.Iterator.{first_from_Range}
use Rattle.search.proofs.Stopping.{Answers, found_or_end}
use Rattle.search.proofs.walks.first_that_fails.Goals as goal

pub returns : goal.returns
returns g c p h =
    let is = Answers p c.args.total c.args.from in
    c.unwrap_or.ensures
    ∙ ap (unwrap_or c.find.result) c.max.ensures
    ∙ found_or_end p c.args.total c.args.from c.find.result (first_from_Range _ _ _ c.find.result (is false) (is true) c.find.ensures.ran (λ x q k a b. search (rules, h)) (λ x q k. search (rules, h)))
