use Rattle.std.proofs.Common.{rules, ℕ, ◌+◌, ◌-◌, ap, ◌∙◌}
use Rattle.meaning.specs.Counts.{how_many_from}
use Rattle.search.specs.Tests.{parts_at}
use Rattle.search.proofs.Seeking.{turn_counted}
use Rattle.search.proofs.groups.turn_number.Goals as goal

pub returns : goal.returns
returns g c =
    let v = c.args.view.now in
    let rank = g.K.KeyKind.rank in
    let f = g.V.Transcript.starts v in
    let xs = g.V.Transcript.lines v in
    c.how_many_pass.ensures.counted (parts_at rank f xs) (λ n b l h k. search rules)
    ∙ ap (λ (a : ℕ). how_many_from (parts_at rank f xs) (a + 1) (c.args.n + 1 - (a + 1))) c.first.ensures
    ∙ turn_counted rank f xs c.args.n c.requires.low
