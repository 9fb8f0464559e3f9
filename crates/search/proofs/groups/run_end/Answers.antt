use Rattle.std.proofs.Common.{rules, ◌∙◌, arith}
use Rattle.search.specs.Tests.{alike}
use Rattle.search.proofs.Seeking.{run_ends_at}
use Rattle.search.proofs.groups.run_end.Goals as goal

pub returns : goal.returns
returns g c =
    let v = c.args.view.now in
    let p = alike g.K.KeyKind.rank (g.V.Transcript.starts v) (g.V.Transcript.lines v) in
    record {
      inside = λ low high. c.first_that_fails.ensures p (λ n b l h k. search rules) ∙ run_ends_at g.K.KeyKind.rank (g.V.Transcript.starts v) (g.V.Transcript.lines v) c.args.n c.total-total.result c.total-total.ensures low c.if-n-total.false;
      past = λ h. absurd (omega arith);
    }
