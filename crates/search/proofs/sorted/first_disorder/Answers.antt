use Rattle.std.proofs.Common.{◌≡◌, ◌+◌, ◌-◌, Some, None, not, ap, ◌∙◌, ⊎_elim, arith}
use Rattle.std.proofs.lemmas.Bool.{cases_lt}
use Rattle.transcript.specs.Lines.{at_line}
use Rattle.meaning.specs.Counts.{walk}
use Rattle.search.specs.Tests.{orderly}
use Rattle.search.specs.Views.{if_below}
use Rattle.search.proofs.Seeking.{orderly_by}
use Rattle.search.proofs.Stopping.{found_below}
use Rattle.search.proofs.sorted.first_disorder.Goals as goal

pub returns-then-is_before : goal.returns-then-is_before
returns-then-is_before g c =
    let v = c.args.view.now in
    let rank = g.K.KeyKind.rank in
    let f = g.V.Transcript.starts v in
    let xs = g.V.Transcript.lines v in
    let p = orderly rank f xs c.args.options in
    let is = orderly_by rank f xs c.args.options c.loop-n.n c.line-here.result c.loop-n.before c.is_before.result c.line-here.ensures c.loop-n.invariant.0 c.is_before.ensures in
    found_below p c.total-total.result c.args.from (Some c.loop-n.n) (c.loop-n.auto.n, c.loop-n-test.true, λ a b. is ∙ ap not c.if-is_before.true, λ k a b l u. c.loop-n.invariant.1 k a b)
    ∙ ap (λ t. if_below t (walk p c.args.from (t - c.args.from))) c.total-total.ensures

pub loop-n-preserved : goal.loop-n-preserved
loop-n-preserved g c =
    let v = c.args.view.now in
    let rank = g.K.KeyKind.rank in
    let f = g.V.Transcript.starts v in
    let xs = g.V.Transcript.lines v in
    let p = orderly rank f xs c.args.options in
    let e : c.loop-n.n ≡ c.loop-n.n + 1 - 1 = omega arith in
    let is = orderly_by rank f xs c.args.options c.loop-n.n c.line-here.result c.loop-n.before c.is_before.result c.line-here.ensures c.loop-n.invariant.0 c.is_before.ensures in (
      c.line-here.ensures ∙ ap (at_line f xs) e,
      λ k a l. ⊎_elim (λ b. c.loop-n.invariant.1 k a b) (λ b. let same : k ≡ c.loop-n.n = omega arith in ap p same ∙ is ∙ ap not c.if-is_before.false) (cases_lt k c.loop-n.n),
    )

pub returns : goal.returns
returns g c =
    let v = c.args.view.now in
    let p = orderly g.K.KeyKind.rank (g.V.Transcript.starts v) (g.V.Transcript.lines v) c.args.options in
    found_below p c.total-total.result c.args.from None (λ k a b l u. c.loop-n.invariant.1 k a (omega arith))
    ∙ ap (λ t. if_below t (walk p c.args.from (t - c.args.from))) c.total-total.ensures
