use Rattle.std.proofs.Common.{rules, ◌-◌, ◌∙◌, arith}
use Rattle.search.specs.Tests.{led, reached_at}
use Rattle.search.proofs.Sorting.{starts_counted, ends_counted}
use Rattle.search.proofs.explain.window_of.Goals as goal

pub returns-in-Range : goal.returns-in-Range
returns-in-Range g c =
    let v = c.args.view.now in
    let rank = g.K.KeyKind.rank in
    let f = g.V.Transcript.starts v in
    let xs = g.V.Transcript.lines v in
    let o = c.args.options in
    let n = c.args.line in
    let b = c.start_bound-start.result in
    let e = c.end_bound-end.result in
    let s = c.order_edge.ensures (led rank f xs o b n) (λ n b l h k. search rules) ∙ starts_counted rank f xs o n (omega arith) b in
    let t = c.order_edge-in-Range.ensures (reached_at rank f xs o e n) (λ n b l h k. search rules) ∙ ends_counted rank f xs o n (omega arith) e in
    search (rules, s, t)

pub returns-in-Groups : goal.returns-in-Groups
returns-in-Groups g c =
    let n = c.args.line in
    let s = c.turn_edge.ensures.start (n - g.V.Transcript.starts c.args.view.now) (search rules) in
    let t = c.turn_edge-in-Groups.ensures.end (n - g.V.Transcript.starts c.args.view.now) (search rules) in
    search (rules, s, t)
