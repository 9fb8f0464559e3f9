use Rattle.std.proofs.Common.{rules, ◌∙◌, ap}
use Rattle.meaning.specs.Lines.{ranked}
use Rattle.tracker.specs.Edges.{start_from, end_from}
use Rattle.tracker.proofs.Ordering.{starts_from, ends_from}
use Rattle.tracker.proofs.edges.window_by_order.Goals as goal

pub returns-clause-start : goal.returns-clause-start
returns-clause-start g c =
    let rank = g.K.KeyKind.rank in
    let first = g.V.Transcript.starts c.args.view.now in
    let xs = g.V.Transcript.lines c.args.view.now in
    let s = c.args.standing.now in
    let b = c.start_bound-start.result in
    c.edge_by_order.ensures _ (λ n k. search rules)
    ∙ starts_from rank s.options first xs c.args.line s.last.start b
    ∙ ap (start_from s.options first (ranked rank xs) c.args.line s.last.start) c.start_bound-start.ensures

pub returns-clause-end : goal.returns-clause-end
returns-clause-end g c =
    let rank = g.K.KeyKind.rank in
    let first = g.V.Transcript.starts c.args.view.now in
    let xs = g.V.Transcript.lines c.args.view.now in
    let s = c.args.standing.now in
    let b = c.end_bound-end.result in
    c.edge_by_order-2.ensures _ (λ n k. search rules)
    ∙ ends_from rank s.options first xs c.args.line s.last.end b
    ∙ ap (end_from s.options first (ranked rank xs) c.args.line s.last.end) c.end_bound-end.ensures
