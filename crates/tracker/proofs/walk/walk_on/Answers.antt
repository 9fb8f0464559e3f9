use Rattle.std.proofs.Common.{◌<◌, sym, refl, ap, ◌∙◌, arith, rules}
use Rattle.search.specs.Views.{total_of}
use Rattle.tracker.specs.Walks.{ends_from, walked}
use Rattle.tracker.proofs.Walking.{Step, step, no_more, walked_stop, walked_go}
use Rattle.tracker.proofs.walk.walk_on.Given.{Over}
use Rattle.tracker.proofs.walk.walk_on.Goals as goal

-- the step that the walk makes
goes_to : (g : Over) (c : goal.After-run_end g) → Step g.K.KeyKind.rank (g.V.Transcript.starts c.args.view.now) (g.V.Transcript.lines c.args.view.now) c.loop-reach.reach.end c.run_end.result
goes_to g c =
    let first = g.V.Transcript.starts c.args.view.now in
    let xs = g.V.Transcript.lines c.args.view.now in
    let p = c.loop-reach.reach.end in
    let low = c.loop-reach.invariant.0 in
    let high : p < total_of first xs = omega (arith, c.loop-reach-test.true, c.total-total.ensures) in
    step g.K.KeyKind.rank first xs p c.run_end.result low high (c.run_end.ensures.inside low high)

pub loop-reach-init : goal.loop-reach-init
loop-reach-init g c = (c.requires.low, c.requires.high, c.requires.few, refl)

pub overflow_add-reach : goal.overflow_add-reach
overflow_add-reach g c = let few = c.loop-reach.invariant.2 in let t = c.loop-reach-test.true in search rules

pub loop-reach-smaller : goal.loop-reach-smaller
loop-reach-smaller g c = let s = goes_to g c in omega (arith, s.past, c.loop-reach-test.true)

pub loop-reach-preserved : goal.loop-reach-preserved
loop-reach-preserved g c =
    let first = g.V.Transcript.starts c.args.view.now in
    let xs = g.V.Transcript.lines c.args.view.now in
    let ends = ends_from g.K.KeyKind.rank first xs in
    let l = c.loop-reach.reach in
    let inv = c.loop-reach.invariant in
    let s = goes_to g c in
    let w = walked c.args.line c.args.entries in (
      omega (arith, s.past, inv.0),
      s.within,
      omega (arith, s.past, inv.2),
      sym (walked_go c.args.line c.args.entries c.run_end.result (ends c.run_end.result) l.entries l.end (sym c.if-goes_on.ensures))
          ∙ ap (λ es. w es l.entries l.end) (sym s.ends)
          ∙ inv.3,
    )

pub returns-else-goes_on : goal.returns-else-goes_on
returns-else-goes_on g c =
    let first = g.V.Transcript.starts c.args.view.now in
    let xs = g.V.Transcript.lines c.args.view.now in
    let l = c.loop-reach.reach in
    sym (walked_stop c.args.line c.args.entries (ends_from g.K.KeyKind.rank first xs l.end) l.entries l.end (sym c.if-goes_on.ensures)) ∙ c.loop-reach.invariant.3

pub returns-after-loop-reach : goal.returns-after-loop-reach
returns-after-loop-reach g c =
    let first = g.V.Transcript.starts c.args.view.now in
    let xs = g.V.Transcript.lines c.args.view.now in
    let l = c.loop-reach.reach in
    let e = no_more g.K.KeyKind.rank first xs l.end (omega (arith, c.loop-reach-test.false, c.total-total.ensures)) in
    ap (λ es. walked c.args.line c.args.entries es l.entries l.end) (sym e) ∙ c.loop-reach.invariant.3
