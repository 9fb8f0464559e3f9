use Rattle.std.proofs.Common.{◌≡◌, ◌-◌, length, take, ap, ◌∙◌, arith}
use Rattle.std.proofs.lemmas.List.{get_or-take, length-take-le}
use Rattle.tracker.specs.Ends.{entry_of}
use Rattle.tracker.proofs.Passing.{walk_entries}
use Rattle.tracker.proofs.Rising.{rise_take}
use Rattle.tracker.proofs.Using.{came, past_used, held_used}
use Rattle.tracker.proofs.groups.Question.entry.Goals as goal

pub returns-then-reach-live : goal.returns-then-reach-live
returns-then-reach-live g c =
    let q = c.args.self.now in
    let rank = g.K.KeyKind.rank in
    let first = g.V.Transcript.starts q.view.now in
    let xs = g.V.Transcript.lines q.view.now in
    let far = came rank first xs q.used.now q.rises q.below q.line q.low q.high _ _ _ _ c.walk_on-reach.ensures c.last_held-from.ensures.entries c.last_held-from.ensures.end in
    ap (λ i. i - 1) far ∙ past_used rank first xs q.used.now q.rises q.below q.line q.low q.high (omega (arith, far, c.if-reach-live.true))

pub returns : goal.returns
returns g c =
    let q = c.args.self.now in
    let rank = g.K.KeyKind.rank in
    let first = g.V.Transcript.starts q.view.now in
    let xs = g.V.Transcript.lines q.view.now in
    let far = came rank first xs q.used.now q.rises q.below q.line q.low q.high _ _ _ _ c.walk_on-reach.ensures c.last_held-from.ensures.entries c.last_held-from.ensures.end in
    let n = c.last_held-from.ensures.entries in
    let j = c.last_held-from.result.entries in
    let es = take j q.used.now in
    let long : length es ≡ j = length-take-le j q.used.now (omega arith) in
    c.entry_past.ensures
    ∙ walk_entries first c.args.at q.line es (rise_take first j q.used.now q.rises) (omega (arith, c.requires.behind)) (λ i h. omega (arith, c.requires.passed i h, get_or-take j q.used.now i 0 (omega (arith, c.requires.behind))))
    ∙ ap (λ i. entry_of (take i q.used.now) q.line) n
    ∙ held_used rank first xs q.used.now q.rises q.below q.line q.low q.high (omega (arith, far, c.if-reach-live.false))
