use Rattle.std.proofs.Common.{◌≡◌, ◌-◌, length, get_or, take, refl, ap, ◌∙◌, arith}
use Rattle.std.proofs.lemmas.List.{get_or-take, length-take-le}
use Rattle.meaning.specs.Turns.{last_held}
use Rattle.tracker.specs.Walks.{ends_from}
use Rattle.tracker.specs.Ends.{start_by, end_by}
use Rattle.tracker.proofs.Answering.{many, not_more, there, written_small, start_read, end_read, as_written, as_read}
use Rattle.tracker.proofs.Using.{entry_is, needed_is}
use Rattle.tracker.proofs.asking.ask_groups.Goals as goal

pub write_on-requires-clause-enough : goal.write_on-requires-clause-enough
write_on-requires-clause-enough g c =
    let rank = g.K.KeyKind.rank in
    let first = g.V.Transcript.starts c.args.view.now in
    let xs = g.V.Transcript.lines c.args.view.now in
    let table = c.args.table.now in
    let live = c.args.live in
    let line = c.args.line in
    let b = c.args.frame.now.start_bound in
    let e = c.args.frame.now.end_bound in
    let q = c.requires in
    let p : c.last_held-from.result.end ≡ last_held first (take live table) = c.last_held-from.ensures.end in
    let k = c.last_held-from.ensures.entries in
    let u = length-take-le live table q.room in
    let at = entry_is rank first xs table live line q.room _ c.entry-entry.ensures in
    let n = needed_is rank first xs table live line q.room b e _ _ c.entries_needed-needed.ensures at in
    let t = there rank first xs table live q.room q.held line q.low q.high b e in
    let m = many rank first xs table live q.room q.held line q.low q.high in
    let same : length (ends_from rank first xs c.last_held-from.result.end) ≡ length (ends_from rank first xs (last_held first (take live table))) = ap (λ i. length (ends_from rank first xs i)) p in
    omega (arith, k, u, n, t, m, same)

pub invariant_of-turns : goal.invariant_of-turns
invariant_of-turns g c =
    let rank = g.K.KeyKind.rank in
    let first = g.V.Transcript.starts c.args.view.now in
    let xs = g.V.Transcript.lines c.args.view.now in
    let table = c.args.table.now in
    let live = c.args.live in
    let line = c.args.line in
    let b = c.args.frame.now.start_bound in
    let e = c.args.frame.now.end_bound in
    let q = c.requires in
    let u = length-take-le live table q.room in
    let at = entry_is rank first xs table live line q.room _ c.entry-entry.ensures in
    let n = needed_is rank first xs table live line q.room b e _ _ c.entries_needed-needed.ensures at in
    let w = c.write_on.ensures ∙ as_written rank first xs table live _ _ _ _ n (c.last_held-from.ensures.entries ∙ ap (λ i. i - 1) u) c.last_held-from.ensures.end in
    let total = c.total-total.ensures in
    let t = there rank first xs table live q.room q.held line q.low q.high b e in
    let m = not_more rank first xs table live q.room q.held line q.low q.high in
    let k = c.entries_needed-needed.result in
    let new = c.write_on.new.table in
    let long : length (take k new) ≡ k = length-take-le k new (omega (arith, c.if-needed-table.false, c.write_on.auto.table)) in
    record {
      few = omega (arith, long, n, t, m, total, c.total-total.type_inv);
      within = λ j h. omega (arith, total, get_or-take k new j 0 (omega (arith, long)), ap (λ ys. get_or ys j 0) w, written_small rank first xs table live q.room q.held line q.low q.high b e j (omega (arith, long, n)));
    }

pub returns : goal.returns
returns g c =
    let rank = g.K.KeyKind.rank in
    let first = g.V.Transcript.starts c.args.view.now in
    let xs = g.V.Transcript.lines c.args.view.now in
    let table = c.args.table.now in
    let live = c.args.live in
    let line = c.args.line in
    let b = c.args.frame.now.start_bound in
    let e = c.args.frame.now.end_bound in
    let q = c.requires in
    let u = length-take-le live table q.room in
    let at = entry_is rank first xs table live line q.room _ c.entry-entry.ensures in
    let n = needed_is rank first xs table live line q.room b e _ _ c.entries_needed-needed.ensures at in
    let w = c.write_on.ensures ∙ as_written rank first xs table live _ _ _ _ n (c.last_held-from.ensures.entries ∙ ap (λ i. i - 1) u) c.last_held-from.ensures.end in
    record {
      fits = omega (arith, n, c.if-needed-table.false);
      start = c.edge.ensures.start ∙ as_read start_by _ _ _ _ _ _ _ _ _ _ _ _ c.start_bound.ensures c.first.ensures c.total-total.ensures n w at ∙ start_read rank first xs table live q.room q.held line q.low q.high b e;
      end = c.edge-2.ensures.end _ refl ∙ as_read end_by _ _ _ _ _ _ _ _ _ _ _ _ c.end_bound.ensures c.first.ensures c.total-total.ensures n w at ∙ end_read rank first xs table live q.room q.held line q.low q.high b e;
      live = n;
      at = at;
      table = w;
    }
