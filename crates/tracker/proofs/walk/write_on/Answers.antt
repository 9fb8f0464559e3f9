use Rattle.std.proofs.Common.{◌≡◌, ℕ, ◌-◌, ◌<◌, List, length, take, drop, subst, arith}
use Rattle.std.proofs.lemmas.List.{length-drop, length-take-le}
use Rattle.std.proofs.lemmas.Slice.{take-put_mid, drop-put_mid}
use Rattle.tracker.specs.Walks.{ends_from}
use Rattle.tracker.proofs.Walking.{step, Writing, write_next, all_written, part_written, more_lines}
use Rattle.tracker.proofs.walk.write_on.Goals as goal

pub loop-slot-preserved : goal.loop-slot-preserved
loop-slot-preserved g c =
    let rank = g.K.KeyKind.rank in
    let first = g.V.Transcript.starts c.args.view.now in
    let xs = g.V.Transcript.lines c.args.view.now in
    let ends = ends_from rank first xs in
    let old = take (c.args.entries - c.args.from.entries) (drop c.args.from.entries c.args.table.now) in
    let all = ends c.args.from.end in
    let l = c.loop-slot in
    let r = c.run_end-end.result in
    let size : length old ≡ c.args.entries - c.args.from.entries = length-take-le (c.args.entries - c.args.from.entries) (drop c.args.from.entries c.args.table.now) (omega (arith, c.requires.room, length-drop c.args.from.entries c.args.table.now)) in
    let inside : l.slot-index < length l.slot-items = omega (arith, c.loop-slot-test.true, l.auto.slot-items) in
    let much : l.slot-index < length all = omega (arith, inside, l.auto.slot-items, size, c.requires.enough) in
    let high = more_lines rank first xs l.end l.slot-index all old l.slot-items (omega arith) much l.invariant.1 in
    let s = step rank first xs l.end r l.invariant.0 high (c.run_end-end.ensures.inside l.invariant.0 high) in
    let P : List ℕ → Type 0 = λ es. Writing all old l.slot-items es l.slot-index in
    (omega (arith, s.past, l.invariant.0), write_next all old l.slot-items (ends r) l.slot-index r inside (subst P s.ends l.invariant.1))

pub returns : goal.returns
returns g c =
    let ends = ends_from g.K.KeyKind.rank (g.V.Transcript.starts c.args.view.now) (g.V.Transcript.lines c.args.view.now) in
    let table = c.args.table.now in
    let k = c.args.from.entries in
    let n = c.args.entries in
    let old = take (n - k) (drop k table) in
    let all = ends c.args.from.end in
    let l = c.loop-slot in
    let size : length old ≡ n - k = length-take-le (n - k) (drop k table) (omega (arith, c.requires.room, length-drop k table)) in
    let whole : l.slot-index ≡ length l.slot-items = omega (arith, c.loop-slot-test.false, l.auto.slot-items, l.auto.slot-index-end) in
    let at : l.slot-index ≡ n - k = omega (arith, l.auto.slot-items) in
    let part = all_written all old l.slot-items (ends l.end) l.slot-index whole (omega (arith, l.auto.slot-items)) (omega (arith, c.requires.enough)) l.invariant.1 in
    part_written table all l.slot-items _ k n c.requires.more c.requires.room (omega (arith, c.requires.enough)) (subst (λ i. l.slot-items ≡ take i all) at part) (take-put_mid k (n - k) table l.slot-items n (omega (arith, c.requires.more)) (omega (arith, c.requires.room, c.requires.more))) (drop-put_mid k (n - k) table l.slot-items n (omega (arith, c.requires.more)) (omega (arith, c.requires.room, c.requires.more)) (omega arith))
