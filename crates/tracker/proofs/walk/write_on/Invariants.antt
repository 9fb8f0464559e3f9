use Rattle.std.proofs.Common.{◌≤◌}
use Rattle.tracker.specs.Walks.{ends_from}
use Rattle.tracker.proofs.Walking.{Writing}
use Rattle.tracker.proofs.walk.write_on.Given as goal

abbrev pub invariant-loop-slot : goal.invariant-loop-slot
invariant-loop-slot g l =
    let first = g.V.Transcript.starts l.view in
    let ends = ends_from g.K.KeyKind.rank first (g.V.Transcript.lines l.view) in
    (first ≤ l.end) × Writing (ends l.initial.end) l.initial.slot-items l.slot-items (ends l.end) l.slot-index
