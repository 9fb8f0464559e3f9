use Rattle.std.proofs.Common.{◌≡◌, ◌-◌, ◌≤◌}
use Rattle.search.specs.Views.{total_of}
use Rattle.tracker.specs.Walks.{ends_from, walked}
use Rattle.tracker.proofs.walk.walk_on.Given as goal

abbrev pub invariant-loop-reach : goal.invariant-loop-reach
invariant-loop-reach g l =
    let first = g.V.Transcript.starts l.view in
    let xs = g.V.Transcript.lines l.view in
    let ends = ends_from g.K.KeyKind.rank first xs in
    (first ≤ l.reach.end) × (l.reach.end ≤ total_of first xs) × (l.reach.entries ≤ l.reach.end)
    × (walked l.line l.entries (ends l.reach.end) l.reach.entries l.reach.end ≡ walked l.line l.entries (ends l.initial.reach.end) l.initial.reach.entries l.initial.reach.end)

abbrev pub decreases-loop-reach : goal.decreases-loop-reach
decreases-loop-reach g l = l.total - l.reach.end
