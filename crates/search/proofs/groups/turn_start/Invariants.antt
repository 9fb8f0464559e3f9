use Rattle.std.proofs.Common.{◌≡◌, ◌-◌, ◌<◌}
use Rattle.transcript.specs.Lines.{at_line}
use Rattle.search.specs.Views.{turn_at}
use Rattle.search.proofs.groups.turn_start.Given as goal

-- the line before this one and the turn that it stands in are known, and turn k is still to come
abbrev pub invariant-loop-n : goal.invariant-loop-n
invariant-loop-n g l =
    (l.before ≡ at_line (g.V.Transcript.starts l.view) (g.V.Transcript.lines l.view) (l.n - 1))
    × (l.turn ≡ turn_at g.K.KeyKind.rank (g.V.Transcript.starts l.view) (g.V.Transcript.lines l.view) (l.n - 1))
    × (l.turn < l.k)
