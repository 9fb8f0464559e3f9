use Rattle.std.proofs.Common.{◌≡◌, ℕ, ◌-◌, ◌<◌, ◌≤◌, true}
use Rattle.transcript.specs.Lines.{at_line}
use Rattle.search.specs.Tests.{orderly}
use Rattle.search.proofs.sorted.first_disorder.Given as goal

-- the line before this one is known, and all lines before it are in order
abbrev pub invariant-loop-n : goal.invariant-loop-n
invariant-loop-n g l =
    (l.before ≡ at_line (g.V.Transcript.starts l.view) (g.V.Transcript.lines l.view) (l.n - 1))
    × ((k : ℕ) → l.from ≤ k → k < l.n → orderly g.K.KeyKind.rank (g.V.Transcript.starts l.view) (g.V.Transcript.lines l.view) l.options k ≡ true)
