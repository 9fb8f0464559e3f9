-- What the code's tracker stands for.
use Rattle.std.specs.Prelude.{ℕ, List}
use Rattle.frame.specs.Frames.{framed}
use Rattle.sitting.specs.State.{State}
use Rattle.sitting.specs.State as states
use Rattle.tracker.specs.declared.standing.Grant.{Grant}
use Rattle.tracker.specs.declared.standing.Standing.{Standing}

abbrev pub grant_of : Grant → states.Grant
grant_of g = record { line = g.line; start = g.start; end = g.end; total = g.total }

-- the numbers and a turn table
abbrev pub state : Standing → List ℕ → State
state s table = record { options = s.options; frame = framed s.frame; last = grant_of s.last; filed = s.filed; used = s.live; table = table }
