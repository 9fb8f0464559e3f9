-- The key of a packed line, by each kind.
use Rattle.std.specs.Prelude.{ℕ, Some, None, Option}
use Rattle.std.specs.Option.{option_map}
use Rattle.transcript.specs.declared.keys.elapsed.Elapsed.{Elapsed}
use Rattle.transcript.specs.declared.keys.turn.Turn.{Turn}
use Rattle.packed.specs.Fields.{Line}

-- unmarked without the elapsed field
abbrev pub by_elapsed : Line → Option Elapsed
by_elapsed x = option_map (λ t. record { 0 = t }) x.elapsed

abbrev pub turn_of : Option ℕ → Option ℕ → Option Turn
turn_of (Some s) (Some q) = Some (record { speaker = s; question = q })
turn_of (Some s) None = None
turn_of None (Some q) = None
turn_of None None = None

-- unmarked unless speaker and question both stand
abbrev pub by_turn : Line → Option Turn
by_turn x = turn_of x.speaker x.question
