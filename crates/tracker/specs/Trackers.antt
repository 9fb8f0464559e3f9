-- What a tracker stands for.
use Rattle.std.specs.Prelude.{ℕ, cond, List, length, Some, None, Option, nat_lt, slice_index}
use Rattle.sitting.specs.State.{State}
use Rattle.tracker.specs.declared.tracker.Tracker.{Tracker}
use Rattle.tracker.specs.States.{state}

abbrev pub state_of : {K : Type 0} → Tracker K → State
state_of t = state t.standing t.table.ends.now

-- an entry of a table, none past its end
abbrev pub entry_at : List ℕ → ℕ → Option ℕ
entry_at table k = cond (nat_lt k (length table)) (Some (slice_index table k)) None
