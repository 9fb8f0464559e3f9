-- Lines by their rank, and what a window holds.
use Rattle.std.specs.Prelude.{ℕ, ◌<◌, ◌≤◌, List, map, ℤ, Option}
use Rattle.std.specs.Option.{option_map}

-- a line: the rank of its key, or unmarked
abbrev pub Line : Type 0
Line = Option ℤ

-- the lines of a view, by a key kind's ranks
abbrev pub ranked : {K : Type 0} → (K → ℤ) → List (Option K) → List Line
ranked rank xs = map (option_map rank) xs

-- line j is held by the window from line a up to line b
pub record Holds (a b j : ℕ) : Type 0 where
  pub from : a ≤ j
  pub below : j < b
