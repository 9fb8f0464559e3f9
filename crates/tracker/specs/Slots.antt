-- Slots of an array as a list.
use Rattle.std.specs.Prelude.{ℕ, List, ◌++◌, take, drop}

-- the n from place k on moved to the front, what stands behind them as before
abbrev pub moved : {X : Type 0} → ℕ → ℕ → List X → List X
moved k n xs = take n (drop k xs) ++ drop n xs
