-- The turn table as a list.
use Rattle.std.specs.Prelude.{ℕ, List, ◌++◌, length, drop, filter, nat_lt}

-- the ends above n
abbrev pub above : ℕ → List ℕ → List ℕ
above n es = filter (λ e. nat_lt n e) es

-- a list written over the front of another, what stands behind it as before
abbrev pub in_front : {X : Type 0} → List X → List X → List X
in_front ys xs = ys ++ drop (length ys) xs
