-- How many numbers pass a test.
use Rattle.std.specs.Prelude.{◌≡◌, ℕ, zero, suc, ◌+◌, ◌-◌, ◌<◌, ◌≤◌, Bool, true, cond}

-- how many of the numbers below n pass
abbrev pub how_many : (ℕ → Bool) → ℕ → ℕ
how_many p zero = 0
how_many p (suc n) = how_many p n + cond (p n) 1 0

-- what passes below n is a front: all that stand before a number that passes
abbrev pub Front : (ℕ → Bool) → ℕ → Type 0
Front p n = (j k : ℕ) → j ≤ k → k < n → p k ≡ true → p j ≡ true

-- how many of the m numbers from a on pass
abbrev pub how_many_from : (ℕ → Bool) → ℕ → ℕ → ℕ
how_many_from p a m = how_many (λ j. p (a + j)) m

-- the first of the m numbers from a on that does not pass; a + m where all pass
abbrev pub walk : (ℕ → Bool) → ℕ → ℕ → ℕ
walk p a zero = a
walk p a (suc m) = cond (p a) (walk p (a + 1) m) a

-- where what passes is a front that reaches up to a, a walk from a on ends at the count
abbrev pub WalkCounts : Type 0
WalkCounts = (p : ℕ → Bool) (n a : ℕ) → Front p n → a ≤ n → ((j : ℕ) → j < a → p j ≡ true) → walk p a (n - a) ≡ how_many p n
