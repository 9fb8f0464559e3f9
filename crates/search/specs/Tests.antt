-- Tests of line numbers over a view's lines.
use Rattle.std.specs.Prelude.{◌≡◌, ℕ, ◌-◌, ◌<◌, ◌≤◌, Bool, not, List, ℤ, Option}
use Rattle.std.specs.Option.{option_map}
use Rattle.frame.specs.declared.bound.WindowFrameBound.{WindowFrameBound}
use Rattle.transcript.specs.Lines.{at_line}
use Rattle.meaning.specs.declared.options.SortOptions.{SortOptions}
use Rattle.meaning.specs.Lines.{Line}
use Rattle.meaning.specs.Clause.{same_line}
use Rattle.meaning.specs.Ranges.{before, target}
use Rattle.search.specs.Views.{total_of}

-- the answers of a test are p's, from lo to before hi
abbrev pub Computes : (ℕ → Bool → Type 0) → (ℕ → Bool) → ℕ → ℕ → Type 0
Computes P p lo hi = (n : ℕ) (b : Bool) → lo ≤ n → n < hi → P n b → b ≡ p n

-- and those of a test of a view's lines against its line i, from line lo on
abbrev pub ComputesAgainst : {K : Type 0} → (SortOptions → WindowFrameBound → Option K → Option K → Bool → Type 0) → ℕ → List (Option K) → SortOptions → WindowFrameBound → ℕ → (ℕ → Bool) → ℕ → Type 0
ComputesAgainst P first xs o b i p lo = Computes (λ n c. P o b (at_line first xs n) (at_line first xs i) c) p lo (total_of first xs)

module _ {K : Type 0} (rank : K → ℤ) (first : ℕ) (xs : List (Option K)) where
  -- the line numbered n, by its rank
  abbrev pub line_at : ℕ → Line
  line_at n = option_map rank (at_line first xs n)

  -- a line is the same as the one before it
  abbrev pub alike : ℕ → Bool
  alike n = same_line (line_at (n - 1)) (line_at n)

  -- a line is not the same as the one before it
  abbrev pub parts_at : ℕ → Bool
  parts_at n = not (alike n)

  -- a line is not ordered before the one before it
  abbrev pub orderly : SortOptions → ℕ → Bool
  orderly o n = not (before o (line_at n) (line_at (n - 1)))

  -- a line is ordered before the target of a bound from line i, and is not ordered after it
  abbrev pub led : SortOptions → WindowFrameBound → ℕ → ℕ → Bool
  led o b i n = before o (line_at n) (target o b (line_at i))

  abbrev pub reached_at : SortOptions → WindowFrameBound → ℕ → ℕ → Bool
  reached_at o b i n = not (before o (target o b (line_at i)) (line_at n))
