-- The laws of windows, for every frame.
use Rattle.std.specs.Prelude.{◌≡◌, ℕ, ◌+◌, ◌-◌, ◌<◌, ◌≤◌, max, true, false, List, [], ◌∷◌, length, take, drop, None, Decides, ◌≢◌}
use Rattle.frame.specs.declared.bound.WindowFrameBound.{WindowFrameBound}
use Rattle.frame.specs.declared.bound.WindowFrameBound.TheVariants.{UnboundedPreceding, Preceding}
use Rattle.frame.specs.declared.bound.WindowFrameUnits.{WindowFrameUnits}
use Rattle.frame.specs.declared.bound.WindowFrameUnits.TheVariants.{Range}
use Rattle.frame.specs.Bounds.{causal}
use Rattle.meaning.specs.declared.options.SortOptions.{SortOptions}
use Rattle.meaning.specs.Lines.{Line, Holds}
use Rattle.meaning.specs.Edges.{Lawful, Monotone, Causal}
use Rattle.meaning.specs.Clause.{same_line, starts, ends, Fit, Settled, From, To}

-- sameness is equality
abbrev pub SameDecides : Type 0
SameDecides = (x y : Line) → Decides (same_line x y) (x ≡ y)

-- two unmarked lines
abbrev pub two : List Line
two = None ∷ None ∷ []

-- a window holds just the lines between its bounds
abbrev pub ClauseHolds : Type 0
ClauseHolds = (o : SortOptions) (u : WindowFrameUnits) (b e : WindowFrameBound) (F : List Line) → Fit o u F → (i j : ℕ) → i < length F → j < length F → (Holds (starts o u b F i) (ends o u e F i) j → From o u b F i j × To o u e F i j) × (From o u b F i j × To o u e F i j → Holds (starts o u b F i) (ends o u e F i) j)

-- an unmarked line under RANGE is not settled
abbrev pub RangeUnsettled : Type 0
RangeUnsettled = (o : SortOptions) (n : ℕ) → (ends o Range (Preceding n) (take 1 two) 0 ≡ 1) × (ends o Range (Preceding n) two 0 ≡ 2)

-- over a front of F the window is that over F, cut at the front's end; over the rest of F, that over F, counted from there
-- and a later line has no earlier edge
abbrev pub ClauseLawful : Type 0
ClauseLawful = (o : SortOptions) (u : WindowFrameUnits) (b : WindowFrameBound) (F : List Line) → Fit o u F → Lawful F (starts o u b) × Lawful F (ends o u b)

abbrev pub ClauseMonotone : Type 0
ClauseMonotone = (o : SortOptions) (u : WindowFrameUnits) (b : WindowFrameBound) (F : List Line) → Fit o u F → Monotone F (starts o u b) × Monotone F (ends o u b)

abbrev pub ClauseCausal : Type 0
ClauseCausal = (o : SortOptions) (u : WindowFrameUnits) (b e : WindowFrameBound) (F : List Line) (i : ℕ) → Fit o u F → causal u e ≡ true → Settled u F i → Causal F (starts o u b) (ends o u e) i

-- what a view from line f on to before line t says of the window over all lines before t
abbrev pub ClauseView : Type 0
ClauseView = (o : SortOptions) (u : WindowFrameUnits) (b : WindowFrameBound) (F : List Line) → Fit o u F → (f t i : ℕ) → f ≤ i → i < t → t ≤ length F → (f + starts o u b (drop f (take t F)) (i - f) ≡ max f (starts o u b (take t F) i)) × (f + ends o u b (drop f (take t F)) (i - f) ≡ max f (ends o u b (take t F) i))

-- filed no further than an earlier question and its window allow, a view still shows each later window whole
abbrev pub ClauseTracked : Type 0
ClauseTracked = (o : SortOptions) (u : WindowFrameUnits) (b e : WindowFrameBound) (F : List Line) → Fit o u F → (f t i s k : ℕ) → i < t → t ≤ s → i ≤ k → k < s → s ≤ length F → f ≤ i → f ≤ starts o u b (take t F) i → f ≤ ends o u e (take t F) i → (f + starts o u b (drop f (take s F)) (k - f) ≡ starts o u b (take s F) k) × (f + ends o u e (drop f (take s F)) (k - f) ≡ ends o u e (take s F) k)

-- an end that is not causal moves on, at the first of two unmarked lines, when the second is shown
abbrev pub ClauseNotCausal : Type 0
ClauseNotCausal = (o : SortOptions) (u : WindowFrameUnits) (e : WindowFrameBound) → (e ≢ UnboundedPreceding) → causal u e ≡ false → Fit o u two × (ends o u e (take 1 two) 0 ≡ 1) × (ends o u e two 0 ≡ 2)
