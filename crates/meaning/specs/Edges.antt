-- What is asked of a window's edges, whatever the unit.
use Rattle.std.specs.Prelude.{◌≡◌, ℕ, ◌-◌, ◌<◌, ◌≤◌, min, List, length, take, drop}
use Rattle.meaning.specs.Lines.{Holds}

-- where the window of a line over some lines starts, or ends
abbrev pub Edge : Type 0 → Type 0
Edge L = List L → ℕ → ℕ

-- over a front of F the edge is that over F, cut at the front's end
abbrev pub Cut : {L : Type 0} → List L → Edge L → Type 0
Cut F e = (t i : ℕ) → i < t → t ≤ length F → e (take t F) i ≡ min t (e F i)

-- over the rest of F from f on the edge is that over F, counted from f
abbrev pub Rest : {L : Type 0} → List L → Edge L → Type 0
Rest F e = (f i : ℕ) → f ≤ i → i < length F → e (drop f F) (i - f) ≡ e F i - f

-- a later line has no earlier edge
abbrev pub Rises : {L : Type 0} → List L → Edge L → Type 0
Rises F e = (i k : ℕ) → i ≤ k → k < length F → e F i ≤ e F k

-- the three together
pub record Lawful {L : Type 0} (F : List L) (e : Edge L) : Type 0 where
  pub cut : Cut F e
  pub rest : Rest F e
  pub rises : Rises F e

-- a later line, over no fewer lines, has no earlier edge
abbrev pub Monotone : {L : Type 0} → List L → Edge L → Type 0
Monotone F e = (t u i k : ℕ) → i ≤ k → t ≤ u → i < t → k < u → u ≤ length F → e (take t F) i ≤ e (take u F) k

-- the window of line i over a front of F holds the lines that it holds over F
abbrev pub Causal : {L : Type 0} → List L → Edge L → Edge L → ℕ → Type 0
Causal F s e i = (t : ℕ) → i < t → t ≤ length F → (j : ℕ) → (Holds (s (take t F) i) (e (take t F) i) j → Holds (s F i) (e F i) j) × (Holds (s F i) (e F i) j → Holds (s (take t F) i) (e (take t F) i) j)
