-- Sample windows, and the turn tables of a short sitting.
use Rattle.std.specs.Prelude.{◌≡◌, ℕ, Bool, true, false, List, [], ◌∷◌, take, pos, negsuc, Some, None}
use Rattle.std.specs.List.{AllByRecursion}
use Rattle.frame.specs.declared.bound.WindowFrameBound.{WindowFrameBound}
use Rattle.frame.specs.declared.bound.WindowFrameBound.TheVariants.{UnboundedPreceding, Preceding, CurrentRow, Following, UnboundedFollowing}
use Rattle.frame.specs.declared.bound.WindowFrameUnits.{WindowFrameUnits}
use Rattle.frame.specs.declared.bound.WindowFrameUnits.TheVariants.{Rows, Range, Groups}
use Rattle.meaning.specs.declared.options.SortOptions.{SortOptions}
use Rattle.meaning.specs.Lines.{Line}
use Rattle.meaning.specs.Turns.{reached, table}
use Rattle.meaning.specs.Clause.{same_line, starts, ends}

-- a window that must come out: options, units, bounds, lines, the line asked, and the window
pub record Sample : Type 0 where
  pub options : SortOptions
  pub units : WindowFrameUnits
  pub start : WindowFrameBound
  pub end : WindowFrameBound
  pub lines : List Line
  pub line : ℕ
  pub window : ℕ × ℕ

abbrev pub sorted : Bool → Bool → SortOptions
sorted d u = record { descending = d; unmarked_first = u }

abbrev pub sample : SortOptions → WindowFrameUnits → WindowFrameBound → WindowFrameBound → List Line → ℕ → ℕ × ℕ → Sample
sample o u b e xs i w = record { options = o; units = u; start = b; end = e; lines = xs; line = i; window = w }

abbrev pub rising : SortOptions
rising = sorted false false

abbrev pub at : ℕ → Line
at n = Some (pos n)

-- seven lines in four turns
abbrev pub turns : List Line
turns = at 0 ∷ at 0 ∷ at 1 ∷ at 2 ∷ at 2 ∷ at 2 ∷ at 3 ∷ []

-- six times and an unmarked line
abbrev pub elapsed : List Line
elapsed = at 0 ∷ at 0 ∷ at 1000 ∷ at 4000 ∷ at 4000 ∷ at 9000 ∷ None ∷ []

-- the same times, falling
abbrev pub falling : List Line
falling = at 9000 ∷ at 4000 ∷ at 4000 ∷ at 1000 ∷ at 0 ∷ at 0 ∷ None ∷ []

-- unmarked lines in front, rising and falling
abbrev pub rising_after : List Line
rising_after = None ∷ None ∷ at 0 ∷ at 1000 ∷ at 1000 ∷ at 5000 ∷ []

abbrev pub falling_after : List Line
falling_after = None ∷ at 5000 ∷ at 1000 ∷ at 1000 ∷ at 0 ∷ []

-- ranks on both sides of 0
abbrev pub marks : List Line
marks = Some (negsuc 4) ∷ Some (negsuc 0) ∷ at 0 ∷ at 3 ∷ at 3 ∷ []

abbrev pub samples : List Sample
samples =
    sample rising Rows (Preceding 3) (Preceding 1) turns 0 (0, 0)
    ∷ sample rising Rows (Preceding 3) (Preceding 1) turns 2 (0, 2)
    ∷ sample rising Rows (Following 2) CurrentRow (take 6 turns) 5 (6, 6)
    ∷ sample rising Rows (Following 2) CurrentRow turns 5 (7, 6)
    ∷ sample rising Range CurrentRow (Following 5000) elapsed 5 (5, 6)
    ∷ sample rising Groups (Preceding 1) (Following 1) turns 2 (0, 6)
    ∷ sample rising Groups (Preceding 2) (Preceding 2) turns 2 (0, 0)
    ∷ sample rising Groups (Following 1) (Following 1) (take 2 turns) 1 (2, 2)
    ∷ sample rising Groups (Following 1) (Following 1) (take 3 turns) 1 (2, 3)
    ∷ sample rising Range (Preceding 3000) CurrentRow elapsed 3 (2, 5)
    ∷ sample rising Range (Preceding 5000) (Preceding 3000) elapsed 2 (0, 0)
    ∷ sample rising Range CurrentRow (Following 3000) elapsed 2 (2, 5)
    ∷ sample rising Range (Following 1000) (Following 3000) elapsed 2 (3, 5)
    ∷ sample rising Range (Preceding 3000) (Preceding 1000) elapsed 3 (2, 3)
    ∷ sample rising Range (Preceding 1000) (Following 1000) elapsed 6 (6, 7)
    ∷ sample rising Groups (Preceding 1) CurrentRow elapsed 6 (5, 7)
    ∷ sample (sorted true false) Range (Preceding 3000) (Following 3000) falling 1 (1, 4)
    ∷ sample (sorted true false) Range (Following 1000) UnboundedFollowing falling 3 (4, 7)
    ∷ sample (sorted false true) Range (Preceding 5) (Following 5) rising_after 0 (0, 2)
    ∷ sample (sorted false true) Range (Preceding 1000) CurrentRow rising_after 3 (2, 5)
    ∷ sample (sorted false true) Range UnboundedPreceding CurrentRow rising_after 2 (0, 3)
    ∷ sample (sorted true true) Range (Preceding 4000) CurrentRow falling_after 2 (1, 4)
    ∷ sample (sorted true true) Range CurrentRow (Following 500) falling_after 0 (0, 1)
    ∷ sample rising Range (Preceding 4) (Following 2) marks 2 (1, 3)
    ∷ sample rising Groups (Following 1) (Following 2) marks 0 (1, 3)
    ∷ []

abbrev pub ComesOut : Sample → Type 0
ComesOut s = (starts s.options s.units s.start s.lines s.line, ends s.options s.units s.end s.lines s.line) ≡ s.window

abbrev pub SamplesHold : Type 0
SamplesHold = AllByRecursion ComesOut samples

-- the turn table of the sample turns under a frame that ends at CURRENT ROW: at line 4, after a filing up to 2, and at line 6
abbrev pub TablesHold : Type 0
TablesHold = (table None same_line turns 0 (reached None same_line CurrentRow turns 4) ≡ 2 ∷ 3 ∷ 6 ∷ []) × (table None same_line turns 2 (reached None same_line CurrentRow turns 4) ≡ 3 ∷ 6 ∷ []) × (table None same_line turns 2 (reached None same_line CurrentRow turns 6) ≡ 3 ∷ 6 ∷ 7 ∷ [])
