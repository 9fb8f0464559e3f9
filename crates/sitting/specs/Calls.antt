-- What the calls of a tracker do to it.
use Rattle.std.specs.Prelude.{◌≡◌, ℕ, ◌+◌, ◌<◌, ◌≤◌, List, length, drop, Some, None, Ok, Err, Result}
use Rattle.frame.specs.declared.bound.WindowFrameUnits.{WindowFrameUnits}
use Rattle.frame.specs.declared.bound.WindowFrameUnits.TheVariants.{Rows, Range, Groups}
use Rattle.frame.specs.declared.refusal.Refusal.{Refusal}
use Rattle.frame.specs.declared.refusal.Reason.TheVariants.{TurnTableShort}
use Rattle.meaning.specs.Lines.{Line}
use Rattle.meaning.specs.Rows.{row_start, row_end}
use Rattle.sitting.specs.State.{State}
use Rattle.sitting.specs.Rules.{refuse, fault, answer, next, filing, after_filing}
use Rattle.sitting.specs.Tracks.{Stretch, Tracks, Fresh}

-- only GROUPS uses the turn table
abbrev pub Uses : WindowFrameUnits → ℕ → Type 0
Uses Rows n = n ≡ 0
Uses Range n = n ≡ 0
Uses Groups n = Unit {0}

-- ROWS goes by line numbers alone
abbrev pub ByRows : State → ℕ → ℕ → ℕ × ℕ → Type 0
ByRows s total line w = s.frame.units ≡ Rows → w ≡ (row_start s.frame.start total line, row_end s.frame.end total line)

-- a granted question, whatever the views show: what is stored, and what holds of a window that is left open
pub record Grants (s : State) (total line : ℕ) (w : ℕ × ℕ) (t : State) : Type 0 where
  pub stored : t.last ≡ record { line = line; start = w.0; end = w.1; total = total }
  pub options : t.options ≡ s.options
  pub frame : t.frame ≡ s.frame
  pub filed : t.filed ≡ s.filed
  pub starts : s.filed ≤ w.0
  pub ends : s.filed ≤ w.1
  pub rows : ByRows s total line w
  pub uses : Uses s.frame.units t.used
  -- entries that are not in use stay as they were
  pub others : drop t.used t.table ≡ drop t.used s.table

-- a turn table too short, whatever the views show: the place is more than it has
pub record Short (s : State) (e : Refusal) (t : State) : Type 0 where
  pub groups : s.frame.units ≡ Groups
  pub refusal : e ≡ refuse TurnTableShort e.place
  pub more : length s.table < e.place
  pub stays : t ≡ s

abbrev pub Passed : State → ℕ → ℕ → Result (ℕ × ℕ) Refusal → State → Type 0
Passed s total line (Ok w) t = Grants s total line w t
Passed s total line (Err e) t = Short s e t

-- a question on a view of lines xs from line first on, its answer, and the tracker before and after
pub record Window (s : State) (first : ℕ) (xs : List Line) (line : ℕ) (r : Result (ℕ × ℕ) Refusal) (t : State) : Type 0 where
  -- a fault is refused, and nothing changes
  pub refused : (e : Refusal) → fault s.options s.frame s.last s.filed first xs line ≡ Some e → (r ≡ Err e) × (t ≡ s)
  pub passed : fault s.options s.frame s.last s.filed first xs line ≡ None → Passed s (first + length xs) line r t
  -- over a finished transcript that the tracker has followed and the view is a stretch of, answer and tracker are exactly these
  pub exact : (F : List Line) → Tracks F s → Stretch F first xs → (r ≡ answer F s first xs line) × (t ≡ next F s first xs line)

-- the first question of a fresh tracker is answered over the view's own lines
abbrev pub FirstWindow : State → ℕ → List Line → ℕ → Result (ℕ × ℕ) Refusal → State → Type 0
FirstWindow s first xs line r t = Fresh s → (r ≡ answer xs s first xs line) × (t ≡ next xs s first xs line)

-- a filing up to line n
pub record Filing (s : State) (n : ℕ) (r : Result (ℕ × ℕ) Refusal) (t : State) : Type 0 where
  pub answers : r ≡ filing s.last s.filed n
  pub leaves : t ≡ after_filing s n
