-- What a question under GROUPS answers, and what the table then holds.
use Rattle.std.specs.Prelude.{◌≡◌, ℕ, ◌+◌, ◌-◌, ◌<◌, ◌≤◌, List, ◌++◌, map, length, take, drop, None, Ok, Err, Result, slice_index}
use Rattle.frame.specs.declared.bound.WindowFrameUnits.{WindowFrameUnits}
use Rattle.frame.specs.declared.bound.WindowFrameUnits.TheVariants.{Rows, Range, Groups}
use Rattle.frame.specs.Frames.{Frame}
use Rattle.meaning.specs.Lines.{Line}
use Rattle.meaning.specs.Rows.{row_start, row_end}
use Rattle.meaning.specs.Turns.{turn_ends, last_held}
use Rattle.meaning.specs.Clause.{same_line}
use Rattle.sitting.specs.State.{State}
use Rattle.tracker.specs.declared.asking.Answered.{Answered}
use Rattle.sitting.specs.Tables.{in_front}
use Rattle.tracker.specs.Ends.{Held, entry_of, start_by, end_by, needed}
use Rattle.tracker.specs.Edges.{start_from, end_from}

-- the entries needed
abbrev pub entries : Frame → List ℕ → ℕ → ℕ → ℕ
entries f es live line = needed f.start f.end es live (entry_of es line)

-- the window by these ends, and the ends needed in front of the table
pub record Answers (f : Frame) (first total : ℕ) (es : List ℕ) (used line : ℕ) (old : List ℕ) (a : Answered) (new : List ℕ) : Type 0 where
  pub fits : entries f es used line ≤ length old
  pub start : a.start ≡ start_by f.start first total es (entry_of es line)
  pub end : a.end ≡ end_by f.end first total es (entry_of es line)
  pub live : a.live ≡ entries f es used line
  pub at : a.at ≡ entry_of es line
  pub table : new ≡ in_front (take (entries f es used line) es) old

-- the answer, or, where the table is too short, the entries needed and the table as it was
abbrev pub Asks : Frame → ℕ → ℕ → List ℕ → ℕ → ℕ → List ℕ → Result Answered ℕ → List ℕ → Type 0
Asks f first total es live line old (Ok a) table = Answers f first total es live line old a table
Asks f first total es live line old (Err n) table = (n ≡ entries f es live line) × (length old < n) × (table ≡ old)

-- all turn ends that the entries in use and a view's lines, by rank, give together
abbrev pub given_ends : ℕ → List Line → List ℕ → ℕ → List ℕ
given_ends first xs table live = take (live - 1) table ++ map (λ k. last_held first (take live table) + k) (turn_ends None same_line (drop (last_held first (take live table) - first) xs))

-- an answer that does not use the turn table
pub record Plainly (start end : ℕ) (r : Result Answered ℕ) (old new : List ℕ) : Type 0 where
  pub answer : r ≡ Ok (record { start = start; end = end; live = 0; at = 0 })
  pub table : new ≡ old

-- what is found for a question that has passed its checks
abbrev pub Finds : WindowFrameUnits → State → ℕ → List Line → ℕ → Result Answered ℕ → List ℕ → Type 0
Finds Rows s first xs line r new = Plainly (row_start s.frame.start (first + length xs) line) (row_end s.frame.end (first + length xs) line) r s.table new
Finds Range s first xs line r new = Plainly (start_from s.options first xs line s.last.start s.frame.start) (end_from s.options first xs line s.last.end s.frame.end) r s.table new
Finds Groups s first xs line r new = Asks s.frame first (first + length xs) (given_ends first xs s.table s.used) s.used line s.table r new

-- what a question under GROUPS asks of the table: the entries in use rise past the first line and hold none from the total on, and those before an entry at hand hold none past the line
pub record Ready (table : List ℕ) (live at first total line : ℕ) : Type 0 where
  pub room : live ≤ length table
  pub held : Held first total (take live table)
  pub low : first ≤ line
  pub high : line < total
  pub passed : (k : ℕ) → k < at → slice_index table k ≤ line
  pub behind : at ≤ live - 1
