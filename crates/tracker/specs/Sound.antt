-- What always holds of a tracker's numbers and its turn table.
use Rattle.std.specs.Prelude.{◌≡◌, ℕ, ◌-◌, ◌<◌, ◌≤◌, List, length, slice_index}
use Rattle.frame.specs.declared.bound.WindowFrameUnits.TheVariants.{Rows}
use Rattle.frame.specs.Frames.{framed}
use Rattle.meaning.specs.Rows.{row_start, row_end}
use Rattle.tracker.specs.declared.standing.Standing.{Standing}

-- nothing is filed that the last granted question or its window needs
abbrev pub Kept : Standing → Type 0
Kept s = (s.filed ≤ s.last.line) × (s.filed ≤ s.last.start) × (s.filed ≤ s.last.end)

-- the last granted line was shown
abbrev pub Shown : Standing → Type 0
Shown s = s.last.line ≤ s.last.total - 1

-- under ROWS the last window goes by line numbers alone
abbrev pub Rowed : Standing → Type 0
Rowed s = (framed s.frame).units ≡ Rows → (s.last.start ≤ row_start (framed s.frame).start s.last.total s.last.line) × (s.last.end ≤ row_end (framed s.frame).end s.last.total s.last.line)

-- the entries in use are entries of the table, lie past the filed lines and within those seen, and rise
abbrev pub Room : Standing → List ℕ → Type 0
Room s table = s.live ≤ length table

abbrev pub Past : Standing → List ℕ → Type 0
Past s table = (k : ℕ) → k < s.live → s.filed < slice_index table k

abbrev pub Within : Standing → List ℕ → Type 0
Within s table = (k : ℕ) → k < s.live → slice_index table k ≤ s.last.total

abbrev pub Rising : Standing → List ℕ → Type 0
Rising s table = (j k : ℕ) → j < k → k < s.live → slice_index table j < slice_index table k

-- no turn before the entry at hand goes on past the last line
abbrev pub Passed : Standing → List ℕ → Type 0
Passed s table = (k : ℕ) → k < s.at → slice_index table k ≤ s.last.line

abbrev pub Behind : Standing → Type 0
Behind s = s.at ≤ s.live - 1
