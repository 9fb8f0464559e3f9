-- What a tracker holds: its frame, the last granted question, the filed count and the turn table.
use Rattle.std.specs.Prelude.{ℕ, min, List}
use Rattle.frame.specs.Frames.{Frame}
use Rattle.meaning.specs.declared.options.SortOptions.{SortOptions}

-- a granted question: the line asked, its window, and the total of the view
pub record Grant : Type 0 where
  pub line : ℕ
  pub start : ℕ
  pub end : ℕ
  pub total : ℕ

-- before any question is granted
abbrev pub none_yet : Grant
none_yet = record { line = 0; start = 0; end = 0; total = 0 }

-- the furthest line that may be filed
abbrev pub limit : Grant → ℕ
limit g = min g.line (min g.start g.end)

pub record State : Type 0 where
  pub options : SortOptions
  pub frame : Frame
  pub last : Grant
  pub filed : ℕ
  -- how many entries of the turn table are in use
  pub used : ℕ
  pub table : List ℕ

-- a tracker just opened: it has granted, seen and filed nothing
abbrev pub fresh : SortOptions → Frame → List ℕ → State
fresh o f table = record { options = o; frame = f; last = none_yet; filed = 0; used = 0; table = table }
