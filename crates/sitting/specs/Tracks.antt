-- Finished transcripts, the views that are stretches of one, and what a tracker holds of one.
use Rattle.std.specs.Prelude.{◌≡◌, ℕ, ◌+◌, ◌<◌, ◌≤◌, List, length, take, drop}
use Rattle.meaning.specs.Lines.{Line}
use Rattle.meaning.specs.Clause.{window, Fit}
use Rattle.sitting.specs.State.{State, none_yet, limit}
use Rattle.sitting.specs.Rules.{reach, entries}

-- a view holds exactly the lines of F from its first line to before its total
pub record Stretch (F : List Line) (first : ℕ) (xs : List Line) : Type 0 where
  pub within : first + length xs ≤ length F
  pub are : xs ≡ take (length xs) (drop first F)

-- nothing is granted, seen or filed
pub record Fresh (s : State) : Type 0 where
  pub last : s.last ≡ none_yet
  pub filed : s.filed ≡ 0
  pub used : s.used ≡ 0

-- what a tracker holds is what the rules give over F for the last granted question
pub record Follows (F : List Line) (s : State) : Type 0 where
  pub shown : s.last.line < s.last.total
  pub within : s.last.total ≤ length F
  pub fit : Fit s.options s.frame.units (take s.last.total F)
  pub window : (s.last.start, s.last.end) ≡ window s.options s.frame (take s.last.total F) s.last.line
  pub kept : s.filed ≤ limit s.last
  pub room : s.used ≤ length s.table
  pub entries : take s.used s.table ≡ entries s.frame.units (take s.last.total F) s.filed (reach s.frame (take s.last.total F) s.last.line)

pub data Tracks (F : List Line) (s : State) : Type 0 where
  at_first : Fresh s → Tracks F s
  since : Follows F s → Tracks F s
