-- Refusals: the number of each reason and of each layer, and what a refusal says.
use Rattle.std.specs.Prelude.{ℕ, List}
use Rattle.frame.specs.declared.refusal.Reason.{Reason}
use Rattle.frame.specs.declared.refusal.Reason.TheVariants.{ClauseTooLong, WrongWord, BadNumber, WordAfterClause, StartUnboundedFollowing, EndUnboundedPreceding, RangeColumns, GroupsColumns, TooManyLines, UnknownBits, LineCutShort, NoPlaceEntry, WrongPlaceEntry, LineNotShown, OutOfOrder, OtherFirstLine, TotalFell, LineBeforeLast, TurnTableShort, FilingAboveLimit, FilingBelowFiled, OtherSlip, ArrayShort}
use Rattle.frame.specs.declared.refusal.Layer.{Layer}
use Rattle.frame.specs.declared.refusal.Layer.TheVariants.{Word, Bound, Clause, Opening, Transcript, Tracker, Roll}
use Rattle.frame.specs.declared.refusal.Refusal.{Refusal}
use Rattle.words.specs.Words.{Placed}

-- refused for what came in
abbrev pub number_of : Reason → ℕ
number_of ClauseTooLong = 1
number_of WrongWord = 2
number_of BadNumber = 3
number_of WordAfterClause = 4
number_of StartUnboundedFollowing = 5
number_of EndUnboundedPreceding = 6
number_of RangeColumns = 7
number_of GroupsColumns = 8
number_of TooManyLines = 9
number_of UnknownBits = 10
number_of LineCutShort = 11
number_of NoPlaceEntry = 12
number_of WrongPlaceEntry = 13
number_of LineNotShown = 14
number_of OutOfOrder = 15
-- refused for what went before
number_of OtherFirstLine = 21
number_of TotalFell = 22
number_of LineBeforeLast = 23
number_of TurnTableShort = 24
number_of FilingAboveLimit = 25
number_of FilingBelowFiled = 26
number_of OtherSlip = 27
number_of ArrayShort = 28

abbrev pub layer_of : Layer → ℕ
layer_of Word = 1
layer_of Bound = 2
layer_of Clause = 3
layer_of Opening = 4
layer_of Transcript = 5
layer_of Tracker = 6
layer_of Roll = 7

-- what is refused of a clause: the number, the layer, and the word at fault with its place
pub record Refused : Type 0 where
  pub number : ℕ
  pub layer : ℕ
  pub at : Placed

abbrev pub refused : Reason → Layer → Placed → Refused
refused r l p = record { number = number_of r; layer = layer_of l; at = p }

-- what a refusal says, with the word that is handed out beside it
abbrev pub refusal_of : Refusal → List ℕ → Refused
refusal_of r w = record { number = number_of r.reason; layer = layer_of r.layer; at = record { text = w; place = r.place } }
