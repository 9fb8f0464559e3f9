-- The lines that answer a script.
use Rattle.std.specs.Prelude.{ℕ, Bool, cond, ◌&&◌, List, ◌++◌, map, Ok, Err, codes, decimal, Result, nat_le}
use Rattle.readback.specs.declared.command.Mistake.{Mistake}
use Rattle.readback.specs.declared.command.Mistake.TheVariants.{UnknownCommand, TooManyWords, MissingWord, BadNumber, BadBytes, BadKind, BadOption, BadKey, TooLarge, NoSuchLine, OutOfOrder, NoFrame, NotHere, BadHolder, NoMemory}
use Rattle.frame.specs.Bounds.{causal}
use Rattle.frame.specs.Frames.{Frame, free}
use Rattle.frame.specs.Refusals.{Refused}
use Rattle.frame.specs.Shown.{frame_text}

abbrev pub yes_no : Bool → List ℕ
yes_no b = cond b (codes "yes") (codes "no")

-- a byte as it is shown: itself from 33 to 126, else a question mark
abbrev pub printed : ℕ → ℕ
printed b = cond (nat_le 33 b && nat_le b 126) b 63

abbrev pub frame_line : Frame → List ℕ
frame_line f = codes "frame " ++ (frame_text f ++ (codes " causal " ++ (yes_no (causal f.units f.end) ++ (codes " free " ++ yes_no (free f)))))

abbrev pub refusal_line : Refused → List ℕ
refusal_line e = codes "refused " ++ (decimal e.number ++ (codes " place " ++ (decimal e.at.place ++ (codes " layer " ++ decimal e.layer))))

-- a clause's refusal goes on with the word at fault
abbrev pub refused_line : Refused → List ℕ
refused_line e = refusal_line e ++ (codes " word \"" ++ (map printed e.at.text ++ codes "\""))

-- the answer to a clause: its frame, or why it is refused and at which word
abbrev pub clause_line : Result Frame Refused → List ℕ
clause_line (Ok f) = frame_line f
clause_line (Err e) = refused_line e

abbrev pub window_line : ℕ → ℕ → List ℕ
window_line start end = codes "window " ++ (decimal start ++ (codes " " ++ decimal end))

abbrev pub mistake_text : Mistake → List ℕ
mistake_text UnknownCommand = codes "unknown command"
mistake_text TooManyWords = codes "too many words"
mistake_text MissingWord = codes "a word is missing"
mistake_text BadNumber = codes "not a number that fits"
mistake_text BadBytes = codes "bytes have two digits each, or a point for none"
mistake_text BadKind = codes "no such kind here"
mistake_text BadOption = codes "the order is asc or desc, unmarked lines stand first or last"
mistake_text BadKey = codes "not a key of this kind"
mistake_text NoSuchLine = codes "no such line"
mistake_text OutOfOrder = codes "the lines are out of order"
mistake_text TooLarge = codes "a table has at most 16777216 entries"
mistake_text NoFrame = codes "no frame: read a clause first"
mistake_text NotHere = codes "not with these lines"
mistake_text BadHolder = codes "lines are held by a roll or packed"
mistake_text NoMemory = codes "out of memory"

abbrev pub error_line : Mistake → List ℕ
error_line m = codes "error " ++ mistake_text m
