-- What a question and a filing answer, and what the tracker then holds.
use Rattle.std.specs.Prelude.{ℕ, ◌+◌, ◌-◌, max, cond, not, List, [], length, take, Some, None, Ok, Err, Option, Result, ◌==◌, nat_le, nat_lt}
use Rattle.std.specs.Option.{option_map}
use Rattle.frame.specs.declared.bound.WindowFrameUnits.{WindowFrameUnits}
use Rattle.frame.specs.declared.bound.WindowFrameUnits.TheVariants.{Rows, Range, Groups}
use Rattle.frame.specs.declared.refusal.Refusal.{Refusal}
use Rattle.frame.specs.declared.refusal.Reason.{Reason}
use Rattle.frame.specs.declared.refusal.Reason.TheVariants.{LineNotShown, OutOfOrder, OtherFirstLine, TotalFell, LineBeforeLast, TurnTableShort, FilingAboveLimit, FilingBelowFiled}
use Rattle.frame.specs.declared.refusal.Layer.TheVariants.{Tracker}
use Rattle.frame.specs.Frames.{Frame}
use Rattle.transcript.specs.Lines.{at_line}
use Rattle.meaning.specs.declared.options.SortOptions.{SortOptions}
use Rattle.meaning.specs.Counts.{walk}
use Rattle.meaning.specs.Lines.{Line}
use Rattle.meaning.specs.Ranges.{before}
use Rattle.meaning.specs.Turns.{reached, table}
use Rattle.meaning.specs.Clause.{same_line, window}
use Rattle.search.specs.Views.{if_below}
use Rattle.sitting.specs.Tables.{above, in_front}
use Rattle.sitting.specs.State.{Grant, State, limit}

abbrev pub refuse : Reason → ℕ → Refusal
refuse r p = record { reason = r; place = p; layer = Tracker }

-- the first line from n on, below the total, that is ordered before the line in front of it
abbrev pub disorder : SortOptions → ℕ → List Line → ℕ → Option ℕ
disorder o first xs n = if_below (first + length xs) (walk (λ j. not (before o (at_line first xs j) (at_line first xs (j - 1)))) n (first + length xs - n))

-- RANGE asks for lines in order; what was seen has been looked at
abbrev pub order_fault : WindowFrameUnits → SortOptions → ℕ → List Line → ℕ → Option Refusal
order_fault Rows o first xs seen = None
order_fault Range o first xs seen = option_map (refuse OutOfOrder) (disorder o first xs (max seen 1))
order_fault Groups o first xs seen = None

-- a question's first fault, in the order of the checks: first line, total, line shown, line not before the last, order
abbrev pub fault : SortOptions → Frame → Grant → ℕ → ℕ → List Line → ℕ → Option Refusal
fault o f g filed first xs line =
    cond (not (first == filed)) (Some (refuse OtherFirstLine filed))
    (cond (nat_lt (first + length xs) g.total) (Some (refuse TotalFell g.total))
    (cond (nat_le (first + length xs) line) (Some (refuse LineNotShown line))
    (cond (nat_lt line g.line) (Some (refuse LineBeforeLast g.line))
    (order_fault f.units o first xs g.total))))

-- the furthest turn that a question for line i reaches: its own, and the turn n on for each bound n FOLLOWING, the last at most
abbrev pub reach : Frame → List Line → ℕ → ℕ
reach f xs i = max (reached None same_line f.start xs i) (reached None same_line f.end xs i)

-- what the turn table holds up to turn r: under GROUPS the ends that exceed the filed count
abbrev pub entries : WindowFrameUnits → List Line → ℕ → ℕ → List ℕ
entries Rows xs filed r = []
entries Range xs filed r = []
entries Groups xs filed r = table None same_line xs filed r

-- the turn table has fewer entries than are needed
abbrev pub short : WindowFrameUnits → ℕ → List ℕ → Option Refusal
short Rows room es = None
short Range room es = None
short Groups room es = cond (nat_lt room (length es)) (Some (refuse TurnTableShort (length es))) None

abbrev pub or_else : {X : Type 0} → Option X → Option X → Option X
or_else (Some x) o = Some x
or_else None o = o

-- a refusal where one is due, and else the answer
abbrev pub answered : {X : Type 0} → Option Refusal → X → Result X Refusal
answered (Some e) x = Err e
answered None x = Ok x

-- what is kept where a refusal is due, and what there is else
abbrev pub settled : {X : Type 0} → Option Refusal → X → X → X
settled (Some e) old new = old
settled None old new = new

module _ (F : List Line) (s : State) (first : ℕ) (xs : List Line) (line : ℕ) where
  -- the lines of the finished transcript that the filed ones and the view's are
  abbrev pub shown : List Line
  shown = take (first + length xs) F

  -- what the turn table has to hold
  abbrev pub needed : List ℕ
  needed = entries s.frame.units shown s.filed (reach s.frame shown line)

  -- what the question is refused for
  abbrev pub due : Option Refusal
  due = or_else (fault s.options s.frame s.last s.filed first xs line) (short s.frame.units (length s.table) needed)

  -- the clause's window over the lines filed and shown
  abbrev pub granted : ℕ × ℕ
  granted = window s.options s.frame shown line

  abbrev pub answer : Result (ℕ × ℕ) Refusal
  answer = answered due granted

  -- what the tracker holds after a granted question
  abbrev pub moved_on : State
  moved_on = record {
    options = s.options;
    frame = s.frame;
    last = record { line = line; start = granted.0; end = granted.1; total = first + length xs };
    filed = s.filed;
    used = length needed;
    table = in_front needed s.table;
  }

  abbrev pub next : State
  next = settled due s moved_on

-- what a filing is refused for
abbrev pub file_fault : Grant → ℕ → ℕ → Option Refusal
file_fault g filed n =
    cond (nat_lt (limit g) n) (Some (refuse FilingAboveLimit (limit g)))
    (cond (nat_lt n filed) (Some (refuse FilingBelowFiled filed))
    None)

-- a filing up to n answers the two numbers of its slip
abbrev pub filing : Grant → ℕ → ℕ → Result (ℕ × ℕ) Refusal
filing g filed n = answered (file_fault g filed n) (filed, n)

-- the entries that stay: under GROUPS those of turns that end above n
abbrev pub staying : WindowFrameUnits → ℕ → List ℕ → List ℕ
staying Rows n es = []
staying Range n es = []
staying Groups n es = above n es

abbrev pub filed_to : State → ℕ → State
filed_to s n = let es : List ℕ = staying s.frame.units n (take s.used s.table) in record {
  options = s.options;
  frame = s.frame;
  last = s.last;
  filed = n;
  used = length es;
  table = in_front es s.table;
}

abbrev pub after_filing : State → ℕ → State
after_filing s n = settled (file_fault s.last s.filed n) s (filed_to s n)
