-- Sittings: a fresh tracker and any calls on it, refused ones too; and the law over all of them.
use Rattle.std.specs.Prelude.{◌≡◌, ℕ, ◌+◌, ◌<◌, ◌≤◌, max, true, List, [], ◌∷◌, length, take, Some, None, Ok, Err, Result}
use Rattle.frame.specs.declared.bound.WindowFrameUnits.TheVariants.{Groups}
use Rattle.frame.specs.declared.refusal.Refusal.{Refusal}
use Rattle.frame.specs.declared.refusal.Reason.TheVariants.{TurnTableShort}
use Rattle.frame.specs.Frames.{Frame}
use Rattle.frame.specs.Bounds.{causal}
use Rattle.meaning.specs.declared.options.SortOptions.{SortOptions}
use Rattle.meaning.specs.Lines.{Line, Holds}
use Rattle.meaning.specs.Clause.{window, Fit, Settled}
use Rattle.sitting.specs.State.{Grant, none_yet, State, fresh}
use Rattle.sitting.specs.Rules.{refuse, fault, reach, entries, short, or_else, answered, filing}
use Rattle.sitting.specs.Tracks.{Stretch}
use Rattle.sitting.specs.Calls.{Window, Filing}

-- a call and its answer: a question on a view, or a filing with the two numbers of its slip
pub data Event : Type 0 where
  asked : (first : ℕ) (xs : List Line) (line : ℕ) (r : Result (ℕ × ℕ) Refusal) → Event
  put : (n : ℕ) (r : Result (ℕ × ℕ) Refusal) → Event

-- what the contracts of the calls say
abbrev pub Step : State → Event → State → Type 0
Step s (asked first xs line r) t = Window s first xs line r t
Step s (put n r) t = Filing s n r t

-- the calls of a sitting, the latest first, and what the tracker then holds
pub data Sitting (o : SortOptions) (f : Frame) (table : List ℕ) : List Event → State → Type 0 where
  opened : Sitting o f table [] (fresh o f table)
  called : {es : List Event} {s t : State} (e : Event) → Sitting o f table es s → Step s e t → Sitting o f table (e ∷ es) t

-- what went before, read off calls and answers: the last granted question, and the last granted filing
abbrev pub last_grant : List Event → Grant
last_grant [] = none_yet
last_grant (asked first xs line (Ok w) ∷ es) = record { line = line; start = w.0; end = w.1; total = first + length xs }
last_grant (asked first xs line (Err e) ∷ es) = last_grant es
last_grant (put n r ∷ es) = last_grant es

abbrev pub filed_count : List Event → ℕ
filed_count [] = 0
filed_count (asked first xs line r ∷ es) = filed_count es
filed_count (put n (Ok w) ∷ es) = n
filed_count (put n (Err e) ∷ es) = filed_count es

-- what is said of a granted question
abbrev pub WhenGranted : (ℕ → List Line → ℕ → ℕ × ℕ → Type 0) → Event → Type 0
WhenGranted P (asked first xs line (Ok w)) = P first xs line w
WhenGranted P (asked first xs line (Err e)) = Unit {0}
WhenGranted P (put n r) = Unit {0}

-- of every granted question, with the calls before it
abbrev pub EachGranted : (List Event → ℕ → List Line → ℕ → ℕ × ℕ → Type 0) → List Event → Type 0
EachGranted P [] = Unit {0}
EachGranted P (e ∷ es) = WhenGranted (P es) e × EachGranted P es

module _ (F : List Line) (o : SortOptions) (f : Frame) where
  -- the granted views are stretches of F
  abbrev pub AllStretches : List Event → Type 0
  AllStretches es = EachGranted (λ _ first xs _ _. Stretch F first xs) es

  -- the furthest turn that a granted question has reached
  abbrev pub furthest : List Event → ℕ
  furthest [] = 0
  furthest (asked first xs line (Ok w) ∷ es) = max (furthest es) (reach f (take (first + length xs) F) line)
  furthest (asked first xs line (Err e) ∷ es) = furthest es
  furthest (put n r ∷ es) = furthest es

  -- what the turn table has to hold for a question, after these calls
  abbrev pub wanted : List Event → ℕ → ℕ → List ℕ
  wanted es total line = entries f.units (take total F) (filed_count es) (max (furthest es) (reach f (take total F) line))

  -- without a fault there is a window, or under GROUPS a turn table that is too short
  abbrev pub OnlyShort : ℕ → Result (ℕ × ℕ) Refusal → Type 0
  OnlyShort room (Ok w) = Unit {0}
  OnlyShort room (Err e) = (f.units ≡ Groups) × (e ≡ refuse TurnTableShort e.place) × (room < e.place)

  -- the answer that is due to a call after these calls, with a turn table of so many entries
  pub record QuestionDue (room : ℕ) (es : List Event) (first : ℕ) (xs : List Line) (line : ℕ) (r : Result (ℕ × ℕ) Refusal) : Type 0 where
    pub refused : (e : Refusal) → fault o f (last_grant es) (filed_count es) first xs line ≡ Some e → r ≡ Err e
    pub passed : fault o f (last_grant es) (filed_count es) first xs line ≡ None → OnlyShort room r
    pub shown : Stretch F first xs → r ≡ answered (or_else (fault o f (last_grant es) (filed_count es) first xs line) (short f.units room (wanted es (first + length xs) line))) (window o f (take (first + length xs) F) line)

  abbrev pub Due : ℕ → List Event → Event → Type 0
  Due room es (asked first xs line r) = QuestionDue room es first xs line r
  Due room es (put n r) = r ≡ filing (last_grant es) (filed_count es) n

  abbrev pub EachDue : ℕ → List Event → Type 0
  EachDue room [] = Unit {0}
  EachDue room (e ∷ es) = Due room es e × EachDue room es

  -- a window neither begins nor ends before those granted earlier
  abbrev pub NotBefore : List Event → ℕ × ℕ → Type 0
  NotBefore es w = EachGranted (λ _ _ _ _ v. (v.0 ≤ w.0) × (v.1 ≤ w.1)) es

  -- a window holds exactly the lines that the clause's window over all of F holds
  pub record SameLines (line : ℕ) (w : ℕ × ℕ) : Type 0 where
    pub still : (j : ℕ) → Holds w.0 w.1 j → Holds (window o f F line).0 (window o f F line).1 j
    pub back : (j : ℕ) → Holds (window o f F line).0 (window o f F line).1 j → Holds w.0 w.1 j

  pub record Upheld (room : ℕ) (es : List Event) (s : State) : Type 0 where
    -- every answer, granted or refused, is the one that is due
    pub due : EachDue room es
    -- each granted window is the clause's over all lines below its view's total
    pub exact : EachGranted (λ _ first xs line w. w ≡ window o f (take (first + length xs) F) line) es
    -- none begins or ends before an earlier one, nor below what was filed when it was granted
    pub onward : EachGranted (λ before _ _ _ w. NotBefore before w) es
    pub unfiled : EachGranted (λ before _ _ _ w. (filed_count before ≤ w.0) × (filed_count before ≤ w.1)) es
    -- windows of a causal frame hold the lines that they hold over all of F
    pub holds : causal f.units f.end ≡ true → Fit o f.units F → EachGranted (λ _ _ _ line w. Settled f.units F line → SameLines line w) es
    -- the tracker holds what the calls have left
    pub last : s.last ≡ last_grant es
    pub filed : s.filed ≡ filed_count es
    pub table : take s.used s.table ≡ entries f.units (take (last_grant es).total F) (filed_count es) (furthest es)

-- for every finished transcript of which the granted views are stretches
abbrev pub SittingLaw : Type 0
SittingLaw = (o : SortOptions) (f : Frame) (table : List ℕ) (es : List Event) (s : State) → Sitting o f table es s → (F : List Line) → AllStretches F o f es → Upheld F o f (length table) es s
