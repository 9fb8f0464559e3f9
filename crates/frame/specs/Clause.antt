-- What a clause text says, or what is wrong with it: faults from left to right.
use Rattle.std.specs.Prelude.{ℕ, Bool, true, false, cond, List, [], length, Ok, Err, Result, ◌==◌, nat_le}
use Rattle.frame.specs.declared.bound.WindowFrameUnits.{WindowFrameUnits}
use Rattle.frame.specs.declared.bound.WindowFrameUnits.TheVariants as units
use Rattle.frame.specs.declared.bound.WindowFrameBound.{WindowFrameBound}
use Rattle.frame.specs.declared.bound.WindowFrameBound.TheVariants as bounds
use Rattle.frame.specs.declared.refusal.Reason.TheVariants.{ClauseTooLong, WrongWord, BadNumber, WordAfterClause, StartUnboundedFollowing, EndUnboundedPreceding}
use Rattle.frame.specs.declared.refusal.Layer.TheVariants as layers
use Rattle.words.specs.declared.letters.Keyword.{Keyword}
use Rattle.words.specs.declared.letters.Keyword.TheVariants.{Rows, Range, Groups, Between, And, Unbounded, Current, Row, Preceding, Following}
use Rattle.words.specs.Words.{Placed, Rest, Token, key, number, other, missing, first, later, all_words}
use Rattle.words.specs.Tokens.{span_of}
use Rattle.words.specs.Numbers.{numeral_or}
use Rattle.words.specs.Faults.{both}
use Rattle.frame.specs.Bounds.{kind}
use Rattle.frame.specs.Frames.{Frame}
use Rattle.frame.specs.Refusals.{Refused, refused}

abbrev pub key_number : Keyword → ℕ
key_number Rows = 0
key_number Range = 1
key_number Groups = 2
key_number Between = 3
key_number And = 4
key_number Unbounded = 5
key_number Current = 6
key_number Row = 7
key_number Preceding = 8
key_number Following = 9

-- whether a word is a keyword
abbrev pub is : Keyword → Token → Bool
is k (key j p) = key_number j == key_number k
is k (number p) = false
is k (other p) = false
is k (missing p) = false

-- whether a word begins with a digit
abbrev pub is_number : Token → Bool
is_number (key k p) = false
is_number (number p) = true
is_number (other p) = false
is_number (missing p) = false

abbrev pub is_missing : Token → Bool
is_missing (key k p) = false
is_missing (number p) = false
is_missing (other p) = false
is_missing (missing p) = true

-- go on with what was read, unless there is a fault
abbrev pub then : {X Y E : Type 0} → Result X E → (X → Result Y E) → Result Y E
then (Ok x) f = f x
then (Err e) f = Err e

-- a word that does not fit, where a bound's word could stand
abbrev pub wrong_in_bound : Token → Refused
wrong_in_bound t = refused WrongWord layers.Bound (span_of t)

-- a word that does not fit, elsewhere
abbrev pub wrong_in_clause : Token → Refused
wrong_in_clause t = refused WrongWord layers.Clause (span_of t)

-- what is left after a keyword that has to stand here, or the word that does
abbrev pub expected : Keyword → Rest → Result Rest Placed
expected k r = cond (is k (first r)) (Ok (later r)) (Err (span_of (first r)))

-- PRECEDING or FOLLOWING, and what is left
abbrev pub side : WindowFrameBound → WindowFrameBound → Rest → Result (WindowFrameBound × Rest) Refused
side before after r =
    cond (is Preceding (first r)) (Ok (before, later r)) (
    cond (is Following (first r)) (Ok (after, later r)) (
    Err (wrong_in_bound (first r))))

-- the ROW of CURRENT ROW, and what is left
abbrev pub row : Rest → Result (WindowFrameBound × Rest) Refused
row r = cond (is Row (first r)) (Ok (bounds.CurrentRow, later r)) (Err (wrong_in_bound (first r)))

-- n PRECEDING or n FOLLOWING, whose first word is at p, and what is left
abbrev pub by_offset : Placed → Rest → Result (WindowFrameBound × Rest) Refused
by_offset p r = then (both (λ n. n) (refused BadNumber layers.Word) (numeral_or p)) (λ n. side (bounds.Preceding n) (bounds.Following n) r)

abbrev pub bound_by : Token → Rest → Result (WindowFrameBound × Rest) Refused
bound_by t r =
    cond (is Unbounded t) (side bounds.UnboundedPreceding bounds.UnboundedFollowing r) (
    cond (is Current t) (row r) (
    cond (is_number t) (by_offset (span_of t) r) (
    Err (wrong_in_bound t))))

-- a bound as it was read, and its first word
pub record Said : Type 0 where
  pub bound : WindowFrameBound
  pub at : Placed

abbrev pub said_at : Placed → WindowFrameBound × Rest → Said × Rest
said_at p x = (record { bound = x.0; at = p }, x.1)

-- a bound whose first word is t, and what is left
abbrev pub bound : Token → Rest → Result (Said × Rest) Refused
bound t r = both (said_at (span_of t)) (λ e. e) (bound_by t r)

-- ROWS, RANGE or GROUPS, and what is left
abbrev pub unit : Rest → Result (WindowFrameUnits × Rest) Refused
unit r =
    cond (is Rows (first r)) (Ok (units.Rows, later r)) (
    cond (is Range (first r)) (Ok (units.Range, later r)) (
    cond (is Groups (first r)) (Ok (units.Groups, later r)) (
    Err (wrong_in_clause (first r)))))

-- what is left after AND
abbrev pub joint : Rest → Result Rest Refused
joint r = cond (is And (first r)) (Ok (later r)) (Err (wrong_in_clause (first r)))

-- bound AND bound, and what is left
abbrev pub pair : Rest → Result (Said × Said × Rest) Refused
pair r =
    then (bound (first r) (later r)) (λ s.
    then (joint s.1) (λ q.
    then (bound (first q) (later q)) (λ e.
    Ok (s.0, e.0, e.1))))

-- a missing end is CURRENT ROW
abbrev pub to_current : Said × Rest → Said × Said × Rest
to_current s = (s.0, record { bound = bounds.CurrentRow; at = s.0.at }, s.1)

-- BETWEEN bound AND bound, or one bound; and what is left
abbrev pub extent : Rest → Result (Said × Said × Rest) Refused
extent r = cond (is Between (first r)) (pair (later r)) (both to_current (λ e. e) (bound (first r) (later r)))

-- what is asked once the bounds have been read: no word after them, then the start, then the end
abbrev pub judged : WindowFrameUnits → Said × Said × Rest → Result Frame Refused
judged u x =
    cond (is_missing (first x.2)) (
    cond (kind x.0.bound == 4) (Err (refused StartUnboundedFollowing layers.Clause x.0.at)) (
    cond (kind x.1.bound == 0) (Err (refused EndUnboundedPreceding layers.Clause x.1.at)) (
    Ok (record { units = u; start = x.0.bound; end = x.1.bound })))) (
    Err (refused WordAfterClause layers.Clause (span_of (first x.2))))

abbrev pub clause_of : Rest → Result Frame Refused
clause_of r = then (unit r) (λ u. then (extent u.1) (judged u.0))

-- the frame that a text says, or what is wrong with it
abbrev pub clause : List ℕ → Result Frame Refused
clause bs =
    cond (nat_le (length bs) 256) (clause_of (all_words bs)) (
    Err (refused ClauseTooLong layers.Clause (record { text = []; place = 256 })))
