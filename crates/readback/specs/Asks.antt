-- What a line of the script asks of a sitting.
use Rattle.std.specs.Prelude.{ℕ, cond, List, Some, None, Option, codes}
use Rattle.std.specs.Option.{option_map}
use Rattle.std.specs.Str.{bytes_eq}
use Rattle.readback.specs.declared.asks.Ask.{Ask}
use Rattle.readback.specs.declared.asks.Ask.TheVariants.{Open, Of}
use Rattle.readback.specs.declared.asks.Call.{Call}
use Rattle.readback.specs.declared.asks.Call.TheVariants.{Line, Feed, Window, Ask as AskCall, File, Table, Roll, Places}
use Rattle.readback.specs.Commands.{head, rest}

pub data Asked : Type 0 where
  begin : List ℕ → Asked
  asked : Call → List ℕ → Asked

abbrev pub meant_ask : Ask → Asked
meant_ask (Open args) = begin args.now
meant_ask (Of c args) = asked c args.now

abbrev pub call_name : Call → List ℕ
call_name Line = codes "line"
call_name Feed = codes "feed"
call_name Window = codes "window"
call_name AskCall = codes "ask"
call_name File = codes "file"
call_name Table = codes "table"
call_name Roll = codes "roll"
call_name Places = codes "places"

-- the commands of a sitting
abbrev pub call_of : List ℕ → Option Call
call_of word =
    cond (bytes_eq word (call_name Line)) (Some Line) (
    cond (bytes_eq word (call_name Feed)) (Some Feed) (
    cond (bytes_eq word (call_name Window)) (Some Window) (
    cond (bytes_eq word (call_name AskCall)) (Some AskCall) (
    cond (bytes_eq word (call_name File)) (Some File) (
    cond (bytes_eq word (call_name Table)) (Some Table) (
    cond (bytes_eq word (call_name Roll)) (Some Roll) (
    cond (bytes_eq word (call_name Places)) (Some Places) (
    None))))))))

-- the command and the bytes behind it
abbrev pub ask_of : List ℕ → Option Asked
ask_of line =
    cond (bytes_eq (head line) (codes "open")) (Some (begin (rest line))) (
    option_map (λ c. asked c (rest line)) (call_of (head line)))
