-- What a view over an array of stamps means.
use Rattle.std.specs.Prelude.{ℕ, List, Ok, Err, Option, Result}
use Rattle.frame.specs.declared.refusal.Refusal.{Refusal}
use Rattle.transcript.specs.declared.stamps.StampView.{StampView}

-- the lines that a view holds: its stamps
abbrev pub lines_of : {K : Type 0} → StampView K → List (Option K)
lines_of v = v.stamps.now

-- a view by its first line number and its lines, or a refusal
abbrev pub meaning : {K : Type 0} → Result (StampView K) Refusal → Result (ℕ × List (Option K)) Refusal
meaning (Ok v) = Ok (v.first, lines_of v)
meaning (Err e) = Err e
