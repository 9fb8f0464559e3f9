-- What opening a frame, or a clause, answers.
use Rattle.std.specs.Prelude.{ℕ, List, Ok, Err, Result}
use Rattle.frame.specs.declared.refusal.Refusal.{Refusal}
use Rattle.frame.specs.Clause.{clause}
use Rattle.frame.specs.Frames.{Frame, framed}
use Rattle.frame.specs.Refusals.{Refused, number_of, layer_of}
use Rattle.meaning.specs.declared.options.SortOptions.{SortOptions}
use Rattle.search.specs.Opening.{opened}
use Rattle.tracker.specs.declared.opening.Opening.{Opening}

-- a frame that is open, and the order of lines
pub record Opened : Type 0 where
  pub frame : Frame
  pub options : SortOptions

abbrev pub opening : {K : Type 0} → Result (Opening K) Refusal → Result Opened Refusal
opening (Ok o) = Ok (record { frame = framed o.frame; options = o.options })
opening (Err e) = Err e

abbrev pub open_if : Frame → SortOptions → Result (Unit {0}) Refusal → Result Opened Refusal
open_if f o (Ok x) = Ok (record { frame = f; options = o })
open_if f o (Err e) = Err e

-- a frame on so many order columns
abbrev pub opening_of : Frame → SortOptions → ℕ → Result Opened Refusal
opening_of f o columns = open_if f o (opened f columns)

-- a refusal by its number, place and layer
pub record Told : Type 0 where
  pub number : ℕ
  pub place : ℕ
  pub layer : ℕ

abbrev pub told : {X : Type 0} → Result X Refusal → Result X Told
told (Ok x) = Ok x
told (Err e) = Err (record { number = number_of e.reason; place = e.place; layer = layer_of e.layer })

abbrev pub open_read : SortOptions → ℕ → Result Frame Refused → Result Opened Told
open_read o columns (Ok f) = told (opening_of f o columns)
open_read o columns (Err e) = Err (record { number = e.number; place = e.at.place; layer = e.layer })

-- a clause's text: what it is refused for as a clause, and else as an opening
abbrev pub read_opening : List ℕ → SortOptions → ℕ → Result Opened Told
read_opening text o columns = open_read o columns (clause text)
