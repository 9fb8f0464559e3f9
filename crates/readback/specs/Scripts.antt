-- What a line does to a script's run, and how it is answered.
use Rattle.std.specs.Prelude.{◌≡◌, ℕ, true, List, is_some, Some, None, Ok, Err, Option, Result}
use Rattle.std.specs.Option.{option_map}
use Rattle.frame.specs.Clause as frames
use Rattle.frame.specs.Frames.{Frame, framed, reversed}
use Rattle.frame.specs.Refusals.{Refused}
use Rattle.readback.specs.declared.command.Mistake.TheVariants.{NoFrame}
use Rattle.readback.specs.declared.session.Session.{Session}
use Rattle.readback.specs.Commands.{Meant, nothing, clause, reverse, scan, view, explain, wrong}
use Rattle.readback.specs.Lines.{frame_line, clause_line, error_line}

-- the current frame, if there is one
abbrev pub current : Session → Option Frame
current s = option_map framed s.frame

-- a clause that is read becomes the current frame, one that is refused does not
abbrev pub taken : Option Frame → Result Frame Refused → Option Frame
taken s (Ok f) = Some f
taken s (Err e) = s

abbrev pub after : Option Frame → Meant → Option Frame
after s nothing = s
after s (clause text) = taken s (frames.clause text)
after s reverse = option_map reversed s
after s (scan args) = s
after s (view args) = s
after s (explain args) = s
after s (wrong m) = s

abbrev pub reverse_line : Option Frame → List ℕ
reverse_line (Some f) = frame_line (reversed f)
reverse_line None = error_line NoFrame

-- what is true of the answer to a line; of a scan, a view and an explanation only that there is one
abbrev pub Replies : Option Frame → Meant → Option (List ℕ) → Type 0
Replies s nothing a = a ≡ None
Replies s (clause text) a = a ≡ Some (clause_line (frames.clause text))
Replies s reverse a = a ≡ Some (reverse_line s)
Replies s (scan args) a = is_some a ≡ true
Replies s (view args) a = is_some a ≡ true
Replies s (explain args) a = is_some a ≡ true
Replies s (wrong m) a = a ≡ Some (error_line m)
