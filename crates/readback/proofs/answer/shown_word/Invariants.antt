use Rattle.std.proofs.Common.{◌≡◌, map, take, string_bytes}
use Rattle.readback.specs.Lines.{printed}
use Rattle.readback.proofs.answer.shown_word.Given as goal

abbrev pub invariant-loop-b : goal.invariant-loop-b
invariant-loop-b l = string_bytes l.text ≡ map printed (take l.b-index l.word)
