-- The line that answers a command which has no answer of its own.
use Rattle.std.specs.Prelude.{ℕ, List, []}
use Rattle.frame.specs.Refusals.{refusal_of}
use Rattle.readback.specs.declared.command.Trouble.{Trouble}
use Rattle.readback.specs.declared.command.Trouble.TheVariants.{Script, Refused}
use Rattle.readback.specs.Lines.{refusal_line, error_line}

-- a mistake in the script, or why it is refused
abbrev pub trouble_line : Trouble → List ℕ
trouble_line (Script m) = error_line m
trouble_line (Refused r) = refusal_line (refusal_of r [])
