-- How many bytes a command's words still have.
use Rattle.std.specs.Prelude.{ℕ, length}
use Rattle.readback.specs.declared.args.Args.{Args}

abbrev pub left : Args → ℕ
left a = length a.rest.now
