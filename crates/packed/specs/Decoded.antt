-- The line that the code's line stands for.
use Rattle.std.specs.Option.{option_map}
use Rattle.packed.specs.declared.line.PackedLine.{PackedLine}
use Rattle.packed.specs.Fields.{Line}

abbrev pub decoded : PackedLine → Line
decoded x = record { speaker = x.speaker; question = x.question; elapsed = x.elapsed; text = option_map (λ t. t.now) x.text }
