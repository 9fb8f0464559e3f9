-- Whether a check lets a question pass.
use Rattle.std.specs.Prelude.{Option, Result}
use Rattle.frame.specs.declared.refusal.Refusal.{Refusal}
use Rattle.sitting.specs.Rules.{answered}

abbrev pub allowed : Option Refusal → Result (Unit {0}) Refusal
allowed fault = answered fault tt
