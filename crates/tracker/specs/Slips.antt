-- A slip by its two numbers.
use Rattle.std.specs.Prelude.{ℕ, Ok, Err, Result}
use Rattle.frame.specs.declared.refusal.Refusal.{Refusal}
use Rattle.tracker.specs.declared.slip.Slip.{Slip}

abbrev pub numbers : Slip → ℕ × ℕ
numbers s = (s.from, s.to)

-- what a filing answers, by the numbers of its slip
abbrev pub by_numbers : Result Slip Refusal → Result (ℕ × ℕ) Refusal
by_numbers (Ok s) = Ok (numbers s)
by_numbers (Err e) = Err e
