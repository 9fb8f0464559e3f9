use Rattle.std.proofs.Common.{◌≡◌, ◌≤◌, drop}
use Rattle.words.specs.Numbers.{value, all_digits}
use Rattle.words.proofs.number.number.Given as goal

abbrev pub invariant-loop-b : goal.invariant-loop-b
invariant-loop-b l = (value l.n (drop l.b-index l.text) ≡ value 0 l.text) × (all_digits (drop l.b-index l.text) ≡ all_digits l.text) × (l.n ≤ 18446744073709551615)
