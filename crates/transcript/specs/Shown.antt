-- How keys are written.
use Rattle.std.specs.Prelude.{ℕ, ℤ, List, ◌++◌, codes, decimal}
use Rattle.std.specs.Fmt.{signed_decimal}

abbrev pub plain_text : List ℕ
plain_text = codes "*"

abbrev pub elapsed_text : ℕ → List ℕ
elapsed_text ms = decimal ms

-- with a minus before the mark
abbrev pub mark_text : ℤ → List ℕ
mark_text ms = signed_decimal ms

abbrev pub turn_text : ℕ → ℕ → List ℕ
turn_text speaker question = decimal speaker ++ (codes ":" ++ decimal question)
