-- What an error of one word says: the word.
use Rattle.std.specs.Prelude.{Ok, Err, Result}
use Rattle.words.specs.declared.number.WordError.{WordError}
use Rattle.words.specs.declared.number.WordError.TheVariants.{BadNumber}
use Rattle.words.specs.Words.{Placed}
use Rattle.words.specs.Tokens.{placed}

abbrev pub fault : WordError → Placed
fault (BadNumber s) = placed s

-- a result with its value and its error each put another way
abbrev pub both : {X Y E F : Type 0} → (X → Y) → (E → F) → Result X E → Result Y F
both f g (Ok x) = Ok (f x)
both f g (Err e) = Err (g e)
