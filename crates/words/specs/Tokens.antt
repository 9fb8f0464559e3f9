-- What the code's words stand for.
use Rattle.words.specs.declared.word.Span.{Span}
use Rattle.words.specs.declared.word.Word.{Word}
use Rattle.words.specs.declared.word.Word.TheVariants.{Key, Number, Other, Missing}
use Rattle.words.specs.Words.{Placed, Token, key, number, other, missing}

abbrev pub placed : Span → Placed
placed s = record { text = s.text.now; place = s.place }

abbrev pub token : Word → Token
token (Key k s) = key k (placed s)
token (Number s) = number (placed s)
token (Other s) = other (placed s)
token (Missing s) = missing (placed s)

-- where a word stands
abbrev pub span_of : Token → Placed
span_of (key k p) = p
span_of (number p) = p
span_of (other p) = p
span_of (missing p) = p
