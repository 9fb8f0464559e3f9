-- The words of a clause, each with its place, and what a word is.
use Rattle.std.specs.Prelude.{◌≡◌, ℕ, ◌+◌, ◌-◌, ◌<◌, Bool, true, false, cond, not, ◌&&◌, List, [], ◌∷◌, ◌++◌, length, drop, Some, None, Option, ◌==◌, nat_le}
use Rattle.words.specs.declared.letters.Keyword.{Keyword}
use Rattle.words.specs.Letters.{keyword}

-- whether a byte is a space, or whether it is none
abbrev pub like : Bool → ℕ → Bool
like true b = b == 32
like false b = not (b == 32)

-- some bytes of the clause, and the place of the first
pub record Placed : Type 0 where
  pub text : List ℕ
  pub place : ℕ

-- the word w that ends before place p, unless it is empty
abbrev pub closed : ℕ → List ℕ → List Placed
closed p [] = []
closed p (b ∷ w) = record { text = b ∷ w; place = p - length (b ∷ w) } ∷ []

-- the words of w, which ends before place p, and of the bytes that follow it
abbrev pub cut : ℕ → List ℕ → List ℕ → List Placed
cut p w [] = closed p w
cut p w (b ∷ bs) = cond (b == 32) (closed p w ++ cut (p + 1) [] bs) (cut (p + 1) (w ++ b ∷ []) bs)

-- the words from place p on
abbrev pub words_from : List ℕ → ℕ → List Placed
words_from bs p = cut p [] (drop p bs)

-- what is left of a clause: its words, and the clause's length
pub record Rest : Type 0 where
  pub words : List Placed
  pub end : ℕ

abbrev pub all_words : List ℕ → Rest
all_words bs = record { words = words_from bs 0; end = length bs }

-- what a word is
pub data Token : Type 0 where
  key : Keyword → Placed → Token
  number : Placed → Token
  other : Placed → Token
  missing : Placed → Token

-- whether a byte is one of 0 to 9
abbrev pub digit : ℕ → Bool
digit b = nat_le 48 b && nat_le b 57

abbrev pub starts_with_digit : List ℕ → Bool
starts_with_digit [] = false
starts_with_digit (b ∷ bs) = digit b

abbrev pub token_by : Option Keyword → Placed → Token
token_by (Some k) p = key k p
token_by None p = cond (starts_with_digit p.text) (number p) (other p)

-- the first of some words; where there is none, the empty word at the end of the clause, which has n bytes
abbrev pub first_of : ℕ → List Placed → Token
first_of n [] = missing (record { text = []; place = n })
first_of n (p ∷ ps) = token_by (keyword p.text) p

abbrev pub first : Rest → Token
first r = first_of r.end r.words

abbrev pub tail : List Placed → List Placed
tail [] = []
tail (p ∷ ps) = ps

-- what is left after the next word
abbrev pub later : Rest → Rest
later r = record { words = tail r.words; end = r.end }

-- s is the first of some words, or is empty at n where there is none, and rest follows it
abbrev pub Next : ℕ → List Placed → Placed → List Placed → Type 0
Next n [] s rest = (s ≡ record { text = []; place = n }) × (rest ≡ [])
Next n (p ∷ ps) s rest = (s ≡ p) × (rest ≡ ps) × (0 < length p.text)
