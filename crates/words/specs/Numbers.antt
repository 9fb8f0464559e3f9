-- Number words: 1 to 20 decimal digits that write a number of 64 bits.
use Rattle.std.specs.Prelude.{◌≡◌, ℕ, ◌+◌, ◌-◌, ◌*◌, ◌^◌, ◌<◌, ◌≤◌, Bool, true, cond, ◌&&◌, List, [], ◌∷◌, ◌++◌, length, Some, None, Option, Result, nat_le}
use Rattle.std.specs.Option.{ok_or}
use Rattle.words.specs.Words.{Placed, digit}

abbrev pub all_digits : List ℕ → Bool
all_digits [] = true
all_digits (b ∷ bs) = digit b && all_digits bs

-- the number that digits write after the number a
abbrev pub value : ℕ → List ℕ → ℕ
value a [] = a
value a (b ∷ bs) = value (a * 10 + (b - 48)) bs

-- the number of 64 bits that a with the digit b after it writes
abbrev pub longer : ℕ → ℕ → Option ℕ
longer a b = cond (digit b && nat_le (a * 10 + (b - 48)) 18446744073709551615) (Some (a * 10 + (b - 48))) None

-- the number that a word writes, if it has 1 to 20 digits and writes a number of 64 bits
abbrev pub numeral : List ℕ → Option ℕ
numeral w =
    cond (nat_le 1 (length w) && (nat_le (length w) 20 && (all_digits w && nat_le (value 0 w) 18446744073709551615)))
    (Some (value 0 w)) None

-- the number that a word writes, or else the word
abbrev pub numeral_or : Placed → Result ℕ Placed
numeral_or p = ok_or (numeral p.text) p

-- decimal digits write a number
pub data Digits : List ℕ → ℕ → Type 0 where
  one : (d : ℕ) → d < 10 → Digits ((48 + d) ∷ []) d
  more : (w : List ℕ) (n d : ℕ) → Digits w n → d < 10 → Digits (w ++ ((48 + d) ∷ [])) (n * 10 + d)

-- a word of at most 20 digits writes a number of 64 bits
pub record Numeral (w : List ℕ) (n : ℕ) : Type 0 where
  pub digits : Digits w n
  pub few : length w ≤ 20
  pub fits : n < 2 ^ 64

-- the number that a word writes and no other, or none where it writes none
abbrev pub WrittenBy : List ℕ → Option ℕ → Type 0
WrittenBy w (Some n) = Numeral w n × ((m : ℕ) → Numeral w m → m ≡ n)
WrittenBy w None = (m : ℕ) → Numeral w m → ⊥
