-- Words as a relation: a text is words between runs of spaces.
use Rattle.std.specs.Prelude.{◌≡◌, ℕ, ◌+◌, ◌<◌, List, [], ◌∷◌, ◌++◌, length, ◌≢◌}
use Rattle.words.specs.Words.{Placed}

-- none of the bytes is a space
abbrev pub Spaceless : List ℕ → Type 0
Spaceless [] = Unit {0}
Spaceless (b ∷ bs) = (b ≢ 32) × Spaceless bs

-- the bytes end here, or a space follows
abbrev pub Stops : List ℕ → Type 0
Stops [] = Unit {0}
Stops (b ∷ bs) = b ≡ 32

-- bytes, the first of which is at a place, hold these words
pub data Cuts : ℕ → List ℕ → List Placed → Type 0 where
  none : {p : ℕ} → Cuts p [] []
  gap : {p : ℕ} {bs : List ℕ} {ws : List Placed} → Cuts (p + 1) bs ws → Cuts p (32 ∷ bs) ws
  run : {p : ℕ} (w rest : List ℕ) {ws : List Placed} → 0 < length w → Spaceless w → Stops rest → Cuts (p + length w) rest ws → Cuts p (w ++ rest) (record { text = w; place = p } ∷ ws)

-- a text holds these words and no others
pub record CutOf (bs : List ℕ) (ws : List Placed) : Type 0 where
  pub holds : Cuts 0 bs ws
  pub only : (vs : List Placed) → Cuts 0 bs vs → vs ≡ ws
