-- Which bytes are which lines, at which places: a relation, field by field.
use Rattle.std.specs.Prelude.{◌≡◌, ℕ, ◌+◌, ◌*◌, ◌^◌, ◌<◌, ◌≤◌, cond, List, [], ◌∷◌, ◌++◌, length, drop, is_some, Some, None, Ok, Err, Option, Result}
use Rattle.std.specs.List.{AllByRecursion}
use Rattle.frame.specs.declared.refusal.Refusal.{Refusal}
use Rattle.packed.specs.Fields.{Line}

-- bytes spell a number, lowest byte first
pub data Number : List ℕ → ℕ → Type 0 where
  none : Number [] 0
  byte : {bs : List ℕ} {n : ℕ} (b : ℕ) → Number bs n → Number (b ∷ bs) (b + n * 256)

-- the bytes of a field: none where it is absent, else k of them
pub data FieldBytes : ℕ → Option ℕ → List ℕ → Type 0 where
  absent : {k : ℕ} → FieldBytes k None []
  present : {k n : ℕ} {bs : List ℕ} → length bs ≡ k → Number bs n → FieldBytes k (Some n) bs

-- the bytes of a text: none where it is absent, else its length and then the text
pub data TextBytes : Option (List ℕ) → List ℕ → Type 0 where
  absent : TextBytes None []
  present : (t : List ℕ) → TextBytes (Some t) (length t ∷ t)

-- the weight of a field's bit, if the field is there
abbrev pub weight : {A : Type 0} → ℕ → Option A → ℕ
weight w o = cond (is_some o) w 0

-- the bit map: a bit for each field that is there
abbrev pub bit_map : Line → ℕ
bit_map x = weight 1 x.speaker + (weight 2 x.question + (weight 4 x.elapsed + weight 8 x.text))

-- the bytes of a line: the bit map, then the fields in the order of their bits
pub record LineBytes (x : Line) (bs : List ℕ) : Type 0 where
  pub speaker_bytes : List ℕ
  pub question_bytes : List ℕ
  pub elapsed_bytes : List ℕ
  pub text_bytes : List ℕ
  pub speaker : FieldBytes 1 x.speaker speaker_bytes
  pub question : FieldBytes 4 x.question question_bytes
  pub elapsed : FieldBytes 8 x.elapsed elapsed_bytes
  pub text : TextBytes x.text text_bytes
  pub whole : bs ≡ bit_map x ∷ (speaker_bytes ++ (question_bytes ++ (elapsed_bytes ++ text_bytes)))

-- bytes, the first of which is at a place, are these lines, each at its place
pub data LinesAt : ℕ → List ℕ → List Line → List ℕ → Type 0 where
  none : {p : ℕ} → LinesAt p [] [] []
  line : {p : ℕ} (x : Line) (bs rest : List ℕ) {xs : List Line} {ps : List ℕ} → LineBytes x bs → LinesAt (p + length bs) rest xs ps → LinesAt p (bs ++ rest) (x ∷ xs) (p ∷ ps)

-- places that a table can hold: an entry for each, each of 32 bits, and no more than there are line numbers
pub record Room (table ps : List ℕ) : Type 0 where
  pub entries : length ps ≤ length table
  pub fit : AllByRecursion (λ p. p < 2 ^ 32) ps
  pub few : length ps ≤ 4294967295

-- the whole of the bytes is lines, and these are written to the front of the table; no other lines are the bytes
pub record Listed (bs table after : List ℕ) (n : ℕ) : Type 0 where
  pub lines : List Line
  pub places : List ℕ
  pub spells : LinesAt 0 bs lines places
  pub count : length places ≡ n
  pub room : Room table places
  pub written : after ≡ places ++ drop n table
  pub only : (xs : List Line) (ps : List ℕ) → LinesAt 0 bs xs ps → (xs ≡ lines) × (ps ≡ places)

-- a scan answers the count of lines exactly where the whole of the bytes is lines for which the table has room
abbrev pub Scanned : List ℕ → List ℕ → List ℕ → Result ℕ Refusal → Type 0
Scanned bs table after (Ok n) = Listed bs table after n
Scanned bs table after (Err e) = (after ≡ table) × ((xs : List Line) (ps : List ℕ) → LinesAt 0 bs xs ps → Room table ps → ⊥)
