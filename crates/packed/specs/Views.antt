-- What a view over packed bytes means.
use Rattle.std.specs.Prelude.{◌≡◌, ℕ, zero, suc, ◌-◌, true, List, [], ◌∷◌, map, length, drop, Some, None, Ok, Err, Option, Result, slice_index_or}
use Rattle.frame.specs.declared.refusal.Refusal.{Refusal}
use Rattle.packed.specs.declared.view.PackedView.{PackedView}
use Rattle.packed.specs.Fields.{Line, line_of}
use Rattle.packed.specs.Scans.{by_line, walk_of, limited}

-- the first n lines of the bytes
abbrev pub first_lines : ℕ → List ℕ → List Line
first_lines zero bs = []
first_lines (suc n) bs = by_line (line_of bs) (λ x. x.0 ∷ first_lines n x.1) (λ _. [])

-- the bytes behind the first n lines
abbrev pub behind : ℕ → List ℕ → List ℕ
behind zero bs = bs
behind (suc n) bs = by_line (line_of bs) (λ x. behind n x.1) (λ _. [])

-- the line that stands at a byte place, if one does
abbrev pub at_place : List ℕ → ℕ → Option Line
at_place bs p = by_line (line_of (drop p bs)) (λ x. Some x.0) (λ _. None)

abbrev pub keyed : {K : Type 0} → (Line → Option K) → Option Line → Option K
keyed reads (Some x) = reads x
keyed reads None = None

-- the lines that a view holds: each where its entry of the table says
abbrev pub held : {K : Type 0} → (Line → Option K) → PackedView K → List (Option K)
held reads v = map (λ p. keyed reads (at_place v.bytes.now p)) v.places.now

-- a view by its first line number and its lines, or a refusal
abbrev pub meaning : {K : Type 0} → (Line → Option K) → Result (PackedView K) Refusal → Result (ℕ × List (Option K)) Refusal
meaning reads (Ok v) = Ok (v.first, held reads v)
meaning reads (Err e) = Err e

abbrev pub counted : {K : Type 0} → (Line → Option K) → ℕ → List ℕ → Result ℕ Refusal → Result (ℕ × List (Option K)) Refusal
counted reads first bs (Ok n) = Ok (first, map reads (first_lines n bs))
counted reads first bs (Err e) = Err e

-- every line checked, then their count; the view then holds the keys of the lines of the whole bytes
abbrev pub view_of : {K : Type 0} → (Line → Option K) → ℕ → List ℕ → List ℕ → Result (ℕ × List (Option K)) Refusal
view_of reads first es bs = counted reads first bs (limited first (walk_of true es 0 0 bs))

-- a view whose table agrees with its bytes
abbrev pub Agrees : {K : Type 0} → PackedView K → Type 0
Agrees v = walk_of true v.places.now 0 0 v.bytes.now ≡ Ok (length v.places.now)

-- a view that `new` has made holds these bytes, and its table agrees with them
pub record Whole {K : Type 0} (v : PackedView K) (bs : List ℕ) : Type 0 where
  pub holds : v.bytes.now ≡ bs
  pub agrees : Agrees v

-- where the line behind k others begins, as the table has it; the end of the bytes where there is none
abbrev pub place_of : {K : Type 0} → PackedView K → ℕ → ℕ
place_of v k = slice_index_or v.places.now k (length v.bytes.now)

-- the bytes from line n on, as the table has them
abbrev pub from_line : {K : Type 0} → PackedView K → ℕ → List ℕ
from_line v n = drop (place_of v (n - v.first)) v.bytes.now

-- the bytes behind the lines before line n
abbrev pub kept_from : {K : Type 0} → PackedView K → ℕ → List ℕ → Type 0
kept_from v n rest = rest ≡ behind (n - v.first) v.bytes.now
