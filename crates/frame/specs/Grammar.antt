-- Which texts are a clause of which frame.
use Rattle.std.specs.Prelude.{◌≡◌, ℕ, ◌≤◌, List, [], ◌∷◌, map, length, Ok, Err, codes, Result}
use Rattle.frame.specs.declared.frame.WindowFrame.{WindowFrame}
use Rattle.frame.specs.declared.bound.WindowFrameUnits.{WindowFrameUnits}
use Rattle.frame.specs.declared.bound.WindowFrameUnits.TheVariants as units
use Rattle.frame.specs.declared.bound.WindowFrameBound.{WindowFrameBound}
use Rattle.frame.specs.declared.bound.WindowFrameBound.TheVariants as bounds
use Rattle.words.specs.Letters.{lowered}
use Rattle.words.specs.Words.{Placed}
use Rattle.words.specs.Numbers.{Numeral}
use Rattle.words.specs.Cuts.{Cuts}
use Rattle.frame.specs.Frames.{Frame, Admitted, framed}

-- a word spells a name, each letter in either case
abbrev pub Says : Placed → List ℕ → Type 0
Says p small = map lowered p.text ≡ small

pub data IsUnit : Placed → WindowFrameUnits → Type 0 where
  rows : {p : Placed} → Says p (codes "rows") → IsUnit p units.Rows
  range : {p : Placed} → Says p (codes "range") → IsUnit p units.Range
  groups : {p : Placed} → Says p (codes "groups") → IsUnit p units.Groups

-- two words are a bound
pub data IsBound : Placed → Placed → WindowFrameBound → Type 0 where
  unbounded_preceding : {p q : Placed} → Says p (codes "unbounded") → Says q (codes "preceding") → IsBound p q bounds.UnboundedPreceding
  preceding : {p q : Placed} {n : ℕ} → Numeral p.text n → Says q (codes "preceding") → IsBound p q (bounds.Preceding n)
  current_row : {p q : Placed} → Says p (codes "current") → Says q (codes "row") → IsBound p q bounds.CurrentRow
  following : {p q : Placed} {n : ℕ} → Numeral p.text n → Says q (codes "following") → IsBound p q (bounds.Following n)
  unbounded_following : {p q : Placed} → Says p (codes "unbounded") → Says q (codes "following") → IsBound p q bounds.UnboundedFollowing

-- words are a unit and one bound, or a unit, BETWEEN, a bound, AND, and a bound
pub data IsClause : List Placed → Frame → Type 0 where
  single : {u p q : Placed} {v : WindowFrameUnits} {b : WindowFrameBound} → IsUnit u v → IsBound p q b → IsClause (u ∷ (p ∷ (q ∷ []))) (record { units = v; start = b; end = bounds.CurrentRow })
  between : {u k p q a r s : Placed} {v : WindowFrameUnits} {b c : WindowFrameBound} → IsUnit u v → Says k (codes "between") → IsBound p q b → Says a (codes "and") → IsBound r s c → IsClause (u ∷ (k ∷ (p ∷ (q ∷ (a ∷ (r ∷ (s ∷ []))))))) (record { units = v; start = b; end = c })

-- a text of at most 256 bytes, whose words are a clause of a frame that can exist
pub record ClauseOf (bs : List ℕ) (f : Frame) : Type 0 where
  pub short : length bs ≤ 256
  pub words : List Placed
  pub cuts : Cuts 0 bs words
  pub says : IsClause words f
  pub admitted : Admitted f

-- an answer is the frame of which the text is a clause, and no other is; or the text is a clause of none
abbrev pub Reads : {E : Type 0} → List ℕ → Result WindowFrame E → Type 0
Reads bs (Ok g) = ClauseOf bs (framed g) × ((f : Frame) → ClauseOf bs f → f ≡ framed g)
Reads bs (Err r) = (f : Frame) → ClauseOf bs f → ⊥
