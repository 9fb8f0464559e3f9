-- One step of a walk.
use Rattle.std.proofs.Common.{◌≡◌, ℕ, ◌+◌, ◌-◌, ◌<◌, ◌≤◌, Bool, false, cond, not, ◌&&◌, eqb, List, [], ◌∷◌, length, get_or, drop, Ok, Err, Result, refl, ◌∙◌, arith, le-ltb, lt-ltb}
use Rattle.std.proofs.lemmas.List.{drop_more, drop_all}
use Rattle.packed.specs.declared.line.LineFault.{LineFault}
use Rattle.packed.specs.Fields.{Line, line_of}
use Rattle.frame.specs.declared.refusal.Refusal.{Refusal}
use Rattle.frame.specs.declared.refusal.Reason.TheVariants as reasons
use Rattle.packed.specs.Scans.{walk_of, by_line, refuse, reason_of}

-- what one line with an entry answers
abbrev pub one_of : Bool → ℕ → List ℕ → ℕ → ℕ → List ℕ → Result (Line × List ℕ) LineFault → Result ℕ Refusal
one_of s e es n at r l = by_line l
    (λ x. cond (s && not (eqb e at)) (Err (refuse reasons.WrongPlaceEntry n)) (walk_of s es (n + 1) (at + (length r - length x.1)) x.1))
    (λ f. Err (refuse (reason_of f) at))

pub near : (s : Bool) (e : ℕ) (es : List ℕ) (n at : ℕ) (r : List ℕ) → 0 < length r → at < 4294967296 → walk_of s (e ∷ es) n at r ≡ one_of s e es n at r (line_of r)
near s e es n at [] h k = absurd (omega arith)
near s e es n at (b ∷ bs) h k = rw (lt-ltb at 4294967296 k)

pub far : (s : Bool) (es : List ℕ) (n at : ℕ) (r : List ℕ) → 0 < length r → 4294967296 ≤ at → walk_of s es n at r ≡ Err (refuse reasons.NoPlaceEntry at)
far s es n at [] h k = absurd (omega arith)
far s [] n at (b ∷ bs) h k = refl
far s (e ∷ es) n at (b ∷ bs) h k = rw (le-ltb at 4294967296 k)

none_left : (s : Bool) (n at : ℕ) (r : List ℕ) → 0 < length r → walk_of s [] n at r ≡ Err (refuse reasons.NoPlaceEntry at)
none_left s n at [] h = absurd (omega arith)
none_left s n at (b ∷ bs) h = refl

pub done : (s : Bool) (es : List ℕ) (n at : ℕ) (r : List ℕ) → length r ≡ 0 → walk_of s es n at r ≡ Ok n
done s [] n at [] h = refl
done s (e ∷ es) n at [] h = refl
done s es n at (b ∷ bs) h = absurd (omega arith)

module _ (s : Bool) (t : List ℕ) (n at : ℕ) (r : List ℕ) (some : 0 < length r) where
  pub full : length t ≤ n → walk_of s (drop n t) n at r ≡ Err (refuse reasons.NoPlaceEntry at)
  full h = rw (drop_all n t h) (none_left s n at r some)

  module _ (room : n < length t) (within : at < 4294967296) where
    one : (l : Result (Line × List ℕ) LineFault) → l ≡ line_of r → walk_of s (drop n t) n at r ≡ one_of s (get_or t n 0) (drop (n + 1) t) n at r l
    one l e = rw (drop_more t n 0 room, e) (near s (get_or t n 0) (drop (n + 1) t) n at r some within)

    pub faulty : (f : LineFault) → Err f ≡ line_of r → walk_of s (drop n t) n at r ≡ Err (refuse (reason_of f) at)
    faulty f e = one (Err f) e

    module _ (x : Line × List ℕ) (whole : Ok x ≡ line_of r) where
      pub on : false ≡ (s && not (eqb (get_or t n 0) at)) → walk_of s (drop n t) n at r ≡ walk_of s (drop (n + 1) t) (n + 1) (at + (length r - length x.1)) x.1
      on same = one (Ok x) whole ∙ rw (← same)
