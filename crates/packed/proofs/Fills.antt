-- One step of the second pass.
use Rattle.std.proofs.Common.{◌≡◌, ℕ, ◌+◌, ◌-◌, ◌<◌, true, false, List, [], ◌∷◌, ◌++◌, length, get_or, take, drop, set, is_ok, Ok, Err, Result, sym, refl, ap, ◌∙◌, inl, inr, append_assoc, arith}
use Rattle.std.proofs.lemmas.List.{drop_more, take_more_set, drop-set-lt}
use Rattle.std.proofs.lemmas.Bool.{cases_lt, true≢false}
use Rattle.packed.specs.Fields.{Line, line_of}
use Rattle.packed.proofs.Tails.{line_tail}
use Rattle.packed.specs.Scans.{walk_of, filled}
use Rattle.packed.proofs.Walks.{far, on}

cons_line : (e : ℕ) (es : List ℕ) (at : ℕ) (r : List ℕ) (x : Line × List ℕ) → Ok x ≡ line_of r → filled (e ∷ es) at r ≡ at ∷ filled es (at + (length r - length x.1)) x.1
cons_line e es at r x w = rw (← w)

-- the table as it stands and what is left to fill
abbrev pub half : List ℕ → ℕ → ℕ → List ℕ → List ℕ
half t i at r = take i t ++ filled (drop i t) at r

pub half_more : (t : List ℕ) (i at : ℕ) (r : List ℕ) (x : Line × List ℕ) → i < length t → Ok x ≡ line_of r → half (set t i at) (i + 1) (at + (length r - length x.1)) x.1 ≡ half t i at r
half_more t i at r x h w =
    let lt : i < i + 1 = omega arith in
    rw (take_more_set t i at h, drop-set-lt (i + 1) t i at lt, append_assoc (take i t) (at ∷ []) _, drop_more t i 0 h, cons_line (get_or t i 0) (drop (i + 1) t) at r x w)

no : {A E : Type 0} (r : Result A E) (e : E) → r ≡ Err e → is_ok r ≡ true → ⊥
no r e p q = true≢false (sym q ∙ ap is_ok p)

pub near : (t : List ℕ) (i at : ℕ) (r : List ℕ) (x : Line × List ℕ) → Ok x ≡ line_of r → is_ok (walk_of false (drop i t) i at r) ≡ true → at < 4294967296
near t i at r x w ok = elim (cases_lt at 4294967296) [ inl h ↦ h | inr h ↦ absurd (no _ _ (far false (drop i t) i at r (omega (arith, (line_tail r x w).0)) h) ok) ]

pub ok_more : (t : List ℕ) (i at v : ℕ) (r : List ℕ) (x : Line × List ℕ) → i < length t → Ok x ≡ line_of r → is_ok (walk_of false (drop i t) i at r) ≡ true
    → is_ok (walk_of false (drop (i + 1) (set t i v)) (i + 1) (at + (length r - length x.1)) x.1) ≡ true
ok_more t i at v r x h w ok =
    let lt : i < i + 1 = omega arith in
    rw (drop-set-lt (i + 1) t i v lt) (ap is_ok (sym (on false t i at r (omega (arith, (line_tail r x w).0)) h (near t i at r x w ok) x w refl)) ∙ ok)
