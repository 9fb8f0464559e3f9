-- The fields taken one after another are the line.
use Rattle.std.proofs.Common.{◌≡◌, ℕ, ◌-◌, ◌≤◌, Bool, true, false, List, [], ◌∷◌, length, get_or, take, drop, Some, None, Ok, Err, Option, Result, option_map, refl, ap, ◌∙◌, arith}
use Rattle.std.specs.Borrow.{Bor}
use Rattle.std.proofs.lemmas.List.{take_rest}
use Rattle.packed.specs.declared.line.LineFault.{LineFault}
use Rattle.packed.specs.Fields.{Line, field, text_of, stands, line_of, next, number, seen}

abbrev pub past : List ℕ → List ℕ
past bs = take (length bs - 1) (drop 1 bs)

abbrev pub tail_line : ℕ → List ℕ → Result (Line × List ℕ) LineFault
tail_line m bs = next (field (stands m 1) 1 bs) (λ s.
    next (field (stands m 2) 4 s.1) (λ q.
    next (field (stands m 4) 8 q.1) (λ e.
    next (text_of (stands m 8) e.1) (λ t.
    Ok (record { speaker = s.0; question = q.0; elapsed = e.0; text = t.0 }, t.1)))))

pub opened : (bs : List ℕ) → 1 ≤ length bs → stands (get_or bs 0 0) 240 ≡ false → line_of bs ≡ tail_line (get_or bs 0 0) (past bs)
opened [] h z = absurd (omega arith)
opened (m ∷ bs) h z = rw (z, take_rest (m ∷ bs) 1)

abbrev some_of : {A : Type 0} → A × Bor (List ℕ) → Result (Option A × Bor (List ℕ)) LineFault
some_of x = Ok (Some x.0, x.1)

number_some : (r : Result (ℕ × Bor (List ℕ)) LineFault) → seen (λ v. v) (next r some_of) ≡ next (seen (λ v. v) r) (λ x. Ok (Some x.0, x.1))
number_some (Ok x) = refl
number_some (Err e) = refl

-- a number that is read if its bit is set is that field
pub number_if : (s : Bool) (n : ℕ) (bs : Bor (List ℕ)) (o : Result (Option ℕ × Bor (List ℕ)) LineFault) → (s ≡ false → o ≡ Ok (None, bs))
    → (s ≡ true → (r : Result (ℕ × Bor (List ℕ)) LineFault) × (seen (λ x. x) r ≡ number n bs.now) × (o ≡ next r some_of)) → seen (λ x. x) o ≡ field s n bs.now
number_if false n bs o unset set = ap (seen (λ (x : Option ℕ). x)) (unset refl)
number_if true n bs o unset set =
    let p = set refl in
    ap (seen (λ (x : Option ℕ). x)) p.2 ∙ number_some p.0 ∙ ap (λ (z : Result (ℕ × List ℕ) LineFault). next z (λ x. Ok (Some x.0, x.1))) p.1

text_some : (r : Result (Bor (List ℕ) × Bor (List ℕ)) LineFault) → seen (option_map (λ t. t.now)) (next r some_of) ≡ seen (λ t. Some t.now) r
text_some (Ok x) = refl
text_some (Err e) = refl

-- the same of a text
pub text_if : (s : Bool) (bs : Bor (List ℕ)) (o : Result (Option (Bor (List ℕ)) × Bor (List ℕ)) LineFault) → (s ≡ false → o ≡ Ok (None, bs))
    → (s ≡ true → (r : Result (Bor (List ℕ) × Bor (List ℕ)) LineFault) × (seen (λ x. Some x.now) r ≡ text_of true bs.now) × (o ≡ next r some_of)) → seen (option_map (λ x. x.now)) o ≡ text_of s bs.now
text_if false bs o unset set = ap (seen (option_map (λ (x : Bor (List ℕ)). x.now))) (unset refl)
text_if true bs o unset set =
    let p = set refl in
    ap (seen (option_map (λ (x : Bor (List ℕ)). x.now))) p.2 ∙ text_some p.0 ∙ p.1

module _ (m : ℕ) (bs : List ℕ) (s : Option ℕ) (b1 : List ℕ) (at_s : Ok (s, b1) ≡ field (stands m 1) 1 bs) (q : Option ℕ) (b2 : List ℕ) (at_q : Ok (q, b2) ≡ field (stands m 2) 4 b1) where
  pub text_out : (e : Option ℕ) (b3 : List ℕ) → Ok (e, b3) ≡ field (stands m 4) 8 b2 → (y : LineFault) → Err y ≡ text_of (stands m 8) b3 → tail_line m bs ≡ Err y
  text_out e b3 at_e y at_y = rw (← at_s, ← at_q, ← at_e, ← at_y)

  pub whole : (e : Option ℕ) (b3 : List ℕ) → Ok (e, b3) ≡ field (stands m 4) 8 b2 → (t : Option (List ℕ)) (b4 : List ℕ) → Ok (t, b4) ≡ text_of (stands m 8) b3 → tail_line m bs ≡ Ok (record { speaker = s; question = q; elapsed = e; text = t }, b4)
  whole e b3 at_e t b4 at_t = rw (← at_s, ← at_q, ← at_e, ← at_t)
