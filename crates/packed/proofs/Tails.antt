-- A line is followed by an end part of the bytes, shorter than they are.
use Rattle.std.proofs.Common.{◌≡◌, ℕ, suc, ◌+◌, ◌-◌, ◌<◌, ◌≤◌, Bool, true, false, cond, leb, ◌⊎◌, List, [], ◌∷◌, length, take, drop, Some, None, Ok, Err, Option, Result, sym, refl, ap, ◌∙◌, inl, inr, arith, length-drop}
use Rattle.std.proofs.lemmas.List.{drop-drop, drop_all}
use Rattle.std.proofs.lemmas.Bool.{cases_lt}
use Rattle.packed.specs.declared.line.LineFault.{LineFault}
use Rattle.packed.specs.declared.line.LineFault.TheVariants.{UnknownBits, CutShort}
use Rattle.packed.specs.Fields.{Line, little, number, field, text_of, stands, line_of, next}
use Rattle.packed.proofs.Steps.{tail_line}

-- r is an end part of bs
abbrev pub Tail : List ℕ → List ℕ → Type 0
Tail r bs = (k : ℕ) × (r ≡ drop k bs)

tail_trans : (a b c : List ℕ) → Tail a b → Tail b c → Tail a c
tail_trans a b c p q = (q.0 + p.0, p.1 ∙ ap (drop p.0) q.1 ∙ drop-drop p.0 q.0 c)

pub next_ok : {A B : Type 0} (r : Result A LineFault) (f : A → Result B LineFault) (y : B) → Ok y ≡ next r f → (x : A) × (Ok x ≡ r) × (Ok y ≡ f x)
next_ok (Ok x) f y e = (x, refl, e)
next_ok (Err d) f y e = let z : ◌≡◌ {A = ℕ} 0 1 = cc in absurd (omega arith)

-- what was read, taken apart
pub cond_in : {A : Type 0} (b : Bool) (x y : A) → ◌≡◌ {A = Result A LineFault} (Ok y) (cond b (Ok x) (Err CutShort)) → (b ≡ true) × (x ≡ y)
cond_in true x y e = let z : x ≡ y = cc in (refl, z)
cond_in false x y e = let z : ◌≡◌ {A = ℕ} 0 1 = cc in absurd (omega arith)

number_tail : (n : ℕ) (bs : List ℕ) (x : ℕ × List ℕ) → Ok x ≡ number n bs → Tail x.1 bs
number_tail n bs x e = (n, ap (λ (z : ℕ × List ℕ). z.1) (sym (cond_in (leb n (length bs)) (little (take n bs), drop n bs) x e).1))

pub field_tail : (s : Bool) (n : ℕ) (bs : List ℕ) (x : Option ℕ × List ℕ) → Ok x ≡ field s n bs → Tail x.1 bs
field_tail false n bs x e = let q : x ≡ (None, bs) = cc in (0, ap (λ (z : Option ℕ × List ℕ). z.1) q)
field_tail true n bs x e =
    let p = next_ok (number n bs) (λ y. Ok (Some y.0, y.1)) x e in
    let q : x ≡ (Some p.0.0, p.0.1) = cc p.2 in
    tail_trans _ _ _ (0, ap (λ (z : Option ℕ × List ℕ). z.1) q) (number_tail n bs p.0 p.1)

pub text_tail : (s : Bool) (bs : List ℕ) (x : Option (List ℕ) × List ℕ) → Ok x ≡ text_of s bs → Tail x.1 bs
text_tail false bs x e = let q : x ≡ (None, bs) = cc in (0, ap (λ (z : Option (List ℕ) × List ℕ). z.1) q)
text_tail true bs x e =
    let p = next_ok (number 1 bs) (λ y. cond (leb y.0 (length y.1)) (Ok (Some (take y.0 y.1), drop y.0 y.1)) (Err CutShort)) x e in
    let q = sym (cond_in (leb p.0.0 (length p.0.1)) (Some (take p.0.0 p.0.1), drop p.0.0 p.0.1) x p.2).1 in
    tail_trans _ _ _ (p.0.0, ap (λ (z : Option (List ℕ) × List ℕ). z.1) q) (number_tail 1 bs p.0 p.1)

body_tail : (m : ℕ) (bs : List ℕ) (x : Line × List ℕ) → Ok x ≡ tail_line m bs → Tail x.1 bs
body_tail m bs x w =
    let s = next_ok (field (stands m 1) 1 bs) _ x w in
    let q = next_ok (field (stands m 2) 4 s.0.1) _ x s.2 in
    let e = next_ok (field (stands m 4) 8 q.0.1) _ x q.2 in
    let t = next_ok (text_of (stands m 8) e.0.1) _ x e.2 in
    let last : x ≡ (record { speaker = s.0.0; question = q.0.0; elapsed = e.0.0; text = t.0.0 }, t.0.1) = cc t.2 in
    tail_trans _ _ _ (0, ap (λ (z : Line × List ℕ). z.1) last) (tail_trans _ _ _ (text_tail _ _ _ t.1) (tail_trans _ _ _ (field_tail _ _ _ _ e.1) (tail_trans _ _ _ (field_tail _ _ _ _ q.1) (field_tail _ _ _ _ s.1))))

head_tail : (b : Bool) (m : ℕ) (bs : List ℕ) (x : Line × List ℕ) → Ok x ≡ cond b (Err UnknownBits) (tail_line m bs) → Tail x.1 bs
head_tail true m bs x e = let z : ◌≡◌ {A = ℕ} 0 1 = cc in absurd (omega arith)
head_tail false m bs x e = body_tail m bs x e

exact : (m : ℕ) (bs r : List ℕ) (k : ℕ) → r ≡ drop k bs → length r ≡ length bs - k → (k < length bs) ⊎ (length bs ≤ k) → r ≡ drop (length (m ∷ bs) - length r) (m ∷ bs)
exact m bs r k e l (inl h) = let q : length (m ∷ bs) - length r ≡ suc k = omega arith in rw q e
exact m bs r k e l (inr h) = let q : length (m ∷ bs) - length r ≡ suc (length bs) = omega arith in rw q (e ∙ drop_all k bs h ∙ sym (drop_all (length bs) bs (omega arith)))

pub line_tail : (bs : List ℕ) (x : Line × List ℕ) → Ok x ≡ line_of bs → (length x.1 < length bs) × (x.1 ≡ drop (length bs - length x.1) bs)
line_tail [] x e = let z : ◌≡◌ {A = ℕ} 0 1 = cc in absurd (omega arith)
line_tail (m ∷ bs) x e =
    let t = head_tail (stands m 240) m bs x e in
    let l : length x.1 ≡ length bs - t.0 = ap length t.1 ∙ length-drop t.0 bs in
    (omega arith, exact m bs x.1 t.0 t.1 l (cases_lt t.0 (length bs)))
