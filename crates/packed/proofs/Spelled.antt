-- The reading of a line and the relation between bytes and lines agree.
use Rattle.std.proofs.Common.{◌≡◌, ℕ, zero, suc, ◌+◌, ◌*◌, ◌<◌, ◌≤◌, Bool, true, false, cond, ◌&&◌, eqb, leb, List, [], ◌∷◌, ◌++◌, length, get_or, take, drop, is_some, Some, None, Ok, Err, Option, Result, sym, refl, ap, ◌∙◌, subst, ⊎_elim, append_assoc, arith, length-append}
use Rattle.std.proofs.Math.Seq.{take-append_seam, drop-append_seam}
use Rattle.std.proofs.lemmas.List.{take-append-drop, length-take-le}
use Rattle.std.proofs.lemmas.Bool.{and_parts, cases_lt, eqb-true, leb-true, le-leb}
use Rattle.packed.specs.declared.line.LineFault.{LineFault}
use Rattle.packed.specs.declared.line.LineFault.TheVariants.{UnknownBits, CutShort}
use Rattle.packed.specs.Fields.{Line, next, little, number, field, text_of, stands, line_of}
use Rattle.packed.specs.Spells.{Number, FieldBytes, TextBytes, bit_map, LineBytes}
use Rattle.packed.specs.Spells as spells
use Rattle.packed.proofs.Steps.{tail_line, whole}
use Rattle.packed.proofs.Tails.{next_ok, cond_in}

-- a test that passes at every number below n
abbrev below : (ℕ → Bool) → ℕ → Bool
below f zero = true
below f (suc n) = f n && below f n

below_at : (f : ℕ → Bool) (n k : ℕ) → below f n ≡ true → k < n → f k ≡ true
below_at f zero k e h = absurd (omega arith)
below_at f (suc n) k e h =
    let p = and_parts (f n) (below f n) e in
    ⊎_elim
    (λ (i : k < n). below_at f n k p.1 i)
    (λ (i : n ≤ k). let j : n ≡ k = omega arith in subst (λ (m : ℕ). f m ≡ true) j p.0)
    (cases_lt k n)

-- the number whose four lowest bits are these
abbrev sum_of : Bool → Bool → Bool → Bool → ℕ
sum_of a b c d = cond a 1 0 + (cond b 2 0 + (cond c 4 0 + cond d 8 0))

bits_of : (a b c d : Bool) → (stands (sum_of a b c d) 240 ≡ false) × (stands (sum_of a b c d) 1 ≡ a) × (stands (sum_of a b c d) 2 ≡ b) × (stands (sum_of a b c d) 4 ≡ c) × (stands (sum_of a b c d) 8 ≡ d)
bits_of true true true true = (refl, refl, refl, refl, refl)
bits_of true true true false = (refl, refl, refl, refl, refl)
bits_of true true false true = (refl, refl, refl, refl, refl)
bits_of true true false false = (refl, refl, refl, refl, refl)
bits_of true false true true = (refl, refl, refl, refl, refl)
bits_of true false true false = (refl, refl, refl, refl, refl)
bits_of true false false true = (refl, refl, refl, refl, refl)
bits_of true false false false = (refl, refl, refl, refl, refl)
bits_of false true true true = (refl, refl, refl, refl, refl)
bits_of false true true false = (refl, refl, refl, refl, refl)
bits_of false true false true = (refl, refl, refl, refl, refl)
bits_of false true false false = (refl, refl, refl, refl, refl)
bits_of false false true true = (refl, refl, refl, refl, refl)
bits_of false false true false = (refl, refl, refl, refl, refl)
bits_of false false false true = (refl, refl, refl, refl, refl)
bits_of false false false false = (refl, refl, refl, refl, refl)

-- a byte without the upper four bits is the sum of the others: tested at every byte
abbrev by_bits : ℕ → Bool
by_bits m = cond (stands m 240) true (eqb (sum_of (stands m 1) (stands m 2) (stands m 4) (stands m 8)) m)

byte_bits : (m : ℕ) → m < 256 → stands m 240 ≡ false → sum_of (stands m 1) (stands m 2) (stands m 4) (stands m 8) ≡ m
byte_bits m h z = eqb-true _ m (sym (ap (λ (t : Bool). cond t true (eqb (sum_of (stands m 1) (stands m 2) (stands m 4) (stands m 8)) m)) z) ∙ below_at by_bits 256 m refl h)

spells_number : (bs : List ℕ) → Number bs (little bs)
spells_number [] = spells.none
spells_number (b ∷ bs) = spells.byte b (spells_number bs)

number_is : {bs : List ℕ} {n : ℕ} → Number bs n → little bs ≡ n
number_is spells.none = refl
number_is (spells.byte b h) = ap (λ (m : ℕ). b + m * 256) (number_is h)

-- the front of a list that is put together is no longer than the whole
longer : (xs ys : List ℕ) → leb (length xs) (length (xs ++ ys)) ≡ true
longer xs ys = le-leb _ _ (omega (arith, length-append xs ys))

-- the bytes of a field are read as that field
field_read : {k : ℕ} {o : Option ℕ} {s : List ℕ} (rest : List ℕ) → FieldBytes k o s → field (is_some o) k (s ++ rest) ≡ Ok (o, rest)
field_read rest spells.absent = refl
field_read rest (spells.present {n = n} {bs = bs} l h) =
    ap (λ (k : ℕ). field true k (bs ++ rest)) (sym l)
    ∙ ap (λ (t : Bool). next (cond t (Ok (little (take (length bs) (bs ++ rest)), drop (length bs) (bs ++ rest))) (Err CutShort)) (λ (x : ℕ × List ℕ). Ok (Some x.0, x.1))) (longer bs rest)
    ∙ ap (λ (xs : List ℕ). Ok (Some (little xs), drop (length bs) (bs ++ rest))) (take-append_seam bs rest)
    ∙ ap (λ (m : ℕ). Ok (Some m, drop (length bs) (bs ++ rest))) (number_is h)
    ∙ ap (λ (xs : List ℕ). Ok (Some n, xs)) (drop-append_seam bs rest)

text_read : {o : Option (List ℕ)} {s : List ℕ} (rest : List ℕ) → TextBytes o s → text_of (is_some o) (s ++ rest) ≡ Ok (o, rest)
text_read rest spells.absent = refl
text_read rest (spells.present t) =
    let one : length t + 0 * 256 ≡ length t = omega arith in
    let enough : leb 1 (length (length t ∷ (t ++ rest))) ≡ true = le-leb 1 _ (omega arith) in
    let got : ℕ × List ℕ → Result (Option (List ℕ) × List ℕ) LineFault = λ (x : ℕ × List ℕ). cond (leb x.0 (length x.1)) (Ok (Some (take x.0 x.1), drop x.0 x.1)) (Err CutShort) in
    ap (λ (b : Bool). next (cond b (Ok (length t + 0 * 256, t ++ rest)) (Err CutShort)) got) enough
    ∙ ap (λ (m : ℕ). got (m, t ++ rest)) one
    ∙ ap (λ (b : Bool). cond b (Ok (Some (take (length t) (t ++ rest)), drop (length t) (t ++ rest))) (Err CutShort)) (longer t rest)
    ∙ ap (λ (xs : List ℕ). Ok (Some xs, drop (length t) (t ++ rest))) (take-append_seam t rest)
    ∙ ap (λ (xs : List ℕ). Ok (Some t, xs)) (drop-append_seam t rest)

-- the bytes of a line are read as that line
pub line_read : (x : Line) (bs rest : List ℕ) → LineBytes x bs → line_of (bs ++ rest) ≡ Ok (x, rest)
line_read x bs rest l =
    let m : ℕ = bit_map x in
    let b = bits_of (is_some x.speaker) (is_some x.question) (is_some x.elapsed) (is_some x.text) in
    let s = l.speaker_bytes in
    let q = l.question_bytes in
    let e = l.elapsed_bytes in
    let t = l.text_bytes in
    let apart : (s ++ (q ++ (e ++ t))) ++ rest ≡ s ++ (q ++ (e ++ (t ++ rest))) =
    append_assoc s (q ++ (e ++ t)) rest ∙ ap (λ (z : List ℕ). s ++ z) (append_assoc q (e ++ t) rest ∙ ap (λ (z : List ℕ). q ++ z) (append_assoc e t rest)) in
    let is_s : Ok (x.speaker, q ++ (e ++ (t ++ rest))) ≡ field (stands m 1) 1 (s ++ (q ++ (e ++ (t ++ rest)))) = sym (ap (λ (z : Bool). field z 1 (s ++ (q ++ (e ++ (t ++ rest))))) b.1 ∙ field_read (q ++ (e ++ (t ++ rest))) l.speaker) in
    let is_q : Ok (x.question, e ++ (t ++ rest)) ≡ field (stands m 2) 4 (q ++ (e ++ (t ++ rest))) = sym (ap (λ (z : Bool). field z 4 (q ++ (e ++ (t ++ rest)))) b.2 ∙ field_read (e ++ (t ++ rest)) l.question) in
    let is_e : Ok (x.elapsed, t ++ rest) ≡ field (stands m 4) 8 (e ++ (t ++ rest)) = sym (ap (λ (z : Bool). field z 8 (e ++ (t ++ rest))) b.3 ∙ field_read (t ++ rest) l.elapsed) in
    let is_t : Ok (x.text, rest) ≡ text_of (stands m 8) (t ++ rest) = sym (ap (λ (z : Bool). text_of z (t ++ rest)) b.4 ∙ text_read rest l.text) in
    ap (λ (z : List ℕ). line_of (z ++ rest)) l.whole
    ∙ ap (λ (z : Bool). cond z (Err UnknownBits) (tail_line m ((s ++ (q ++ (e ++ t))) ++ rest))) b.0
    ∙ ap (tail_line m) apart
    ∙ whole m (s ++ (q ++ (e ++ (t ++ rest)))) x.speaker (q ++ (e ++ (t ++ rest))) is_s x.question (e ++ (t ++ rest)) is_q x.elapsed (t ++ rest) is_e x.text rest is_t

-- a field, and the bytes that it was read from
FieldFrom : ℕ → Bool → List ℕ → Option ℕ × List ℕ → Type 0
FieldFrom k b bs x = (s : List ℕ) × FieldBytes k x.0 s × (bs ≡ s ++ x.1) × (is_some x.0 ≡ b)

field_from : (b : Bool) (k : ℕ) (bs : List ℕ) (x : Option ℕ × List ℕ) → Ok x ≡ field b k bs → FieldFrom k b bs x
unfolding FieldFrom
field_from false k bs x e = let q : (None, bs) ≡ x = cc in subst (FieldFrom k false bs) q ([], spells.absent, refl, refl)
field_from true k bs x e =
    let p = next_ok (number k bs) (λ (y : ℕ × List ℕ). Ok (Some y.0, y.1)) x e in
    let c = cond_in (leb k (length bs)) (little (take k bs), drop k bs) p.0 p.1 in
    let q : (Some p.0.0, p.0.1) ≡ x = cc p.2 in
    let r : (Some (little (take k bs)), drop k bs) ≡ x = ap (λ (y : ℕ × List ℕ). (Some y.0, y.1)) c.1 ∙ q in
    subst (FieldFrom k true bs) r (take k bs, spells.present (length-take-le k bs (leb-true k (length bs) c.0)) (spells_number (take k bs)), sym (take-append-drop k bs), refl)

TextFrom : Bool → List ℕ → Option (List ℕ) × List ℕ → Type 0
TextFrom b bs x = (s : List ℕ) × TextBytes x.0 s × (bs ≡ s ++ x.1) × (is_some x.0 ≡ b)

text_from : (b : Bool) (bs : List ℕ) (x : Option (List ℕ) × List ℕ) → Ok x ≡ text_of b bs → TextFrom b bs x
unfolding TextFrom
text_from false bs x e = let q : (None, bs) ≡ x = cc in subst (TextFrom false bs) q ([], spells.absent, refl, refl)
text_from true [] x e = let z : ◌≡◌ {A = ℕ} 0 1 = cc in absurd (omega arith)
text_from true (m ∷ bs) x e =
    let p = next_ok (number 1 (m ∷ bs)) (λ (y : ℕ × List ℕ). cond (leb y.0 (length y.1)) (Ok (Some (take y.0 y.1), drop y.0 y.1)) (Err CutShort)) x e in
    let c = cond_in (leb 1 (length (m ∷ bs))) (little (take 1 (m ∷ bs)), drop 1 (m ∷ bs)) p.0 p.1 in
    let one : m + 0 * 256 ≡ m = omega arith in
    let y : p.0 ≡ (m, bs) = sym c.1 ∙ ap (λ (k : ℕ). (k, bs)) one in
    let f : Ok x ≡ cond (leb m (length bs)) (Ok (Some (take m bs), drop m bs)) (Err CutShort) = p.2 ∙ ap (λ (z : ℕ × List ℕ). cond (leb z.0 (length z.1)) (Ok (Some (take z.0 z.1), drop z.0 z.1)) (Err CutShort)) y in
    let d = cond_in (leb m (length bs)) (Some (take m bs), drop m bs) x f in
    let n : length (take m bs) ≡ m = length-take-le m bs (leb-true m (length bs) d.0) in
    subst (TextFrom true (m ∷ bs)) d.1
    (length (take m bs) ∷ take m bs, spells.present (take m bs), ap (λ (k : ℕ). k ∷ bs) (sym n) ∙ ap (λ (z : List ℕ). length (take m bs) ∷ z) (sym (take-append-drop m bs)), refl)

-- a line, and the bytes that it was read from
LineFrom : List ℕ → Line × List ℕ → Type 0
LineFrom bs x = (l : List ℕ) × LineBytes x.0 l × (bs ≡ l ++ x.1)

body_from : (m : ℕ) (bs : List ℕ) (x : Line × List ℕ) → m < 256 → stands m 240 ≡ false → Ok x ≡ tail_line m bs → LineFrom (m ∷ bs) x
unfolding FieldFrom TextFrom LineFrom
body_from m bs x small low w =
    let s = next_ok (field (stands m 1) 1 bs) _ x w in
    let q = next_ok (field (stands m 2) 4 s.0.1) _ x s.2 in
    let e = next_ok (field (stands m 4) 8 q.0.1) _ x q.2 in
    let t = next_ok (text_of (stands m 8) e.0.1) _ x e.2 in
    let fs = field_from (stands m 1) 1 bs s.0 s.1 in
    let fq = field_from (stands m 2) 4 s.0.1 q.0 q.1 in
    let fe = field_from (stands m 4) 8 q.0.1 e.0 e.1 in
    let ft = text_from (stands m 8) e.0.1 t.0 t.1 in
    let y : Line = record { speaker = s.0.0; question = q.0.0; elapsed = e.0.0; text = t.0.0 } in
    let last : (y, t.0.1) ≡ x = cc t.2 in
    let map_is : m ≡ bit_map y = sym (byte_bits m small low) ∙ ap (λ (z : Bool). sum_of z (stands m 2) (stands m 4) (stands m 8)) (sym fs.3) ∙ ap (λ (z : Bool). sum_of (is_some s.0.0) z (stands m 4) (stands m 8)) (sym fq.3) ∙ ap (λ (z : Bool). sum_of (is_some s.0.0) (is_some q.0.0) z (stands m 8)) (sym fe.3) ∙ ap (λ (z : Bool). sum_of (is_some s.0.0) (is_some q.0.0) (is_some e.0.0) z) (sym ft.3) in
    let joined : bs ≡ (fs.0 ++ (fq.0 ++ (fe.0 ++ ft.0))) ++ t.0.1 =
    fs.2 ∙ ap (λ (z : List ℕ). fs.0 ++ z) (fq.2 ∙ ap (λ (z : List ℕ). fq.0 ++ z) (fe.2 ∙ ap (λ (z : List ℕ). fe.0 ++ z) ft.2))
    ∙ sym (append_assoc fs.0 (fq.0 ++ (fe.0 ++ ft.0)) t.0.1 ∙ ap (λ (z : List ℕ). fs.0 ++ z) (append_assoc fq.0 (fe.0 ++ ft.0) t.0.1 ∙ ap (λ (z : List ℕ). fq.0 ++ z) (append_assoc fe.0 ft.0 t.0.1))) in
    subst (LineFrom (m ∷ bs)) last (
      m ∷ (fs.0 ++ (fq.0 ++ (fe.0 ++ ft.0))),
      record {
        speaker_bytes = fs.0;
        question_bytes = fq.0;
        elapsed_bytes = fe.0;
        text_bytes = ft.0;
        speaker = fs.1;
        question = fq.1;
        elapsed = fe.1;
        text = ft.1;
        whole = ap (λ (k : ℕ). k ∷ (fs.0 ++ (fq.0 ++ (fe.0 ++ ft.0)))) map_is;
      },
      ap (λ (z : List ℕ). m ∷ z) joined,
    )

known_bits : (b : Bool) (m : ℕ) (bs : List ℕ) (x : Line × List ℕ) → Ok x ≡ cond b (Err UnknownBits) (tail_line m bs) → (b ≡ false) × (Ok x ≡ tail_line m bs)
known_bits true m bs x e = let z : ◌≡◌ {A = ℕ} 0 1 = cc in absurd (omega arith)
known_bits false m bs x e = (refl, e)

-- a line that is read stands in the bytes
pub line_from : (bs : List ℕ) (x : Line × List ℕ) → get_or bs 0 0 < 256 → Ok x ≡ line_of bs → (l : List ℕ) × LineBytes x.0 l × (bs ≡ l ++ x.1)
unfolding LineFrom
line_from [] x small e = let z : ◌≡◌ {A = ℕ} 0 1 = cc in absurd (omega arith)
line_from (m ∷ bs) x small e = let k = known_bits (stands m 240) m bs x e in body_from m bs x small k.0 k.1
