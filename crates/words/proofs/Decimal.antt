-- What a word of digits writes.
use Rattle.std.proofs.Common.{◌≡◌, ℕ, ◌+◌, ◌-◌, ◌*◌, ◌<◌, ◌≤◌, Bool, true, false, ◌&&◌, ◌⊎◌, List, [], ◌∷◌, ◌++◌, length, get_or, drop, Some, None, Option, sym, refl, ap, ◌∙◌, subst, ⊎_elim, append_assoc, append-nil, arith, length-append}
use Rattle.std.proofs.lemmas.List.{at_drop_more, at_drop_all}
use Rattle.std.proofs.lemmas.Bool.{and_parts, and_from}
use Rattle.std.proofs.lemmas.Bool.Decides.{nat_tests}
use Rattle.words.specs.Words.{digit, starts_with_digit}
use Rattle.words.specs.Numbers.{value, all_digits, longer, numeral, Digits, one, more, Numeral, WrittenBy}

grows : (a : ℕ) (bs : List ℕ) → a ≤ value a bs
grows a [] = omega arith
grows a (b ∷ bs) = omega (arith, grows (a * 10 + (b - 48)) bs)

longer_some : (a b m : ℕ) → longer a b ≡ Some m → (digit b ≡ true) × (a * 10 + (b - 48) ≡ m) × (m ≤ 18446744073709551615)
longer_some a b m e = grind (arith, nat_tests)

longer_none : (a b : ℕ) → longer a b ≡ None → (digit b ≡ false) ⊎ (18446744073709551615 < a * 10 + (b - 48))
longer_none a b e = grind (arith, nat_tests)

pub step : (a m i : ℕ) (bs : List ℕ) → i < length bs → longer a (get_or bs i 0) ≡ Some m → (value m (drop (i + 1) bs) ≡ value a (drop i bs)) × (all_digits (drop (i + 1) bs) ≡ all_digits (drop i bs)) × (m ≤ 18446744073709551615)
step a m i bs h e =
    let p = longer_some a (get_or bs i 0) m e in
    let v : value a (drop i bs) ≡ value (a * 10 + (get_or bs i 0 - 48)) (drop (i + 1) bs) = at_drop_more (value a) bs i 0 h in
    let d : all_digits (drop i bs) ≡ digit (get_or bs i 0) && all_digits (drop (i + 1) bs) = at_drop_more all_digits bs i 0 h in
    (sym (v ∙ ap (λ (n : ℕ). value n (drop (i + 1) bs)) p.1), sym (d ∙ ap (λ (t : Bool). t && all_digits (drop (i + 1) bs)) p.0), p.2)

not_digits : (w : List ℕ) → all_digits w ≡ false → None ≡ numeral w
not_digits w e = grind (arith, nat_tests)

too_big : (w : List ℕ) → 18446744073709551615 < value 0 w → None ≡ numeral w
too_big w h = grind (arith, nat_tests)

pub stop : (a i : ℕ) (bs : List ℕ) → i < length bs → longer a (get_or bs i 0) ≡ None → value a (drop i bs) ≡ value 0 bs → all_digits (drop i bs) ≡ all_digits bs → None ≡ numeral bs
stop a i bs h e v d =
    ⊎_elim
    (λ (n : digit (get_or bs i 0) ≡ false).
    let s : all_digits (drop i bs) ≡ digit (get_or bs i 0) && all_digits (drop (i + 1) bs) = at_drop_more all_digits bs i 0 h in
    not_digits bs (sym d ∙ s ∙ ap (λ (t : Bool). t && all_digits (drop (i + 1) bs)) n))
    (λ (n : 18446744073709551615 < a * 10 + (get_or bs i 0 - 48)).
    let s : value a (drop i bs) ≡ value (a * 10 + (get_or bs i 0 - 48)) (drop (i + 1) bs) = at_drop_more (value a) bs i 0 h in
    too_big bs (omega (arith, grows (a * 10 + (get_or bs i 0 - 48)) (drop (i + 1) bs))))
    (longer_none a (get_or bs i 0) e)

pub done : (a i : ℕ) (bs : List ℕ) → length bs ≤ i → 1 ≤ length bs → length bs ≤ 20 → a ≤ 18446744073709551615 → value a (drop i bs) ≡ value 0 bs → all_digits (drop i bs) ≡ all_digits bs → Some a ≡ numeral bs
done a i bs h some few fits v d =
    let s : value a (drop i bs) ≡ a = at_drop_all (value a) bs i h in
    let t : all_digits (drop i bs) ≡ true = at_drop_all all_digits bs i h in
    let s' : value 0 bs ≡ a = sym v ∙ s in
    let t' : all_digits bs ≡ true = sym d ∙ t in
    grind (arith, nat_tests)

value_push : (a : ℕ) (w : List ℕ) (b : ℕ) → value a (w ++ b ∷ []) ≡ value a w * 10 + (b - 48)
value_push a [] b = refl
value_push a (x ∷ w) b = value_push (a * 10 + (x - 48)) w b

all_push : (w : List ℕ) (b : ℕ) → all_digits w ≡ true → digit b ≡ true → all_digits (w ++ b ∷ []) ≡ true
all_push [] b e d = and_from (digit b) true d refl
all_push (x ∷ w) b e d = let p = and_parts (digit x) (all_digits w) e in and_from (digit x) _ p.0 (all_push w b p.1 d)

is_digit : (d : ℕ) → d < 10 → digit (48 + d) ≡ true
is_digit d h = grind (arith, nat_tests)

-- digits that write a number are digits, and of that value
wrote : {w : List ℕ} {n : ℕ} → Digits w n → (all_digits w ≡ true) × (value 0 w ≡ n) × (0 < length w)
wrote (one d h) = (and_from (digit (48 + d)) true (is_digit d h) refl, omega arith, omega arith)
wrote (more w n d ds h) =
    let r = wrote ds in
    let v = value_push 0 w (48 + d) in
    let l = length-append w ((48 + d) ∷ []) in
    (all_push w (48 + d) r.0 (is_digit d h), omega arith, omega arith)

digit_is : (b : ℕ) → digit b ≡ true → ((b - 48) < 10) × (48 + (b - 48) ≡ b)
digit_is b e = grind (arith, nat_tests)

-- digits after digits
writes_on : (u bs : List ℕ) (a : ℕ) → Digits u a → all_digits bs ≡ true → Digits (u ++ bs) (value a bs)
writes_on u [] a ds e = subst (λ (l : List ℕ). Digits l a) (sym (append-nil u)) ds
writes_on u (b ∷ bs) a ds e =
    let p = and_parts (digit b) (all_digits bs) e in
    let d = digit_is b p.0 in
    let next : Digits (u ++ b ∷ []) (a * 10 + (b - 48)) = subst (λ (x : ℕ). Digits (u ++ x ∷ []) (a * 10 + (b - 48))) d.1 (more u a (b - 48) ds d.0) in
    subst (λ (l : List ℕ). Digits l (value (a * 10 + (b - 48)) bs)) (append_assoc u (b ∷ []) bs) (writes_on (u ++ b ∷ []) bs (a * 10 + (b - 48)) next p.1)

writes_all : (w : List ℕ) → 1 ≤ length w → all_digits w ≡ true → Digits w (value 0 w)
writes_all [] h e = absurd (omega arith)
writes_all (b ∷ bs) h e =
    let p = and_parts (digit b) (all_digits bs) e in
    let d = digit_is b p.0 in
    let start : Digits (b ∷ []) (b - 48) = subst (λ (x : ℕ). Digits (x ∷ []) (b - 48)) d.1 (one (b - 48) d.0) in
    let sum : b - 48 ≡ 0 * 10 + (b - 48) = omega arith in
    subst (λ (n : ℕ). Digits (b ∷ bs) (value n bs)) sum (writes_on (b ∷ []) bs (b - 48) start p.1)

-- a numeral is what the relation says
pub reads_numeral : (w : List ℕ) (n : ℕ) → Numeral w n → numeral w ≡ Some n
reads_numeral w n h =
    let r = wrote h.digits in
    let few = h.few in
    let fits = h.fits in
    grind (arith, nat_tests)

numeral_facts : (w : List ℕ) (n : ℕ) → numeral w ≡ Some n → (1 ≤ length w) × (length w ≤ 20) × (all_digits w ≡ true) × (value 0 w ≡ n) × (n ≤ 18446744073709551615)
numeral_facts w n e = grind (arith, nat_tests)

pub numeral_reads : (w : List ℕ) (n : ℕ) → numeral w ≡ Some n → Numeral w n
numeral_reads w n e =
    let f = numeral_facts w n e in
    record { digits = subst (Digits w) f.3 (writes_all w f.0 f.2); few = f.1; fits = omega arith }

same_some : (m n : ℕ) → Some m ≡ Some n → m ≡ n
same_some m n e = cc

not_some : (n : ℕ) → None ≡ Some n → ⊥
not_some n e = let z : ◌≡◌ {A = ℕ} 0 1 = cc in omega arith

pub written_by : (w : List ℕ) (o : Option ℕ) → numeral w ≡ o → WrittenBy w o
written_by w (Some n) e = (numeral_reads w n e, λ m h. same_some m n (sym (reads_numeral w m h) ∙ e))
written_by w None e = λ m h. not_some m (sym e ∙ reads_numeral w m h)

-- a numeral begins with a digit
pub numeral_begins : (w : List ℕ) (n : ℕ) → Numeral w n → starts_with_digit w ≡ true
numeral_begins [] n h = absurd (omega (arith, (wrote h.digits).2))
numeral_begins (b ∷ bs) n h = (and_parts (digit b) (all_digits bs) (wrote h.digits).0).0
