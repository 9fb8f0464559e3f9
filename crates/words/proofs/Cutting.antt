-- How a text is cut into words, one after the other.
use Rattle.std.proofs.Common.{◌≡◌, ℕ, suc, ◌+◌, ◌-◌, ◌≤◌, Bool, true, false, eqb, List, [], ◌∷◌, ◌++◌, length, take, drop, sym, refl, ap, ◌∙◌, subst, ⊎_elim, append_assoc, append-nil, add-zero, add_assoc, one-add, arith, length-drop, length-take-le}
use Rattle.std.specs.List.{prefix_len}
use Rattle.std.proofs.lemmas.List.{drop-drop}
use Rattle.std.proofs.lemmas.List.Sums.{prefix_len-le-length}
use Rattle.std.proofs.lemmas.Bool.{cases_Bool}
use Rattle.words.specs.Words.{like, Placed, closed, cut, words_from, Next}

abbrev space : ℕ → Bool
space = like true

abbrev inked : ℕ → Bool
inked = like false

-- spaces in front change nothing
skip : (p : ℕ) (xs : List ℕ) → cut p [] xs ≡ cut (p + prefix_len space xs) [] (drop (prefix_len space xs) xs)
skip p [] = refl
skip p (b ∷ xs) =
    ⊎_elim
    (λ (e : eqb b 32 ≡ true). simp (e, one-add) (skip (p + 1) xs ∙ simp (add_assoc, one-add)))
    (λ (e : eqb b 32 ≡ false). simp (e, add-zero))
    (cases_Bool (eqb b 32))

-- a word goes on to the next space
reach : (p : ℕ) (w xs : List ℕ) → cut p w xs ≡ closed (p + prefix_len inked xs) (w ++ take (prefix_len inked xs) xs) ++ cut (p + prefix_len inked xs) [] (drop (prefix_len inked xs) xs)
reach p w [] = simp (add-zero, append-nil)
reach p w (b ∷ xs) =
    ⊎_elim
    (λ (e : eqb b 32 ≡ true). simp (e, add-zero, append-nil))
    (λ (e : eqb b 32 ≡ false). simp (e, one-add) (reach (p + 1) (w ++ b ∷ []) xs ∙ simp (add_assoc, one-add, append_assoc)))
    (cases_Bool (eqb b 32))

-- a word that begins at place p, and what follows it
word : (p b : ℕ) (ys : List ℕ) → eqb b 32 ≡ false → cut p [] (b ∷ ys) ≡ record { text = b ∷ take (prefix_len inked ys) ys; place = p } ∷ cut (p + 1 + prefix_len inked ys) [] (drop (prefix_len inked ys) ys)
word p b ys e =
    let long = length-take-le (prefix_len inked ys) ys (prefix_len-le-length inked ys) in
    let here : p + 1 + prefix_len inked ys - length (b ∷ take (prefix_len inked ys) ys) ≡ p = omega arith in
    simp e (reach (p + 1) (b ∷ []) ys ∙ ap (λ (q : ℕ). record { text = b ∷ take (prefix_len inked ys) ys; place = q } ∷ cut (p + 1 + prefix_len inked ys) [] (drop (prefix_len inked ys) ys)) here)

unspaced : (xs : List ℕ) → prefix_len space (drop (prefix_len space xs) xs) ≡ 0
unspaced [] = refl
unspaced (b ∷ xs) =
    ⊎_elim
    (λ (e : eqb b 32 ≡ true). simp (e, one-add) (unspaced xs))
    (λ (e : eqb b 32 ≡ false). simp e)
    (cases_Bool (eqb b 32))

-- the next word of bytes that begin at place p, with no space in front
at_word : (n p : ℕ) (ys : List ℕ) → prefix_len space ys ≡ 0 → p + length ys ≡ n → Next n (cut p [] ys) (record { text = take (prefix_len inked ys) ys; place = p }) (cut (p + prefix_len inked ys) [] (drop (prefix_len inked ys) ys))
at_word n p [] none end =
    let here : p ≡ n = omega arith in
    (ap (λ (q : ℕ). record { text = []; place = q }) here, refl)
at_word n p (b ∷ ys) none end =
    ⊎_elim
    (λ (e : eqb b 32 ≡ true). let one : prefix_len space (b ∷ ys) ≡ suc (prefix_len space ys) = simp (e, one-add) in absurd (omega arith))
    (λ (e : eqb b 32 ≡ false).
    let lead : suc (prefix_len inked ys) ≡ prefix_len inked (b ∷ ys) = simp (e, one-add) in
    let on : p + suc (prefix_len inked ys) ≡ p + 1 + prefix_len inked ys = omega arith in
    subst (λ (m : ℕ). Next n (cut p [] (b ∷ ys)) (record { text = take m (b ∷ ys); place = p }) (cut (p + m) [] (drop m (b ∷ ys)))) lead
    (subst (λ (ws : List Placed). Next n ws (record { text = b ∷ take (prefix_len inked ys) ys; place = p }) (cut (p + suc (prefix_len inked ys)) [] (drop (prefix_len inked ys) ys))) (sym (word p b ys e))
    (refl, ap (λ (q : ℕ). cut q [] (drop (prefix_len inked ys) ys)) on, omega arith)))
    (cases_Bool (eqb b 32))

-- what `next_span` gives
pub next_is : (bs : List ℕ) (from start end : ℕ) → from ≤ length bs → start ≡ from + prefix_len space (drop from bs) → end ≡ start + prefix_len inked (drop start bs) → Next (length bs) (words_from bs from) (record { text = take (end - start) (drop start bs); place = start }) (words_from bs end)
next_is bs from start end within at stop =
    let short = prefix_len-le-length space (drop from bs) in
    let fits : start ≤ length bs = omega (arith, length-drop from bs) in
    let skipped : words_from bs from ≡ words_from bs start = skip from (drop from bs) ∙ ap (λ (l : List ℕ). cut (from + prefix_len space (drop from bs)) [] l) (drop-drop (prefix_len space (drop from bs)) from bs) ∙ ap (words_from bs) (sym at) in
    let none : prefix_len space (drop start bs) ≡ 0 = ap (λ (l : List ℕ). prefix_len space l) (ap (λ (i : ℕ). drop i bs) at ∙ sym (drop-drop (prefix_len space (drop from bs)) from bs)) ∙ unspaced (drop from bs) in
    let size : end - start ≡ prefix_len inked (drop start bs) = omega arith in
    let rest : words_from bs end ≡ cut (start + prefix_len inked (drop start bs)) [] (drop (prefix_len inked (drop start bs)) (drop start bs)) = ap (words_from bs) stop ∙ ap (λ (l : List ℕ). cut (start + prefix_len inked (drop start bs)) [] l) (sym (drop-drop (prefix_len inked (drop start bs)) start bs)) in
    subst (λ (ws : List Placed). Next (length bs) ws (record { text = take (end - start) (drop start bs); place = start }) (words_from bs end)) (sym skipped)
    (subst (λ (k : ℕ). Next (length bs) (words_from bs start) (record { text = take k (drop start bs); place = start }) (words_from bs end)) (sym size)
    (subst (λ (ws : List Placed). Next (length bs) (words_from bs start) (record { text = take (prefix_len inked (drop start bs)) (drop start bs); place = start }) ws) (sym rest)
    (at_word (length bs) start (drop start bs) none (omega (arith, length-drop start bs)))))
