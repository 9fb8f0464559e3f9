-- The words of a text are its runs, and no other words are.
use Rattle.std.proofs.Common.{◌≡◌, ℕ, ◌+◌, ◌-◌, ◌<◌, ◌≤◌, Bool, true, false, cond, eqb, List, [], ◌∷◌, ◌++◌, length, sym, refl, ap, ◌∙◌, subst, ⊎_elim, append_assoc, append-nil, arith, length-append, eqb-true}
use Rattle.std.proofs.lemmas.Bool.{cases_Bool, eqb-false, ne_eqb}
use Rattle.words.specs.Words.{Placed, closed, cut, words_from}
use Rattle.words.specs.Cuts.{Spaceless, Stops, Cuts, none, gap, run, CutOf}

pub spaceless_push : (w : List ℕ) (b : ℕ) → Spaceless w → (b ≡ 32 → ⊥) → Spaceless (w ++ b ∷ [])
spaceless_push [] b h e = (e, tt)
spaceless_push (x ∷ w) b h e = (h.0, spaceless_push w b h.1 e)

-- the open word is closed where the bytes stop
close : (p : ℕ) (w rest : List ℕ) (ws : List Placed) → length w ≤ p → Spaceless w → Stops rest → Cuts p rest ws → Cuts (p - length w) (w ++ rest) (closed p w ++ ws)
close p [] rest ws le h s c = subst (λ (q : ℕ). Cuts q rest ws) (omega arith) c
close p (x ∷ w) rest ws le h s c =
    let at : p ≡ p - length (x ∷ w) + length (x ∷ w) = omega arith in
    run (x ∷ w) rest (omega arith) h s (subst (λ (q : ℕ). Cuts q rest ws) at c)

cuts : (p : ℕ) (w bs : List ℕ) → length w ≤ p → Spaceless w → Cuts (p - length w) (w ++ bs) (cut p w bs)
cuts p w [] le h = subst (Cuts (p - length w) (w ++ [])) (append-nil (closed p w)) (close p w [] [] le h tt none)
cuts p w (b ∷ bs) le h =
    ⊎_elim
    (λ (e : eqb b 32 ≡ true).
    let is : b ≡ 32 = eqb-true b 32 e in
    let on : Cuts (p + 1) bs (cut (p + 1) [] bs) = subst (λ (q : ℕ). Cuts q bs (cut (p + 1) [] bs)) (omega arith) (cuts (p + 1) [] bs (omega arith) tt) in
    let here : Cuts p (b ∷ bs) (cut (p + 1) [] bs) = subst (λ (x : ℕ). Cuts p (x ∷ bs) (cut (p + 1) [] bs)) (sym is) (gap on) in
    subst (λ (t : Bool). Cuts (p - length w) (w ++ (b ∷ bs)) (cond t (closed p w ++ cut (p + 1) [] bs) (cut (p + 1) (w ++ b ∷ []) bs))) (sym e)
    (close p w (b ∷ bs) (cut (p + 1) [] bs) le h is here))
    (λ (e : eqb b 32 ≡ false).
    let long = length-append w (b ∷ []) in
    let at : p + 1 - length (w ++ b ∷ []) ≡ p - length w = omega arith in
    subst (λ (t : Bool). Cuts (p - length w) (w ++ (b ∷ bs)) (cond t (closed p w ++ cut (p + 1) [] bs) (cut (p + 1) (w ++ b ∷ []) bs))) (sym e)
    (subst (λ (q : ℕ). Cuts q (w ++ (b ∷ bs)) (cut (p + 1) (w ++ b ∷ []) bs)) at
    (subst (λ (l : List ℕ). Cuts (p + 1 - length (w ++ b ∷ [])) l (cut (p + 1) (w ++ b ∷ []) bs)) (append_assoc w (b ∷ []) bs)
    (cuts (p + 1) (w ++ b ∷ []) bs (omega arith) (spaceless_push w b h (eqb-false b 32 e))))))
    (cases_Bool (eqb b 32))

-- an open word is closed where the bytes stop
stopped : (p : ℕ) (v rest : List ℕ) → Stops rest → cut p v rest ≡ closed p v ++ cut p [] rest
stopped p v [] s = sym (append-nil (closed p v))
stopped p v (b ∷ bs) s = let e : eqb b 32 ≡ true = simp s in simp e

-- an open word takes in the bytes of a run
taken : (p : ℕ) (v w rest : List ℕ) → Spaceless w → Stops rest → cut p v (w ++ rest) ≡ closed (p + length w) (v ++ w) ++ cut (p + length w) [] rest
taken p v [] rest h s =
    let at : p ≡ p + 0 = omega arith in
    stopped p v rest s ∙ ap (λ (q : ℕ). closed q v ++ cut q [] rest) at ∙ ap (λ (l : List ℕ). closed (p + 0) l ++ cut (p + 0) [] rest) (sym (append-nil v))
taken p v (b ∷ w) rest h s =
    let e : eqb b 32 ≡ false = ne_eqb b 32 h.0 in
    let at : p + 1 + length w ≡ p + length (b ∷ w) = omega arith in
    simp e (taken (p + 1) (v ++ b ∷ []) w rest h.1 s
    ∙ ap (λ (l : List ℕ). closed (p + 1 + length w) l ++ cut (p + 1 + length w) [] rest) (append_assoc v (b ∷ []) w)
    ∙ ap (λ (q : ℕ). closed q (v ++ b ∷ w) ++ cut q [] rest) at)

-- a run is one word
one_word : (p : ℕ) (w rest : List ℕ) → 0 < length w → Spaceless w → Stops rest → cut p [] (w ++ rest) ≡ record { text = w; place = p } ∷ cut (p + length w) [] rest
one_word p [] rest l h s = absurd (omega arith)
one_word p (b ∷ w) rest l h s =
    let at : p + length (b ∷ w) - length (b ∷ w) ≡ p = omega arith in
    taken p [] (b ∷ w) rest h s ∙ ap (λ (q : ℕ). record { text = b ∷ w; place = q } ∷ cut (p + length (b ∷ w)) [] rest) at

only_cut : {p : ℕ} {bs : List ℕ} {ws : List Placed} → Cuts p bs ws → ws ≡ cut p [] bs
only_cut none = refl
only_cut (gap c) = only_cut c
only_cut (run {p = p} w rest l h s c) = ap (λ (vs : List Placed). record { text = w; place = p } ∷ vs) (only_cut c) ∙ sym (one_word p w rest l h s)

pub cut_of : (bs : List ℕ) → CutOf bs (words_from bs 0)
cut_of bs = record {
  holds = subst (λ (q : ℕ). Cuts q bs (words_from bs 0)) (omega arith) (cuts 0 [] bs (omega arith) tt);
  only = λ vs c. only_cut c;
}
