-- What is written of a frame is read as that frame.
use Rattle.std.proofs.Common.{◌≡◌, ℕ, ◌+◌, ◌*◌, ◌/◌, ◌%◌, ◌^◌, ◌<◌, ◌≤◌, Bool, true, not, ◌&&◌, eqb, leb, List, [], ◌∷◌, ◌++◌, map, length, codes, decimal, sym, refl, ap, ◌∙◌, subst, append_assoc, append-nil, arith, lit≤, length-append}
use Rattle.std.proofs.lemmas.Bool.{and_parts, not-true, eqb-false, leb-true}
use Rattle.std.proofs.lemmas.Fmt.{decimal_by_steps, length-decimal-le, decimal_nonempty}
use Rattle.frame.specs.declared.bound.WindowFrameUnits.{WindowFrameUnits}
use Rattle.frame.specs.declared.bound.WindowFrameUnits.TheVariants as units
use Rattle.frame.specs.declared.bound.WindowFrameBound.{WindowFrameBound}
use Rattle.frame.specs.declared.bound.WindowFrameBound.TheVariants as bounds
use Rattle.words.specs.Letters.{lowered}
use Rattle.words.specs.Words.{Placed}
use Rattle.words.specs.Numbers.{Digits, one, more, Numeral}
use Rattle.words.specs.Cuts.{Spaceless, Stops, Cuts, none, gap, run}
use Rattle.frame.specs.Bounds.{offset}
use Rattle.frame.specs.Frames.{Frame, Admitted}
use Rattle.frame.specs.Grammar.{Says, IsUnit, IsBound, IsClause, ClauseOf}
use Rattle.frame.specs.Grammar as grammar
use Rattle.frame.specs.Shown.{unit_text, bound_text, frame_text, ShownReadsBack}
use Rattle.words.proofs.Running.{spaceless_push}
use Rattle.frame.proofs.Derives.{backward}

-- a number is written in decimal digits
digits : (n : ℕ) → n < 2 ^ 64 → Digits (decimal n) n
digits = decimal_by_steps (λ (n : ℕ) (ds : List ℕ). Digits ds n) one
    (λ n ds ten d. let e : n / 10 * 10 + n % 10 ≡ n = omega arith in subst (Digits (ds ++ ((48 + n % 10) ∷ []))) e (more ds (n / 10) (n % 10) d (omega arith)))

short_decimal : (n : ℕ) → n < 2 ^ 64 → length (decimal n) ≤ 20
short_decimal n h = length-decimal-le 20 n (omega arith) (omega arith) h

numeral : (n : ℕ) → n < 2 ^ 64 → Numeral (decimal n) n
numeral n h = record { digits = digits n h; few = short_decimal n h; fits = h }

digits_spaceless : {w : List ℕ} {n : ℕ} → Digits w n → Spaceless w
digits_spaceless (one d h) = (λ (e : 48 + d ≡ 32). omega arith, tt)
digits_spaceless (more w n d ds h) = spaceless_push w (48 + d) (digits_spaceless ds) (λ (e : 48 + d ≡ 32). omega arith)

-- bytes that can be a word
record Proper (w : List ℕ) : Type 0 where
  some : 0 < length w
  spaceless : Spaceless w

-- a test that none of the bytes is a space
abbrev no_space : List ℕ → Bool
no_space [] = true
no_space (b ∷ bs) = not (eqb b 32) && no_space bs

spaceless_by : (w : List ℕ) → no_space w ≡ true → Spaceless w
spaceless_by [] e = tt
spaceless_by (b ∷ bs) e = let p = and_parts (not (eqb b 32)) (no_space bs) e in (eqb-false b 32 (not-true (eqb b 32) p.0), spaceless_by bs p.1)

proper : (w : List ℕ) → (leb 1 (length w) && no_space w) ≡ true → Proper w
proper w e = let p = and_parts (leb 1 (length w)) (no_space w) e in record { some = leb-true 1 (length w) p.0; spaceless = spaceless_by w p.1 }

proper_decimal : (n : ℕ) → n < 2 ^ 64 → Proper (decimal n)
proper_decimal n h = record { some = decimal_nonempty n h; spaceless = digits_spaceless (digits n h) }

-- bytes hold words with this property, wherever they begin
abbrev Holds : List ℕ → (List Placed → Type 0) → Type 0
Holds bs P = (p : ℕ) → (ws : List Placed) × Cuts p bs ws × P ws

gap_holds : (bs : List ℕ) (P : List Placed → Type 0) → Holds bs P → Holds (32 ∷ bs) P
gap_holds bs P h p = let r = h (p + 1) in (r.0, gap r.1, r.2)

-- a word w in front
abbrev Begins : List ℕ → (List Placed → Type 0) → List Placed → Type 0
Begins w P ws = (x : Placed) × (vs : List Placed) × (ws ≡ x ∷ vs) × (x.text ≡ w) × P vs

word_holds : (w rest : List ℕ) (P : List Placed → Type 0) → Proper w → Stops rest → Holds rest P → Holds (w ++ rest) (Begins w P)
word_holds w rest P h s c p =
    let r = c (p + length w) in
    (record { text = w; place = p } ∷ r.0, run w rest h.some h.spaceless s r.1, (record { text = w; place = p }, r.0, refl, refl, r.2))

-- a bound in front
abbrev Bounds : WindowFrameBound → (List Placed → Type 0) → List Placed → Type 0
Bounds b P ws = (x : Placed) × (y : Placed) × (vs : List Placed) × (ws ≡ x ∷ (y ∷ vs)) × IsBound x y b × P vs

-- two words that are a bound
two_hold : (b : WindowFrameBound) (v w rest : List ℕ) (P : List Placed → Type 0) → Proper v → Proper w → Stops rest → ((x y : Placed) → x.text ≡ v → y.text ≡ w → IsBound x y b) → Holds rest P → Holds (v ++ (32 ∷ (w ++ rest))) (Bounds b P)
two_hold b v w rest P h h' s make c p =
    let r = word_holds v (32 ∷ (w ++ rest)) (Begins w P) h refl (gap_holds (w ++ rest) (Begins w P) (word_holds w rest P h' s c)) p in
    let x = r.2 in
    let y = x.4 in
    (r.0, r.1, (x.0, y.0, y.1, x.2 ∙ ap (λ (l : List Placed). x.0 ∷ l) y.2, make x.0 y.0 x.3 y.3, y.4))

says : (x : Placed) (w small : List ℕ) → x.text ≡ w → map lowered w ≡ small → Says x small
says x w small e f = ap (map lowered) e ∙ f

wrote : (x : Placed) (n : ℕ) → n < 2 ^ 64 → x.text ≡ decimal n → Numeral x.text n
wrote x n h e = subst (λ (w : List ℕ). Numeral w n) (sym e) (numeral n h)

-- an offset and its direction
offset_holds : (b : WindowFrameBound) (n : ℕ) (w rest : List ℕ) (P : List Placed → Type 0) → n < 2 ^ 64 → Proper w → Stops rest → ((x y : Placed) → Numeral x.text n → y.text ≡ w → IsBound x y b) → Holds rest P → Holds ((decimal n ++ (32 ∷ w)) ++ rest) (Bounds b P)
offset_holds b n w rest P h word s make c =
    subst (λ (l : List ℕ). Holds l (Bounds b P)) (sym (append_assoc (decimal n) (32 ∷ w) rest))
    (two_hold b (decimal n) w rest P (proper_decimal n h) word s (λ x y e f. make x y (wrote x n h e) f) c)

bound_holds : (b : WindowFrameBound) (rest : List ℕ) (P : List Placed → Type 0) → offset b < 2 ^ 64 → Stops rest → Holds rest P → Holds (bound_text b ++ rest) (Bounds b P)
bound_holds bounds.UnboundedPreceding rest P h s c = two_hold bounds.UnboundedPreceding (codes "UNBOUNDED") (codes "PRECEDING") rest P (proper _ refl) (proper _ refl) s (λ x y e f. grammar.unbounded_preceding (says x _ _ e refl) (says y _ _ f refl)) c
bound_holds (bounds.Preceding n) rest P h s c = offset_holds (bounds.Preceding n) n (codes "PRECEDING") rest P h (proper _ refl) s (λ x y m f. grammar.preceding m (says y _ _ f refl)) c
bound_holds bounds.CurrentRow rest P h s c = two_hold bounds.CurrentRow (codes "CURRENT") (codes "ROW") rest P (proper _ refl) (proper _ refl) s (λ x y e f. grammar.current_row (says x _ _ e refl) (says y _ _ f refl)) c
bound_holds (bounds.Following n) rest P h s c = offset_holds (bounds.Following n) n (codes "FOLLOWING") rest P h (proper _ refl) s (λ x y m f. grammar.following m (says y _ _ f refl)) c
bound_holds bounds.UnboundedFollowing rest P h s c = two_hold bounds.UnboundedFollowing (codes "UNBOUNDED") (codes "FOLLOWING") rest P (proper _ refl) (proper _ refl) s (λ x y e f. grammar.unbounded_following (says x _ _ e refl) (says y _ _ f refl)) c

proper_unit : (u : WindowFrameUnits) → Proper (unit_text u)
proper_unit units.Rows = proper _ refl
proper_unit units.Range = proper _ refl
proper_unit units.Groups = proper _ refl

is_unit : (u : WindowFrameUnits) (x : Placed) → x.text ≡ unit_text u → IsUnit x u
is_unit units.Rows x e = grammar.rows (says x _ _ e refl)
is_unit units.Range x e = grammar.range (says x _ _ e refl)
is_unit units.Groups x e = grammar.groups (says x _ _ e refl)

abbrev Ended : List Placed → Type 0
Ended ws = ws ≡ []

ended : Holds [] Ended
ended p = ([], none, refl)

end_holds : (b : WindowFrameBound) → offset b < 2 ^ 64 → Holds (codes " AND " ++ bound_text b) (Begins (codes "AND") (Bounds b Ended))
end_holds b h =
    let at_end : Holds (bound_text b) (Bounds b Ended) = subst (λ (l : List ℕ). Holds l (Bounds b Ended)) (append-nil (bound_text b)) (bound_holds b [] Ended h tt ended) in
    gap_holds (codes "AND " ++ bound_text b) (Begins (codes "AND") (Bounds b Ended))
    (word_holds (codes "AND") (32 ∷ bound_text b) (Bounds b Ended) (proper _ refl) refl (gap_holds (bound_text b) (Bounds b Ended) at_end))

abbrev Framed : Frame → List Placed → Type 0
Framed f = Begins (unit_text f.units) (Begins (codes "BETWEEN") (Bounds f.start (Begins (codes "AND") (Bounds f.end Ended))))

frame_holds : (f : Frame) → Admitted f → Holds (frame_text f) (Framed f)
frame_holds f a =
    let E : List Placed → Type 0 = Begins (codes "AND") (Bounds f.end Ended) in
    let S : List Placed → Type 0 = Bounds f.start E in
    let B : List Placed → Type 0 = Begins (codes "BETWEEN") S in
    let tail : List ℕ = codes " AND " ++ bound_text f.end in
    let start : Holds (bound_text f.start ++ tail) S = bound_holds f.start tail E a.start_fits refl (end_holds f.end a.end_fits) in
    let between : Holds (codes " BETWEEN " ++ (bound_text f.start ++ tail)) B =
    gap_holds (codes "BETWEEN " ++ (bound_text f.start ++ tail)) B
    (word_holds (codes "BETWEEN") (32 ∷ (bound_text f.start ++ tail)) S (proper _ refl) refl (gap_holds (bound_text f.start ++ tail) S start)) in
    word_holds (unit_text f.units) (codes " BETWEEN " ++ (bound_text f.start ++ tail)) B (proper_unit f.units) refl between

framed_says : (f : Frame) (ws : List Placed) → Framed f ws → IsClause ws f
framed_says f ws u =
    let k = u.4 in
    let s = k.4 in
    let a = s.5 in
    let e = a.4 in
    let last : e.2 ≡ [] = e.5 in
    let is : ws ≡ u.0 ∷ (k.0 ∷ (s.0 ∷ (s.1 ∷ (a.0 ∷ (e.0 ∷ (e.1 ∷ [])))))) =
    u.2 ∙ ap (λ (l : List Placed). u.0 ∷ l) (k.2 ∙ ap (λ (l : List Placed). k.0 ∷ l) (s.3 ∙ ap (λ (l : List Placed). s.0 ∷ (s.1 ∷ l)) (a.2 ∙ ap (λ (l : List Placed). a.0 ∷ l) (e.3 ∙ ap (λ (l : List Placed). e.0 ∷ (e.1 ∷ l)) last)))) in
    subst (λ (l : List Placed). IsClause l f) (sym is)
    (grammar.between (is_unit f.units u.0 u.3) (says k.0 _ _ k.3 refl) s.4 (says a.0 _ _ a.3 refl) e.4)

short_bound : (b : WindowFrameBound) → offset b < 2 ^ 64 → length (bound_text b) ≤ 30
short_bound bounds.UnboundedPreceding h = lit≤ tt
short_bound (bounds.Preceding n) h = omega (arith, length-append (decimal n) (codes " PRECEDING"), short_decimal n h)
short_bound bounds.CurrentRow h = lit≤ tt
short_bound (bounds.Following n) h = omega (arith, length-append (decimal n) (codes " FOLLOWING"), short_decimal n h)
short_bound bounds.UnboundedFollowing h = lit≤ tt

short_unit : (u : WindowFrameUnits) → length (unit_text u) ≤ 6
short_unit units.Rows = lit≤ tt
short_unit units.Range = lit≤ tt
short_unit units.Groups = lit≤ tt

short_frame : (f : Frame) → Admitted f → length (frame_text f) ≤ 256
short_frame f a =
    omega (
      arith,
      short_unit f.units,
      short_bound f.start a.start_fits,
      short_bound f.end a.end_fits,
      length-append (unit_text f.units) (codes " BETWEEN " ++ (bound_text f.start ++ (codes " AND " ++ bound_text f.end))),
      length-append (codes " BETWEEN ") (bound_text f.start ++ (codes " AND " ++ bound_text f.end)),
      length-append (bound_text f.start) (codes " AND " ++ bound_text f.end),
      length-append (codes " AND ") (bound_text f.end),
    )

pub shown_reads_back : ShownReadsBack
shown_reads_back f a =
    let h = frame_holds f a 0 in
    backward (frame_text f) f (record { short = short_frame f a; words = h.0; cuts = h.1; says = framed_says f h.0 h.2; admitted = a })
