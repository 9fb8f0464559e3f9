-- The reader's definition and the grammar agree.
use Rattle.std.proofs.Common.{◌≡◌, ℕ, ◌^◌, ◌<◌, ◌≤◌, Bool, true, false, cond, eqb, leb, ◌⊎◌, List, [], ◌∷◌, length, get_or, Some, None, Ok, Err, Option, Result, sym, refl, ap, ◌∙◌, subst, inl, inr, ⊎_elim, arith, lit<, lit≤}
use borrow.Author.Tests.{clash}
use Rattle.std.proofs.lemmas.Bool.{cases_Bool, eqb-true, eqb-false, leb-true}
use Rattle.std.proofs.lemmas.Bool.Decides.{nat_tests}
use Rattle.std.specs.Option.{ok_or}
use Rattle.frame.specs.declared.bound.WindowFrameUnits.{WindowFrameUnits}
use Rattle.frame.specs.declared.bound.WindowFrameUnits.TheVariants as units
use Rattle.frame.specs.declared.bound.WindowFrameBound.{WindowFrameBound}
use Rattle.frame.specs.declared.bound.WindowFrameBound.TheVariants as bounds
use Rattle.frame.specs.declared.refusal.Reason.TheVariants.{BadNumber, StartUnboundedFollowing, EndUnboundedPreceding}
use Rattle.frame.specs.declared.refusal.Layer.TheVariants as layers
use Rattle.words.specs.declared.letters.Keyword.{Keyword}
use Rattle.words.specs.declared.letters.Keyword.TheVariants.{Rows, Range, Groups, Between, And, Unbounded, Current, Row, Preceding, Following}
use Rattle.words.specs.Letters.{lowered, name_of, keyword}
use Rattle.words.specs.Words.{Placed, Rest, Token, token_by, first_of, first, tail, later, starts_with_digit, digit, key, number, other, words_from, all_words}
use Rattle.words.specs.Tokens.{span_of}
use Rattle.words.specs.Numbers.{numeral, numeral_or, Numeral}
use Rattle.words.specs.Faults.{both}
use Rattle.words.proofs.Spelling.{keyword_says, says_keyword}
use Rattle.words.proofs.Decimal.{numeral_reads, reads_numeral, numeral_begins}
use Rattle.words.proofs.Running.{cut_of}
use Rattle.frame.specs.Bounds.{kind, offset}
use Rattle.frame.specs.Frames.{Frame}
use Rattle.frame.specs.Refusals.{Refused, refused}
use Rattle.frame.specs.Clause.{key_number, is, is_number, is_missing, then, wrong_in_bound, wrong_in_clause, side, row, by_offset, bound_by, Said, said_at, bound, unit, joint, pair, to_current, extent, judged, clause_of, clause}
use Rattle.frame.specs.Grammar.{Says, IsUnit, IsBound, IsClause, ClauseOf}
use Rattle.frame.specs.Grammar as grammar
use Rattle.frame.proofs.Reading.{short_clause}

split : {A : Type 0} (b : Bool) (x y z : A) → cond b x y ≡ z → ((b ≡ true) × (x ≡ z)) ⊎ ((b ≡ false) × (y ≡ z))
split true x y z e = inl (refl, e)
split false x y z e = inr (refl, e)

ok_same : {X E : Type 0} {x y : X} → ◌≡◌ {A = Result X E} (Ok x) (Ok y) → x ≡ y
ok_same e = cc

pub no_ok : {X E : Type 0} {e : E} {x : X} → ◌≡◌ {A = Result X E} (Err e) (Ok x) → ⊥
no_ok h = let z : ◌≡◌ {A = ℕ} 0 1 = cc in omega arith

then_ok : {X Y E : Type 0} (r : Result X E) (f : X → Result Y E) (y : Y) → then r f ≡ Ok y → (x : X) × (r ≡ Ok x) × (f x ≡ Ok y)
then_ok (Ok x) f y h = (x, refl, h)
then_ok (Err e) f y h = absurd (no_ok h)

both_ok : {X Y E F : Type 0} (f : X → Y) (g : E → F) (r : Result X E) (y : Y) → both f g r ≡ Ok y → (x : X) × (r ≡ Ok x) × (f x ≡ y)
both_ok f g (Ok x) y h = (x, refl, ok_same h)
both_ok f g (Err e) y h = absurd (no_ok h)

ok_or_ok : {X E : Type 0} (o : Option X) (e : E) (x : X) → ok_or o e ≡ Ok x → o ≡ Some x
ok_or_ok (Some y) e x h = ap Some (ok_same h)
ok_or_ok None e x h = absurd (no_ok h)

-- keywords are told apart by their numbers
abbrev from_number : ℕ → Keyword
from_number n =
    cond (eqb n 0) Rows (cond (eqb n 1) Range (cond (eqb n 2) Groups (cond (eqb n 3) Between (cond (eqb n 4) And (
    cond (eqb n 5) Unbounded (cond (eqb n 6) Current (cond (eqb n 7) Row (cond (eqb n 8) Preceding Following))))))))

back : (k : Keyword) → from_number (key_number k) ≡ k
back Rows = refl
back Range = refl
back Groups = refl
back Between = refl
back And = refl
back Unbounded = refl
back Current = refl
back Row = refl
back Preceding = refl
back Following = refl

is_by : (k : Keyword) (o : Option Keyword) (p : Placed) → is k (token_by o p) ≡ true → o ≡ Some k
is_by k (Some j) p e = ap Some (sym (back j) ∙ ap from_number (eqb-true (key_number j) (key_number k) e) ∙ back k)
is_by k None p e =
    ⊎_elim
    (λ (t : starts_with_digit p.text ≡ true). absurd (clash (simp t at e)))
    (λ (t : starts_with_digit p.text ≡ false). absurd (clash (simp t at e)))
    (cases_Bool (starts_with_digit p.text))

-- the next word spells k
is_says : (k : Keyword) (n : ℕ) (ws : List Placed) → is k (first_of n ws) ≡ true → (q : Placed) × (ws ≡ q ∷ tail ws) × Says q (name_of k)
is_says k n [] e = absurd (clash e)
is_says k n (p ∷ ps) e = (p, refl, keyword_says k p.text (is_by k _ p e))

number_by : (o : Option Keyword) (p : Placed) → is_number (token_by o p) ≡ true → token_by o p ≡ number p
number_by (Some j) p e = absurd (clash e)
number_by None p e =
    ⊎_elim
    (λ (t : starts_with_digit p.text ≡ true). simp t)
    (λ (t : starts_with_digit p.text ≡ false). absurd (clash (simp t at e)))
    (cases_Bool (starts_with_digit p.text))

is_numeric : (n : ℕ) (ws : List Placed) → is_number (first_of n ws) ≡ true → (q : Placed) × (ws ≡ q ∷ tail ws) × (first_of n ws ≡ number q)
is_numeric n [] e = absurd (clash e)
is_numeric n (p ∷ ps) e = (p, refl, number_by _ p e)

not_missing : (o : Option Keyword) (p : Placed) → is_missing (token_by o p) ≡ true → ⊥
not_missing (Some k) p e = clash e
not_missing None p e =
    ⊎_elim
    (λ (t : starts_with_digit p.text ≡ true). clash (simp t at e))
    (λ (t : starts_with_digit p.text ≡ false). clash (simp t at e))
    (cases_Bool (starts_with_digit p.text))

none_left : (n : ℕ) (ws : List Placed) → is_missing (first_of n ws) ≡ true → ws ≡ []
none_left n [] e = refl
none_left n (p ∷ ps) e = absurd (not_missing (keyword p.text) p e)

-- a keyword that was read, and the value that follows from it
Keyed : {X : Type 0} → Keyword → Rest → X → X × Rest → Type 0
Keyed k r v x = (q : Placed) × (r.words ≡ q ∷ x.1.words) × Says q (name_of k) × (v ≡ x.0)

keyed : {X : Type 0} (k : Keyword) (r : Rest) (v : X) (x : X × Rest) → is k (first r) ≡ true → ◌≡◌ {A = Result (X × Rest) Refused} (Ok (v, later r)) (Ok x) → Keyed k r v x
unfolding Keyed
keyed {X} k r v x t e =
    let s = is_says k r.end r.words t in
    let o = ok_same e in
    (s.0, s.1 ∙ ap (λ (y : X × Rest). s.0 ∷ y.1.words) o, s.2, ap (λ (y : X × Rest). y.0) o)

side_inv : (b a : WindowFrameBound) (r : Rest) (x : WindowFrameBound × Rest) → side b a r ≡ Ok x → Keyed Preceding r b x ⊎ Keyed Following r a x
side_inv b a r x e =
    ⊎_elim
    (λ h. inl (keyed Preceding r b x h.0 h.1))
    (λ g. ⊎_elim
    (λ h. inr (keyed Following r a x h.0 h.1))
    (λ h. absurd (no_ok h.1))
    (split _ _ _ _ g.1))
    (split (is Preceding (first r)) _ _ _ e)

-- a bound of two words, and the words left
Bounded : List Placed → WindowFrameBound → List Placed → Type 0
Bounded ws b rest = (p : Placed) × (q : Placed) × (ws ≡ p ∷ (q ∷ rest)) × IsBound p q b

-- a first word p and a second that was read
two_words : (k : Keyword) (ws : List Placed) (p : Placed) (r : Rest) (b : WindowFrameBound) (x : WindowFrameBound × Rest) → ws ≡ p ∷ r.words → ((q : Placed) → Says q (name_of k) → IsBound p q b) → Keyed k r b x → Bounded ws x.0 x.1.words
unfolding Keyed Bounded
two_words k ws p r b x at is_bound h =
    (p, h.0, at ∙ ap (λ (l : List Placed). p ∷ l) h.1, subst (IsBound p h.0) h.3 (is_bound h.0 h.2))

module _ (r : Rest) (x : WindowFrameBound × Rest) where
  by_unbounded : is Unbounded (first r) ≡ true → side bounds.UnboundedPreceding bounds.UnboundedFollowing (later r) ≡ Ok x → Bounded r.words x.0 x.1.words
  by_unbounded t e =
      let u = is_says Unbounded r.end r.words t in
      ⊎_elim
      (two_words Preceding r.words u.0 (later r) _ x u.1 (λ q. grammar.unbounded_preceding u.2))
      (two_words Following r.words u.0 (later r) _ x u.1 (λ q. grammar.unbounded_following u.2))
      (side_inv _ _ (later r) x e)

  by_current : is Current (first r) ≡ true → row (later r) ≡ Ok x → Bounded r.words x.0 x.1.words
  by_current t e =
      let u = is_says Current r.end r.words t in
      ⊎_elim
      (λ h. two_words Row r.words u.0 (later r) _ x u.1 (λ q. grammar.current_row u.2) (keyed Row (later r) _ x h.0 h.1))
      (λ h. absurd (no_ok h.1))
      (split (is Row (first (later r))) _ _ _ e)

  by_number : is_number (first r) ≡ true → by_offset (span_of (first r)) (later r) ≡ Ok x → Bounded r.words x.0 x.1.words
  by_number t e =
      let u = is_numeric r.end r.words t in
      let v = then_ok _ _ _ e in
      let b = both_ok (λ (n : ℕ). n) (refused BadNumber layers.Word) (numeral_or (span_of (first r))) v.0 v.1 in
      let w : numeral u.0.text ≡ Some v.0 = ok_or_ok _ u.0 _ (sym (ap (λ (k : Token). numeral_or (span_of k)) u.2) ∙ b.1 ∙ ap Ok b.2) in
      let m = numeral_reads u.0.text v.0 w in
      ⊎_elim
      (two_words Preceding r.words u.0 (later r) _ x u.1 (λ q. grammar.preceding m))
      (two_words Following r.words u.0 (later r) _ x u.1 (λ q. grammar.following m))
      (side_inv _ _ (later r) x v.2)

  bound_by_inv : bound_by (first r) (later r) ≡ Ok x → Bounded r.words x.0 x.1.words
  bound_by_inv e =
      ⊎_elim (λ h. by_unbounded h.0 h.1)
      (λ g. ⊎_elim (λ h. by_current h.0 h.1)
      (λ f. ⊎_elim (λ h. by_number h.0 h.1) (λ h. absurd (no_ok h.1)) (split _ _ _ _ f.1))
      (split _ _ _ _ g.1))
      (split (is Unbounded (first r)) _ _ _ e)

bound_inv : (r : Rest) (x : Said × Rest) → bound (first r) (later r) ≡ Ok x → Bounded r.words x.0.bound x.1.words
bound_inv r x e =
    let b = both_ok _ _ (bound_by (first r) (later r)) x e in
    subst (λ (y : Said × Rest). Bounded r.words y.0.bound y.1.words) b.2 (bound_by_inv r b.0 b.1)

unit_inv : (r : Rest) (x : WindowFrameUnits × Rest) → unit r ≡ Ok x → (u : Placed) × (r.words ≡ u ∷ x.1.words) × IsUnit u x.0
unfolding Keyed
unit_inv r x e =
    ⊎_elim (λ h. let k = keyed Rows r units.Rows x h.0 h.1 in (k.0, k.1, subst (IsUnit k.0) k.3 (grammar.rows k.2)))
    (λ g. ⊎_elim (λ h. let k = keyed Range r units.Range x h.0 h.1 in (k.0, k.1, subst (IsUnit k.0) k.3 (grammar.range k.2)))
    (λ f. ⊎_elim (λ h. let k = keyed Groups r units.Groups x h.0 h.1 in (k.0, k.1, subst (IsUnit k.0) k.3 (grammar.groups k.2)))
    (λ h. absurd (no_ok h.1)) (split _ _ _ _ f.1)) (split _ _ _ _ g.1)) (split (is Rows (first r)) _ _ _ e)

joint_inv : (r q : Rest) → joint r ≡ Ok q → (a : Placed) × (r.words ≡ a ∷ q.words) × Says a (name_of And)
joint_inv r q e =
    ⊎_elim
    (λ (h : (is And (first r) ≡ true) × (Ok (later r) ≡ Ok q)). let s = is_says And r.end r.words h.0 in (s.0, s.1 ∙ ap (λ (y : Rest). s.0 ∷ y.words) (ok_same h.1), s.2))
    (λ h. absurd (no_ok h.1)) (split _ _ _ _ e)

-- BETWEEN bound AND bound, or one bound, and the words left
data Spans : List Placed → WindowFrameBound → WindowFrameBound → List Placed → Type 0 where
  one : {p q : Placed} {b : WindowFrameBound} {rest : List Placed} → IsBound p q b → Spans (p ∷ (q ∷ rest)) b bounds.CurrentRow rest
  two : {k p q a r s : Placed} {b c : WindowFrameBound} {rest : List Placed} → Says k (name_of Between) → IsBound p q b → Says a (name_of And) → IsBound r s c → Spans (k ∷ (p ∷ (q ∷ (a ∷ (r ∷ (s ∷ rest)))))) b c rest

Extent : Type 0
Extent = Said × Said × Rest

extent_inv : (r : Rest) (x : Said × Said × Rest) → extent r ≡ Ok x → Spans r.words x.0.bound x.1.bound x.2.words
unfolding Bounded
extent_inv r x e =
    ⊎_elim
    (λ (h : (is Between (first r) ≡ true) × (pair (later r) ≡ Ok x)).
    let k = is_says Between r.end r.words h.0 in
    let s = then_ok _ _ x h.1 in
    let j = then_ok _ _ x s.2 in
    let t = then_ok _ _ x j.2 in
    let p = bound_inv (later r) s.0 s.1 in
    let a = joint_inv s.0.1 j.0 j.1 in
    let q = bound_inv j.0 t.0 t.1 in
    let ws_is : r.words ≡ k.0 ∷ (p.0 ∷ (p.1 ∷ (a.0 ∷ (q.0 ∷ (q.1 ∷ t.0.1.words))))) =
    k.1 ∙ ap (λ (l : List Placed). k.0 ∷ l) (p.2 ∙ ap (λ (l : List Placed). p.0 ∷ (p.1 ∷ l)) (a.1 ∙ ap (λ (l : List Placed). a.0 ∷ l) q.2)) in
    subst (λ (y : Said × Said × Rest). Spans r.words y.0.bound y.1.bound y.2.words) (ok_same t.2)
    (subst (λ (l : List Placed). Spans l s.0.0.bound t.0.0.bound t.0.1.words) (sym ws_is) (two k.2 p.3 a.2 q.3)))
    (λ (h : (is Between (first r) ≡ false) × (both to_current (λ (y : Refused). y) (bound (first r) (later r)) ≡ Ok x)).
    let s = both_ok to_current (λ (y : Refused). y) (bound (first r) (later r)) x h.1 in
    let p = bound_inv r s.0 s.1 in
    subst (λ (y : Said × Said × Rest). Spans r.words y.0.bound y.1.bound y.2.words) s.2
    (subst (λ (l : List Placed). Spans l s.0.0.bound bounds.CurrentRow s.0.1.words) (sym p.2) (one p.3)))
    (split _ _ _ _ e)

clause_spans : {ws : List Placed} {u : Placed} {v : WindowFrameUnits} {b c : WindowFrameBound} {rest : List Placed} → IsUnit u v → Spans ws b c rest → rest ≡ [] → IsClause (u ∷ ws) (record { units = v; start = b; end = c })
clause_spans {u = u} {v = v} i (one {p = p} {q = q} {b = b} h) e = subst (λ (l : List Placed). IsClause (u ∷ (p ∷ (q ∷ l))) (record { units = v; start = b; end = bounds.CurrentRow })) (sym e) (grammar.single i h)
clause_spans {u = u} {v = v} i (two {k = k} {p = p} {q = q} {a = a} {r = r} {s = s} {b = b} {c = c} kk h aa g) e = subst (λ (l : List Placed). IsClause (u ∷ (k ∷ (p ∷ (q ∷ (a ∷ (r ∷ (s ∷ l))))))) (record { units = v; start = b; end = c })) (sym e) (grammar.between i kk h aa g)

offset_fits : {p q : Placed} {b : WindowFrameBound} → IsBound p q b → offset b < 2 ^ 64
offset_fits (grammar.unbounded_preceding h g) = lit< tt
offset_fits (grammar.preceding h g) = h.fits
offset_fits (grammar.current_row h g) = lit< tt
offset_fits (grammar.following h g) = h.fits
offset_fits (grammar.unbounded_following h g) = lit< tt

fits : {ws : List Placed} {f : Frame} → IsClause ws f → (offset f.start < 2 ^ 64) × (offset f.end < 2 ^ 64)
fits (grammar.single i h) = (offset_fits h, lit< tt)
fits (grammar.between i k h a g) = (offset_fits h, offset_fits g)

kind_max : (b : WindowFrameBound) → kind b ≤ 4
kind_max bounds.UnboundedPreceding = lit≤ tt
kind_max (bounds.Preceding n) = lit≤ tt
kind_max bounds.CurrentRow = lit≤ tt
kind_max (bounds.Following n) = lit≤ tt
kind_max bounds.UnboundedFollowing = lit≤ tt

-- a frame that passes the last questions
Passed : WindowFrameUnits → Said × Said × Rest → Frame → Type 0
Passed u x f = (x.2.words ≡ []) × (kind x.0.bound < 4) × (0 < kind x.1.bound) × (record { units = u; start = x.0.bound; end = x.1.bound } ≡ f)

judged_inv : (u : WindowFrameUnits) (x : Said × Said × Rest) (f : Frame) → judged u x ≡ Ok f → Passed u x f
unfolding Passed
judged_inv u x f e =
    ⊎_elim
    (λ m. ⊎_elim (λ k. absurd (no_ok k.1))
    (λ k. ⊎_elim (λ j. absurd (no_ok j.1))
    (λ j.
    let d = eqb-false (kind x.0.bound) 4 k.0 in
    let z = eqb-false (kind x.1.bound) 0 j.0 in
    let most = kind_max x.0.bound in
    (none_left x.2.end x.2.words m.0, grind arith, grind arith, ok_same j.1))
    (split (eqb (kind x.1.bound) 0) _ _ _ k.1))
    (split (eqb (kind x.0.bound) 4) _ _ _ m.1))
    (λ m. absurd (no_ok m.1))
    (split (is_missing (first x.2)) _ _ _ e)

clause_of_inv : (r : Rest) (f : Frame) → clause_of r ≡ Ok f → IsClause r.words f × (kind f.start < 4) × (0 < kind f.end)
unfolding Passed
clause_of_inv r f e =
    let u = then_ok _ _ f e in
    let x = then_ok _ _ f u.2 in
    let i = unit_inv r u.0 u.1 in
    let s = extent_inv u.0.1 x.0 x.1 in
    let j = judged_inv u.0.0 x.0 f x.2 in
    subst (λ (g : Frame). IsClause r.words g × (kind g.start < 4) × (0 < kind g.end)) j.3
    (subst (λ (l : List Placed). IsClause l (record { units = u.0.0; start = x.0.0.bound; end = x.0.1.bound })) (sym i.1) (clause_spans i.2 s j.0), j.1, j.2)

pub forward : (bs : List ℕ) (f : Frame) → clause bs ≡ Ok f → ClauseOf bs f
forward bs f e =
    ⊎_elim
    (λ (h : (leb (length bs) 256 ≡ true) × (clause_of (all_words bs) ≡ Ok f)).
    let c = clause_of_inv (all_words bs) f h.1 in
    let o = fits c.0 in
    record {
      short = leb-true _ _ h.0;
      words = words_from bs 0;
      cuts = (cut_of bs).holds;
      says = c.0;
      admitted = record { starts = c.1; ends = c.2; start_fits = o.0; end_fits = o.1 };
    })
    (λ h. absurd (no_ok h.1))
    (split (leb (length bs) 256) _ _ _ e)

-- a name begins with a small letter
high : (k : Keyword) → 97 ≤ get_or (name_of k) 0 0
high Rows = lit≤ tt
high Range = lit≤ tt
high Groups = lit≤ tt
high Between = lit≤ tt
high And = lit≤ tt
high Unbounded = lit≤ tt
high Current = lit≤ tt
high Row = lit≤ tt
high Preceding = lit≤ tt
high Following = lit≤ tt

low : (b : ℕ) → digit b ≡ true → lowered b ≤ 57
low b d = grind (arith, nat_tests)

-- a word that begins with a digit is no keyword
no_key : (w : List ℕ) → starts_with_digit w ≡ true → (o : Option Keyword) → keyword w ≡ o → o ≡ None
no_key w d None e = refl
no_key [] d (Some k) e = absurd (clash d)
no_key (b ∷ bs) d (Some k) e =
    let l : lowered b ≡ get_or (name_of k) 0 0 = ap (λ (w : List ℕ). get_or w 0 0) (keyword_says k (b ∷ bs) e) in
    absurd (omega (arith, low b d, high k))

abbrev rest_of : ℕ → List Placed → Rest
rest_of n ws = record { words = ws; end = n }

module _ (n : ℕ) (p : Placed) (ps : List Placed) where
  first_says : (k : Keyword) → Says p (name_of k) → first_of n (p ∷ ps) ≡ key k p
  first_says k e = ap (λ (o : Option Keyword). token_by o p) (says_keyword k p.text e)

  first_writes : (m : ℕ) → Numeral p.text m → first_of n (p ∷ ps) ≡ number p
  first_writes m e =
      let d = numeral_begins p.text m e in
      ap (λ (o : Option Keyword). token_by o p) (no_key p.text d _ refl) ∙ ap (λ (t : Bool). cond t (number p) (other p)) d

module _ (n : ℕ) (p q : Placed) (ws : List Placed) where
  abbrev Begun : Token → Result (Said × Rest) Refused
  Begun t = bound t (rest_of n (q ∷ ws))

  abbrev Sided : WindowFrameBound → WindowFrameBound → Token → Result (Said × Rest) Refused
  Sided b a t = both (said_at p) (λ (e : Refused). e) (cond (is Preceding t) (Ok (b, rest_of n ws)) (cond (is Following t) (Ok (a, rest_of n ws)) (Err (wrong_in_bound t))))

  numbered : (m : ℕ) → Numeral p.text m → Begun (number p) ≡ Sided (bounds.Preceding m) (bounds.Following m) (first_of n (q ∷ ws))
  numbered m e = ap (λ (o : Option ℕ). both (said_at p) (λ (r : Refused). r) (then (both (λ (i : ℕ). i) (refused BadNumber layers.Word) (ok_or o p)) (λ (i : ℕ). side (bounds.Preceding i) (bounds.Following i) (rest_of n (q ∷ ws))))) (reads_numeral p.text m e)

bound_of : (n : ℕ) {p q : Placed} (ws : List Placed) {b : WindowFrameBound} → IsBound p q b → bound (first_of n (p ∷ (q ∷ ws))) (rest_of n (q ∷ ws)) ≡ Ok (record { bound = b; at = p }, rest_of n ws)
bound_of n {p} {q} ws (grammar.unbounded_preceding h g) = ap (Begun n p q ws) (first_says n p (q ∷ ws) Unbounded h) ∙ ap (Sided n p q ws bounds.UnboundedPreceding bounds.UnboundedFollowing) (first_says n q ws Preceding g)
bound_of n {p} {q} ws (grammar.unbounded_following h g) = ap (Begun n p q ws) (first_says n p (q ∷ ws) Unbounded h) ∙ ap (Sided n p q ws bounds.UnboundedPreceding bounds.UnboundedFollowing) (first_says n q ws Following g)
bound_of n {p} {q} ws (grammar.preceding {n = m} h g) = ap (Begun n p q ws) (first_writes n p (q ∷ ws) m h) ∙ numbered n p q ws m h ∙ ap (Sided n p q ws (bounds.Preceding m) (bounds.Following m)) (first_says n q ws Preceding g)
bound_of n {p} {q} ws (grammar.following {n = m} h g) = ap (Begun n p q ws) (first_writes n p (q ∷ ws) m h) ∙ numbered n p q ws m h ∙ ap (Sided n p q ws (bounds.Preceding m) (bounds.Following m)) (first_says n q ws Following g)
bound_of n {p} {q} ws (grammar.current_row h g) = ap (Begun n p q ws) (first_says n p (q ∷ ws) Current h) ∙ ap (λ (t : Token). both (said_at p) (λ (e : Refused). e) (cond (is Row t) (Ok (bounds.CurrentRow, rest_of n ws)) (Err (wrong_in_bound t)))) (first_says n q ws Row g)

abbrev units_by : ℕ → List Placed → Token → Result (WindowFrameUnits × Rest) Refused
units_by n ws t = cond (is Rows t) (Ok (units.Rows, rest_of n ws)) (cond (is Range t) (Ok (units.Range, rest_of n ws)) (cond (is Groups t) (Ok (units.Groups, rest_of n ws)) (Err (wrong_in_clause t))))

unit_of : (n : ℕ) {u : Placed} (ws : List Placed) {v : WindowFrameUnits} → IsUnit u v → unit (rest_of n (u ∷ ws)) ≡ Ok (v, rest_of n ws)
unit_of n {u} ws (grammar.rows h) = ap (units_by n ws) (first_says n u ws Rows h)
unit_of n {u} ws (grammar.range h) = ap (units_by n ws) (first_says n u ws Range h)
unit_of n {u} ws (grammar.groups h) = ap (units_by n ws) (first_says n u ws Groups h)

not_between : (n : ℕ) {p q : Placed} (ps : List Placed) {b : WindowFrameBound} → IsBound p q b → is Between (first_of n (p ∷ ps)) ≡ false
not_between n {p} ps (grammar.unbounded_preceding h g) = ap (is Between) (first_says n p ps Unbounded h)
not_between n {p} ps (grammar.unbounded_following h g) = ap (is Between) (first_says n p ps Unbounded h)
not_between n {p} ps (grammar.preceding {n = m} h g) = ap (is Between) (first_writes n p ps m h)
not_between n {p} ps (grammar.following {n = m} h g) = ap (is Between) (first_writes n p ps m h)
not_between n {p} ps (grammar.current_row h g) = ap (is Between) (first_says n p ps Current h)

extent_one : (n : ℕ) {p q : Placed} {b : WindowFrameBound} → IsBound p q b → extent (rest_of n (p ∷ (q ∷ []))) ≡ Ok (record { bound = b; at = p }, record { bound = bounds.CurrentRow; at = p }, rest_of n [])
extent_one n {p} {q} h =
    let r : Rest = rest_of n (p ∷ (q ∷ [])) in
    ap (λ (t : Bool). cond t (pair (later r)) (both to_current (λ (e : Refused). e) (bound (first r) (later r)))) (not_between n (q ∷ []) h)
    ∙ ap (both to_current (λ (e : Refused). e)) (bound_of n [] h)

extent_two : (n : ℕ) (k : Placed) {p q : Placed} (a : Placed) {r s : Placed} {b c : WindowFrameBound} → Says k (name_of Between) → IsBound p q b → Says a (name_of And) → IsBound r s c → extent (rest_of n (k ∷ (p ∷ (q ∷ (a ∷ (r ∷ (s ∷ []))))))) ≡ Ok (record { bound = b; at = p }, record { bound = c; at = r }, rest_of n [])
extent_two n k {p} {q} a {r} {s} {b} {c} kk h aa g =
    let start : Said = record { bound = b; at = p } in
    let all : Rest = rest_of n (k ∷ (p ∷ (q ∷ (a ∷ (r ∷ (s ∷ [])))))) in
    let ends : Rest → Result (Said × Said × Rest) Refused = λ (q : Rest). then (bound (first q) (later q)) (λ (e : Said × Rest). Ok (start, e.0, e.1)) in
    ap (λ (t : Token). cond (is Between t) (pair (later all)) (both to_current (λ (e : Refused). e) (bound (first all) (later all)))) (first_says n k (p ∷ (q ∷ (a ∷ (r ∷ (s ∷ []))))) Between kk)
    ∙ ap (λ (x : Result (Said × Rest) Refused). then x (λ (s : Said × Rest). then (joint s.1) (λ (q : Rest). then (bound (first q) (later q)) (λ (e : Said × Rest). Ok (s.0, e.0, e.1))))) (bound_of n (a ∷ (r ∷ (s ∷ []))) h)
    ∙ ap (λ (t : Token). then (cond (is And t) (Ok (rest_of n (r ∷ (s ∷ [])))) (Err (wrong_in_clause t))) ends) (first_says n a (r ∷ (s ∷ [])) And aa)
    ∙ ap (λ (x : Result (Said × Rest) Refused). then x (λ (e : Said × Rest). Ok (start, e.0, e.1))) (bound_of n [] g)

judged_ok : (n : ℕ) (v : WindowFrameUnits) (s e : Said) → kind s.bound < 4 → 0 < kind e.bound → judged v (s, e, rest_of n []) ≡ Ok (record { units = v; start = s.bound; end = e.bound })
judged_ok n v s e lt gt =
    let a : eqb (kind s.bound) 4 ≡ false = grind (arith, nat_tests) in
    let b : eqb (kind e.bound) 0 ≡ false = grind (arith, nat_tests) in
    let ok : Result Frame Refused = Ok (record { units = v; start = s.bound; end = e.bound }) in
    let late : Result Frame Refused = Err (refused EndUnboundedPreceding layers.Clause e.at) in
    ap (λ (t : Bool). cond t (Err (refused StartUnboundedFollowing layers.Clause s.at)) (cond (eqb (kind e.bound) 0) late ok)) a
    ∙ ap (λ (t : Bool). cond t late ok) b

clause_ok : (n : ℕ) {ws : List Placed} {f : Frame} → IsClause ws f → kind f.start < 4 → 0 < kind f.end → clause_of (rest_of n ws) ≡ Ok f
clause_ok n (grammar.single {p = p} {q = q} {v = v} {b = b} i h) lt gt =
    ap (λ (x : Result (WindowFrameUnits × Rest) Refused). then x (λ (u : WindowFrameUnits × Rest). then (extent u.1) (judged u.0))) (unit_of n (p ∷ (q ∷ [])) i)
    ∙ ap (λ (x : Result (Said × Said × Rest) Refused). then x (judged v)) (extent_one n h)
    ∙ judged_ok n v (record { bound = b; at = p }) (record { bound = bounds.CurrentRow; at = p }) lt gt
clause_ok n (grammar.between {k = k} {p = p} {q = q} {a = a} {r = r} {s = s} {v = v} {b = b} {c = c} i kk h aa g) lt gt =
    ap (λ (x : Result (WindowFrameUnits × Rest) Refused). then x (λ (u : WindowFrameUnits × Rest). then (extent u.1) (judged u.0))) (unit_of n (k ∷ (p ∷ (q ∷ (a ∷ (r ∷ (s ∷ [])))))) i)
    ∙ ap (λ (x : Result (Said × Said × Rest) Refused). then x (judged v)) (extent_two n k a kk h aa g)
    ∙ judged_ok n v (record { bound = b; at = p }) (record { bound = c; at = r }) lt gt

pub backward : (bs : List ℕ) (f : Frame) → ClauseOf bs f → clause bs ≡ Ok f
backward bs f c =
    let says : IsClause (words_from bs 0) f = subst (λ (l : List Placed). IsClause l f) ((cut_of bs).only c.words c.cuts) c.says in
    short_clause bs c.short ∙ clause_ok (length bs) says c.admitted.starts c.admitted.ends

pub only_frame : (bs : List ℕ) (f g : Frame) → clause bs ≡ Ok g → ClauseOf bs f → f ≡ g
only_frame bs f g e c = ok_same (sym (backward bs f c) ∙ e)
