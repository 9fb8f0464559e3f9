-- What the checks of a question and of a filing tell.
use Rattle.std.proofs.Common.{◌≡◌, ℕ, zero, suc, ◌+◌, ◌-◌, ◌<◌, ◌≤◌, Bool, true, false, cond, not, eqb, ltb, leb, ◌⊎◌, List, length, get_or, take, drop, Some, None, Ok, Err, Option, sym, refl, ap, ◌∙◌, subst, inl, inr, ⊎_elim, arith}
use Rattle.std.specs.Option.{option_map}
use Rattle.std.proofs.lemmas.Bool.{cases_Bool, cases_lt, eqb-true, leb-false, ltb-false, le-ltb, not-false, not-true}
use Rattle.std.proofs.lemmas.List.{get_or-take, get_or-drop}
use Rattle.frame.specs.declared.refusal.Refusal.{Refusal}
use Rattle.frame.specs.Frames.{Frame}
use Rattle.transcript.specs.Lines.{at_line}
use Rattle.meaning.specs.declared.options.SortOptions.{SortOptions}
use Rattle.meaning.specs.Counts.{walk}
use Rattle.meaning.specs.Lines.{Line}
use Rattle.meaning.specs.Ranges.{before}
use Rattle.search.specs.Views.{if_below}
use Rattle.sitting.specs.State.{Grant, limit}
use Rattle.sitting.specs.Rules.{disorder, order_fault, fault, answered, or_else, file_fault}
use Rattle.sitting.specs.Tracks.{Stretch}

pub cases_option : {X : Type 0} (o : Option X) → ((x : X) × (o ≡ Some x)) ⊎ (o ≡ None)
cases_option (Some x) = inl (x, refl)
cases_option None = inr refl

-- a check that was passed
past : (b : Bool) (e : Refusal) (x : Option Refusal) → cond b (Some e) x ≡ None → (b ≡ false) × (x ≡ None)
past true e x h = let z : ◌≡◌ {A = ℕ} 0 1 = cc in absurd (omega arith)
past false e x h = (refl, h)

pub record Clear (o : SortOptions) (f : Frame) (g : Grant) (filed first : ℕ) (xs : List Line) (line : ℕ) : Type 0 where
  pub from : first ≡ filed
  pub grown : g.total ≤ first + length xs
  pub inside : line < first + length xs
  pub onward : g.line ≤ line
  pub sorted : order_fault f.units o first xs g.total ≡ None

pub clear : (o : SortOptions) (f : Frame) (g : Grant) (filed first : ℕ) (xs : List Line) (line : ℕ) → fault o f g filed first xs line ≡ None → Clear o f g filed first xs line
clear o f g filed first xs line h =
    let a = past (not (eqb first filed)) _ _ h in
    let b = past (ltb (first + length xs) g.total) _ _ a.1 in
    let c = past (leb (first + length xs) line) _ _ b.1 in
    let d = past (ltb line g.line) _ _ c.1 in
    record {
      from = eqb-true first filed (not-false _ a.0);
      grown = ltb-false _ _ b.0;
      inside = leb-false _ _ c.0;
      onward = ltb-false _ _ d.0;
      sorted = d.1;
    }

pub file_clear : (g : Grant) (filed n : ℕ) → file_fault g filed n ≡ None → (n ≤ limit g) × (filed ≤ n)
file_clear g filed n h =
    let a = past (ltb (limit g) n) _ _ h in
    let b = past (ltb n filed) _ _ a.1 in
    (ltb-false _ _ a.0, ltb-false _ _ b.0)

-- an answer that is no refusal
pub answered_ok : {X : Type 0} (d : Option Refusal) (x w : X) → answered d x ≡ Ok w → (d ≡ None) × (x ≡ w)
answered_ok (Some e) x w h = let z : ◌≡◌ {A = ℕ} 0 1 = cc in absurd (omega arith)
answered_ok None x w h = (refl, cc)

pub answered_err : {X : Type 0} (d : Option Refusal) (x : X) (e : Refusal) → answered d x ≡ Err e → d ≡ Some e
answered_err (Some f) x e h = cc
answered_err None x e h = let z : ◌≡◌ {A = ℕ} 0 1 = cc in absurd (omega arith)

pub neither : {X : Type 0} (a b : Option X) → or_else a b ≡ None → (a ≡ None) × (b ≡ None)
neither (Some x) b h = let z : ◌≡◌ {A = ℕ} 0 1 = cc in absurd (omega arith)
neither None b h = (refl, h)

-- a walk that ends at the end passes everywhere
walk_passes : (p : ℕ → Bool) (m a : ℕ) → a + m ≤ walk p a m → (j : ℕ) → a ≤ j → j < a + m → p j ≡ true
walk_passes p zero a h j low high = absurd (omega arith)
walk_passes p (suc m) a h j low high =
    ⊎_elim
    (λ (y : p a ≡ true).
    let h' : a + 1 + m ≤ walk p (a + 1) m = let k = ap (λ b. cond b (walk p (a + 1) m) a) y in omega arith in
    ⊎_elim
    (λ (l : a < j). walk_passes p m (a + 1) h' j (omega arith) (omega arith))
    (λ (g : j ≤ a). let e : a ≡ j = omega arith in subst (λ (i : ℕ). p i ≡ true) e y)
    (cases_lt a j))
    (λ (n : p a ≡ false). let k = ap (λ b. cond b (walk p (a + 1) m) a) n in absurd (omega arith))
    (cases_Bool (p a))

none_below : (t n : ℕ) → if_below t n ≡ None → t ≤ n
none_below t n h =
    ⊎_elim
    (λ (y : ltb n t ≡ true). let k : cond (ltb n t) (Some n) None ≡ Some n = ap (λ b. cond b (Some n) None) y in let z : ◌≡◌ {A = ℕ} 0 1 = cc in absurd (omega arith))
    (λ (l : ltb n t ≡ false). ltb-false n t l)
    (cases_Bool (ltb n t))

pub not_mapped : {X Y : Type 0} (f : X → Y) (o : Option X) → option_map f o ≡ None → o ≡ None
not_mapped f (Some x) h = let z : ◌≡◌ {A = ℕ} 0 1 = cc in absurd (omega arith)
not_mapped f None h = refl

-- where no line is out of order from line n on
pub in_order_from : (o : SortOptions) (first : ℕ) (xs : List Line) (n : ℕ) → disorder o first xs n ≡ None → (j : ℕ) → n ≤ j → j < first + length xs → before o (at_line first xs j) (at_line first xs (j - 1)) ≡ false
in_order_from o first xs n h j low high =
    let t = first + length xs in
    let p : ℕ → Bool = λ j. not (before o (at_line first xs j) (at_line first xs (j - 1))) in
    let w : t ≤ walk p n (t - n) = none_below t _ h in
    let y : p j ≡ true = walk_passes p (t - n) n (omega arith) j low (omega arith) in
    not-true _ y

-- a stretch shows the lines of F
pub shows : (F : List Line) (first : ℕ) (xs : List Line) → Stretch F first xs → (n : ℕ) → first ≤ n → n < first + length xs → at_line first xs n ≡ get_or (take (first + length xs) F) n None
shows F first xs s n low high =
    let e : first + (n - first) ≡ n = omega arith in
    ap (λ b. cond b None (get_or xs (n - first) None)) (le-ltb n first low)
    ∙ ap (λ ys. get_or ys (n - first) None) s.are
    ∙ get_or-take (length xs) (drop first F) (n - first) None (omega arith)
    ∙ get_or-drop first F (n - first) None
    ∙ ap (λ k. get_or F k None) e
    ∙ sym (get_or-take (first + length xs) F n None high)
