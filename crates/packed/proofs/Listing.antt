-- A scan and the relation between bytes and lists of lines agree.
use Rattle.std.proofs.Common.{◌≡◌, ℕ, zero, suc, ◌+◌, ◌-◌, ◌^◌, ◌<◌, ◌≤◌, Bool, true, false, cond, leb, List, [], ◌∷◌, ◌++◌, length, get_or, take, drop, is_ok, Ok, Err, Result, sym, refl, ap, ◌∙◌, subst, arith, length-append}
use Rattle.std.proofs.Math.Seq.{take-append_seam}
use Rattle.std.proofs.lemmas.Bool.{leb-true, le-leb}
use Rattle.std.specs.List.{AllByRecursion}
use Rattle.frame.specs.declared.refusal.Refusal.{Refusal}
use Rattle.transcript.specs.Lines.{too_many}
use Rattle.packed.specs.declared.line.LineFault.{LineFault}
use Rattle.packed.specs.Fields.{Line}
use Rattle.packed.specs.Scans.{by_line, walk_of, limited, scan_of, filled}
use Rattle.packed.specs.Views.{first_lines}
use Rattle.packed.specs.Spells.{LineBytes, LinesAt, none, line, Room, Listed, Scanned}
use Rattle.packed.proofs.Spelled.{line_read, line_from}
use Rattle.packed.proofs.Walks.{one_of, near}
use Rattle.packed.proofs.Walked.{step, grows}

-- every element is a byte
abbrev pub Bytes : List ℕ → Type 0
Bytes bs = (i : ℕ) → get_or bs i 0 < 256

bytes_rest : (l r bs : List ℕ) → bs ≡ l ++ r → Bytes bs → Bytes r
bytes_rest [] r bs e h = subst Bytes e h
bytes_rest (b ∷ l) r bs e h =
    let all : Bytes (b ∷ (l ++ r)) = subst Bytes e h in
    bytes_rest l r (l ++ r) refl (λ i. all (suc i))

line_some : (x : Line) (bs : List ℕ) → LineBytes x bs → 0 < length bs
line_some x bs l = omega (arith, ap length l.whole)

as_many : {p : ℕ} {bs : List ℕ} {xs : List Line} {ps : List ℕ} → LinesAt p bs xs ps → length xs ≡ length ps
as_many none = refl
as_many (line x bs rest l d) = ap suc (as_many d)

none_more : (k : ℕ) → first_lines k [] ≡ []
none_more zero = refl
none_more (suc k) = refl

-- the lines are those that are read one after the other
lines_same : {p : ℕ} {bs : List ℕ} {xs : List Line} {ps : List ℕ} (k : ℕ) → LinesAt p bs xs ps → length xs ≤ k → first_lines k bs ≡ xs
lines_same k none h = none_more k
lines_same zero (line x bs rest l d) h = absurd (omega arith)
lines_same (suc k) (line x bs rest {xs = xs} l d) h =
    ap (λ (r : Result (Line × List ℕ) LineFault). by_line r (λ (y : Line × List ℕ). y.0 ∷ first_lines k y.1) (λ (f : LineFault). [])) (line_read x bs rest l)
    ∙ ap (λ (ys : List Line). x ∷ ys) (lines_same k d (omega arith))

-- how long a line is, by what is left
long : (bs rest : List ℕ) → length (bs ++ rest) - length rest ≡ length bs
long bs rest = omega (arith, length-append bs rest)

-- the table after a scan has the places in front
fill_lines : {p : ℕ} {bs : List ℕ} {xs : List Line} {ps : List ℕ} (es : List ℕ) → LinesAt p bs xs ps → length ps ≤ length es → filled es p bs ≡ ps ++ drop (length ps) es
fill_lines [] none h = refl
fill_lines (e ∷ es) none h = refl
fill_lines [] (line x bs rest l d) h = absurd (omega arith)
fill_lines {p = p} (e ∷ es) (line x bs rest {ps = ps} l d) h =
    ap (λ (r : Result (Line × List ℕ) LineFault). by_line r (λ (y : Line × List ℕ). p ∷ filled es (p + (length (bs ++ rest) - length y.1)) y.1) (λ (f : LineFault). e ∷ es)) (line_read x bs rest l)
    ∙ ap (λ (n : ℕ). p ∷ filled es (p + n) rest) (long bs rest)
    ∙ ap (λ (zs : List ℕ). p ∷ zs) (fill_lines {p = p + length bs} es d (omega arith))

-- lines for which the table has room are counted
walk_lines : {p : ℕ} {bs : List ℕ} {xs : List Line} {ps : List ℕ} (es : List ℕ) (n : ℕ) → LinesAt p bs xs ps → length ps ≤ length es → AllByRecursion (λ q. q < 2 ^ 32) ps → walk_of false es n p bs ≡ Ok (n + length ps)
walk_lines [] n none h fit = ap Ok (omega arith)
walk_lines (e ∷ es) n none h fit = ap Ok (omega arith)
walk_lines [] n (line x bs rest l d) h fit = absurd (omega arith)
walk_lines {p = p} (e ∷ es) n (line x bs rest {ps = ps} l d) h fit =
    let some : 0 < length (bs ++ rest) = omega (arith, length-append bs rest, line_some x bs l) in
    let low : p < 4294967296 = omega (arith, fit.0) in
    near false e es n p (bs ++ rest) some low
    ∙ ap (one_of false e es n p (bs ++ rest)) (line_read x bs rest l)
    ∙ ap (λ (k : ℕ). walk_of false es (n + 1) (p + k) rest) (long bs rest)
    ∙ walk_lines {p = p + length bs} es (n + 1) d (omega arith) fit.1
    ∙ ap Ok (omega arith)

-- what a walk that came to its end has found
Found : List ℕ → ℕ → List ℕ → ℕ → Type 0
Found es at bs k = (xs : List Line) × (ps : List ℕ) × LinesAt at bs xs ps × (length ps ≡ k) × (length ps ≤ length es) × AllByRecursion (λ q. q < 2 ^ 32) ps

found : (es : List ℕ) (n at : ℕ) (bs : List ℕ) (k : ℕ) → Bytes bs → walk_of false es n at bs ≡ Ok (n + k) → Found es at bs k
unfolding Found
found [] n at [] k h w = let z : n ≡ n + k = cc in ([], [], none, omega arith, omega arith, tt)
found (e ∷ es) n at [] k h w = let z : n ≡ n + k = cc in ([], [], none, omega arith, omega arith, tt)
found [] n at (b ∷ bs) k h w = let z : ◌≡◌ {A = ℕ} 0 1 = cc in absurd (omega arith)
found (e ∷ es) n at (b ∷ bs) zero h w =
    let p = step false e es n at b bs (n + 0) w in
    let g = grows false es (n + 1) _ p.0.1 (n + 0) p.3 in absurd (omega arith)
found (e ∷ es) n at (b ∷ bs) (suc k) h w =
    let p = step false e es n at b bs (n + suc k) w in
    let x = p.0 in
    let l = line_from (b ∷ bs) x (h 0) p.1 in
    let size : length (b ∷ bs) - length x.1 ≡ length l.0 = ap (λ (z : List ℕ). length z - length x.1) l.2 ∙ long l.0 x.1 in
    let w' : walk_of false es (n + 1) (at + length l.0) x.1 ≡ Ok (n + 1 + k) = ap (λ (m : ℕ). walk_of false es (n + 1) (at + m) x.1) (sym size) ∙ p.3 ∙ ap Ok (omega arith) in
    let f = found es (n + 1) (at + length l.0) x.1 k (bytes_rest l.0 x.1 (b ∷ bs) l.2 h) w' in (
      x.0 ∷ f.0,
      at ∷ f.1,
      subst (λ (z : List ℕ). LinesAt at z (x.0 ∷ f.0) (at ∷ f.1)) (sym l.2) (line x.0 l.0 x.1 l.1 f.2),
      omega (arith, f.3),
      omega (arith, f.4),
      (omega (arith, p.4), f.5),
    )

kept : (t : Bool) (n k m : ℕ) → leb (n + k) 4294967295 ≡ t → ◌≡◌ {A = Result ℕ Refusal} (cond t (Ok k) (Err too_many)) (Ok m) → (k ≡ m) × (n + m ≤ 4294967295)
kept true n k m e q = let z : k ≡ m = cc in (z, omega (arith, leb-true (n + k) 4294967295 e))
kept false n k m e q = let z : ◌≡◌ {A = ℕ} 0 1 = cc in absurd (omega arith)

few_enough : (n : ℕ) (w : Result ℕ Refusal) (m : ℕ) → limited n w ≡ Ok m → (w ≡ Ok m) × (n + m ≤ 4294967295)
few_enough n (Err e) m h = let z : ◌≡◌ {A = ℕ} 0 1 = cc in absurd (omega arith)
few_enough n (Ok k) m h = let q = kept (leb (n + k) 4294967295) n k m refl h in (ap Ok q.0, q.1)

same_front : (ps qs zs ys : List ℕ) → length ps ≡ length qs → ps ++ zs ≡ qs ++ ys → ps ≡ qs
same_front ps qs zs ys l e = sym (take-append_seam ps zs) ∙ ap (take (length ps)) e ∙ ap (λ (n : ℕ). take n (qs ++ ys)) l ∙ take-append_seam qs ys

pub listed : (bs es : List ℕ) (n : ℕ) → Bytes bs → scan_of es bs ≡ Ok n → Listed bs es (filled es 0 bs) n
unfolding Found
listed bs es n h w =
    let c = few_enough 0 (walk_of false es 0 0 bs) n w in
    let f = found es 0 0 bs n h (c.0 ∙ ap Ok (omega arith)) in
    let t = fill_lines es f.2 f.4 in
    record {
      lines = f.0;
      places = f.1;
      spells = f.2;
      count = f.3;
      room = record { entries = f.4; fit = f.5; few = omega (arith, f.3, c.1) };
      written = t ∙ ap (λ (k : ℕ). f.1 ++ drop k es) f.3;
      only = λ xs ps d.
          let k : ℕ = length xs + length f.0 in
          let same : xs ≡ f.0 = sym (lines_same k d (omega arith)) ∙ lines_same k f.2 (omega arith) in
          let sizes : length ps ≡ length f.1 = sym (as_many d) ∙ ap length same ∙ as_many f.2 in
          (same, same_front ps f.1 _ _ sizes (sym (fill_lines es d (omega (arith, sizes, f.4))) ∙ t));
    }

pub not_listed : (bs es : List ℕ) (e : Refusal) → scan_of es bs ≡ Err e → (xs : List Line) (ps : List ℕ) → LinesAt 0 bs xs ps → Room es ps → ⊥
not_listed bs es e w xs ps d r =
    let z : length ps ≡ 0 + length ps = omega arith in
    let k : leb (0 + (0 + length ps)) 4294967295 ≡ true = le-leb _ _ (omega (arith, r.few)) in
    let ok : scan_of es bs ≡ Ok (0 + length ps) = ap (limited 0) (walk_lines es 0 d r.entries r.fit) ∙ ap (λ (t : Bool). cond t (Ok (0 + length ps)) (Err too_many)) k in
    let q : Err e ≡ Ok (0 + length ps) = sym w ∙ ok in
    let c : ◌≡◌ {A = ℕ} 0 1 = cc in omega arith

pub scanned : (bs es after : List ℕ) (r : Result ℕ Refusal) → Bytes bs → r ≡ scan_of es bs → after ≡ cond (is_ok r) (filled es 0 bs) es → Scanned bs es after r
scanned bs es after (Ok n) h w t = subst (λ (z : List ℕ). Listed bs es z n) (sym t) (listed bs es n h (sym w))
scanned bs es after (Err e) h w t = (t, not_listed bs es e (sym w))
