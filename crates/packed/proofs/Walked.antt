-- A walk that came to its end: the lines that the table shows are those of the bytes.
use Rattle.std.proofs.Common.{◌≡◌, ℕ, zero, suc, ◌+◌, ◌-◌, ◌<◌, ◌≤◌, Bool, true, false, cond, not, ◌&&◌, eqb, ltb, List, [], ◌∷◌, map, length, get_or, take, drop, Ok, Err, Option, Result, sym, refl, ap, ◌∙◌, arith, eqb-true}
use Rattle.std.proofs.lemmas.List.{drop-drop}
use Rattle.std.proofs.lemmas.Bool.{ltb-true}
use Rattle.packed.specs.declared.line.LineFault.{LineFault}
use Rattle.packed.specs.Fields.{Line, line_of}
use Rattle.packed.proofs.Tails.{line_tail}
use Rattle.frame.specs.declared.refusal.Refusal.{Refusal}
use Rattle.frame.specs.declared.refusal.Reason.TheVariants as reasons
use Rattle.packed.specs.Scans.{walk_of, by_line, refuse, reason_of}
use Rattle.packed.specs.Views.{first_lines, behind, at_place, keyed}
use Rattle.packed.proofs.Walks.{near, one_of, done}

same_entry : (c : Bool) (d : Refusal) (w : Result ℕ Refusal) (m : ℕ) → cond c (Err d) w ≡ Ok m → (c ≡ false) × (w ≡ Ok m)
same_entry true d w m e = let z : ◌≡◌ {A = ℕ} 0 1 = cc in absurd (omega arith)
same_entry false d w m e = (refl, e)

inverted : (b : Bool) (l : Result (Line × List ℕ) LineFault) (c : Bool) (d d' : Refusal) (g : LineFault → Refusal) (w : Line × List ℕ → Result ℕ Refusal) (m : ℕ)
    → cond b (by_line l (λ x. cond c (Err d) (w x)) (λ f. Err (g f))) (Err d') ≡ Ok m
    → (x : Line × List ℕ) × (Ok x ≡ l) × (c ≡ false) × (w x ≡ Ok m) × (b ≡ true)
inverted true (Ok x) c d d' g w m e = let p = same_entry c d (w x) m e in (x, refl, p.0, p.1, refl)
inverted true (Err f) c d d' g w m e = let z : ◌≡◌ {A = ℕ} 0 1 = cc in absurd (omega arith)
inverted false l c d d' g w m e = let z : ◌≡◌ {A = ℕ} 0 1 = cc in absurd (omega arith)

-- one line of it
pub step : (s : Bool) (e : ℕ) (es : List ℕ) (n at b : ℕ) (bs : List ℕ) (m : ℕ) → walk_of s (e ∷ es) n at (b ∷ bs) ≡ Ok m
    → (x : Line × List ℕ) × (Ok x ≡ line_of (b ∷ bs)) × ((s && not (eqb e at)) ≡ false) × (walk_of s es (n + 1) (at + (length (b ∷ bs) - length x.1)) x.1 ≡ Ok m) × (at < 4294967296)
step s e es n at b bs m w =
    let p = inverted (ltb at 4294967296) (line_of (b ∷ bs)) (s && not (eqb e at)) (refuse reasons.WrongPlaceEntry n) (refuse reasons.NoPlaceEntry at) (λ f. refuse (reason_of f) at) (λ x. walk_of s es (n + 1) (at + (length (b ∷ bs) - length x.1)) x.1) m w in
    (p.0, p.1, p.2, p.3, ltb-true at 4294967296 p.4)

-- a walk does not count down
pub grows : (s : Bool) (es : List ℕ) (n at : ℕ) (r : List ℕ) (m : ℕ) → walk_of s es n at r ≡ Ok m → n ≤ m
grows s [] n at [] m w = let z : n ≡ m = cc in omega arith
grows s (e ∷ es) n at [] m w = let z : n ≡ m = cc in omega arith
grows s [] n at (b ∷ bs) m w = let z : ◌≡◌ {A = ℕ} 0 1 = cc in absurd (omega arith)
grows s (e ∷ es) n at (b ∷ bs) m w =
    let p = step s e es n at b bs m w in
    let h : n + 1 ≤ m = grows s es (n + 1) _ p.0.1 m p.3 in omega arith

passes : (c : Bool) → not c ≡ false → c ≡ true
passes true h = refl
passes false h = sym h

-- an entry that passes is the line's place
entry_is : (e at : ℕ) → (true && not (eqb e at)) ≡ false → e ≡ at
entry_is e at h = eqb-true e at (passes (eqb e at) h)

lines_more : (k : ℕ) (r : List ℕ) (x : Line × List ℕ) → Ok x ≡ line_of r → first_lines (suc k) r ≡ x.0 ∷ first_lines k x.1
lines_more k r x e = rw (← e)

behind_more : (k : ℕ) (r : List ℕ) (x : Line × List ℕ) → Ok x ≡ line_of r → behind (suc k) r ≡ behind k x.1
behind_more k r x e = rw (← e)

-- nothing stands behind the last line
pub gone : (es : List ℕ) (n at : ℕ) (r : List ℕ) (c k : ℕ) → walk_of true es n at r ≡ Ok (n + c) → c ≤ k → behind k r ≡ []
gone [] n at [] c zero w h = refl
gone [] n at [] c (suc k) w h = refl
gone (e ∷ es) n at [] c zero w h = refl
gone (e ∷ es) n at [] c (suc k) w h = refl
gone [] n at (b ∷ bs) c k w h = let z : ◌≡◌ {A = ℕ} 0 1 = cc in absurd (omega arith)
gone (e ∷ es) n at (b ∷ bs) zero k w h =
    let p = step true e es n at b bs (n + 0) w in
    let g = grows true es (n + 1) _ p.0.1 (n + 0) p.3 in absurd (omega arith)
gone (e ∷ es) n at (b ∷ bs) (suc c) zero w h = absurd (omega arith)
gone (e ∷ es) n at (b ∷ bs) (suc c) (suc k) w h =
    let p = step true e es n at b bs (n + suc c) w in
    let q : n + suc c ≡ (n + 1) + c = omega arith in
    behind_more k (b ∷ bs) p.0 p.1 ∙ gone es (n + 1) _ p.0.1 c k (p.3 ∙ ap Ok q) (omega arith)

-- a walk reads no entry past the last line's
pub cut : (s : Bool) (es : List ℕ) (n at : ℕ) (r : List ℕ) (k : ℕ) → walk_of s es n at r ≡ Ok (n + k) → (k ≤ length es) × (walk_of s (take k es) n at r ≡ Ok (n + k))
cut s [] n at [] k w = let z : n ≡ n + k = cc in (omega arith, done s (take k []) n at [] refl ∙ ap Ok z)
cut s (e ∷ es) n at [] k w = let z : n ≡ n + k = cc in (omega arith, done s (take k (e ∷ es)) n at [] refl ∙ ap Ok z)
cut s [] n at (b ∷ bs) k w = let z : ◌≡◌ {A = ℕ} 0 1 = cc in absurd (omega arith)
cut s (e ∷ es) n at (b ∷ bs) zero w =
    let p = step s e es n at b bs (n + 0) w in
    let g = grows s es (n + 1) _ p.0.1 (n + 0) p.3 in absurd (omega arith)
cut s (e ∷ es) n at (b ∷ bs) (suc k) w =
    let p = step s e es n at b bs (n + suc k) w in
    let q : n + suc k ≡ (n + 1) + k = omega arith in
    let more = cut s es (n + 1) _ p.0.1 k (p.3 ∙ ap Ok q) in
    let some : 0 < length (b ∷ bs) = omega arith in
    (omega (arith, more.0), near s e (take k es) n at (b ∷ bs) some p.4 ∙ ap (one_of s e (take k es) n at (b ∷ bs)) (sym p.1) ∙ rw p.2 more.1 ∙ ap Ok (sym q))

keyed_at : {K : Type 0} (reads : Line → Option K) (bs : List ℕ) (p : ℕ) (x : Line × List ℕ) → Ok x ≡ line_of (drop p bs) → keyed reads (at_place bs p) ≡ reads x.0
keyed_at reads bs p x e = rw (← e)

-- all is the whole of the bytes, of which r are those from a place on
pub lines_at : {K : Type 0} (reads : Line → Option K) (all es : List ℕ) (n at : ℕ) (r : List ℕ) → r ≡ drop at all → walk_of true es n at r ≡ Ok (n + length es) → map (λ p. keyed reads (at_place all p)) es ≡ map reads (first_lines (length es) r)
lines_at reads all [] n at r d w = refl
lines_at reads all (e ∷ es) n at [] d w = let z : n ≡ n + suc (length es) = cc in absurd (omega arith)
lines_at {K} reads all (e ∷ es) n at (b ∷ bs) d w =
    let p = step true e es n at b bs (n + suc (length es)) w in
    let x = p.0 in
    let m = length (b ∷ bs) - length x.1 in
    let q : n + suc (length es) ≡ (n + 1) + length es = omega arith in
    let here : keyed reads (at_place all e) ≡ reads x.0 = keyed_at reads all e x (p.1 ∙ ap line_of d ∙ ap (λ (z : ℕ). line_of (drop z all)) (sym (entry_is _ _ p.2))) in
    let tail : x.1 ≡ drop (at + m) all = (line_tail (b ∷ bs) x p.1).1 ∙ ap (drop m) d ∙ drop-drop m at all ∙ ap (λ (z : ℕ). drop z all) (omega arith) in
    let more : map (λ z. keyed reads (at_place all z)) es ≡ map reads (first_lines (length es) x.1) = lines_at reads all es (n + 1) (at + m) x.1 tail (p.3 ∙ ap Ok q) in
    ap (λ (o : Option K). o ∷ map (λ z. keyed reads (at_place all z)) es) here ∙ ap (λ (os : List (Option K)). reads x.0 ∷ os) more ∙ ap (map reads) (sym (lines_more (length es) (b ∷ bs) x p.1))

-- the bytes past i lines begin where entry i of the table says
pub behind_at : (all es : List ℕ) (n at : ℕ) (r : List ℕ) (k i : ℕ) → r ≡ drop at all → walk_of true es n at r ≡ Ok (n + k) → i < k → (i < length es) × (behind i r ≡ drop (get_or es i 0) all) × (get_or es i 0 ≤ at + length r)
behind_at all es n at r zero i d w h = absurd (omega arith)
behind_at all [] n at [] (suc k) i d w h = let z : n ≡ n + suc k = cc in absurd (omega arith)
behind_at all (e ∷ es) n at [] (suc k) i d w h = let z : n ≡ n + suc k = cc in absurd (omega arith)
behind_at all [] n at (b ∷ bs) (suc k) i d w h = let z : ◌≡◌ {A = ℕ} 0 1 = cc in absurd (omega arith)
behind_at all (e ∷ es) n at (b ∷ bs) (suc k) zero d w h =
    let p = step true e es n at b bs (n + suc k) w in
    (omega arith, d ∙ ap (λ (z : ℕ). drop z all) (sym (entry_is _ _ p.2)), omega (arith, entry_is _ _ p.2))
behind_at all (e ∷ es) n at (b ∷ bs) (suc k) (suc i) d w h =
    let p = step true e es n at b bs (n + suc k) w in
    let x = p.0 in
    let m = length (b ∷ bs) - length x.1 in
    let q : n + suc k ≡ (n + 1) + k = omega arith in
    let t = line_tail (b ∷ bs) x p.1 in
    let tail : x.1 ≡ drop (at + m) all = t.1 ∙ ap (drop m) d ∙ drop-drop m at all ∙ ap (λ (z : ℕ). drop z all) (omega arith) in
    let more = behind_at all es (n + 1) (at + m) x.1 k i tail (p.3 ∙ ap Ok q) (omega arith) in
    (omega (arith, more.0), behind_more i (b ∷ bs) x p.1 ∙ more.1, omega (arith, more.2, t.0))
