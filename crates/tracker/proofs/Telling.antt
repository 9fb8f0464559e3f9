-- The entry of a line's turn, told from a walk.
use Rattle.std.proofs.Common.{◌≡◌, ℕ, suc, ◌+◌, ◌-◌, ◌<◌, ◌≤◌, min, max, true, false, cond, ltb, leb, List, [], ◌∷◌, ◌++◌, length, get_or, take, sym, refl, ap, ◌∙◌, subst, ⊎_elim, arith}
use Rattle.std.proofs.lemmas.Bool.{cases_lt, lt-ltb, le-ltb}
use Rattle.std.proofs.lemmas.List.Sums.{sum_by-append}
use Rattle.std.proofs.lemmas.List.{length-take-le, length-append}
use Rattle.frame.specs.declared.bound.WindowFrameBound.{WindowFrameBound}
use Rattle.frame.specs.declared.bound.WindowFrameBound.TheVariants.{UnboundedPreceding, Preceding, CurrentRow, Following, UnboundedFollowing}
use Rattle.meaning.specs.Turns.{last_held}
use Rattle.tracker.specs.Walks.{walked, Rise}
use Rattle.tracker.specs.Ends.{entry_of, reach_by, far, needed}
use Rattle.tracker.proofs.Rising.{counted_in, counted_out, none_below, amount, walked_counts}

-- the entry of a line's turn, told from a walk over the ends past the last line held: by where the walk stands if it has passed the table's entries, else among those
abbrev pub told : ℕ → List ℕ → ℕ → ℕ
told line es k = cond (ltb (length es) k) (k - 1) (entry_of (take (length es - 1) es) line)

abbrev ToldEntry : Type 0
ToldEntry = (line first : ℕ) (es qs : List ℕ) → first ≤ line → Rise first es → Rise (last_held first es) qs → entry_of qs line < length qs → told line es (walked line (length es) qs (length es - 1) (last_held first es)).0 ≡ entry_of (take (length es - 1) es ++ qs) line

-- numbers that rise are below the last of them
pub rise_last : (e d : ℕ) (es : List ℕ) → Rise e es → 0 < length es → e < get_or es (length es - 1) d
rise_last e d [] r h = absurd (omega arith)
rise_last e d (q ∷ []) r h = r.0
rise_last e d (q ∷ q2 ∷ es) r h =
    let n : length (q ∷ q2 ∷ es) - 1 ≡ suc (length (q2 ∷ es) - 1) = omega arith in
    let i = rise_last q d (q2 ∷ es) r.1 (omega arith) in
    let P : ℕ → Type 0 = λ k. e < get_or (q ∷ q2 ∷ es) k d in
    subst P (sym n) (omega (arith, r.0, i))

-- where the last is at most one past the line, all before it are at or below the line
all_below : (line e d : ℕ) (es : List ℕ) → Rise e es → get_or es (length es - 1) d ≤ line + 1 → entry_of (take (length es - 1) es) line ≡ length es - 1
all_below line e d [] r h = refl
all_below line e d (q ∷ []) r h = refl
all_below line e d (q ∷ q2 ∷ es) r h =
    let n : length (q ∷ q2 ∷ es) - 1 ≡ suc (length (q2 ∷ es) - 1) = omega arith in
    let Q : ℕ → Type 0 = λ k. get_or (q ∷ q2 ∷ es) k d ≤ line + 1 in
    let h2 : get_or (q2 ∷ es) (length (q2 ∷ es) - 1) d ≤ line + 1 = subst Q n h in
    let l = rise_last q d (q2 ∷ es) r.1 (omega arith) in
    let i = all_below line q d (q2 ∷ es) r.1 h2 in
    let c = counted_in line q (take (length (q2 ∷ es) - 1) (q2 ∷ es)) (omega arith) in
    ap (λ k. entry_of (take k (q ∷ q2 ∷ es)) line) n ∙ c ∙ omega (arith, i, n)

pub both : (line : ℕ) (xs ys : List ℕ) → entry_of (xs ++ ys) line ≡ entry_of xs line + entry_of ys line
both line xs ys = sum_by-append (λ x. cond (leb x line) 1 0) xs ys

pub told_past : (line : ℕ) (es : List ℕ) (k : ℕ) → length es < k → told line es k ≡ k - 1
told_past line es k h = let y : ltb (length es) k ≡ true = lt-ltb _ _ h in rw y refl

pub told_held : (line : ℕ) (es : List ℕ) (k : ℕ) → k ≤ length es → told line es k ≡ entry_of (take (length es - 1) es) line
told_held line es k h = let y : ltb (length es) k ≡ false = le-ltb _ _ h in rw y refl

pub none_held : (first : ℕ) (es : List ℕ) → length es ≡ 0 → last_held first es ≡ first
none_held first [] h = omega arith
none_held first (e ∷ es) h = absurd (omega arith)

module _ (line first : ℕ) (es qs : List ℕ) (low : first ≤ line) (r : Rise first es) (s : Rise (last_held first es) qs) (few : entry_of qs line < length qs) where
  m : ℕ
  m = amount line (length es) (length es - 1) (last_held first es) qs

  entry_told : told line es (length es - 1 + m) ≡ entry_of (take (length es - 1) es) line + entry_of qs line
  unfolding m
  entry_told =
      let p = last_held first es in
      let j = length es - 1 in
      let c = entry_of qs line in
      ⊎_elim
      (λ (v : line < p).
      let b = none_below line p qs v s in
      let o = counted_out line p qs v in
      ⊎_elim
      (λ (some : 0 < length es). told_held line es (j + m) (omega arith) ∙ omega arith)
      (λ (none : length es ≤ 0). absurd (omega (arith, none_held first es (omega arith))))
      (cases_lt 0 (length es)))
      (λ (u : p ≤ line).
      let i = counted_in line p qs u in
      let f = all_below line first (first + 1) es r (omega arith) in
      ⊎_elim
      (λ (past : length es < j + m). told_past line es (j + m) past ∙ omega arith)
      (λ (held : j + m ≤ length es). told_held line es (j + m) held ∙ omega arith)
      (cases_lt (length es) (j + m)))
      (cases_lt line p)

pub told_entry : ToldEntry
unfolding m
told_entry line first es qs low r s few =
    let j = length es - 1 in
    let p = last_held first es in
    ap (λ t. told line es t.0) (walked_counts line (length es) j p qs s)
    ∙ entry_told line first es qs low r s few
    ∙ sym (both line (take j es) qs)

-- a walk that is asked for the line's entry at least finds as many as it is asked for, or all
pub asked : (line first : ℕ) (es qs : List ℕ) → first ≤ line → Rise first es → Rise (last_held first es) qs → (want : ℕ) → length es ≤ want → entry_of (take (length es - 1) es ++ qs) line < want → (walked line want qs (length es - 1) (last_held first es)).0 ≡ min (length (take (length es - 1) es ++ qs)) want
asked line first es qs low r s want h l =
    let p = last_held first es in
    let j = length es - 1 in
    let n : length (take j es) ≡ j = length-take-le j es (omega arith) in
    let all = length-append (take j es) qs in
    let sum = both line (take j es) qs in
    ap (λ t. t.0) (walked_counts line want j p qs s)
    ∙ ⊎_elim
    (λ (v : line < p). let b = none_below line p qs v s in omega arith)
    (λ (u : p ≤ line).
    let i = counted_in line p qs u in
    let f = all_below line first (first + 1) es r (omega arith) in
    omega arith)
    (cases_lt line p)

-- what a bound reaches, as far as there are entries
pub reach_far : (b : WindowFrameBound) (es : List ℕ) (g : ℕ) → g < length es → reach_by b es g + 1 ≡ min (length es) (far b g)
reach_far UnboundedPreceding es g h = omega arith
reach_far (Preceding n) es g h = omega arith
reach_far CurrentRow es g h = omega arith
reach_far (Following n) es g h = omega arith
reach_far UnboundedFollowing es g h = omega arith

pub far_past : (b : WindowFrameBound) (g : ℕ) → g < far b g
far_past UnboundedPreceding g = omega arith
far_past (Preceding n) g = omega arith
far_past CurrentRow g = omega arith
far_past (Following n) g = omega arith
far_past UnboundedFollowing g = omega arith

min_max : (l x y : ℕ) → min l (max x y) ≡ max (min l x) (min l y)
min_max l x y = omega arith

capped : (l x most : ℕ) → l ≤ most → min l (min x most) ≡ min l x
capped l x most h = omega arith

one_behind : (live a b : ℕ) → max (max live (a + 1)) (b + 1) ≡ max live (max a b + 1)
one_behind live a b = omega arith

pub is_needed : (b e : WindowFrameBound) (es : List ℕ) (live g most : ℕ) → g < length es → live ≤ length es → length es ≤ most → min (length es) (max (max live (min (far b g) most)) (min (far e g) most)) ≡ needed b e es live g
is_needed b e es live g most h l k =
    let n = length es in
    let all : min n live ≡ live = omega arith in
    let left : min n (min (far b g) most) ≡ reach_by b es g + 1 = capped n (far b g) most k ∙ sym (reach_far b es g h) in
    let right : min n (min (far e g) most) ≡ reach_by e es g + 1 = capped n (far e g) most k ∙ sym (reach_far e es g h) in
    min_max n (max live (min (far b g) most)) (min (far e g) most)
    ∙ ap (λ x. max x (min n (min (far e g) most))) (min_max n live (min (far b g) most))
    ∙ ap (λ x. max (max x (min n (min (far b g) most))) (min n (min (far e g) most))) all
    ∙ ap (λ x. max (max live x) (min n (min (far e g) most))) left
    ∙ ap (λ x. max (max live (reach_by b es g + 1)) x) right
    ∙ one_behind live (reach_by b es g) (reach_by e es g)

pub wants : (b e : WindowFrameBound) (live g most : ℕ) → g < most → g < max (max live (min (far b g) most)) (min (far e g) most)
wants b e live g most h = omega (arith, far_past b g)

pub at_most : (line : ℕ) (es : List ℕ) → entry_of es line ≤ length es
at_most line [] = omega arith
at_most line (e ∷ es) =
    let i = at_most line es in
    ⊎_elim
    (λ (v : line < e). omega (arith, counted_out line e es v))
    (λ (u : e ≤ line). omega (arith, counted_in line e es u))
    (cases_lt line e)
