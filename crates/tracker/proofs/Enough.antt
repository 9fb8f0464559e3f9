-- The entries that a question needs are enough.
use Rattle.std.proofs.Common.{◌≡◌, ℕ, zero, suc, ◌+◌, ◌-◌, ◌<◌, ◌≤◌, cond, ltb, List, length, take, refl, ap, ⊎_elim, arith}
use Rattle.std.proofs.lemmas.Bool.{cases_lt}
use Rattle.std.proofs.lemmas.List.{get_or-take, take_all}
use Rattle.frame.specs.declared.bound.WindowFrameBound.{WindowFrameBound}
use Rattle.frame.specs.declared.bound.WindowFrameBound.TheVariants.{UnboundedPreceding, Preceding, CurrentRow, Following, UnboundedFollowing}
use Rattle.tracker.specs.Ends.{begins, start_by, end_by, far, needed, Enough}
use Rattle.tracker.proofs.Telling.{reach_far}

module _ (first total : ℕ) (es : List ℕ) (n : ℕ) where
  begins_take : (k : ℕ) → k ≤ n → begins first total (take n es) k ≡ begins first total es k
  begins_take zero h = refl
  begins_take (suc k) h = get_or-take n es k total (omega arith)

  starts_take : (b : WindowFrameBound) (g : ℕ) → far b g ≤ n → start_by b first total (take n es) g ≡ start_by b first total es g
  starts_take UnboundedPreceding g h = refl
  starts_take (Preceding m) g h = begins_take (g - m) (omega arith)
  starts_take CurrentRow g h = begins_take g (omega arith)
  starts_take (Following m) g h = begins_take (g + m) (omega arith)
  starts_take UnboundedFollowing g h = refl

  ends_take : (b : WindowFrameBound) (g : ℕ) → far b g ≤ n → end_by b first total (take n es) g ≡ end_by b first total es g
  ends_take UnboundedPreceding g h = refl
  ends_take (Preceding m) g h = ap (cond (ltb g m) first) (get_or-take n es (g - m) total (omega arith))
  ends_take CurrentRow g h = get_or-take n es g total (omega arith)
  ends_take (Following m) g h = get_or-take n es (g + m) total (omega arith)
  ends_take UnboundedFollowing g h = refl

most : (b e : WindowFrameBound) (es : List ℕ) (live g : ℕ) → g < length es → live ≤ length es → needed b e es live g ≤ length es
most b e es live g h l = omega (arith, reach_far b es g h, reach_far e es g h)

far_left : (b e : WindowFrameBound) (es : List ℕ) (live g : ℕ) → g < length es → needed b e es live g < length es → far b g ≤ needed b e es live g
far_left b e es live g h l = omega (arith, reach_far b es g h)

far_right : (b e : WindowFrameBound) (es : List ℕ) (live g : ℕ) → g < length es → needed b e es live g < length es → far e g ≤ needed b e es live g
far_right b e es live g h l = omega (arith, reach_far e es g h)

pub enough : Enough
enough b e first total es live g h l =
    let n = needed b e es live g in
    let within = most b e es live g h l in
    ⊎_elim
    (λ (v : n < length es). (within, starts_take first total es n b g (far_left b e es live g h v), ends_take first total es n e g (far_right b e es live g h v)))
    (λ (w : length es ≤ n). let t = take_all n es w in (within, ap (λ ys. start_by b first total ys g) t, ap (λ ys. end_by e first total ys g) t))
    (cases_lt n (length es))
