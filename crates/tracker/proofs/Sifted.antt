-- What holds of a tracker goes on to hold after a filing.
use Rattle.std.proofs.Common.{◌≡◌, ℕ, ◌<◌, ◌≤◌, true, false, cond, ltb, List, [], ◌∷◌, length, get_or, take, drop, sym, refl, ap, ◌∙◌, subst, ⊎_elim, arith}
use Rattle.std.specs.List.{AllByRecursion}
use Rattle.std.proofs.lemmas.Bool.{cases_Bool, lt-ltb, ltb-true}
use Rattle.std.proofs.ByRecursion.{All-get_or, All-from_get_or, all_kept_by}
use Rattle.std.proofs.lemmas.List.{get_or_append_left, get_or-take, length-append, length-take-le}
use Rattle.frame.specs.declared.bound.WindowFrameUnits.{WindowFrameUnits}
use Rattle.frame.specs.declared.bound.WindowFrameUnits.TheVariants.{Rows, Range, Groups}
use Rattle.frame.specs.Frames.{framed}
use Rattle.sitting.specs.Tables.{above, in_front}
use Rattle.sitting.specs.State.{limit}
use Rattle.sitting.specs.Rules.{staying}
use Rattle.tracker.specs.declared.standing.Standing.{Standing}
use Rattle.tracker.specs.States.{grant_of}
use Rattle.tracker.specs.Walks.{Rise}
use Rattle.tracker.proofs.Rising.{rise_above}
use Rattle.tracker.proofs.Keeping.{Sound, rise_from, rise_strict}

-- of numbers that rise past n all lie above n
all_above : (n q : ℕ) (es : List ℕ) → n < q → Rise q es → above n es ≡ es
all_above n q [] h r = refl
all_above n q (x ∷ es) h r =
    let y : ltb n x ≡ true = lt-ltb n x (omega (arith, r.0)) in
    ap (λ b. cond b (x ∷ above n es) (above n es)) y ∙ ap (λ ys. x ∷ ys) (all_above n x es (omega (arith, r.0)) r.1)

-- those above n rise past n
above_rises : (n e : ℕ) (es : List ℕ) → Rise e es → Rise n (above n es)
above_rises n e [] r = tt
above_rises n e (q ∷ es) r =
    ⊎_elim
    (λ (y : ltb n q ≡ true).
    let l = ltb-true n q y in
    let P : List ℕ → Type 0 = λ ys. Rise n ys in
    let is : above n (q ∷ es) ≡ q ∷ es = ap (λ b. cond b (q ∷ above n es) (above n es)) y ∙ ap (λ ys. q ∷ ys) (all_above n q es l r.1) in
    subst P (sym is) (l, r.1))
    (λ (z : ltb n q ≡ false).
    let P : List ℕ → Type 0 = λ ys. Rise n ys in
    let is : above n (q ∷ es) ≡ above n es = ap (λ b. cond b (q ∷ above n es) (above n es)) z in
    subst P (sym is) (above_rises n q es r.1))
    (cases_Bool (ltb n q))

module _ (s : Standing) (table : List ℕ) (k : Sound s table) where
  in_use_rise : Rise s.filed (take s.live table)
  in_use_rise =
      let n : length (take s.live table) ≡ s.live = length-take-le s.live table k.room in
      rise_from s.filed (take s.live table)
      (λ i l. omega (arith, get_or-take s.live table i 0 (omega arith), k.past i (omega arith)))
      (λ i j l m. omega (arith, get_or-take s.live table i 0 (omega arith), get_or-take s.live table j 0 (omega arith), k.rising i j l (omega arith)))

  in_use_within : AllByRecursion (λ e. e ≤ s.last.total) (take s.live table)
  in_use_within =
      let n : length (take s.live table) ≡ s.live = length-take-le s.live table k.room in
      All-from_get_or (λ e. e ≤ s.last.total) (take s.live table) 0 (λ i l. omega (arith, get_or-take s.live table i 0 (omega arith), k.within i (omega arith)))

  -- the entries that stay
  stay_rise : (u : WindowFrameUnits) (n : ℕ) → Rise n (staying u n (take s.live table))
  stay_rise Rows n = tt
  stay_rise Range n = tt
  stay_rise Groups n = above_rises n s.filed (take s.live table) in_use_rise

  stay_within : (u : WindowFrameUnits) (n : ℕ) → AllByRecursion (λ e. e ≤ s.last.total) (staying u n (take s.live table))
  stay_within Rows n = tt
  stay_within Range n = tt
  stay_within Groups n = all_kept_by (λ e. ltb n e) (λ e. e ≤ s.last.total) (take s.live table) in_use_within

  pub filed_sound : (n live : ℕ) (new : List ℕ) → n ≤ limit (grant_of s.last) → live ≡ length (staying (framed s.frame).units n (take s.live table)) → new ≡ in_front (staying (framed s.frame).units n (take s.live table)) table → Sound (record { frame = s.frame; options = s.options; last = s.last; filed = n; live = live; at = 0 }) new
  filed_sound n live new h is now_is =
      let u = (framed s.frame).units in
      let es = staying u n (take s.live table) in
      let get : (i : ℕ) → i < length es → get_or new i 0 ≡ get_or es i 0 = λ i l. ap (λ ys. get_or ys i 0) now_is ∙ get_or_append_left es (drop (length es) table) 0 i l in
      record {
        kept = (omega arith, omega arith, omega arith);
        shown = k.shown;
        rowed = k.rowed;
        room = omega (arith, ap length now_is, length-append es (drop (length es) table));
        past = λ i l. omega (arith, get i (omega arith), rise_above n 0 es i (stay_rise u n) (omega arith));
        within = λ i l. omega (arith, get i (omega arith), All-get_or (λ e. e ≤ s.last.total) es i 0 (omega arith) (stay_within u n));
        rising = λ i j l m. omega (arith, get i (omega arith), get j (omega arith), rise_strict n es i j (stay_rise u n) l (omega arith));
        passed = λ i l. absurd (omega arith);
        behind = omega arith;
      }
