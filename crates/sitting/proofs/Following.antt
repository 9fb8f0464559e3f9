-- A granted question over a stretch, and a filing, keep what a tracker holds of a finished transcript.
use Rattle.std.proofs.Common.{◌≡◌, ℕ, ◌+◌, ◌-◌, ◌<◌, ◌≤◌, max, List, [], length, get_or, take, drop, None, sym, refl, ap, ◌∙◌, subst, ⊎_elim, arith}
use Rattle.std.proofs.lemmas.Bool.{cases_lt}
use Rattle.std.proofs.lemmas.List.{get_or-take, length-append, length-take-le, take_at, take-take}
use Rattle.frame.specs.declared.bound.WindowFrameBound.{WindowFrameBound}
use Rattle.frame.specs.declared.bound.WindowFrameUnits.{WindowFrameUnits}
use Rattle.frame.specs.declared.bound.WindowFrameUnits.TheVariants.{Rows, Range, Groups}
use Rattle.meaning.specs.declared.options.SortOptions.{SortOptions}
use Rattle.meaning.specs.Lines.{Line}
use Rattle.meaning.specs.Ranges.{before, InOrder}
use Rattle.meaning.specs.Clause.{same_line, starts, ends, window, Fit}
use Rattle.meaning.proofs.Clause.{clause_monotone}
use Rattle.meaning.proofs.Table.{table_filed}
use Rattle.transcript.specs.Lines.{at_line}
use Rattle.sitting.specs.Tables.{in_front}
use Rattle.sitting.specs.State.{Grant, State, limit}
use Rattle.sitting.specs.Rules.{order_fault, entries, reach, staying, needed, moved_on, filed_to, file_fault}
use Rattle.sitting.specs.Tracks.{Stretch, Follows, Tracks, at_first, since}
use Rattle.sitting.proofs.Checks.{Clear, in_order_from, not_mapped, shows, file_clear}

-- what stands in front of a list
pub front_is : {X : Type 0} (ys xs : List X) → take (length ys) (in_front ys xs) ≡ ys
front_is ys xs = take_at ys (drop (length ys) xs) (length ys) refl

front_room : (ys xs : List ℕ) → length ys ≤ length (in_front ys xs)
front_room ys xs = omega (arith, length-append ys (drop (length ys) xs))

-- the lines filed and shown are in order where those seen are, and the view's from there on
module _ (F : List Line) (o : SortOptions) (first : ℕ) (xs : List Line) (st : Stretch F first xs) where
  sorted_on : (seen : ℕ) → first ≤ max seen 1 - 1 → InOrder o (take seen F) → seen ≤ first + length xs → order_fault Range o first xs seen ≡ None → InOrder o (take (first + length xs) F)
  sorted_on seen low old more new j l =
      let t = first + length xs in
      let n : length (take t F) ≡ t = length-take-le t F st.within in
      let m : length (take seen F) ≡ seen = length-take-le seen F (omega (arith, st.within)) in
      ⊎_elim
      (λ (v : j + 1 < seen).
      let a : get_or (take seen F) j None ≡ get_or (take t F) j None = get_or-take seen F j None (omega arith) ∙ sym (get_or-take t F j None (omega arith)) in
      let b : get_or (take seen F) (j + 1) None ≡ get_or (take t F) (j + 1) None = get_or-take seen F (j + 1) None v ∙ sym (get_or-take t F (j + 1) None (omega arith)) in
      ap (λ y. before o (get_or (take t F) (j + 1) None) y) (sym a)
      ∙ ap (λ x. before o x (get_or (take seen F) j None)) (sym b)
      ∙ old j (omega arith))
      (λ (w : seen ≤ j + 1).
      let e : j + 1 - 1 ≡ j = omega arith in
      let a = shows F first xs st (j + 1) (omega arith) (omega arith) in
      let b = ap (at_line first xs) e ∙ shows F first xs st j (omega arith) (omega arith) in
      ap (λ y. before o (get_or (take t F) (j + 1) None) y) (sym b)
      ∙ ap (λ x. before o x (at_line first xs (j + 1 - 1))) (sym a)
      ∙ in_order_from o first xs (max seen 1) (not_mapped _ _ new) (j + 1) (omega arith) (omega arith))
      (cases_lt (j + 1) seen)

  fit_on : (u : WindowFrameUnits) (seen : ℕ) → first ≤ max seen 1 - 1 → Fit o u (take seen F) → seen ≤ first + length xs → order_fault u o first xs seen ≡ None → Fit o u (take (first + length xs) F)
  fit_on Rows seen low old more new = tt
  fit_on Range seen low old more new = sorted_on seen low old more new
  fit_on Groups seen low old more new = tt

-- no lines are in order
fit_none : (o : SortOptions) (u : WindowFrameUnits) → Fit o u []
fit_none o Rows = tt
fit_none o Range = λ j l. absurd (omega arith)
fit_none o Groups = tt

-- a later line, over no fewer lines, has no earlier edge
pub no_earlier : (o : SortOptions) (u : WindowFrameUnits) (b : WindowFrameBound) (F : List Line) (t s i k : ℕ) → Fit o u (take s F) → i < t → t ≤ s → i ≤ k → k < s → s ≤ length F → (starts o u b (take t F) i ≤ starts o u b (take s F) k) × (ends o u b (take t F) i ≤ ends o u b (take s F) k)
no_earlier o u b F t s i k fit it ts ik ks l =
    let L = take s F in
    let n : length L ≡ s = length-take-le s F l in
    let a : take t L ≡ take t F = take-take t s F ts in
    let c : take s L ≡ take s F = take-take s s F (omega arith) in
    let m = clause_monotone o u b L fit in
    let P : List Line → List Line → Type 0 = λ xs ys. (starts o u b xs i ≤ starts o u b ys k) × (ends o u b xs i ≤ ends o u b ys k) in
    let p : P (take t L) (take s L) = (m.0 t s i k ik ts it ks (omega arith), m.1 t s i k ik ts it ks (omega arith)) in
    let q : P (take t F) (take s L) = subst (λ xs. P xs (take s L)) a p in
    subst (P (take t F)) c q

module _ (F : List Line) (s : State) (first : ℕ) (xs : List Line) (line : ℕ) (st : Stretch F first xs) (c : Clear s.options s.frame s.last s.filed first xs line) where
  -- the lines filed and shown fit the frame
  pub fits : Tracks F s → Fit s.options s.frame.units (take (first + length xs) F)
  fits (at_first h) =
      let z : s.last.total ≡ 0 = ap (λ (g : Grant). g.total) h.last in
      let P : ℕ → Type 0 = λ n. Fit s.options s.frame.units (take n F) in
      fit_on F s.options first xs st s.frame.units s.last.total (omega (arith, c.from, h.filed)) (subst P (sym z) (fit_none s.options s.frame.units)) c.grown c.sorted
  fits (since h) = fit_on F s.options first xs st s.frame.units s.last.total (omega (arith, c.from, h.kept, h.shown)) h.fit c.grown c.sorted

  -- the window begins and ends no earlier than the last one
  pub onward : Follows F s → (s.last.start ≤ (window s.options s.frame (take (first + length xs) F) line).0) × (s.last.end ≤ (window s.options s.frame (take (first + length xs) F) line).1)
  onward h =
      let L = take (first + length xs) F in
      let fit = fits (since h) in
      let a = (no_earlier s.options s.frame.units s.frame.start F s.last.total (first + length xs) s.last.line line fit h.shown c.grown c.onward c.inside st.within).0 in
      let b = (no_earlier s.options s.frame.units s.frame.end F s.last.total (first + length xs) s.last.line line fit h.shown c.grown c.onward c.inside st.within).1 in
      let e = ap (λ (w : ℕ × ℕ). w.0) h.window in
      let d = ap (λ (w : ℕ × ℕ). w.1) h.window in
      (omega arith, omega arith)

  -- and not below what is filed
  pub unfiled : Tracks F s → (s.filed ≤ (window s.options s.frame (take (first + length xs) F) line).0) × (s.filed ≤ (window s.options s.frame (take (first + length xs) F) line).1)
  unfiled (at_first h) = (omega (arith, h.filed), omega (arith, h.filed))
  unfiled (since h) = let w = onward h in (omega (arith, h.kept, w.0), omega (arith, h.kept, w.1))

  line_kept : Tracks F s → s.filed ≤ line
  line_kept (at_first h) = omega (arith, h.filed)
  line_kept (since h) = omega (arith, h.kept, c.onward)

  pub follows_on : Tracks F s → Follows F (moved_on F s first xs line)
  follows_on k =
      let w = unfiled k in
      let l = line_kept k in
      record {
        shown = c.inside;
        within = st.within;
        fit = fits k;
        window = refl;
        kept = omega arith;
        room = front_room (needed F s first xs line) s.table;
        entries = front_is (needed F s first xs line) s.table;
      }

-- filing keeps the entries of turns that end above n
entries_filed : (u : WindowFrameUnits) (L : List Line) (f n r : ℕ) → f ≤ n → staying u n (entries u L f r) ≡ entries u L n r
entries_filed Rows L f n r h = refl
entries_filed Range L f n r h = refl
entries_filed Groups L f n r h = table_filed Line None same_line L f n r h

staying_none : (u : WindowFrameUnits) (n : ℕ) → staying u n [] ≡ []
staying_none Rows n = refl
staying_none Range n = refl
staying_none Groups n = refl

pub tracks_filed : (F : List Line) (s : State) (n : ℕ) → file_fault s.last s.filed n ≡ None → Tracks F s → Tracks F (filed_to s n)
tracks_filed F s n h (at_first k) =
    let p = file_clear s.last s.filed n h in
    let z : limit s.last ≡ 0 = ap limit k.last in
    let e : take s.used s.table ≡ [] = ap (λ i. take i s.table) k.used in
    at_first (record {
      last = k.last;
      filed = omega (arith, p.0);
      used = ap length (ap (staying s.frame.units n) e ∙ staying_none s.frame.units n);
    })
tracks_filed F s n h (since k) =
    let p = file_clear s.last s.filed n h in
    let u = s.frame.units in
    let L = take s.last.total F in
    let r = reach s.frame L s.last.line in
    let es = staying u n (take s.used s.table) in
    since (record {
      shown = k.shown;
      within = k.within;
      fit = k.fit;
      window = k.window;
      kept = p.0;
      room = front_room es s.table;
      entries = front_is es s.table ∙ ap (staying u n) k.entries ∙ entries_filed u L s.filed n r p.1;
    })
