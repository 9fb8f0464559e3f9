-- The law over sittings, by induction over the calls.
use Rattle.std.proofs.Common.{◌≡◌, ℕ, ◌+◌, ◌<◌, ◌≤◌, max, true, cond, not, ltb, List, [], ◌∷◌, length, take, drop, Some, None, Ok, Err, filter, Result, sym, refl, ap, ◌∙◌, subst, ⊎_elim, arith}
use Rattle.std.proofs.lemmas.Bool.{cases_lt, lt-ltb}
use Rattle.std.proofs.lemmas.List.Filters.{length-filter_both}
use Rattle.std.proofs.lemmas.List.{length-append, length-drop, length-take, take_all}
use Rattle.frame.specs.declared.bound.WindowFrameBound.{WindowFrameBound}
use Rattle.frame.specs.declared.bound.WindowFrameBound.TheVariants.{UnboundedPreceding, Preceding, CurrentRow, Following, UnboundedFollowing}
use Rattle.frame.specs.declared.bound.WindowFrameUnits.{WindowFrameUnits}
use Rattle.frame.specs.declared.bound.WindowFrameUnits.TheVariants.{Rows, Range, Groups}
use Rattle.frame.specs.declared.refusal.Refusal.{Refusal}
use Rattle.frame.specs.declared.refusal.Reason.TheVariants.{TurnTableShort}
use Rattle.frame.specs.Frames.{Frame}
use Rattle.frame.specs.Bounds.{causal}
use Rattle.meaning.specs.declared.options.SortOptions.{SortOptions}
use Rattle.meaning.specs.Lines.{Line}
use Rattle.meaning.specs.Turns.{reached}
use Rattle.meaning.specs.Clause.{same_line, window, Fit, Settled}
use Rattle.meaning.proofs.Ends.{reached_monotone}
use Rattle.meaning.proofs.Clause.{clause_causal}
use Rattle.sitting.specs.Tables.{in_front}
use Rattle.sitting.specs.State.{Grant, State, fresh}
use Rattle.sitting.specs.Rules.{refuse, fault, reach, entries, short, or_else, answered, settled, staying, needed, due, granted, answer, moved_on, file_fault, filed_to}
use Rattle.sitting.specs.Tracks.{Stretch, Tracks, at_first, since}
use Rattle.sitting.specs.Calls.{Window, Filing, Passed}
use Rattle.sitting.specs.Sittings.{Event, asked, put, Step, Sitting, opened, called, last_grant, filed_count, WhenGranted, EachGranted, AllStretches, furthest, wanted, OnlyShort, QuestionDue, EachDue, NotBefore, SameLines, SittingLaw}
use Rattle.sitting.proofs.Checks.{Clear, clear, cases_option, answered_ok, answered_err, neither}
use Rattle.sitting.proofs.Following.{follows_on, tracks_filed, onward, unfiled}

-- what is said of each granted question, weaker
each_weaker : (P Q : List Event → ℕ → List Line → ℕ → ℕ × ℕ → Type 0) → ((es : List Event) (first : ℕ) (xs : List Line) (line : ℕ) (w : ℕ × ℕ) → P es first xs line w → Q es first xs line w) → (es : List Event) → EachGranted P es → EachGranted Q es
each_weaker P Q i [] h = tt
each_weaker P Q i (asked first xs line (Ok w) ∷ es) h = (i es first xs line w h.0, each_weaker P Q i es h.1)
each_weaker P Q i (asked first xs line (Err e) ∷ es) h = (tt, each_weaker P Q i es h.1)
each_weaker P Q i (put n r ∷ es) h = (tt, each_weaker P Q i es h.1)

-- the entries that are needed, where the table is not too short
roomy : (u : WindowFrameUnits) (room : ℕ) (L : List Line) (filed r : ℕ) → short u room (entries u L filed r) ≡ None → length (entries u L filed r) ≤ room
roomy Rows room L filed r h = omega arith
roomy Range room L filed r h = omega arith
roomy Groups room L filed r h =
    ⊎_elim
    (λ (l : room < length (entries Groups L filed r)).
    let y = lt-ltb room (length (entries Groups L filed r)) l in
    let k = ap (λ b. cond b (Some (refuse TurnTableShort (length (entries Groups L filed r)))) None) y in
    let z : ◌≡◌ {A = ℕ} 0 1 = cc in
    absurd (omega arith))
    (λ (g : length (entries Groups L filed r) ≤ room). g)
    (cases_lt room (length (entries Groups L filed r)))

stays_few : (u : WindowFrameUnits) (n : ℕ) (es : List ℕ) → length (staying u n es) ≤ length es
stays_few Rows n es = omega arith
stays_few Range n es = omega arith
stays_few Groups n es = omega (arith, length-filter_both (λ e. ltb n e) (λ e. not (ltb n e)) (λ _. refl) es)

front_long : (ys xs : List ℕ) → length ys ≤ length xs → length (in_front ys xs) ≡ length xs
front_long ys xs h = omega (arith, length-append ys (drop (length ys) xs), length-drop (length ys) xs)

-- over no lines at all nothing is reached
reached_none : (b : WindowFrameBound) → reached None same_line b [] 0 ≡ 0
reached_none UnboundedPreceding = refl
reached_none (Preceding n) = refl
reached_none CurrentRow = refl
reached_none (Following n) = omega arith
reached_none UnboundedFollowing = refl

no_entries : (u : WindowFrameUnits) (filed r : ℕ) → entries u [] filed r ≡ []
no_entries Rows filed r = refl
no_entries Range filed r = refl
no_entries Groups filed r = ap (filter (λ e. ltb filed e)) (take_all (r + 1) [] (omega arith))

module _ (F : List Line) (o : SortOptions) (f : Frame) (old : List ℕ) where
  -- a later question reaches no earlier turn
  reach_rises : (t u i k : ℕ) → i ≤ k → t ≤ u → i < t → k < u → u ≤ length F → reach f (take t F) i ≤ reach f (take u F) k
  reach_rises t u i k ik tu it ku l =
      omega (arith, reached_monotone Line None same_line F f.start t u i k ik tu it ku l, reached_monotone Line None same_line F f.end t u i k ik tu it ku l)

  -- what the tracker holds after these calls
  abbrev after : List Event → ℕ → List ℕ → State
  after es used table = record { options = o; frame = f; last = last_grant es; filed = filed_count es; used = used; table = table }

  record Stands (es : List Event) (s : State) : Type 0 where
    used : ℕ
    table : List ℕ
    is : s ≡ after es used table
    tracks : Tracks F (after es used table)
    room : length table ≡ length old
    far : furthest F o f es ≡ reach f (take (last_grant es).total F) (last_grant es).line
    top : EachGranted (λ _ _ _ _ v. (v.0 ≤ (last_grant es).start) × (v.1 ≤ (last_grant es).end)) es
    due : EachDue F o f (length old) es
    exact : EachGranted (λ _ first xs line w. w ≡ window o f (take (first + length xs) F) line) es
    onward : EachGranted (λ before _ _ _ w. NotBefore F o f before w) es
    unfiled : EachGranted (λ before _ _ _ w. (filed_count before ≤ w.0) × (filed_count before ≤ w.1)) es
    holds : causal f.units f.end ≡ true → Fit o f.units F → EachGranted (λ _ _ _ line w. Settled f.units F line → SameLines F o f line w) es

  -- before any call
  at_opening : Stands [] (fresh o f old)
  at_opening = record {
    used = 0;
    table = old;
    is = refl;
    tracks = at_first (record { last = refl; filed = refl; used = refl });
    room = refl;
    far = omega (arith, reached_none f.start, reached_none f.end);
    top = tt;
    due = tt;
    exact = tt;
    onward = tt;
    unfiled = tt;
    holds = λ c h. tt;
  }

  module _ (es : List Event) (used : ℕ) (table : List ℕ) (tracks : Tracks F (after es used table)) (room : length table ≡ length old) (far : furthest F o f es ≡ reach f (take (last_grant es).total F) (last_grant es).line) (first : ℕ) (xs : List Line) (line : ℕ) where
    abbrev total : ℕ
    total = first + length xs

    -- the last question's reach is the furthest
    no_further : Tracks F (after es used table) → Clear o f (last_grant es) (filed_count es) first xs line → first + length xs ≤ length F → furthest F o f es ≤ reach f (take (first + length xs) F) line
    no_further (at_first h) c l =
        let z : reach f (take (last_grant es).total F) (last_grant es).line ≡ reach f [] 0 = ap (λ (g : Grant). reach f (take g.total F) g.line) h.last in
        omega (arith, reached_none f.start, reached_none f.end)
    no_further (since h) c l =
        omega (arith, reach_rises (last_grant es).total (first + length xs) (last_grant es).line line c.onward c.grown h.shown c.inside l)

    wants : Clear o f (last_grant es) (filed_count es) first xs line → first + length xs ≤ length F → needed F (after es used table) first xs line ≡ wanted F o f es (first + length xs) line
    wants c l =
        let m : reach f (take (first + length xs) F) line ≡ max (furthest F o f es) (reach f (take (first + length xs) F) line) = omega (arith, no_further tracks c l) in
        ap (entries f.units (take (first + length xs) F) (filed_count es)) m

    same_due : Stretch F first xs → answer F (after es used table) first xs line ≡ answered (or_else (fault o f (last_grant es) (filed_count es) first xs line) (short f.units (length old) (wanted F o f es (first + length xs) line))) (window o f (take (first + length xs) F) line)
    same_due st =
        let d = fault o f (last_grant es) (filed_count es) first xs line in
        let n = short f.units (length table) (needed F (after es used table) first xs line) in
        let m = short f.units (length old) (wanted F o f es (first + length xs) line) in
        let w = window o f (take (first + length xs) F) line in
        ⊎_elim
        (λ (h : (e : Refusal) × (d ≡ Some e)). ap (λ x. answered (or_else x n) w) h.1 ∙ sym (ap (λ x. answered (or_else x m) w) h.1))
        (λ (h : d ≡ None).
        let c = clear o f (last_grant es) (filed_count es) first xs line h in
        let e : n ≡ m = ap (λ i. short f.units i (needed F (after es used table) first xs line)) room ∙ ap (short f.units (length old)) (wants c st.within) in
        ap (λ x. answered (or_else d x) w) e)
        (cases_option d)

    only : (r : Result (ℕ × ℕ) Refusal) (t : State) → Passed (after es used table) (first + length xs) line r t → OnlyShort F o f (length old) r
    only (Ok w) t p = tt
    only (Err e) t p = (p.groups, p.refusal, omega (arith, room, p.more))

    due_now : (r : Result (ℕ × ℕ) Refusal) (t : State) → Window (after es used table) first xs line r t → QuestionDue F o f (length old) es first xs line r
    due_now r t p = record {
      refused = λ e h. (p.refused e h).0;
      passed = λ h. only r t (p.passed h);
      shown = λ st. (p.exact F tracks st).0 ∙ same_due st;
    }

    -- a refused question changes nothing
    unmoved : (e : Refusal) (t : State) → Window (after es used table) first xs line (Err e) t → t ≡ after es used table
    unmoved e t p =
        let d = fault o f (last_grant es) (filed_count es) first xs line in
        ⊎_elim
        (λ (h : (x : Refusal) × (d ≡ Some x)). (p.refused h.0 h.1).1)
        (λ (h : d ≡ None). (p.passed h).stays)
        (cases_option d)

    not_earlier : Tracks F (after es used table) → (st : Stretch F first xs) (c : Clear o f (last_grant es) (filed_count es) first xs line) → ((last_grant es).start ≤ (window o f (take (first + length xs) F) line).0) × ((last_grant es).end ≤ (window o f (take (first + length xs) F) line).1)
    not_earlier (at_first h) st c =
        let a = ap (λ (g : Grant). g.start) h.last in
        let b = ap (λ (g : Grant). g.end) h.last in
        (omega arith, omega arith)
    not_earlier (since h) st c = onward F (after es used table) first xs line st c h

    -- the window of a causal frame holds over all lines
    same_lines : (st : Stretch F first xs) (c : Clear o f (last_grant es) (filed_count es) first xs line) (w : ℕ × ℕ) → w ≡ window o f (take (first + length xs) F) line → causal f.units f.end ≡ true → Fit o f.units F → Settled f.units F line → SameLines F o f line w
    same_lines st c w e k fit settled =
        let P : ℕ × ℕ → Type 0 = λ v. SameLines F o f line v in
        let a = clause_causal o f.units f.start f.end F line fit k settled (first + length xs) c.inside st.within in
        subst P (sym e) (record { still = λ j. (a j).0; back = λ j. (a j).1 })

    granted_on : (w : ℕ × ℕ) (t : State) → Stretch F first xs → Window (after es used table) first xs line (Ok w) t → Stands es (after es used table) → Stands (asked first xs line (Ok w) ∷ es) t
    granted_on w t st p b =
        let s = after es used table in
        let x = p.exact F tracks st in
        let d = answered_ok (due F s first xs line) (granted F s first xs line) w (sym x.0) in
        let n = neither (fault o f (last_grant es) (filed_count es) first xs line) _ d.0 in
        let c = clear o f (last_grant es) (filed_count es) first xs line n.0 in
        let ns = needed F s first xs line in
        let e = asked first xs line (Ok w) in
        let here : w ≡ window o f (take (first + length xs) F) line = sym d.1 in
        let same : moved_on F s first xs line ≡ after (e ∷ es) (length ns) (in_front ns table) = ap (λ (v : ℕ × ℕ). record { options = o; frame = f; last = record { line = line; start = v.0; end = v.1; total = first + length xs }; filed = filed_count es; used = length ns; table = in_front ns table }) d.1 in
        let low = unfiled F s first xs line st c tracks in
        let late = not_earlier tracks st c in
        let P : ℕ × ℕ → Type 0 = λ v. (filed_count es ≤ v.0) × (filed_count es ≤ v.1) in
        let Q : ℕ × ℕ → Type 0 = λ v. ((last_grant es).start ≤ v.0) × ((last_grant es).end ≤ v.1) in
        let low' : P w = subst P d.1 low in
        let late' : Q w = subst Q d.1 late in
        let before : NotBefore F o f es w = each_weaker _ _ (λ fs g ys l v h. (omega (arith, h.0, late'.0), omega (arith, h.1, late'.1))) es b.top in
        record {
          used = length ns;
          table = in_front ns table;
          is = x.1 ∙ ap (λ i. settled i s (moved_on F s first xs line)) d.0 ∙ same;
          tracks = subst (Tracks F) same (since (follows_on F s first xs line st c tracks));
          room = front_long ns table (roomy f.units (length table) (take (first + length xs) F) (filed_count es) (reach f (take (first + length xs) F) line) n.1) ∙ room;
          far = omega (arith, no_further tracks c st.within);
          top = ((omega arith, omega arith), before);
          due = (due_now (Ok w) t p, b.due);
          exact = (here, b.exact);
          onward = (before, b.onward);
          unfiled = (low', b.unfiled);
          holds = λ k fit. (same_lines st c w here k fit, b.holds k fit);
        }

    refused_on : (e : Refusal) (t : State) → Window (after es used table) first xs line (Err e) t → Stands es (after es used table) → Stands (asked first xs line (Err e) ∷ es) t
    refused_on e t p b = record {
      used = used;
      table = table;
      is = unmoved e t p;
      tracks = tracks;
      room = room;
      far = far;
      top = (tt, b.top);
      due = (due_now (Err e) t p, b.due);
      exact = (tt, b.exact);
      onward = (tt, b.onward);
      unfiled = (tt, b.unfiled);
      holds = λ k fit. (tt, b.holds k fit);
    }

  -- a filing that is granted, and one that is refused
  put_on : (es : List Event) (used : ℕ) (table : List ℕ) (n : ℕ) (r : Result (ℕ × ℕ) Refusal) (t : State) → Filing (after es used table) n r t → Tracks F (after es used table) → length table ≡ length old → furthest F o f es ≡ reach f (take (last_grant es).total F) (last_grant es).line → Stands es (after es used table) → Stands (put n r ∷ es) t
  put_on es used table n (Ok v) t p tracks room far b =
      let s = after es used table in
      let d = answered_ok (file_fault (last_grant es) (filed_count es) n) (filed_count es, n) v (sym p.answers) in
      let ks = staying f.units n (take used table) in
      let few : length ks ≤ length table = omega (arith, stays_few f.units n (take used table), length-take used table) in
      record {
        used = length ks;
        table = in_front ks table;
        is = p.leaves ∙ ap (λ i. settled i s (filed_to s n)) d.0;
        tracks = tracks_filed F s n d.0 tracks;
        room = front_long ks table few ∙ room;
        far = far;
        top = (tt, b.top);
        due = (p.answers, b.due);
        exact = (tt, b.exact);
        onward = (tt, b.onward);
        unfiled = (tt, b.unfiled);
        holds = λ k fit. (tt, b.holds k fit);
      }
  put_on es used table n (Err e) t p tracks room far b =
      let s = after es used table in
      let d = answered_err (file_fault (last_grant es) (filed_count es) n) (filed_count es, n) e (sym p.answers) in
      record {
        used = used;
        table = table;
        is = p.leaves ∙ ap (λ i. settled i s (filed_to s n)) d;
        tracks = tracks;
        room = room;
        far = far;
        top = (tt, b.top);
        due = (p.answers, b.due);
        exact = (tt, b.exact);
        onward = (tt, b.onward);
        unfiled = (tt, b.unfiled);
        holds = λ k fit. (tt, b.holds k fit);
      }

  step_on : (e : Event) (es : List Event) (s t : State) → Stands es s → Step s e t → WhenGranted (λ first xs _ _. Stretch F first xs) e → Stands (e ∷ es) t
  step_on (asked first xs line (Ok w)) es s t b p st =
      let q = subst (λ u. Window u first xs line (Ok w) t) b.is p in
      granted_on es b.used b.table b.tracks b.room b.far first xs line w t st q (subst (Stands es) b.is b)
  step_on (asked first xs line (Err e)) es s t b p st =
      let q = subst (λ u. Window u first xs line (Err e) t) b.is p in
      refused_on es b.used b.table b.tracks b.room b.far first xs line e t q (subst (Stands es) b.is b)
  step_on (put n r) es s t b p st =
      let q = subst (λ u. Filing u n r t) b.is p in
      put_on es b.used b.table n r t q b.tracks b.room b.far (subst (Stands es) b.is b)

  stands : {es : List Event} {s : State} → Sitting o f old es s → AllStretches F o f es → Stands es s
  stands opened h = at_opening
  stands (called e sit p) h = step_on e _ _ _ (stands sit h.1) p h.0

  -- the table holds what the last question reached, which is the furthest
  entries_now : (es : List Event) (used : ℕ) (table : List ℕ) → furthest F o f es ≡ reach f (take (last_grant es).total F) (last_grant es).line → Tracks F (after es used table) → take used table ≡ entries f.units (take (last_grant es).total F) (filed_count es) (furthest F o f es)
  entries_now es used table far (at_first h) =
      let e : take used table ≡ [] = ap (λ i. take i table) h.used in
      let t : take (last_grant es).total F ≡ [] = ap (λ (g : Grant). take g.total F) h.last in
      e ∙ sym (ap (λ L. entries f.units L (filed_count es) (furthest F o f es)) t ∙ no_entries f.units (filed_count es) (furthest F o f es))
  entries_now es used table far (since h) = h.entries ∙ ap (entries f.units (take (last_grant es).total F) (filed_count es)) (sym far)

pub sitting_law : SittingLaw
sitting_law o f table es s sit F h =
    let b = stands F o f table sit h in
    record {
      due = b.due;
      exact = b.exact;
      onward = b.onward;
      unfiled = b.unfiled;
      holds = b.holds;
      last = ap (λ (u : State). u.last) b.is;
      filed = ap (λ (u : State). u.filed) b.is;
      table = ap (λ (u : State). take u.used u.table) b.is ∙ entries_now F o f table es b.used b.table b.far b.tracks;
    }
