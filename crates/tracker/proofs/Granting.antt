-- From what is found for a question to the contract of a window.
use Rattle.std.proofs.Common.{◌≡◌, ℕ, ◌+◌, ◌<◌, ◌≤◌, cond, List, length, take, drop, Some, None, Ok, Err, Option, sym, refl, ap, ◌∙◌, subst, arith}
use Rattle.std.proofs.lemmas.Bool.{le-ltb, lt-ltb}
use Rattle.std.proofs.lemmas.List.{length-take-le}
use Rattle.frame.specs.declared.bound.WindowFrameBound.{WindowFrameBound}
use Rattle.frame.specs.declared.bound.WindowFrameUnits.{WindowFrameUnits}
use Rattle.frame.specs.declared.bound.WindowFrameUnits.TheVariants.{Rows, Range, Groups}
use Rattle.frame.specs.declared.refusal.Refusal.{Refusal}
use Rattle.frame.specs.declared.refusal.Reason.TheVariants.{TurnTableShort}
use Rattle.meaning.specs.declared.options.SortOptions.{SortOptions}
use Rattle.meaning.specs.Lines.{Line}
use Rattle.meaning.specs.Rows.{row_start, row_end}
use Rattle.meaning.specs.Clause.{window}
use Rattle.sitting.specs.Tables.{in_front}
use Rattle.sitting.specs.State.{Grant, State}
use Rattle.sitting.specs.Rules.{refuse, short, or_else, answered, settled, granted, moved_on}
use Rattle.sitting.specs.Rules as rules
use Rattle.sitting.specs.Tracks.{Stretch, Tracks, at_first, since}
use Rattle.sitting.specs.Calls.{Uses, Window}
use Rattle.sitting.proofs.Checks.{Clear, clear}
use Rattle.sitting.proofs.Following.{fits, onward, unfiled}
use Rattle.tracker.specs.declared.asking.Answered.{Answered}
use Rattle.tracker.specs.Asking.{Plainly, Finds}
use Rattle.tracker.proofs.Exact.{starts_there, ends_there, start_is, end_is, needs_so_many, needs_these}

-- what is found is what the rules grant
pub record Fulfils (F : List Line) (s : State) (first : ℕ) (xs : List Line) (line : ℕ) (a : Answered) (new : List ℕ) : Type 0 where
  pub fits : short s.frame.units (length s.table) (rules.needed F s first xs line) ≡ None
  pub window : (a.start, a.end) ≡ granted F s first xs line
  pub live : a.live ≡ length (rules.needed F s first xs line)
  pub table : new ≡ in_front (rules.needed F s first xs line) s.table

pair : (a b c d : ℕ) → a ≡ c → b ≡ d → ◌≡◌ {A = ℕ × ℕ} (a, b) (c, d)
pair a b c d h k = ap (λ x. (x, b)) h ∙ ap (λ y. (c, y)) k

plain_is : (start end : ℕ) (a : Answered) (old new : List ℕ) → Plainly start end (Ok a) old new → a ≡ record { start = start; end = end; live = 0; at = 0 }
plain_is start end a old new p = let h = p.answer in cc

module _ (F : List Line) (o : SortOptions) (b e : WindowFrameBound) (g : Grant) (used : ℕ) (old : List ℕ) (xs : List Line) (line : ℕ) (a : Answered) (new : List ℕ) where
  abbrev at : WindowFrameUnits → ℕ → State
  at u filed = record { options = o; frame = record { units = u; start = b; end = e }; last = g; filed = filed; used = used; table = old }

  edge_low : (u : WindowFrameUnits) (f : ℕ) → Tracks F (at u f) → (st : Stretch F f xs) (c : Clear o (record { units = u; start = b; end = e }) g f f xs line) → (f ≤ line) × (f ≤ g.start) × (f ≤ g.end) × (g.start ≤ (window o (at u f).frame (take (f + length xs) F) line).0) × (g.end ≤ (window o (at u f).frame (take (f + length xs) F) line).1)
  edge_low u f (at_first h) st c =
      let z = h.filed in
      let x = ap (λ (g : Grant). g.start) h.last in
      let y = ap (λ (g : Grant). g.end) h.last in
      (omega arith, omega arith, omega arith, omega arith, omega arith)
  edge_low u f (since h) st c =
      let w = onward F (at u f) f xs line st c h in
      (omega (arith, h.kept, c.onward), omega (arith, h.kept), omega (arith, h.kept), w.0, w.1)

  fulfils_at : (u : WindowFrameUnits) (f : ℕ) → Tracks F (at u f) → Stretch F f xs → Clear o (record { units = u; start = b; end = e }) g f f xs line → Finds u (at u f) f xs line (Ok a) new → Fulfils F (at u f) f xs line a new
  fulfils_at Rows f k st c p =
      let long : length (take (f + length xs) F) ≡ f + length xs = length-take-le (f + length xs) F st.within in
      let is = plain_is _ _ a old new p in
      record {
        fits = refl;
        window = pair _ _ _ _ (ap (λ (x : Answered). x.start) is ∙ ap (λ n. row_start b n line) (sym long)) (ap (λ (x : Answered). x.end) is ∙ ap (λ n. row_end e n line) (sym long));
        live = ap (λ (x : Answered). x.live) is;
        table = p.table;
      }
  fulfils_at Range f k st c p =
      let is = plain_is _ _ a old new p in
      let l = edge_low Range f k st c in
      let w = unfiled F (at Range f) f xs line st c k in
      let s = starts_there F o f xs st (fits F (at Range f) f xs line st c k) line g.start l.0 c.inside l.1 b w.0 l.3 in
      let t = ends_there F o f xs st (fits F (at Range f) f xs line st c k) line g.end l.0 c.inside l.2 e w.1 l.4 in
      record {
        fits = refl;
        window = pair _ _ _ _ (ap (λ (x : Answered). x.start) is ∙ s) (ap (λ (x : Answered). x.end) is ∙ t);
        live = ap (λ (x : Answered). x.live) is;
        table = p.table;
      }
  fulfils_at Groups f k st c p =
      let n = needs_so_many F o b e g f used old xs line st c k in
      record {
        fits = ap (λ c. cond c (Some (refuse TurnTableShort (length (rules.needed F (at Groups f) f xs line)))) None) (le-ltb _ _ (omega (arith, p.fits)));
        window = pair _ _ _ _ (p.start ∙ start_is F o b e g f used old xs line st c k) (p.end ∙ end_is F o b e g f used old xs line st c k);
        live = p.live ∙ n;
        table = p.table ∙ ap (λ ys. in_front ys old) (needs_these F o b e g f used old xs line st c k);
      }

  -- the same where the view's first line is the filed count
  pub fulfils : (u : WindowFrameUnits) (filed first : ℕ) → first ≡ filed → Tracks F (at u filed) → Stretch F first xs → Clear o (record { units = u; start = b; end = e }) g filed first xs line → Finds u (at u filed) first xs line (Ok a) new → Fulfils F (at u filed) first xs line a new
  fulfils u filed first is k =
      let P : ℕ → Type 0 = λ f. Stretch F f xs → Clear o (record { units = u; start = b; end = e }) g filed f xs line → Finds u (at u filed) f xs line (Ok a) new → Fulfils F (at u filed) f xs line a new in
      subst P (sym is) (fulfils_at u filed k)

-- a table that is too short is one that the rules refuse
module _ (F : List Line) (o : SortOptions) (b e : WindowFrameBound) (g : Grant) (used : ℕ) (old : List ℕ) (xs : List Line) (line : ℕ) (n : ℕ) (new : List ℕ) where
  abbrev standing : WindowFrameUnits → ℕ → State
  standing u filed = record { options = o; frame = record { units = u; start = b; end = e }; last = g; filed = filed; used = used; table = old }

  lacks_at : (u : WindowFrameUnits) (f : ℕ) → Tracks F (standing u f) → Stretch F f xs → Clear o (record { units = u; start = b; end = e }) g f f xs line → Finds u (standing u f) f xs line (Err n) new → short u (length old) (rules.needed F (standing u f) f xs line) ≡ Some (refuse TurnTableShort n)
  lacks_at Rows f k st c p = let h = p.answer in let z : ◌≡◌ {A = ℕ} 0 1 = cc in absurd (omega arith)
  lacks_at Range f k st c p = let h = p.answer in let z : ◌≡◌ {A = ℕ} 0 1 = cc in absurd (omega arith)
  lacks_at Groups f k st c p =
      let m : n ≡ length (rules.needed F (standing Groups f) f xs line) = p.0 ∙ needs_so_many F o b e g f used old xs line st c k in
      ap (λ c. cond c (Some (refuse TurnTableShort (length (rules.needed F (standing Groups f) f xs line)))) None) (lt-ltb _ _ (omega (arith, p.1)))
      ∙ ap (λ i. Some (refuse TurnTableShort i)) (sym m)

  pub lacks : (u : WindowFrameUnits) (filed first : ℕ) → first ≡ filed → Tracks F (standing u filed) → Stretch F first xs → Clear o (record { units = u; start = b; end = e }) g filed first xs line → Finds u (standing u filed) first xs line (Err n) new → short u (length old) (rules.needed F (standing u filed) first xs line) ≡ Some (refuse TurnTableShort n)
  lacks u filed first is k =
      let P : ℕ → Type 0 = λ f. Stretch F f xs → Clear o (record { units = u; start = b; end = e }) g filed f xs line → Finds u (standing u filed) f xs line (Err n) new → short u (length old) (rules.needed F (standing u filed) f xs line) ≡ Some (refuse TurnTableShort n) in
      subst P (sym is) (lacks_at u filed k)

-- where the table is too short nothing is written
pub not_written : (u : WindowFrameUnits) (s : State) (first : ℕ) (xs : List Line) (line n : ℕ) (new : List ℕ) → Finds u s first xs line (Err n) new → (u ≡ Groups) × (length s.table < n) × (new ≡ s.table)
not_written Rows s first xs line n new p = let h = p.answer in let z : ◌≡◌ {A = ℕ} 0 1 = cc in absurd (omega arith)
not_written Range s first xs line n new p = let h = p.answer in let z : ◌≡◌ {A = ℕ} 0 1 = cc in absurd (omega arith)
not_written Groups s first xs line n new p = (refl, p.1, p.2)

no_fault : {X : Type 0} (d : Option X) (x : X) → d ≡ None → d ≡ Some x → ⊥
no_fault d x h k = let z : ◌≡◌ {A = ℕ} 0 1 = cc in omega arith

-- the contract, from what was found
module _ (o : SortOptions) (u : WindowFrameUnits) (b e : WindowFrameBound) (g : Grant) (filed used : ℕ) (old : List ℕ) (first : ℕ) (xs : List Line) (line : ℕ) where
  abbrev was : State
  was = record { options = o; frame = record { units = u; start = b; end = e }; last = g; filed = filed; used = used; table = old }

  abbrev its_fault : Option Refusal
  its_fault = rules.fault o (record { units = u; start = b; end = e }) g filed first xs line

  -- a question that is refused for a fault
  pub window_refused : (x : Refusal) → its_fault ≡ Some x → Window was first xs line (Err x) was
  window_refused x h = record {
    refused = λ y k. (ap Err (same x y h k), refl);
    passed = λ k. absurd (no_fault its_fault x k h);
    exact = λ F t st.
        let n = short u (length old) (rules.needed F was first xs line) in
        (sym (ap (λ d. answered (or_else d n) (granted F was first xs line)) h), sym (ap (λ d. settled (or_else d n) was (moved_on F was first xs line)) h));
  }
    where
      same : (x y : Refusal) → its_fault ≡ Some x → its_fault ≡ Some y → x ≡ y
      same x y h k = cc

  module _ (none : its_fault ≡ None) where
    clear_of : Clear o (record { units = u; start = b; end = e }) g filed first xs line
    clear_of = clear o (record { units = u; start = b; end = e }) g filed first xs line none

    -- one for which the turn table is too short
    pub window_short : (n : ℕ) (new : List ℕ) → Finds u was first xs line (Err n) new → Window was first xs line (Err (refuse TurnTableShort n)) (record { options = o; frame = record { units = u; start = b; end = e }; last = g; filed = filed; used = used; table = new })
    window_short n new p =
        let h = not_written u was first xs line n new p in
        let still : ◌≡◌ {A = State} (record { options = o; frame = record { units = u; start = b; end = e }; last = g; filed = filed; used = used; table = new }) was = ap (λ ys. record { options = o; frame = record { units = u; start = b; end = e }; last = g; filed = filed; used = used; table = ys }) h.2 in
        record {
          refused = λ y k. absurd (no_fault its_fault y none k);
          passed = λ k. record { groups = h.0; refusal = refl; more = h.1; stays = still };
          exact = λ F t st.
              let short_is = ap (λ d. or_else d (short u (length old) (rules.needed F was first xs line))) none ∙ lacks F o b e g used old xs line n new u filed first clear_of.from t st clear_of p in
              (sym (ap (λ d. answered d (granted F was first xs line)) short_is), still ∙ sym (ap (λ d. settled d was (moved_on F was first xs line)) short_is));
        }

    -- one that is granted
    module _ (a : Answered) (new : List ℕ) where
      by_rows : (v : WindowFrameUnits) → Finds v was first xs line (Ok a) new → v ≡ Rows → ◌≡◌ {A = ℕ × ℕ} (a.start, a.end) (row_start b (first + length xs) line, row_end e (first + length xs) line)
      by_rows Rows p h = ap (λ (x : Answered). (x.start, x.end)) (plain_is _ _ a old new p)
      by_rows Range p h = let z : ◌≡◌ {A = ℕ} 0 1 = cc in absurd (omega arith)
      by_rows Groups p h = let z : ◌≡◌ {A = ℕ} 0 1 = cc in absurd (omega arith)

      none_used : (v : WindowFrameUnits) → Finds v was first xs line (Ok a) new → Uses v a.live
      none_used Rows p = ap (λ (x : Answered). x.live) (plain_is _ _ a old new p)
      none_used Range p = ap (λ (x : Answered). x.live) (plain_is _ _ a old new p)
      none_used Groups p = tt

      pub window_granted : (total : ℕ) → total ≡ first + length xs → filed ≤ a.start → filed ≤ a.end → drop a.live new ≡ drop a.live old → Finds u was first xs line (Ok a) new → Window was first xs line (Ok (a.start, a.end)) (record { options = o; frame = record { units = u; start = b; end = e }; last = record { line = line; start = a.start; end = a.end; total = total }; filed = filed; used = a.live; table = new })
      window_granted total is low high rest p =
          let mk : ℕ × ℕ → ℕ → ℕ → List ℕ → State = λ w n l ys. record { options = o; frame = record { units = u; start = b; end = e }; last = record { line = line; start = w.0; end = w.1; total = n }; filed = filed; used = l; table = ys } in
          record {
            refused = λ y k. absurd (no_fault its_fault y none k);
            passed = λ k. record {
              stored = ap (λ n. record { line = line; start = a.start; end = a.end; total = n }) is;
              options = refl;
              frame = refl;
              filed = refl;
              starts = low;
              ends = high;
              rows = by_rows u p;
              uses = none_used u p;
              others = rest;
            };
            exact = λ F t st.
                let f = fulfils F o b e g used old xs line a new u filed first clear_of.from t st clear_of p in
                let no_due = ap (λ d. or_else d (short u (length old) (rules.needed F was first xs line))) none ∙ f.fits in
                let there : mk (a.start, a.end) total a.live new ≡ moved_on F was first xs line =
                ap (λ w. mk w total a.live new) f.window
                ∙ ap (λ n. mk (granted F was first xs line) n a.live new) is
                ∙ ap (λ l. mk (granted F was first xs line) (first + length xs) l new) f.live
                ∙ ap (mk (granted F was first xs line) (first + length xs) (length (rules.needed F was first xs line))) f.table in
                (ap Ok f.window ∙ sym (ap (λ d. answered d (granted F was first xs line)) no_due), there ∙ sym (ap (λ d. settled d was (moved_on F was first xs line)) no_due));
          }
