-- What is found for a question over a stretch of a finished transcript is what the rules give.
use Rattle.std.proofs.Common.{◌≡◌, ℕ, zero, suc, ◌+◌, ◌-◌, ◌<◌, ◌≤◌, max, Bool, cond, not, List, [], ◌++◌, map, length, get_or, take, drop, None, sym, refl, ap, ◌∙◌, arith}
use lib.ListN.{length-map}
use Rattle.std.proofs.lemmas.List.{drop-take, length-take, length-take-le, take-map, take-take}
use Rattle.frame.specs.declared.bound.WindowFrameBound.{WindowFrameBound}
use Rattle.frame.specs.declared.bound.WindowFrameBound.TheVariants.{UnboundedPreceding, Preceding, CurrentRow, Following, UnboundedFollowing}
use Rattle.frame.specs.declared.bound.WindowFrameUnits.TheVariants.{Groups}
use Rattle.frame.specs.Frames.{Frame}
use Rattle.transcript.specs.Lines.{at_line}
use Rattle.meaning.specs.declared.options.SortOptions.{SortOptions}
use Rattle.meaning.specs.Counts.{walk}
use Rattle.meaning.specs.Lines.{Line}
use Rattle.meaning.specs.Ranges.{before, target, lead, reach, range_start, range_end, InOrder}
use Rattle.meaning.specs.Turns.{turn_of, turn_ends, reached, groups_start, groups_end, table, last_held, grown}
use Rattle.meaning.specs.Clause.{same_line}
use Rattle.meaning.proofs.Clause.{clause_view}
use Rattle.meaning.proofs.Ends.{many_ends, reached_monotone}
use Rattle.meaning.proofs.Growing.{ends_grow, table_grows}
use Rattle.meaning.proofs.Sorting.{range_walked}
use Rattle.meaning.proofs.Table.{table_rest, reached_rest}
use Rattle.meaning.proofs.Turns.{turn_take, turn_rises}
use Rattle.sitting.specs.Rules.{refuse, short, entries}
use Rattle.sitting.specs.Rules as rules
use Rattle.sitting.specs.State.{Grant, State}
use Rattle.sitting.specs.Tracks.{Stretch, Tracks, at_first, since}
use Rattle.sitting.proofs.Checks.{Clear, shows}
use Rattle.sitting.proofs.Following.{unfiled}
use Rattle.tracker.specs.Ends.{entry_of, start_by, end_by, reach_by, needed}
use Rattle.tracker.specs.Edges.{lead_from, reach_from, start_from, end_from}
use Rattle.tracker.specs.Asking.{given_ends}
use Rattle.tracker.proofs.ByEnds.{read_off}
use Rattle.tracker.proofs.Holding.{has_entry}
use Rattle.tracker.proofs.Telling.{reach_far}

-- walks by tests that are equal where the walk goes
walk_alike : (p q : ℕ → Bool) (a m : ℕ) → ((j : ℕ) → a ≤ j → j < a + m → p j ≡ q j) → walk p a m ≡ walk q a m
walk_alike p q a zero h = refl
walk_alike p q a (suc m) h =
    ap (λ b. cond b (walk p (a + 1) m) a) (h a (omega arith) (omega arith))
    ∙ ap (λ n. cond (q a) n a) (walk_alike p q (a + 1) m (λ j l r. h j (omega arith) (omega arith)))

-- RANGE: a walk from an earlier window's edge ends at the clause's
module _ (F : List Line) (o : SortOptions) (first : ℕ) (xs : List Line) (st : Stretch F first xs) (sorted : InOrder o (take (first + length xs) F)) (line from : ℕ) (low : first ≤ line) (high : line < first + length xs) (past : first ≤ from) where
  long : length (take (first + length xs) F) ≡ first + length xs
  long = length-take-le (first + length xs) F st.within

  by_lead : (b : WindowFrameBound) → from ≤ lead o (take (first + length xs) F) (target o b (get_or (take (first + length xs) F) line None)) → lead_from o first xs line from b ≡ lead o (take (first + length xs) F) (target o b (get_or (take (first + length xs) F) line None))
  by_lead b h =
      let L = take (first + length xs) F in
      let y = target o b (get_or L line None) in
      walk_alike _ (λ j. before o (get_or L j None) y) from (first + length xs - from) (λ j l r. ap (λ x. before o x (target o b (at_line first xs line))) (shows F first xs st j (omega arith) (omega arith)) ∙ ap (λ z. before o (get_or L j None) (target o b z)) (shows F first xs st line low high))
      ∙ ap (λ n. walk (λ j. before o (get_or L j None) y) from (n - from)) (sym long)
      ∙ (range_walked o L sorted y from).0 h

  by_reach : (b : WindowFrameBound) → from ≤ reach o (take (first + length xs) F) (target o b (get_or (take (first + length xs) F) line None)) → reach_from o first xs line from b ≡ reach o (take (first + length xs) F) (target o b (get_or (take (first + length xs) F) line None))
  by_reach b h =
      let L = take (first + length xs) F in
      let y = target o b (get_or L line None) in
      walk_alike _ (λ j. not (before o y (get_or L j None))) from (first + length xs - from) (λ j l r. ap (λ x. not (before o (target o b (at_line first xs line)) x)) (shows F first xs st j (omega arith) (omega arith)) ∙ ap (λ z. not (before o (target o b z) (get_or L j None))) (shows F first xs st line low high))
      ∙ ap (λ n. walk (λ j. not (before o y (get_or L j None))) from (n - from)) (sym long)
      ∙ (range_walked o L sorted y from).1 h

  pub starts_there : (b : WindowFrameBound) → first ≤ range_start o b (take (first + length xs) F) line → from ≤ range_start o b (take (first + length xs) F) line → start_from o first xs line from b ≡ range_start o b (take (first + length xs) F) line
  starts_there UnboundedPreceding h k = omega arith
  starts_there (Preceding n) h k = by_lead (Preceding n) k
  starts_there CurrentRow h k = by_lead CurrentRow k
  starts_there (Following n) h k = by_lead (Following n) k
  starts_there UnboundedFollowing h k = sym long

  pub ends_there : (b : WindowFrameBound) → first ≤ range_end o b (take (first + length xs) F) line → from ≤ range_end o b (take (first + length xs) F) line → end_from o first xs line from b ≡ range_end o b (take (first + length xs) F) line
  ends_there UnboundedPreceding h k = omega arith
  ends_there (Preceding n) h k = by_reach (Preceding n) k
  ends_there CurrentRow h k = by_reach CurrentRow k
  ends_there (Following n) h k = by_reach (Following n) k
  ends_there UnboundedFollowing h k = sym long

-- a bound reaches the line's own turn at least
reaches_turn : (b : WindowFrameBound) (S : List Line) (i : ℕ) → i < length S → turn_of None same_line S i ≤ reached None same_line b S i
reaches_turn UnboundedPreceding S i l = omega arith
reaches_turn (Preceding n) S i l = omega arith
reaches_turn CurrentRow S i l = omega arith
reaches_turn (Following n) S i l = omega (arith, many_ends None same_line S (length S - 1) (omega arith), turn_rises None same_line S i (length S - 1) (omega arith))
reaches_turn UnboundedFollowing S i l = omega arith

-- GROUPS, where the filed count is the view's first line
module _ (F : List Line) (o : SortOptions) (b e : WindowFrameBound) (g : Grant) (first used : ℕ) (old : List ℕ) (xs : List Line) (line : ℕ) (st : Stretch F first xs) where
  abbrev pub frame : Frame
  frame = record { units = Groups; start = b; end = e }

  abbrev pub before_it : State
  before_it = record { options = o; frame = frame; last = g; filed = first; used = used; table = old }

  -- all lines filed and shown, and how many
  abbrev all : List Line
  all = take (first + length xs) F

  shown_are : xs ≡ drop first (take (first + length xs) F)
  shown_are = st.are ∙ sym (drop-take first (length xs) F)

  all_long : length (take (first + length xs) F) ≡ first + length xs
  all_long = length-take-le (first + length xs) F st.within

  abbrev pub real_ends : List ℕ
  real_ends = map (λ k. first + k) (turn_ends None same_line xs)

  as_grown : used ≤ length old → given_ends first xs old used ≡ grown None same_line first (take used old) xs
  as_grown room =
      let es = take used old in
      let n : length es ≡ used = length-take-le used old room in
      let P = map (λ k. last_held first es + k) (turn_ends None same_line (drop (last_held first es - first) xs)) in
      ap (λ ys. ys ++ P) (sym (ap (λ k. take (k - 1) es) n ∙ take-take (used - 1) used old (omega arith)))

  module _ (c : Clear o frame g first first xs line) where
    first_low : Tracks F before_it → first ≤ line
    first_low (at_first h) = omega (arith, h.filed)
    first_low (since h) = omega (arith, h.kept, c.onward)

    -- the entries in use and the view's lines give the view's turn ends
    pub ends_given : Tracks F before_it → given_ends first xs old used ≡ real_ends
    ends_given (at_first h) =
        let z : take used old ≡ [] = ap (λ k. take k old) h.used in
        as_grown (omega (arith, h.used))
        ∙ ap (λ es. grown None same_line first es xs) z
        ∙ ends_grow Line None same_line first 0 0 xs (omega arith)
    ends_given (since h) =
        let S = take g.total F in
        let r = max (reached None same_line b S g.line) (reached None same_line e S g.line) in
        let n : length S ≡ g.total = length-take-le g.total F h.within in
        let low : first ≤ g.line = omega (arith, h.kept) in
        as_grown h.room
        ∙ ap (λ es. grown None same_line first es xs) h.entries
        ∙ ap (λ ys. grown None same_line first (table None same_line S first r) ys) shown_are
        ∙ table_grows Line None same_line F first g.total (first + length xs) r (omega (arith, h.shown)) c.grown st.within (omega (arith, turn_rises None same_line S first g.line low, reaches_turn b S g.line (omega (arith, h.shown))))
        ∙ ap (λ ys. map (λ k. first + k) (turn_ends None same_line ys)) (sym shown_are)

    module _ (k : Tracks F before_it) where
      i_fits : line - first < length xs
      i_fits = omega (arith, c.inside, first_low k)

      there : first + (line - first) ≡ line
      there = omega (arith, first_low k)

      some : 0 < length xs
      some = omega (arith, c.inside, first_low k)

      -- the line's turn, by the ends
      turn_found : entry_of real_ends line ≡ turn_of None same_line xs (line - first)
      turn_found = ap (entry_of real_ends) (sym there) ∙ (read_off Line None same_line first xs (line - first) i_fits).0

      has : turn_of None same_line xs (line - first) < length real_ends
      has = omega (arith, turn_found, has_entry None same_line first xs line c.inside some)

      reach_is : (d : WindowFrameBound) → reach_by d real_ends (turn_of None same_line xs (line - first)) ≡ reached None same_line d xs (line - first)
      reach_is d = ((read_off Line None same_line first xs (line - first) i_fits).1 d).2

      -- how many entries are needed
      abbrev many : ℕ
      many = max (reached None same_line b xs (line - first)) (reached None same_line e xs (line - first)) + 1

      at_most : max (reached None same_line b xs (line - first)) (reached None same_line e xs (line - first)) + 1 ≤ length real_ends
      at_most = omega (arith, reach_far b real_ends (turn_of None same_line xs (line - first)) has, reach_far e real_ends (turn_of None same_line xs (line - first)) has, reach_is b, reach_is e)

      rest_reach : (d : WindowFrameBound) → reached None same_line d (take (first + length xs) F) line ≡ turn_of None same_line (take (first + length xs) F) first + reached None same_line d xs (line - first)
      rest_reach d =
          reached_rest None same_line all first (omega (arith, all_long, some)) d line (first_low k)
          ∙ ap (λ ys. turn_of None same_line all first + reached None same_line d ys (line - first)) (sym shown_are)

      rule_is : rules.needed F before_it first xs line ≡ take (max (reached None same_line b xs (line - first)) (reached None same_line e xs (line - first)) + 1) real_ends
      rule_is =
          let m = max (reached None same_line b xs (line - first)) (reached None same_line e xs (line - first)) + 1 in
          table_rest None same_line all first (omega (arith, all_long, some)) (max (reached None same_line b all line) (reached None same_line e all line)) m (omega (arith, rest_reach b, rest_reach e))
          ∙ ap (λ ys. map (λ j. first + j) (take m (turn_ends None same_line ys))) (sym shown_are)
          ∙ sym (take-map (λ j. first + j) m (turn_ends None same_line xs))

      rule_long : length (rules.needed F before_it first xs line) ≡ max (reached None same_line b xs (line - first)) (reached None same_line e xs (line - first)) + 1
      rule_long = ap length rule_is ∙ length-take-le _ real_ends at_most

      -- no fewer than are in use
      no_fewer : Tracks F before_it → used ≤ max (reached None same_line b xs (line - first)) (reached None same_line e xs (line - first)) + 1
      no_fewer (at_first h) = omega (arith, h.used)
      no_fewer (since h) =
          let S = take g.total F in
          let n : length S ≡ g.total = length-take-le g.total F h.within in
          let low : first ≤ g.line = omega (arith, h.kept) in
          let r = max (reached None same_line b S g.line) (reached None same_line e S g.line) in
          let t = turn_rises None same_line S first g.line low in
          let u = reaches_turn b S g.line (omega (arith, h.shown)) in
          let q = r + 1 - turn_of None same_line S first in
          let s = h.entries ∙ table_rest None same_line S first (omega (arith, h.shown)) r q (omega arith) in
          let long = length-take-le used old h.room in
          let few : used ≤ q = omega (arith, ap length s, length-map (take q (turn_ends None same_line (drop first S))) (λ j. first + j), length-take q (turn_ends None same_line (drop first S))) in
          let same : turn_of None same_line S first ≡ turn_of None same_line all first = turn_take None same_line F g.total first (omega (arith, h.shown)) ∙ sym (turn_take None same_line F (first + length xs) first (omega (arith, some))) in
          let mb = reached_monotone Line None same_line F b g.total (first + length xs) g.line line c.onward c.grown h.shown c.inside st.within in
          let me = reached_monotone Line None same_line F e g.total (first + length xs) g.line line c.onward c.grown h.shown c.inside st.within in
          omega (arith, rest_reach b, rest_reach e)

      -- the entries that the code finds needed are as many as the rules need, and the same
      pub needs_so_many : needed b e (given_ends first xs old used) used (entry_of (given_ends first xs old used) line) ≡ length (rules.needed F before_it first xs line)
      needs_so_many =
          let G = given_ends first xs old used in
          let t = turn_of None same_line xs (line - first) in
          let m : needed b e real_ends used t ≡ max (reached None same_line b xs (line - first)) (reached None same_line e xs (line - first)) + 1 = omega (arith, no_fewer k, reach_is b, reach_is e) in
          ap (λ es. needed b e es used (entry_of es line)) (ends_given k)
          ∙ ap (needed b e real_ends used) turn_found
          ∙ m
          ∙ sym rule_long

      pub needs_these : take (needed b e (given_ends first xs old used) used (entry_of (given_ends first xs old used) line)) (given_ends first xs old used) ≡ rules.needed F before_it first xs line
      needs_these =
          ap (λ n. take n (given_ends first xs old used)) (needs_so_many ∙ rule_long)
          ∙ ap (take (max (reached None same_line b xs (line - first)) (reached None same_line e xs (line - first)) + 1)) (ends_given k)
          ∙ sym rule_is

      -- the edges read off the ends are the clause's
      pub start_is : start_by b first (first + length xs) (given_ends first xs old used) (entry_of (given_ends first xs old used) line) ≡ groups_start None same_line b (take (first + length xs) F) line
      start_is =
          let w = (unfiled F before_it first xs line st c k).0 in
          let v = (clause_view o Groups b F tt first (first + length xs) line (first_low k) c.inside st.within).0 in
          let x : groups_start None same_line b xs (line - first) ≡ groups_start None same_line b (drop first all) (line - first) = ap (λ ys. groups_start None same_line b ys (line - first)) shown_are in
          ap (λ es. start_by b first (first + length xs) es (entry_of es line)) (ends_given k)
          ∙ ap (start_by b first (first + length xs) real_ends) turn_found
          ∙ ((read_off Line None same_line first xs (line - first) i_fits).1 b).0
          ∙ omega arith

      pub end_is : end_by e first (first + length xs) (given_ends first xs old used) (entry_of (given_ends first xs old used) line) ≡ groups_end None same_line e (take (first + length xs) F) line
      end_is =
          let w = (unfiled F before_it first xs line st c k).1 in
          let v = (clause_view o Groups e F tt first (first + length xs) line (first_low k) c.inside st.within).1 in
          let x : groups_end None same_line e xs (line - first) ≡ groups_end None same_line e (drop first all) (line - first) = ap (λ ys. groups_end None same_line e ys (line - first)) shown_are in
          ap (λ es. end_by e first (first + length xs) es (entry_of es line)) (ends_given k)
          ∙ ap (end_by e first (first + length xs) real_ends) turn_found
          ∙ ((read_off Line None same_line first xs (line - first) i_fits).1 e).1
          ∙ omega arith
