-- What holds of a tracker goes on to hold.
use Rattle.std.proofs.Common.{◌≡◌, ℕ, zero, suc, ◌+◌, ◌-◌, ◌<◌, ◌≤◌, Bool, true, false, cond, not, ltb, List, [], ◌∷◌, ◌++◌, length, get_or, take, drop, ℤ, None, Ok, Option, sym, ap, ◌∙◌, subst, ⊎_elim, arith}
use Rattle.std.proofs.lemmas.Bool.{cases_lt}
use Rattle.std.proofs.lemmas.Bool.Decides.{nat_tests}
use Rattle.std.proofs.lemmas.List.{drop_at, get_or-take, get_or_past, get_or_default, take-take, length-append, length-take-le}
use Rattle.frame.specs.declared.bound.WindowFrameBound.{WindowFrameBound}
use Rattle.frame.specs.declared.bound.WindowFrameBound.TheVariants.{UnboundedPreceding, Preceding, CurrentRow, Following, UnboundedFollowing}
use Rattle.frame.specs.declared.bound.WindowFrameUnits.{WindowFrameUnits}
use Rattle.frame.specs.declared.bound.WindowFrameUnits.TheVariants.{Rows, Range, Groups}
use Rattle.frame.specs.Frames.{framed}
use Rattle.meaning.specs.Counts.{walk}
use Rattle.meaning.specs.Lines.{Line, ranked}
use Rattle.meaning.specs.declared.options.SortOptions.{SortOptions}
use Rattle.meaning.specs.Ranges.{before, target}
use Rattle.transcript.specs.Lines.{at_line}
use Rattle.meaning.specs.Rows.{row_start, row_end}
use Rattle.meaning.specs.Turns.{last_held}
use Rattle.meaning.specs.Clause.{same_line}
use Rattle.search.specs.Views.{total_of}
use Rattle.sitting.specs.Tables.{in_front}
use Rattle.tracker.specs.declared.asking.Answered.{Answered}
use Rattle.tracker.specs.declared.standing.Standing.{Standing}
use Rattle.tracker.specs.Walks.{Rise, ends_from, all_ends}
use Rattle.tracker.specs.Ends.{Held, entry_of, stops, start_by, end_by, reach_by, needed}
use Rattle.tracker.specs.Edges.{start_from, end_from}
use Rattle.tracker.specs.Asking.{Answers, Plainly, Ready, Finds}
use Rattle.tracker.specs.Sound.{Kept, Shown, Rowed, Room, Past, Within, Rising, Passed, Behind}
use Rattle.tracker.specs.States.{state}
use Rattle.tracker.proofs.Rising.{ends_rise, rise_above, rise_take, none_below, counted_in}
use Rattle.tracker.proofs.Telling.{none_held, reach_far, far_past}
use Rattle.tracker.proofs.Holding.{is_last}
use Rattle.tracker.proofs.Finding.{place_low}
use Rattle.tracker.proofs.Ordering.{all_shown}
use Rattle.tracker.proofs.Answering.{front_get, has, there, written_small}

pub record Sound (s : Standing) (table : List ℕ) : Type 0 where
  pub kept : Kept s
  pub shown : Shown s
  pub rowed : Rowed s
  pub room : Room s table
  pub past : Past s table
  pub within : Within s table
  pub rising : Rising s table
  pub passed : Passed s table
  pub behind : Behind s

-- numbers that rise, by places and by neighbours
pub rise_from : (e : ℕ) (es : List ℕ) → ((k : ℕ) → k < length es → e < get_or es k 0) → ((j k : ℕ) → j < k → k < length es → get_or es j 0 < get_or es k 0) → Rise e es
rise_from e [] h r = tt
rise_from e (q ∷ es) h r = (h 0 (omega arith), rise_from q es (λ k l. r 0 (suc k) (omega arith) (omega arith)) (λ j k l m. r (suc j) (suc k) (omega arith) (omega arith)))

pub rise_strict : (e : ℕ) (es : List ℕ) (j k : ℕ) → Rise e es → j < k → k < length es → get_or es j 0 < get_or es k 0
rise_strict e [] j k r h l = absurd (omega arith)
rise_strict e (q ∷ es) zero zero r h l = absurd (omega arith)
rise_strict e (q ∷ es) zero (suc k) r h l = rise_above q 0 es k r.1 (omega arith)
rise_strict e (q ∷ es) (suc j) zero r h l = absurd (omega arith)
rise_strict e (q ∷ es) (suc j) (suc k) r h l = rise_strict q es j k r.1 (omega arith) (omega arith)

rise_weaken : (e d : ℕ) (es : List ℕ) → e ≤ d → Rise d es → Rise e es
rise_weaken e d [] h r = tt
rise_weaken e d (q ∷ es) h r = (omega (arith, r.0), r.1)

rise_append : (e d : ℕ) (xs ys : List ℕ) → Rise e xs → Rise d ys → e ≤ d → ((k : ℕ) → k < length xs → get_or xs k 0 ≤ d) → Rise e (xs ++ ys)
rise_append e d [] ys r s h l = rise_weaken e d ys h s
rise_append e d (q ∷ xs) ys r s h l = (r.0, rise_append q d xs ys r.1 s (l 0 (omega arith)) (λ k v. l (suc k) (omega arith)))

-- entries before a line's own lie at or below the line
entry_passed : (line e : ℕ) (es : List ℕ) (k : ℕ) → Rise e es → k < entry_of es line → get_or es k 0 ≤ line
entry_passed line e [] k r h = absurd (omega arith)
entry_passed line e (q ∷ es) zero r h =
    ⊎_elim
    (λ (v : line < q). absurd (omega (arith, none_below line q es v r.1)))
    (λ (w : q ≤ line). w)
    (cases_lt line q)
entry_passed line e (q ∷ es) (suc k) r h =
    ⊎_elim
    (λ (v : line < q). absurd (omega (arith, none_below line q es v r.1)))
    (λ (w : q ≤ line). entry_passed line q es k r.1 (omega (arith, counted_in line q es w)))
    (cases_lt line q)

-- a question that passes its checks finds the table ready
pub ready : (s : Standing) (table : List ℕ) (first total line : ℕ) → Sound s table → first ≡ s.filed → s.last.total ≤ total → line < total → s.last.line ≤ line → Ready table s.live s.at first total line
ready s table first total line k is grown inside onward =
    let live = s.live in
    let n : length (take live table) ≡ live = length-take-le live table k.room in
    let rises : Rise first (take live table) =
    rise_from first (take live table)
    (λ i l. omega (arith, get_or-take live table i 0 (omega arith), k.past i (omega arith)))
    (λ i j l m. omega (arith, get_or-take live table i 0 (omega arith), get_or-take live table j 0 (omega arith), k.rising i j l (omega arith))) in
    let low : first ≤ line = omega (arith, k.kept.0) in
    let below : last_held first (take live table) < total =
    ⊎_elim
    (λ (v : 0 < live). omega (
      arith,
      ap (λ i. get_or (take live table) (i - 1) (first + 1)) n,
      get_or_default (take live table) (live - 1) (first + 1) 0 (omega arith),
      get_or-take live table (live - 1) 0 (omega arith),
      k.within (live - 1) (omega arith),
    ))
    (λ (w : live ≤ 0). omega (arith, none_held first (take live table) (omega arith)))
    (cases_lt 0 live) in
    record {
      room = k.room;
      held = record { rises = rises; below = below };
      low = low;
      high = inside;
      passed = λ i l. omega (arith, k.passed i l);
      behind = k.behind;
    }

-- ROWS: a later line, over no fewer lines, has no earlier edge
module _ (filed seen last total line : ℕ) (grown : seen ≤ total) (onward : last ≤ line) where
  row_starts : (b : WindowFrameBound) → filed ≤ row_start b seen last → filed ≤ row_start b total line
  row_starts UnboundedPreceding h = h
  row_starts (Preceding n) h = omega arith
  row_starts CurrentRow h = omega arith
  row_starts (Following n) h = omega arith
  row_starts UnboundedFollowing h = omega arith

  row_ends : (b : WindowFrameBound) → filed ≤ row_end b seen last → filed ≤ row_end b total line
  row_ends UnboundedPreceding h = h
  row_ends (Preceding n) h = grind (arith, nat_tests)
  row_ends CurrentRow h = omega arith
  row_ends (Following n) h = omega arith
  row_ends UnboundedFollowing h = omega arith

-- a walk goes onward
walk_onward : (p : ℕ → Bool) (a m : ℕ) → a ≤ walk p a m
walk_onward p a zero = omega arith
walk_onward p a (suc m) =
    let P : Bool → Type 0 = λ b. a ≤ cond b (walk p (a + 1) m) a in
    elim (p a) as P [ true ↦ omega (arith, walk_onward p (a + 1) m) | false ↦ omega arith ]

-- a list of ends that rise past first: an entry begins and stops no earlier
stop_past : (first total : ℕ) (es : List ℕ) (k : ℕ) → Rise first es → first ≤ total → first ≤ get_or es k total
stop_past first total es k r h =
    ⊎_elim
    (λ (l : k < length es). omega (arith, rise_above first total es k r l))
    (λ (g : length es ≤ k). omega (arith, get_or_past es k total g))
    (cases_lt k (length es))

begin_past : (first total : ℕ) (es : List ℕ) (k : ℕ) → Rise first es → first ≤ total → first ≤ get_or (first ∷ es) k total
begin_past first total es zero r h = omega arith
begin_past first total es (suc k) r h = stop_past first total es k r h

pub start_past : (b : WindowFrameBound) (first total : ℕ) (es : List ℕ) (g : ℕ) → Rise first es → first ≤ total → first ≤ start_by b first total es g
start_past UnboundedPreceding first total es g r h = omega arith
start_past (Preceding n) first total es g r h = begin_past first total es (g - n) r h
start_past CurrentRow first total es g r h = begin_past first total es g r h
start_past (Following n) first total es g r h = begin_past first total es (g + n) r h
start_past UnboundedFollowing first total es g r h = h

pub end_past : (b : WindowFrameBound) (first total : ℕ) (es : List ℕ) (g : ℕ) → Rise first es → first ≤ total → first ≤ end_by b first total es g
end_past UnboundedPreceding first total es g r h = omega arith
end_past (Preceding n) first total es g r h =
    let P : Bool → Type 0 = λ c. first ≤ cond c first (stops total es (g - n)) in
    elim (ltb g n) as P [ true ↦ omega arith | false ↦ stop_past first total es (g - n) r h ]
end_past CurrentRow first total es g r h = stop_past first total es g r h
end_past (Following n) first total es g r h = stop_past first total es (g + n) r h
end_past UnboundedFollowing first total es g r h = h

-- the same of walks over lines in order
module _ (o : SortOptions) (first : ℕ) (xs : List Line) (line from : ℕ) (low : first ≤ from) where
  pub start_on : (b : WindowFrameBound) → first ≤ start_from o first xs line from b
  start_on UnboundedPreceding = omega arith
  start_on (Preceding n) = omega (arith, walk_onward (λ j. before o (at_line first xs j) (target o (Preceding n) (at_line first xs line))) from (first + length xs - from))
  start_on CurrentRow = omega (arith, walk_onward (λ j. before o (at_line first xs j) (target o CurrentRow (at_line first xs line))) from (first + length xs - from))
  start_on (Following n) = omega (arith, walk_onward (λ j. before o (at_line first xs j) (target o (Following n) (at_line first xs line))) from (first + length xs - from))
  start_on UnboundedFollowing = omega arith

  pub end_on : (b : WindowFrameBound) → first ≤ end_from o first xs line from b
  end_on UnboundedPreceding = omega arith
  end_on (Preceding n) = omega (arith, walk_onward (λ j. not (before o (target o (Preceding n) (at_line first xs line)) (at_line first xs j))) from (first + length xs - from))
  end_on CurrentRow = omega (arith, walk_onward (λ j. not (before o (target o CurrentRow (at_line first xs line)) (at_line first xs j))) from (first + length xs - from))
  end_on (Following n) = omega (arith, walk_onward (λ j. not (before o (target o (Following n) (at_line first xs line)) (at_line first xs j))) from (first + length xs - from))
  end_on UnboundedFollowing = omega arith

-- a bound reaches an entry of its own at least
reach_own : (b : WindowFrameBound) (es : List ℕ) (g : ℕ) → g < length es → g ≤ reach_by b es g
reach_own b es g h = omega (arith, reach_far b es g h, far_past b g)

-- the entries that a question under GROUPS leaves in the table
module _ {K : Type 0} (rank : K → ℤ) (first : ℕ) (xs : List (Option K)) (table : List ℕ) (live : ℕ) (room : live ≤ length table) (held : Held first (total_of first xs) (take live table)) (line : ℕ) (low : first ≤ line) (high : line < total_of first xs) where
  pub all_rise : Rise first (all_ends rank first xs table live)
  all_rise =
      let p = last_held first (take live table) in
      let n : length (take (live - 1) table) ≡ live - 1 = length-take-le (live - 1) table (omega arith) in
      let m : length (take live table) ≡ live = length-take-le live table room in
      let P : List ℕ → Type 0 = λ es. Rise first es in
      let r : Rise first (take (live - 1) table) = subst P (take-take (live - 1) live table (omega arith)) (rise_take first (live - 1) (take live table) held.rises) in
      rise_append first p (take (live - 1) table) (ends_from rank first xs p) r (ends_rise Line None same_line p (drop (p - first) (ranked rank xs))) (place_low rank first xs table live room held) (λ k l.
      let some : 0 < live = omega arith in
      omega (
        arith,
        is_last table live first (total_of first xs) room held some,
        get_or-take (live - 1) table k 0 (omega arith),
        get_or-take live table k 0 (omega arith),
        get_or-take live table (live - 1) 0 (omega arith),
        rise_strict first (take live table) k (live - 1) held.rises (omega arith) (omega arith),
      ))

  module _ (b e : WindowFrameBound) where
    abbrev count : ℕ
    count = needed b e (all_ends rank first xs table live) live (entry_of (all_ends rank first xs table live) line)

    abbrev after : List ℕ
    after = in_front (take count (all_ends rank first xs table live)) table

    new_get : (k : ℕ) → k < count → get_or after k 0 ≡ get_or (all_ends rank first xs table live) k 0
    new_get k l =
        let G = all_ends rank first xs table live in
        let n : length (take count G) ≡ count = length-take-le count G (there rank first xs table live room held line low high b e) in
        front_get (take count G) table k 0 (omega arith) ∙ get_or-take count G k 0 l

    pub new_past : (k : ℕ) → k < count → first < get_or after k 0
    new_past k l = omega (arith, new_get k l, rise_above first 0 (all_ends rank first xs table live) k all_rise (omega (arith, there rank first xs table live room held line low high b e)))

    pub new_rising : (j k : ℕ) → j < k → k < count → get_or after j 0 < get_or after k 0
    new_rising j k h l = omega (arith, new_get j (omega arith), new_get k l, rise_strict first (all_ends rank first xs table live) j k all_rise h (omega (arith, there rank first xs table live room held line low high b e)))

    own : entry_of (all_ends rank first xs table live) line < count
    own = omega (arith, reach_own b (all_ends rank first xs table live) (entry_of (all_ends rank first xs table live) line) (has rank first xs table live room held line low high))

    pub new_passed : (k : ℕ) → k < entry_of (all_ends rank first xs table live) line → get_or after k 0 ≤ line
    new_passed k l = omega (arith, new_get k (omega (arith, own)), entry_passed line first (all_ends rank first xs table live) k all_rise l)

    pub new_behind : entry_of (all_ends rank first xs table live) line ≤ count - 1
    new_behind = omega (arith, own)

    pub rest_stays : drop count after ≡ drop count table
    rest_stays =
        let G = all_ends rank first xs table live in
        let n : length (take count G) ≡ count = length-take-le count G (there rank first xs table live room held line low high b e) in
        drop_at (take count G) (drop (length (take count G)) table) count n ∙ ap (λ i. drop i table) n

    pub new_room : count ≤ length table → count ≤ length after
    new_room h =
        let G = all_ends rank first xs table live in
        let n : length (take count G) ≡ count = length-take-le count G (there rank first xs table live room held line low high b e) in
        omega (arith, length-append (take count G) (drop (length (take count G)) table))

-- a tracker's numbers after a granted question
abbrev pub moved_to : Standing → ℕ → ℕ → Answered → Standing
moved_to s line total a = record { frame = s.frame; options = s.options; last = record { line = line; start = a.start; end = a.end; total = total }; filed = s.filed; live = a.live; at = a.at }

-- what is kept whatever was found: no edge below the filed count, other entries as they were, and what always holds
pub record Keeps (s : Standing) (table : List ℕ) (line total : ℕ) (a : Answered) (new : List ℕ) : Type 0 where
  pub low : s.filed ≤ a.start
  pub high : s.filed ≤ a.end
  pub rest : drop a.live new ≡ drop a.live table
  pub sound : Sound (moved_to s line total a) new

module _ (s : Standing) (table : List ℕ) (k : Sound s table) (line total : ℕ) (grown : s.last.total ≤ total) (inside : line < total) (onward : s.last.line ≤ line) where
  -- what is filed lies below the edges of a later ROWS window
  rows_past : (framed s.frame).units ≡ Rows → (s.filed ≤ row_start (framed s.frame).start total line) × (s.filed ≤ row_end (framed s.frame).end total line)
  rows_past h =
      let r = k.rowed h in
      (row_starts s.filed s.last.total s.last.line total line grown onward (framed s.frame).start (omega (arith, r.0, k.kept.1)), row_ends s.filed s.last.total s.last.line total line grown onward (framed s.frame).end (omega (arith, r.1, k.kept.2)))

  -- an answer that does not use the table
  keeps_plainly : (start end : ℕ) (a : Answered) (new : List ℕ) → Plainly start end (Ok a) table new → s.filed ≤ start → s.filed ≤ end → ((framed s.frame).units ≡ Rows → (start ≤ row_start (framed s.frame).start total line) × (end ≤ row_end (framed s.frame).end total line)) → Keeps s table line total a new
  keeps_plainly start end a new p lo hi rows =
      let h = p.answer in
      let is : a ≡ record { start = start; end = end; live = 0; at = 0 } = cc in
      let x = ap (λ (x : Answered). x.start) is in
      let y = ap (λ (x : Answered). x.end) is in
      let z = ap (λ (x : Answered). x.live) is in
      let w = ap (λ (x : Answered). x.at) is in
      record {
        low = omega arith;
        high = omega arith;
        rest = ap (drop a.live) p.table;
        sound = record {
          kept = (omega (arith, k.kept.0), omega arith, omega arith);
          shown = omega arith;
          rowed = λ h. let r = rows h in (omega (arith, r.0), omega (arith, r.1));
          room = omega arith;
          past = λ i l. absurd (omega arith);
          within = λ i l. absurd (omega arith);
          rising = λ i j l m. absurd (omega arith);
          passed = λ i l. absurd (omega arith);
          behind = omega arith;
        };
      }

  module _ {K : Type 0} (rank : K → ℤ) (first : ℕ) (xs : List (Option K)) (is : first ≡ s.filed) (total_is : total ≡ total_of first xs) where
    at_ready : Ready table s.live s.at first (total_of first xs) line
    at_ready = ready s table first (total_of first xs) line k is (omega arith) (omega arith) onward

    keeps_groups : (framed s.frame).units ≡ Groups → (a : Answered) (new : List ℕ) → Answers (framed s.frame) first (total_of first xs) (all_ends rank first xs table s.live) s.live line table a new → Keeps s table line total a new
    keeps_groups groups a new p =
        let r = at_ready in
        let b = (framed s.frame).start in
        let e = (framed s.frame).end in
        let G = all_ends rank first xs table s.live in
        let n = needed b e G s.live (entry_of G line) in
        let rise = all_rise rank first xs table s.live r.room r.held line r.low r.high in
        let lo = start_past b first (total_of first xs) G (entry_of G line) rise (omega arith) in
        let hi = end_past e first (total_of first xs) G (entry_of G line) rise (omega arith) in
        let get : (i : ℕ) → get_or new i 0 ≡ get_or (in_front (take n G) table) i 0 = λ i. ap (λ ys. get_or ys i 0) p.table in
        record {
          low = omega (arith, p.start);
          high = omega (arith, p.end);
          rest =
              ap (drop a.live) p.table
              ∙ ap (λ i. drop i (in_front (take n G) table)) p.live
              ∙ rest_stays rank first xs table s.live r.room r.held line r.low r.high b e
              ∙ ap (λ i. drop i table) (sym p.live);
          sound = record {
            kept = (omega (arith, r.low), omega (arith, p.start), omega (arith, p.end));
            shown = omega arith;
            rowed = λ h. let z : ◌≡◌ {A = ℕ} 0 1 = cc in absurd (omega arith);
            room = omega (arith, p.live, ap length p.table, new_room rank first xs table s.live r.room r.held line r.low r.high b e p.fits);
            past = λ i l. omega (arith, get i, new_past rank first xs table s.live r.room r.held line r.low r.high b e i (omega (arith, p.live)));
            within = λ i l. omega (arith, get i, written_small rank first xs table s.live r.room r.held line r.low r.high b e i (omega (arith, p.live)));
            rising = λ i j l m. omega (arith, get i, get j, new_rising rank first xs table s.live r.room r.held line r.low r.high b e i j l (omega (arith, p.live)));
            passed = λ i l. omega (arith, get i, new_passed rank first xs table s.live r.room r.held line r.low r.high b e i (omega (arith, p.at)));
            behind = omega (arith, p.live, p.at, new_behind rank first xs table s.live r.room r.held line r.low r.high b e);
          };
        }

    pub keeps : (u : WindowFrameUnits) → (framed s.frame).units ≡ u → (a : Answered) (new : List ℕ) → Finds u (state s table) first (ranked rank xs) line (Ok a) new → Keeps s table line total a new
    keeps Rows h a new p =
        let t : total ≡ first + length (ranked rank xs) = total_is ∙ all_shown rank first xs in
        let r = rows_past h in
        let b = (framed s.frame).start in
        let e = (framed s.frame).end in
        let x = ap (λ n. row_start b n line) t in
        let y = ap (λ n. row_end e n line) t in
        keeps_plainly _ _ a new p (omega (arith, r.0)) (omega (arith, r.1)) (λ h. (omega arith, omega arith))
    keeps Range h a new p =
        let X = ranked rank xs in
        keeps_plainly _ _ a new p
        (omega (arith, start_on s.options first X line s.last.start (omega (arith, k.kept.1)) (framed s.frame).start))
        (omega (arith, end_on s.options first X line s.last.end (omega (arith, k.kept.2)) (framed s.frame).end))
        (λ rows. let z : ◌≡◌ {A = ℕ} 0 1 = cc in absurd (omega arith))
    keeps Groups h a new p =
        let T : ℕ → Type 0 = λ t. Answers (framed s.frame) first t (all_ends rank first xs table s.live) s.live line table a new in
        keeps_groups h a new (subst T (sym (all_shown rank first xs)) p)
