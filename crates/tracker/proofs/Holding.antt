-- The entries in use, read off the table.
use Rattle.std.proofs.Common.{◌≡◌, ℕ, ◌+◌, ◌-◌, ◌<◌, ◌≤◌, Bool, true, leb, List, map, length, get_or, take, sym, ap, ◌∙◌, ⊎_elim, arith}
use Rattle.std.proofs.lemmas.Bool.{cases_lt, le-leb, leb-true}
use lib.ListN.{length-map}
use Rattle.std.proofs.lemmas.List.{get_or-take, get_or_default, length-take-le}
use Rattle.meaning.specs.Turns.{last_held}
use Rattle.meaning.specs.Counts.{walk, how_many}
use Rattle.meaning.specs.Turns.{turn_ends}
use Rattle.meaning.proofs.Counts.{count_same}
use Rattle.meaning.proofs.Ranges.{count_list}
use Rattle.meaning.proofs.Turns.{turn_rises}
use Rattle.meaning.proofs.Ends.{many_ends}
use Rattle.meaning.proofs.Walking.{walk_counts}
use Rattle.tracker.specs.Walks.{Rise}
use Rattle.tracker.specs.Ends.{Held, entry_of}
use Rattle.tracker.proofs.Rising.{none_below, counted_out, ends_rise, rise_get, rise_long}
use Rattle.tracker.proofs.ByEnds.{is_entry}
use Rattle.tracker.proofs.Telling.{rise_last, none_held}

module _ (table : List ℕ) (live first total : ℕ) (room : live ≤ length table) (held : Held first total (take live table)) where
  pub none_in_use : live ≡ 0 → last_held first (take live table) ≡ first
  none_in_use h = none_held first (take live table) (length-take-le live table room ∙ h)

  module _ (some : 0 < live) where
    last_read : (d : ℕ) → get_or (take live table) (length (take live table) - 1) d ≡ get_or table (live - 1) 0
    last_read d =
        let n : length (take live table) ≡ live = length-take-le live table room in
        ap (λ k. get_or (take live table) (k - 1) d) n
        ∙ get_or_default (take live table) (live - 1) d 0 (omega arith)
        ∙ get_or-take live table (live - 1) 0 (omega arith)

    pub is_last : last_held first (take live table) ≡ get_or table (live - 1) 0 - 1
    is_last = ap (λ e. e - 1) (last_read (first + 1))

    pub above_first : first < get_or table (live - 1) 0
    above_first =
        let n : length (take live table) ≡ live = length-take-le live table room in
        omega (arith, last_read (first + 1), rise_last first (first + 1) (take live table) held.rises (omega arith))

    pub long_enough : live - 1 ≤ last_held first (take live table)
    long_enough =
        let n : length (take live table) ≡ live = length-take-le live table room in
        omega (arith, rise_long first (first + 1) (take live table) held.rises (omega arith))

-- a line below the last end has an entry
pub has_entry : {L : Type 0} (none : L) (same : L → L → Bool) (p : ℕ) (xs : List L) (line : ℕ) → line < p + length xs → 0 < length xs → entry_of (map (λ k. p + k) (turn_ends none same xs)) line < length (map (λ k. p + k) (turn_ends none same xs))
has_entry {L} none same p xs line high some =
    let es = map (λ k. p + k) (turn_ends none same xs) in
    let n : length es ≡ length (turn_ends none same xs) = length-map (turn_ends none same xs) (λ k. p + k) in
    let m = many_ends none same xs (length xs - 1) (omega arith) in
    ⊎_elim
    (λ (v : line < p). omega (arith, none_below line p es v (ends_rise L none same p xs), counted_out line p es v))
    (λ (u : p ≤ line). omega (arith, is_entry none same p xs line u high, turn_rises none same xs (line - p) (length xs - 1) (omega arith)))
    (cases_lt line p)

-- a walk over entries that rise, from one that no entry past the line stands before, ends at the line's
pub walk_entry : (table : List ℕ) (first j at line : ℕ) → j ≤ length table → Rise first (take j table) → at ≤ j → ((k : ℕ) → k < at → get_or table k 0 ≤ line) → walk (λ k. leb (get_or table k 0) line) at (j - at) ≡ entry_of (take j table) line
walk_entry table first j at line room r h before =
    let p : ℕ → Bool = λ k. leb (get_or table k 0) line in
    let n : length (take j table) ≡ j = length-take-le j table room in
    let same : how_many (λ k. leb (get_or (take j table) k 0) line) j ≡ how_many p j = count_same _ p j (λ k l. ap (λ e. leb e line) (get_or-take j table k 0 l)) in
    let front : (i k : ℕ) → i ≤ k → k < j → p k ≡ true → p i ≡ true = λ i k v l y.
    le-leb _ _ (omega (arith, rise_get first 0 (take j table) i k r v (omega arith), get_or-take j table i 0 (omega arith), get_or-take j table k 0 l, leb-true _ _ y)) in
    walk_counts p j at front h (λ k l. le-leb _ _ (before k l))
    ∙ sym same
    ∙ ap (how_many (λ k. leb (get_or (take j table) k 0) line)) (sym n)
    ∙ sym (count_list (λ e. leb e line) 0 (take j table))
