-- The entry of a line's turn, found by a walk over a view.
use Rattle.std.proofs.Common.{◌≡◌, ℕ, ◌+◌, ◌-◌, ◌<◌, ◌≤◌, min, max, List, ◌++◌, length, take, drop, ℤ, None, Option, sym, ap, ◌∙◌, subst, ⊎_elim, arith}
use lib.ListN.{length-map}
use Rattle.std.proofs.lemmas.Bool.{cases_lt}
use Rattle.std.proofs.lemmas.List.{length-append, length-take-le, length-drop, take-take}
use Rattle.meaning.specs.Lines.{Line, ranked}
use Rattle.frame.specs.declared.bound.WindowFrameBound.{WindowFrameBound}
use Rattle.meaning.specs.Turns.{parts, turn_ends, last_held}
use Rattle.meaning.proofs.Counts.{count_le}
use Rattle.meaning.proofs.Ends.{many_ends}
use Rattle.meaning.specs.Clause.{same_line}
use Rattle.search.specs.Views.{total_of}
use Rattle.search.proofs.Seeking.{ranked_length}
use Rattle.tracker.specs.Walks.{ends_from, walked}
use Rattle.tracker.specs.Ends.{Held, entry_of, far, needed}
use Rattle.tracker.proofs.Rising.{ends_rise}
use Rattle.tracker.proofs.Telling.{told, both, at_most, told_past, told_held, told_entry, asked, is_needed, wants}
use Rattle.tracker.proofs.Holding.{none_in_use, is_last, above_first, long_enough, has_entry}

module _ {K : Type 0} (rank : K → ℤ) (first : ℕ) (xs : List (Option K)) (table : List ℕ) (live : ℕ) (room : live ≤ length table) (held : Held first (total_of first xs) (take live table)) where
  abbrev pub place : ℕ
  place = last_held first (take live table)

  abbrev pub past : List ℕ
  past = ends_from rank first xs (last_held first (take live table))

  pub place_low : first ≤ last_held first (take live table)
  place_low =
      ⊎_elim
      (λ (some : 0 < live). omega (arith, is_last table live first (total_of first xs) room held some, above_first table live first (total_of first xs) room held some))
      (λ (none : live ≤ 0). omega (arith, none_in_use table live first (total_of first xs) room held (omega arith)))
      (cases_lt 0 live)

  pub place_long : live - 1 ≤ last_held first (take live table)
  place_long =
      ⊎_elim
      (λ (some : 0 < live). long_enough table live first (total_of first xs) room held some)
      (λ (none : live ≤ 0). omega arith)
      (cases_lt 0 live)

  module _ (line : ℕ) (low : first ≤ line) (high : line < total_of first xs) where
    pub few : entry_of past line < length past
    few =
        let X = ranked rank xs in
        let n : length X ≡ length xs = ranked_length rank xs in
        let b = held.below in
        let l = place_low in
        let d : length (drop (place - first) X) ≡ length X - (place - first) = length-drop (place - first) X in
        has_entry None same_line place (drop (place - first) X) line (omega arith) (omega arith)

    tells : told line (take live table) (walked line live past (live - 1) place).0 ≡ entry_of (take (live - 1) table ++ past) line
    tells =
        let es = take live table in
        let n : length es ≡ live = length-take-le live table room in
        let P : ℕ → Type 0 = λ k. told line es (walked line k past (k - 1) place).0 ≡ entry_of (take (k - 1) es ++ past) line in
        subst P n (told_entry line first es past low held.rises (ends_rise Line None same_line place (drop (place - first) (ranked rank xs))) few)
        ∙ ap (λ ys. entry_of (ys ++ past) line) (take-take (live - 1) live table (omega arith))

    pub below_all : entry_of (take (live - 1) table ++ past) line < length (take (live - 1) table ++ past)
    below_all =
        let j = live - 1 in
        let n : length (take j table) ≡ j = length-take-le j table (omega arith) in
        omega (arith, both line (take j table) past, few, length-append (take j table) past, at_most line (take j table))

    pub found_past : live < (walked line live past (live - 1) place).0 → (walked line live past (live - 1) place).0 - 1 ≡ entry_of (take (live - 1) table ++ past) line
    found_past h =
        let n : length (take live table) ≡ live = length-take-le live table room in
        sym (told_past line (take live table) (walked line live past (live - 1) place).0 (omega arith)) ∙ tells

    pub found_held : (walked line live past (live - 1) place).0 ≤ live → entry_of (take (live - 1) table) line ≡ entry_of (take (live - 1) table ++ past) line
    found_held h =
        let es = take live table in
        let n : length es ≡ live = length-take-le live table room in
        let t : take (length es - 1) es ≡ take (live - 1) table = ap (λ k. take (k - 1) es) n ∙ take-take (live - 1) live table (omega arith) in
        sym (told_held line es (walked line live past (live - 1) place).0 (omega arith) ∙ ap (λ ys. entry_of ys line) t) ∙ tells

    -- how many ends there are with those past the entries in use
    pub all_ends : length (take (live - 1) table ++ past) ≡ live - 1 + length past
    all_ends = length-append (take (live - 1) table) past ∙ ap (λ n. n + length past) (length-take-le (live - 1) table (omega arith))

    pub most : live - 1 + length past ≤ total_of first xs
    most =
        let X = ranked rank xs in
        let n : length X ≡ length xs = ranked_length rank xs in
        let b = held.below in
        let l = place_low in
        let Y = drop (place - first) X in
        let d : length Y ≡ length X - (place - first) = length-drop (place - first) X in
        let m : length past ≡ length (turn_ends None same_line Y) = length-map (turn_ends None same_line Y) (λ k. place + k) in
        omega (arith, place_long, many_ends None same_line Y (length Y - 1) (omega arith), count_le (parts None same_line Y) (length Y - 1))

    pub needs : (b e : WindowFrameBound) (g big : ℕ) → total_of first xs < big → g ≡ entry_of (take (live - 1) table ++ past) line → (walked line (max (max live (min (far b g) big)) (min (far e g) big)) past (live - 1) place).0 ≡ needed b e (take (live - 1) table ++ past) live g
    needs b e g big fits is =
        let es = take live table in
        let n : length es ≡ live = length-take-le live table room in
        let t : take (live - 1) es ≡ take (live - 1) table = take-take (live - 1) live table (omega arith) in
        let G = take (live - 1) table ++ past in
        let want = max (max live (min (far b g) big)) (min (far e g) big) in
        let f = few in
        let a = all_ends in
        let m = most in
        let c : entry_of G line < length G = omega (arith, below_all) in
        let P : ℕ → Type 0 = λ k. k ≤ want → entry_of (take (k - 1) es ++ past) line < want → (walked line want past (k - 1) place).0 ≡ min (length (take (k - 1) es ++ past)) want in
        let w = subst P n (asked line first es past low held.rises (ends_rise Line None same_line place (drop (place - first) (ranked rank xs))) want) in
        let up : g < want = wants b e live g big (omega arith) in
        let same : entry_of (take (live - 1) es ++ past) line ≡ g = ap (λ ys. entry_of (ys ++ past) line) t ∙ sym is in
        w (omega arith) (omega arith)
        ∙ ap (λ ys. min (length (ys ++ past)) want) t
        ∙ is_needed b e G live g big (omega arith) (omega arith) (omega arith)

-- the walk from where the entries in use end
pub from_place : {K : Type 0} (rank : K → ℤ) (first : ℕ) (xs : List (Option K)) (line live k e j p : ℕ) → k ≡ j → e ≡ p → walked line live (ends_from rank first xs e) k e ≡ walked line live (ends_from rank first xs p) j p
from_place rank first xs line live k e j p h l = ap (λ i. walked line live (ends_from rank first xs e) i e) h ∙ ap (λ i. walked line live (ends_from rank first xs i) j i) l
