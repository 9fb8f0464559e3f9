-- What a question under GROUPS needs, writes and reads.
use Rattle.std.proofs.Common.{◌≡◌, ℕ, ◌+◌, ◌-◌, ◌<◌, ◌≤◌, List, ◌++◌, length, get_or, take, drop, ℤ, None, Option, ap, ◌∙◌, ⊎_elim, arith}
use Rattle.std.specs.List.{range_with_len, AllByRecursion}
use Rattle.std.proofs.lemmas.Bool.{cases_lt}
use Rattle.std.proofs.ByRecursion.{All-get_or, all_kept_by, All-map, All-weaker}
use Rattle.std.proofs.lemmas.List.{get_or_append_left, get_or-append_right, get_or-take, length-drop, length-take-le, take_at}
use Rattle.frame.specs.declared.bound.WindowFrameBound.{WindowFrameBound}
use Rattle.meaning.specs.Lines.{ranked}
use Rattle.meaning.specs.Turns.{is_end, turn_ends, last_held}
use Rattle.meaning.specs.Clause.{same_line}
use Rattle.meaning.proofs.Table.{counted_all}
use Rattle.search.specs.Views.{total_of}
use Rattle.search.proofs.Seeking.{ranked_length}
use Rattle.sitting.specs.Tables.{in_front}
use Rattle.tracker.specs.Walks.{ends_from, all_ends}
use Rattle.tracker.specs.Ends.{Held, entry_of, start_by, end_by, needed}
use Rattle.tracker.proofs.Rising.{rise_get}
use Rattle.tracker.proofs.Holding.{is_last}
use Rattle.tracker.proofs.Enough.{enough}
use Rattle.tracker.proofs.Finding.{place_low, few, most, below_all}
use Rattle.tracker.proofs.Finding as finding

-- what stands in front of a list
pub front_is : (ys xs : List ℕ) (n : ℕ) → length ys ≡ n → take n (in_front ys xs) ≡ ys
front_is ys xs n h = take_at ys (drop (length ys) xs) n h

pub front_get : (ys xs : List ℕ) (j d : ℕ) → j < length ys → get_or (in_front ys xs) j d ≡ get_or ys j d
front_get ys xs j d h = get_or_append_left ys (drop (length ys) xs) d j h

module _ {K : Type 0} (rank : K → ℤ) (first : ℕ) (xs : List (Option K)) (table : List ℕ) (live : ℕ) (room : live ≤ length table) (held : Held first (total_of first xs) (take live table)) (line : ℕ) (low : first ≤ line) (high : line < total_of first xs) where
  pub many : length (all_ends rank first xs table live) ≡ live - 1 + length (ends_from rank first xs (last_held first (take live table)))
  many = finding.all_ends rank first xs table live room held line low high

  pub not_more : length (all_ends rank first xs table live) ≤ total_of first xs
  not_more = omega (arith, many, most rank first xs table live room held line low high)

  pub in_use : live ≤ length (all_ends rank first xs table live)
  in_use = omega (arith, many, few rank first xs table live room held line low high)

  pub has : entry_of (all_ends rank first xs table live) line < length (all_ends rank first xs table live)
  has = below_all rank first xs table live room held line low high

  past_small : AllByRecursion (λ e. e ≤ total_of first xs) (ends_from rank first xs (last_held first (take live table)))
  past_small =
      let p = last_held first (take live table) in
      let X = ranked rank xs in
      let Y = drop (p - first) X in
      let n : length X ≡ length xs = ranked_length rank xs in
      let d : length Y ≡ length X - (p - first) = length-drop (p - first) X in
      let l = place_low rank first xs table live room held in
      let b = held.below in
      let Q : ℕ → Type 0 = λ e. (1 ≤ e) × (e < 1 + length Y) in
      All-map (λ e. e ≤ total_of first xs) (λ k. p + k) (turn_ends None same_line Y)
      (All-weaker Q (λ e. p + e ≤ total_of first xs) (λ e h. omega (arith, h.1)) (turn_ends None same_line Y)
      (all_kept_by (is_end None same_line Y) Q (range_with_len 1 (length Y)) (counted_all 1 (length Y))))

  pub each_small : (j : ℕ) → j < length (all_ends rank first xs table live) → get_or (all_ends rank first xs table live) j 0 ≤ total_of first xs
  each_small j h =
      let A = take (live - 1) table in
      let P = ends_from rank first xs (last_held first (take live table)) in
      let n : length A ≡ live - 1 = length-take-le (live - 1) table (omega arith) in
      let m : length (take live table) ≡ live = length-take-le live table room in
      ⊎_elim
      (λ (l : j < live - 1).
      let some : 0 < live = omega arith in
      omega (
        arith,
        get_or_append_left A P 0 j (omega arith),
        get_or-take (live - 1) table j 0 l,
        get_or-take live table j 0 (omega arith),
        get_or-take live table (live - 1) 0 (omega arith),
        rise_get first 0 (take live table) j (live - 1) held.rises (omega arith) (omega arith),
        is_last table live first (total_of first xs) room held some,
        held.below,
      ))
      (λ (r : live - 1 ≤ j).
      omega (arith, get_or-append_right A P (live - 1) j 0 n r, All-get_or (λ e. e ≤ total_of first xs) P (j - (live - 1)) 0 (omega (arith, many)) past_small))
      (cases_lt j (live - 1))

  -- with bounds b and e
  module _ (b e : WindowFrameBound) where
    abbrev pub n : ℕ
    n = needed b e (all_ends rank first xs table live) live (entry_of (all_ends rank first xs table live) line)

    pub there : n ≤ length (all_ends rank first xs table live)
    there = (enough b e first (total_of first xs) (all_ends rank first xs table live) live (entry_of (all_ends rank first xs table live) line) has in_use).0

    pub no_fewer : live ≤ n
    no_fewer = omega arith

    pub front_long : length (take n (all_ends rank first xs table live)) ≡ n
    front_long = length-take-le n (all_ends rank first xs table live) there

    pub written_small : (j : ℕ) → j < n → get_or (in_front (take n (all_ends rank first xs table live)) table) j 0 ≤ total_of first xs
    written_small j h =
        let G = all_ends rank first xs table live in
        let long = front_long in
        let t = there in
        omega (arith, front_get (take n G) table j 0 (omega arith), get_or-take n G j 0 h, each_small j (omega arith))

    pub start_read : start_by b first (total_of first xs) (take n (in_front (take n (all_ends rank first xs table live)) table)) (entry_of (all_ends rank first xs table live) line) ≡ start_by b first (total_of first xs) (all_ends rank first xs table live) (entry_of (all_ends rank first xs table live) line)
    start_read =
        let G = all_ends rank first xs table live in
        let g = entry_of G line in
        ap (λ ys. start_by b first (total_of first xs) ys g) (front_is (take n G) table n front_long) ∙ (enough b e first (total_of first xs) G live g has in_use).1

    pub end_read : end_by e first (total_of first xs) (take n (in_front (take n (all_ends rank first xs table live)) table)) (entry_of (all_ends rank first xs table live) line) ≡ end_by e first (total_of first xs) (all_ends rank first xs table live) (entry_of (all_ends rank first xs table live) line)
    end_read =
        let G = all_ends rank first xs table live in
        let g = entry_of G line in
        ap (λ ys. end_by e first (total_of first xs) ys g) (front_is (take n G) table n front_long) ∙ (enough b e first (total_of first xs) G live g has in_use).2

-- the same by equal numbers
pub as_written : {K : Type 0} (rank : K → ℤ) (first : ℕ) (xs : List (Option K)) (table : List ℕ) (live k n j p : ℕ) → k ≡ n → j ≡ live - 1 → p ≡ last_held first (take live table) → in_front (take k (take j table ++ ends_from rank first xs p)) table ≡ in_front (take n (all_ends rank first xs table live)) table
as_written rank first xs table live k n j p h i l =
    ap (λ m. in_front (take m (take j table ++ ends_from rank first xs p)) table) h
    ∙ ap (λ m. in_front (take n (take m table ++ ends_from rank first xs p)) table) i
    ∙ ap (λ m. in_front (take n (take (live - 1) table ++ ends_from rank first xs m)) table) l

pub as_read : (edge : WindowFrameBound → ℕ → ℕ → List ℕ → ℕ → ℕ) (b b2 : WindowFrameBound) (f f2 t t2 k k2 : ℕ) (xs xs2 : List ℕ) (g g2 : ℕ) → b ≡ b2 → f ≡ f2 → t ≡ t2 → k ≡ k2 → xs ≡ xs2 → g ≡ g2 → edge b f t (take k xs) g ≡ edge b2 f2 t2 (take k2 xs2) g2
as_read edge b b2 f f2 t t2 k k2 xs xs2 g g2 hb hf ht hk hx hg =
    ap (λ x. edge x f t (take k xs) g) hb
    ∙ ap (λ x. edge b2 x t (take k xs) g) hf
    ∙ ap (λ x. edge b2 f2 x (take k xs) g) ht
    ∙ ap (λ x. edge b2 f2 t2 (take x xs) g) hk
    ∙ ap (λ x. edge b2 f2 t2 (take k2 x) g) hx
    ∙ ap (λ x. edge b2 f2 t2 (take k2 xs2) x) hg
