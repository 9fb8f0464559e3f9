-- Entries in use, as a list of their own.
use Rattle.std.proofs.Common.{◌≡◌, ℕ, ◌-◌, ◌<◌, ◌≤◌, min, max, List, ◌++◌, length, get_or, take, ℤ, Option, sym, ap, ◌∙◌, subst, arith}
use Rattle.std.proofs.lemmas.List.{take_all, take-take, length-take-le}
use Rattle.frame.specs.declared.bound.WindowFrameBound.{WindowFrameBound}
use Rattle.meaning.specs.Turns.{last_held}
use Rattle.search.specs.Views.{total_of}
use Rattle.tracker.specs.Walks.{Rise, ends_from, all_ends, walked}
use Rattle.tracker.specs.Ends.{Held, entry_of, far, needed}
use Rattle.tracker.proofs.Finding.{needs, found_past, found_held, from_place}
use Rattle.tracker.proofs.Holding.{is_last, above_first, long_enough}

module _ (first total : ℕ) (used : List ℕ) (rises : Rise first used) (below : last_held first used < total) where
  whole : take (length used) used ≡ used
  whole = take_all (length used) used (omega arith)

  pub room : length used ≤ length used
  room = omega arith

  pub held : Held first total (take (length used) used)
  held = subst (Held first total) (sym whole) (record { rises = rises; below = below })

  pub last_whole : last_held first (take (length used) used) ≡ last_held first used
  last_whole = ap (last_held first) whole

  pub past_first : 0 < length used → first < get_or used (length used - 1) 0
  past_first some = above_first used (length used) first total room held some

  pub last_is : 0 < length used → last_held first used ≡ get_or used (length used - 1) 0 - 1
  last_is some = sym last_whole ∙ is_last used (length used) first total room held some

  -- as many lines stand before the last line held as there are entries before the last
  pub few : 0 < length used → length used - 1 ≤ last_held first used
  few some =
      let low = long_enough used (length used) first total room held some in
      omega (arith, last_whole)

-- a line that a view shows, over the entries in use
module _ {K : Type 0} (rank : K → ℤ) (first : ℕ) (xs : List (Option K)) (used : List ℕ) (rises : Rise first used) (below : last_held first used < total_of first xs) (line : ℕ) (low : first ≤ line) (high : line < total_of first xs) where
  abbrev pub live : ℕ
  live = length used

  abbrev pub G : List ℕ
  G = all_ends rank first xs used (length used)

  here : Held first (total_of first xs) (take (length used) used)
  here = held first (total_of first xs) used rises below

  long : length used ≤ length used
  long = room first (total_of first xs) used rises below

  same_place : last_held first (take (length used) used) ≡ last_held first used
  same_place = last_whole first (total_of first xs) used rises below

  -- how far a walk for so many entries comes
  abbrev pub comes : ℕ → ℕ → ℕ
  comes want p = (walked line want (ends_from rank first xs p) (length used - 1) p).0

  pub came : (want : ℕ) (r : ℕ × ℕ) (k e : ℕ) → r ≡ walked line want (ends_from rank first xs e) k e → k ≡ length used - 1 → e ≡ last_held first used → r.0 ≡ comes want (last_held first used)
  came want r k e w h l = ap (λ t. t.0) (w ∙ from_place rank first xs line want k e (length used - 1) (last_held first used) h l)

  pub needs_used : (b e : WindowFrameBound) (g big : ℕ) → total_of first xs < big → g ≡ entry_of G line → comes (max (max (length used) (min (far b g) big)) (min (far e g) big)) (last_held first used) ≡ needed b e G (length used) g
  needs_used b e g big fits is =
      subst (λ p. comes (max (max (length used) (min (far b g) big)) (min (far e g) big)) p ≡ needed b e G (length used) g) same_place
      (needs rank first xs used (length used) long here line low high b e g big fits is)

  pub past_used : length used < comes (length used) (last_held first used) → comes (length used) (last_held first used) - 1 ≡ entry_of G line
  past_used =
      subst (λ p. length used < comes (length used) p → comes (length used) p - 1 ≡ entry_of G line) same_place
      (found_past rank first xs used (length used) long here line low high)

  pub held_used : comes (length used) (last_held first used) ≤ length used → entry_of (take (length used - 1) used) line ≡ entry_of G line
  held_used =
      subst (λ p. comes (length used) p ≤ length used → entry_of (take (length used - 1) used) line ≡ entry_of G line) same_place
      (found_held rank first xs used (length used) long here line low high)

-- entries in use and a view's lines give the same ends as the table that they stand in front of
pub of_front : {K : Type 0} (rank : K → ℤ) (first : ℕ) (xs : List (Option K)) (table : List ℕ) (live : ℕ) → live ≤ length table → all_ends rank first xs (take live table) (length (take live table)) ≡ all_ends rank first xs table live
of_front rank first xs table live room =
    let n : length (take live table) ≡ live = length-take-le live table room in
    let front : take (live - 1) (take live table) ≡ take (live - 1) table = take-take (live - 1) live table (omega arith) in
    let all : take live (take live table) ≡ take live table = take-take live live table (omega arith) in
    ap (all_ends rank first xs (take live table)) n
    ∙ ap (λ ys. ys ++ ends_from rank first xs (last_held first (take live (take live table)))) front
    ∙ ap (λ ys. take (live - 1) table ++ ends_from rank first xs (last_held first ys)) all

-- a question's line and its entries needed, by all ends
module _ {K : Type 0} (rank : K → ℤ) (first : ℕ) (xs : List (Option K)) (table : List ℕ) (live line : ℕ) (room : live ≤ length table) where
  pub entry_is : (g : ℕ) → g ≡ entry_of (all_ends rank first xs (take live table) (length (take live table))) line → g ≡ entry_of (all_ends rank first xs table live) line
  entry_is g e = e ∙ ap (λ es. entry_of es line) (of_front rank first xs table live room)

  pub needed_is : (b e : WindowFrameBound) (n g : ℕ) → n ≡ needed b e (all_ends rank first xs (take live table) (length (take live table))) (length (take live table)) g → g ≡ entry_of (all_ends rank first xs table live) line → n ≡ needed b e (all_ends rank first xs table live) live (entry_of (all_ends rank first xs table live) line)
  needed_is b e n g h i =
      h
      ∙ ap (λ es. needed b e es (length (take live table)) g) (of_front rank first xs table live room)
      ∙ ap (λ k. needed b e (all_ends rank first xs table live) k g) (length-take-le live table room)
      ∙ ap (needed b e (all_ends rank first xs table live) live) i
