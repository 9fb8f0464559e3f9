-- Walks over the ends of turns.
use Rattle.std.specs.Prelude.{◌≡◌, ℕ, ◌+◌, ◌-◌, ◌<◌, min, max, Bool, cond, ◌||◌, leb, List, [], ◌∷◌, ◌++◌, map, length, take, drop, ℤ, None, count_by, Option, nat_le, nat_lt, slice_index_or}
use Rattle.std.specs.Coded.{×_prop, Unit-prop, le_prop}
use Rattle.meaning.specs.Lines.{ranked}
use Rattle.meaning.specs.Turns.{turn_ends, last_held}
use Rattle.meaning.specs.Clause.{same_line}

-- the ends of the lines from line p on, of a view from line first on
abbrev pub ends_from : {K : Type 0} → (K → ℤ) → ℕ → List (Option K) → ℕ → List ℕ
ends_from rank first xs p = map (λ k. p + k) (turn_ends None same_line (drop (p - first) (ranked rank xs)))

-- all turn ends that the entries in use and a view's lines give: the last turn of the table may have gone on
abbrev pub all_ends : {K : Type 0} → (K → ℤ) → ℕ → List (Option K) → List ℕ → ℕ → List ℕ
all_ends rank first xs table live = take (live - 1) table ++ ends_from rank first xs (last_held first (take live table))

-- line is not yet passed, or there are not yet so many entries
abbrev pub goes : ℕ → ℕ → ℕ → ℕ → Bool
goes line entries k e = nat_le e line || nat_lt k entries

-- from k entries of which the last is e, over these further ends
abbrev pub walked : ℕ → ℕ → List ℕ → ℕ → ℕ → ℕ × ℕ
walked line entries [] k e = (k, e)
walked line entries (q ∷ es) k e = cond (goes line entries k e) (walked line entries es (k + 1) q) (k, e)

-- each number is below the next
abbrev pub Rise : ℕ → List ℕ → Type 0
Rise e [] = Unit {0}
Rise e (q ∷ es) = (e < q) × Rise q es

pub rise_prop : (e : ℕ) (es : List ℕ) → IsProp (Rise e es)
rise_prop e [] = Unit-prop
rise_prop e (q ∷ es) = ×_prop le_prop (rise_prop q es)

-- the ends of the lines from line p on rise
abbrev pub EndsRise : Type 0 → Type 0
EndsRise L = (none : L) (same : L → L → Bool) (p : ℕ) (xs : List L) → Rise p (map (λ k. p + k) (turn_ends none same xs))

-- over ends that rise, a walk passes as many as lie at or below the line, and as many more as are asked for, as long as there are any
abbrev pub WalkedCounts : Type 0
WalkedCounts = (line entries k e : ℕ) (es : List ℕ) → Rise e es → let m : ℕ = min (length es) (max (count_by (λ x. leb x line) (e ∷ es)) (entries - k)) in walked line entries es k e ≡ (k + m, slice_index_or (e ∷ es) m e)
