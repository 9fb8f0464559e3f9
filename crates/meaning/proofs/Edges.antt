-- Edges that are counts of the lines that pass a test, and what follows for any unit.
use Rattle.std.proofs.Common.{◌≡◌, ℕ, ◌+◌, ◌-◌, ◌<◌, ◌≤◌, min, Bool, true, List, length, take, drop, sym, ap, ◌∙◌, arith}
use Rattle.std.proofs.lemmas.List.{length-take, length-take-le, length-drop}
use Rattle.meaning.specs.Counts.{how_many, Front}
use Rattle.meaning.specs.Lines.{Holds}
use Rattle.meaning.specs.Edges.{Edge, Lawful, Monotone, Causal}
use Rattle.meaning.proofs.Counts.{count_same, count_weaker, front_cut, front_rest}

-- how many lines j pass a test of line i
abbrev pub counted : {L : Type 0} → (List L → ℕ → ℕ → Bool) → Edge L
counted test xs i = how_many (test xs i) (length xs)

-- what is asked of the test
pub record Stands {L : Type 0} (F : List L) (test : List L → ℕ → ℕ → Bool) : Type 0 where
  pub in_front : (t i j : ℕ) → i < t → j < t → test (take t F) i j ≡ test F i j
  pub in_rest : (f i j : ℕ) → f ≤ i → test (drop f F) (i - f) j ≡ test F i (f + j)
  pub front : (i : ℕ) → Front (test F i) (length F)
  pub grows : (i k j : ℕ) → i ≤ k → k < length F → test F i j ≡ true → test F k j ≡ true

module _ {L : Type 0} (F : List L) where
  pub by_test : (test : List L → ℕ → ℕ → Bool) → Stands F test → Lawful F (counted test)
  by_test test s = record {
    cut = λ t i v l.
        ap (how_many (test (take t F) i)) (length-take-le t F l)
        ∙ count_same (test (take t F) i) (test F i) t (λ j h. s.in_front t i j v h)
        ∙ front_cut (test F i) (length F) t (s.front i) l;
    rest = λ f i v l.
        ap (how_many (test (drop f F) (i - f))) (length-drop f F)
        ∙ count_same (test (drop f F) (i - f)) (λ j. test F i (f + j)) (length F - f) (λ j h. s.in_rest f i j v)
        ∙ front_rest (test F i) (length F) f (s.front i) (omega arith);
    rises = λ i k h l. count_weaker (test F i) (test F k) (length F) (λ j w. s.grows i k j h l);
  }

  -- the same edge by other words
  pub in_words : (e d : Edge L) → ((xs : List L) (i : ℕ) → e xs i ≡ d xs i) → Lawful F d → Lawful F e
  in_words e d q s = record {
    cut = λ t i v l. q (take t F) i ∙ s.cut t i v l ∙ ap (min t) (sym (q F i));
    rest = λ f i v l. q (drop f F) (i - f) ∙ s.rest f i v l ∙ ap (λ n. n - f) (sym (q F i));
    rises = λ i k h l. omega (arith, q F i, q F k, s.rises i k h l);
  }

  pub none_lawful : Lawful F (λ xs i. 0)
  none_lawful = record { cut = λ t i v l. omega arith; rest = λ f i v l. omega arith; rises = λ i k h l. omega arith }

  pub all_lawful : Lawful F (λ xs i. length xs)
  all_lawful = record { cut = λ t i v l. length-take t F; rest = λ f i v l. length-drop f F; rises = λ i k h l. omega arith }

  pub monotone : (e : Edge L) → Lawful F e → Monotone F e
  monotone e s t u i k h w v z l = omega (arith, s.cut t i v (omega arith), s.cut u k z l, s.rises i k h (omega arith))

  pub causal : (s e : Edge L) (i : ℕ) → Lawful F s → Lawful F e → e F i ≤ i + 1 → Causal F s e i
  causal s e i a b h t v l j =
      let p = a.cut t i v l in
      let q = b.cut t i v l in (
        λ (w : Holds (s (take t F) i) (e (take t F) i) j). record { from = omega arith; below = omega arith },
        λ (w : Holds (s F i) (e F i) j). record { from = omega arith; below = omega arith },
      )
