-- Counts of numbers that pass a test.
use Rattle.std.proofs.Common.{◌≡◌, ℕ, zero, suc, ◌+◌, ◌-◌, ◌<◌, ◌≤◌, min, Bool, true, false, ltb, sym, refl, ◌∙◌, ⊎_elim, arith}
use Rattle.std.proofs.lemmas.Bool.{cases_Bool, cases_lt, lt-ltb, le-ltb}
use Rattle.meaning.specs.Counts.{how_many, Front}

pub count_yes : (p : ℕ → Bool) (n : ℕ) → p n ≡ true → how_many p (suc n) ≡ how_many p n + 1
count_yes p n h = simp h

pub count_no : (p : ℕ → Bool) (n : ℕ) → p n ≡ false → how_many p (suc n) ≡ how_many p n
count_no p n h = simp h (omega arith)

-- no more than there are
pub count_le : (p : ℕ → Bool) (n : ℕ) → how_many p n ≤ n
count_le p zero = omega arith
count_le p (suc n) =
    let i = count_le p n in
    ⊎_elim (λ (h : p n ≡ true). omega (arith, count_yes p n h)) (λ (h : p n ≡ false). omega (arith, count_no p n h)) (cases_Bool (p n))

-- over more numbers
pub count_longer : (p : ℕ → Bool) (m n : ℕ) → m ≤ n → how_many p m ≤ how_many p n
count_longer p m zero h = let e : m ≡ 0 = omega arith in rw e (omega arith)
count_longer p m (suc n) h =
    ⊎_elim
    (λ (l : m < suc n). let i = count_longer p m n (omega arith) in omega arith)
    (λ (g : suc n ≤ m). let e : m ≡ suc n = omega arith in rw e (omega arith))
    (cases_lt m (suc n))

-- by a weaker test
pub count_weaker : (p q : ℕ → Bool) (n : ℕ) → ((j : ℕ) → j < n → p j ≡ true → q j ≡ true) → how_many p n ≤ how_many q n
count_weaker p q zero f = omega arith
count_weaker p q (suc n) f =
    let i = count_weaker p q n (λ j l. f j (omega arith)) in
    ⊎_elim
    (λ (h : p n ≡ true). omega (arith, count_yes p n h, count_yes q n (f n (omega arith) h)))
    (λ (h : p n ≡ false). omega (arith, count_no p n h))
    (cases_Bool (p n))

-- by tests that agree
pub count_same : (p q : ℕ → Bool) (n : ℕ) → ((j : ℕ) → j < n → p j ≡ q j) → how_many p n ≡ how_many q n
count_same p q zero f = refl
count_same p q (suc n) f =
    let i = count_same p q n (λ j l. f j (omega arith)) in
    let e = f n (omega arith) in
    rw (i, e)

-- where all pass
pub count_all : (p : ℕ → Bool) (n : ℕ) → ((j : ℕ) → j < n → p j ≡ true) → how_many p n ≡ n
count_all p zero f = refl
count_all p (suc n) f =
    let i = count_all p n (λ j l. f j (omega arith)) in
    omega (arith, count_yes p n (f n (omega arith)))

-- where none passes
pub count_none : (p : ℕ → Bool) (n : ℕ) → ((j : ℕ) → j < n → p j ≡ false) → how_many p n ≡ 0
count_none p zero f = refl
count_none p (suc n) f =
    let i = count_none p n (λ j l. f j (omega arith)) in
    omega (arith, count_no p n (f n (omega arith)))

-- the one lemma: a front, cut at t
pub front_cut : (p : ℕ → Bool) (n t : ℕ) → Front p n → t ≤ n → how_many p t ≡ min t (how_many p n)
front_cut p zero t f h = let e : t ≡ 0 = omega arith in rw e (omega arith)
front_cut p (suc n) t f h =
    ⊎_elim
    (λ (l : t < suc n).
    let i = front_cut p n t (λ j k w v. f j k w (omega arith)) (omega arith) in
    ⊎_elim
    (λ (y : p n ≡ true).
    let a = count_all p n (λ j w. f j n (omega arith) (omega arith) y) in
    omega (arith, count_yes p n y))
    (λ (z : p n ≡ false). omega (arith, count_no p n z))
    (cases_Bool (p n)))
    (λ (g : suc n ≤ t). let e : t ≡ suc n = omega arith in rw e (omega (arith, count_le p (suc n))))
    (cases_lt t (suc n))

-- what passes stands before the count, and what fails does not
pub passes_before : (p : ℕ → Bool) (n k : ℕ) → Front p n → k < n → p k ≡ true → k < how_many p n
passes_before p n k f h y =
    let a = count_all p k (λ j w. f j k (omega arith) h y) in
    omega (arith, front_cut p n (suc k) f (omega arith), count_yes p k y)

pub fails_past : (p : ℕ → Bool) (n k : ℕ) → Front p n → k < n → p k ≡ false → how_many p n ≤ k
fails_past p n k f h z = omega (arith, front_cut p n (suc k) f (omega arith), count_no p k z, count_le p k)

-- the count is the first number that fails
pub front_first : (p : ℕ → Bool) (n k : ℕ) → Front p n → k < n → p k ≡ ltb k (how_many p n)
front_first p n k f h =
    ⊎_elim
    (λ (y : p k ≡ true). y ∙ sym (lt-ltb _ _ (passes_before p n k f h y)))
    (λ (z : p k ≡ false). z ∙ sym (le-ltb _ _ (fails_past p n k f h z)))
    (cases_Bool (p k))

-- over two stretches
pub count_split : (p : ℕ → Bool) (f m : ℕ) → how_many p (f + m) ≡ how_many p f + how_many (λ j. p (f + j)) m
count_split p f zero = let e : f + 0 ≡ f = omega arith in rw e (omega arith)
count_split p f (suc m) =
    let i = count_split p f m in
    let e : f + suc m ≡ suc (f + m) = omega arith in
    rw e (omega arith)

-- the one lemma's other half: a front, from f on
pub front_rest : (p : ℕ → Bool) (n f : ℕ) → Front p n → f ≤ n → how_many (λ j. p (f + j)) (n - f) ≡ how_many p n - f
front_rest p n f h l =
    let e : f + (n - f) ≡ n = omega arith in
    let s : how_many p n ≡ how_many p f + how_many (λ j. p (f + j)) (n - f) = rw e at (count_split p f (n - f)) in
    omega (arith, front_cut p n f h l)

-- for a loop: all before k pass, and k is the last or fails
pub found : (p : ℕ → Bool) (n k : ℕ) → Front p n → k ≤ n → ((j : ℕ) → j < k → p j ≡ true) → (k < n → p k ≡ false) → how_many p n ≡ k
found p n k f h a z =
    let c = count_all p k a in
    ⊎_elim
    (λ (l : k < n). omega (arith, fails_past p n k f l (z l), front_cut p n k f h))
    (λ (g : n ≤ k). let e : n ≡ k = omega arith in rw e c)
    (cases_lt k n)
