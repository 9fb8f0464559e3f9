-- How a word is compared with a name, letter by letter, and which words spell a keyword.
use Rattle.std.proofs.Common.{◌≡◌, ℕ, ◌-◌, ◌<◌, true, false, cond, eqb, List, [], ◌∷◌, map, length, get_or, take, drop, Some, None, Option, refl, ap, ◌∙◌, ⊎_elim, arith, eq-eqb}
use Rattle.std.specs.Str.{bytes_eq}
use Rattle.std.proofs.lemmas.Slice.Eq.{bytes_eq-Decides}
use Rattle.std.proofs.lemmas.List.{take_rest}
use Rattle.std.proofs.lemmas.Bool.{cases_Bool}
use Rattle.std.proofs.lemmas.Bool.Decides.{nat_tests}
use Rattle.words.specs.declared.letters.Keyword.{Keyword}
use Rattle.words.specs.declared.letters.Keyword.TheVariants.{Rows, Range, Groups, Between, And, Unbounded, Current, Row, Preceding, Following}
use Rattle.words.specs.Letters.{lowered, spelled, name_of, keyword}

pub spelled_empty : (xs ys : List ℕ) → length xs ≡ 0 → eqb (length ys) 0 ≡ spelled xs ys
spelled_empty [] [] p = refl
spelled_empty [] (y ∷ ys) p = grind (arith, nat_tests)
spelled_empty (x ∷ xs) ys p = absurd (omega arith)

-- the first letters, and then the rest, as the pattern `[b, bs @ ..]` gives it
pub spelled_heads : (xs ys : List ℕ) → 0 < length xs → 0 < length ys → lowered (get_or xs 0 0) ≡ get_or ys 0 0 → spelled (take (length xs - 1) (drop 1 xs)) (take (length ys - 1) (drop 1 ys)) ≡ spelled xs ys
spelled_heads [] ys p q e = absurd (omega arith)
spelled_heads (x ∷ xs) [] p q e = absurd (omega arith)
spelled_heads (x ∷ xs) (y ∷ ys) p q e = simp (take_rest, eq-eqb (lowered x) y e)

-- the keyword that small letters spell
abbrev of_small : List ℕ → Option Keyword
of_small w =
    cond (bytes_eq w (name_of Rows)) (Some Rows) (
    cond (bytes_eq w (name_of Range)) (Some Range) (
    cond (bytes_eq w (name_of Groups)) (Some Groups) (
    cond (bytes_eq w (name_of Between)) (Some Between) (
    cond (bytes_eq w (name_of And)) (Some And) (
    cond (bytes_eq w (name_of Unbounded)) (Some Unbounded) (
    cond (bytes_eq w (name_of Current)) (Some Current) (
    cond (bytes_eq w (name_of Row)) (Some Row) (
    cond (bytes_eq w (name_of Preceding)) (Some Preceding) (
    cond (bytes_eq w (name_of Following)) (Some Following) None)))))))))

of_name : (k : Keyword) → of_small (name_of k) ≡ Some k
of_name Rows = refl
of_name Range = refl
of_name Groups = refl
of_name Between = refl
of_name And = refl
of_name Unbounded = refl
of_name Current = refl
of_name Row = refl
of_name Preceding = refl
of_name Following = refl

pub says_keyword : (k : Keyword) (w : List ℕ) → map lowered w ≡ name_of k → keyword w ≡ Some k
says_keyword k w e = ap of_small e ∙ of_name k

pick : (w : List ℕ) (j k : Keyword) (rest : Option Keyword) → (rest ≡ Some k → w ≡ name_of k) → cond (bytes_eq w (name_of j)) (Some j) rest ≡ Some k → w ≡ name_of k
pick w j k rest go e =
    ⊎_elim
    (λ (t : bytes_eq w (name_of j) ≡ true). let same : j ≡ k = let u : Some j ≡ Some k = (simp t at e) in cc in (bytes_eq-Decides w (name_of j)).0 t ∙ ap name_of same)
    (λ (t : bytes_eq w (name_of j) ≡ false). go (simp t at e))
    (cases_Bool (bytes_eq w (name_of j)))

small_says : (w : List ℕ) (k : Keyword) → of_small w ≡ Some k → w ≡ name_of k
small_says w k = pick w Rows k _ (pick w Range k _ (pick w Groups k _ (pick w Between k _ (pick w And k _ (pick w Unbounded k _ (pick w Current k _ (pick w Row k _ (pick w Preceding k _ (pick w Following k _ (λ (e : None ≡ Some k). let z : ◌≡◌ {A = ℕ} 0 1 = cc in absurd (omega arith)))))))))))

pub keyword_says : (k : Keyword) (w : List ℕ) → keyword w ≡ Some k → map lowered w ≡ name_of k
keyword_says k w e = small_says (map lowered w) k e
