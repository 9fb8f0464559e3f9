-- Letters of either case, and the keywords that they spell.
use Rattle.std.specs.Prelude.{ℕ, ◌+◌, Bool, cond, List, map, Some, None, codes, Option, nat_le}
use Rattle.std.specs.Str.{bytes_eq}
use Rattle.words.specs.declared.letters.Keyword.{Keyword}
use Rattle.words.specs.declared.letters.Keyword.TheVariants.{Rows, Range, Groups, Between, And, Unbounded, Current, Row, Preceding, Following}

-- the small letter of a capital, and any other character as it is
abbrev pub lowered : ℕ → ℕ
lowered c = cond (nat_le 65 c) (cond (nat_le c 90) (c + 32) c) c

-- whether a word spells a name, which is given in small letters
abbrev pub spelled : List ℕ → List ℕ → Bool
spelled w small = bytes_eq (map lowered w) small

-- a keyword in small letters
abbrev pub name_of : Keyword → List ℕ
name_of Rows = codes "rows"
name_of Range = codes "range"
name_of Groups = codes "groups"
name_of Between = codes "between"
name_of And = codes "and"
name_of Unbounded = codes "unbounded"
name_of Current = codes "current"
name_of Row = codes "row"
name_of Preceding = codes "preceding"
name_of Following = codes "following"

-- the keyword that a word spells, if any
abbrev pub keyword : List ℕ → Option Keyword
keyword w =
    cond (spelled w (name_of Rows)) (Some Rows) (
    cond (spelled w (name_of Range)) (Some Range) (
    cond (spelled w (name_of Groups)) (Some Groups) (
    cond (spelled w (name_of Between)) (Some Between) (
    cond (spelled w (name_of And)) (Some And) (
    cond (spelled w (name_of Unbounded)) (Some Unbounded) (
    cond (spelled w (name_of Current)) (Some Current) (
    cond (spelled w (name_of Row)) (Some Row) (
    cond (spelled w (name_of Preceding)) (Some Preceding) (
    cond (spelled w (name_of Following)) (Some Following) None)))))))))
