use Rattle.std.proofs.Common.{◌≡◌, ◌<◌, eqb, length, sym, ◌∙◌, rules}
use Rattle.words.proofs.Spelling.{spelled_empty, spelled_heads}
use Rattle.words.proofs.letters.+spells.Goals as goal

pub returns-in-empty : goal.returns-in-empty
returns-in-empty t c =
    let none : length c.args.word.now ≡ 0 = search rules in
    let empty : c.is_empty.result ≡ eqb (length c.args.name.now) 0 = search rules in
    empty ∙ spelled_empty c.args.word.now c.args.name.now none

pub returns-then-lower-k : goal.returns-then-lower-k
returns-then-lower-k t c =
    let some : 0 < length c.args.word.now = search rules in
    let more : 0 < length c.args.name.now = search rules in
    c.spells.ensures ∙ spelled_heads c.args.word.now c.args.name.now some more (sym c.lower.ensures ∙ c.if-lower-k.true)
