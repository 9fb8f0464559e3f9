use Rattle.std.proofs.Common.{[], ◌∷◌, sym, ◌∙◌, rules, tests}
use Rattle.std.proofs.lemmas.Iterator.{YieldsList-from_slice}
use Rattle.std.proofs.lemmas.Iterator.Adapters.{option_map_id}
use Rattle.std.proofs.lemmas.Iterator.Consumers.{YieldsList-from_copied}
use Rattle.std.proofs.lemmas.Iterator.Search.{find_from_yields_List}
use Rattle.words.specs.declared.letters.Keyword.TheVariants.{Rows, Range, Groups, Between, And, Unbounded, Current, Row, Preceding, Following}
use Rattle.words.specs.Letters.{spelled, name_of}
use Rattle.words.proofs.letters.keyword_of.Goals as goal

pub returns : goal.returns
returns c =
    sym (option_map_id c.find.result)
    ∙ find_from_yields_List (λ k. spelled c.args.word.now (name_of k)) _ _ c.find.result c.find.ensures.ran (YieldsList-from_copied (YieldsList-from_slice (Rows ∷ Range ∷ Groups ∷ Between ∷ And ∷ Unbounded ∷ Current ∷ Row ∷ Preceding ∷ Following ∷ []) cc)) (λ x b q k. search (rules, tests))
