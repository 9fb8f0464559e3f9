use Rattle.std.proofs.Common.{[], ◌∷◌, sym, ◌∙◌, rules, tests}
use Rattle.std.specs.Str.{bytes_eq}
use Rattle.std.proofs.lemmas.Iterator.{YieldsList-from_slice}
use Rattle.std.proofs.lemmas.Iterator.Adapters.{option_map_id}
use Rattle.std.proofs.lemmas.Iterator.Consumers.{YieldsList-from_copied}
use Rattle.std.proofs.lemmas.Iterator.Search.{find_from_yields_List}
use Rattle.readback.specs.declared.asks.Call.TheVariants.{Line, Feed, Window, Ask, File, Table, Roll, Places}
use Rattle.readback.specs.Asks.{call_name}
use Rattle.readback.proofs.asks.read_call.Goals as goal

pub returns : goal.returns
returns c =
    sym (option_map_id c.find.result)
    ∙ find_from_yields_List (λ k. bytes_eq c.args.word.now (call_name k)) _ _ c.find.result c.find.ensures.ran (YieldsList-from_copied (YieldsList-from_slice (Line ∷ Feed ∷ Window ∷ Ask ∷ File ∷ Table ∷ Roll ∷ Places ∷ []) cc)) (λ x b q k. search (rules, tests))
