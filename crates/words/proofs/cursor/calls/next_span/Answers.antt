use Rattle.std.proofs.Common.{◌≡◌, ◌+◌, true, false, length, take, drop, ap, ◌∙◌, rules, tests}
use Rattle.std.specs.List.{prefix_len}
use Rattle.std.proofs.lemmas.Iterator.{YieldsList-from_slice}
use Rattle.std.proofs.lemmas.Iterator.Consumers.{count_from_yields_List}
use Rattle.std.proofs.lemmas.Iterator.Search.{YieldsList-from_take_while}
use Rattle.std.proofs.lemmas.List.{take_rest}
use Rattle.std.proofs.lemmas.List.Folds.{length-prefix_len}
use Rattle.words.specs.Words.{like}
use Rattle.words.proofs.Cutting.{next_is}
use Rattle.words.proofs.cursor.calls.next_span.Goals as goal

pub returns-clause-next : goal.returns-clause-next
returns-clause-next c =
    let text = c.args.text.now in
    let from = c.args.from in
    let rest : c.take_while.result.iter.rest.now ≡ drop from text = search (rules, take_rest) in
    let rest-2 : c.take_while-2.result.iter.rest.now ≡ drop (from + c.count.result) text = search (rules, take_rest) in
    let start : c.count.result ≡ length (take (prefix_len (like true) (drop from text)) (drop from text)) = count_from_yields_List c.take_while.result c.count.result c.count.ensures.ran (YieldsList-from_take_while _ (like true) (YieldsList-from_slice (drop from text) rest) (cc) (cc) (λ x b q k. search (rules, tests))) in
    let end : c.count-2.result ≡ length (take (prefix_len (like false) (drop (from + c.count.result) text)) (drop (from + c.count.result) text)) = count_from_yields_List c.take_while-2.result c.count-2.result c.count-2.ensures.ran (YieldsList-from_take_while _ (like false) (YieldsList-from_slice (drop (from + c.count.result) text) rest-2) (cc) (cc) (λ x b q k. search (rules, tests))) in
    next_is text from _ _ c.requires (ap (λ n. from + n) (start ∙ length-prefix_len (like true) (drop from text))) (ap (λ n. from + c.count.result + n) (end ∙ length-prefix_len (like false) (drop (from + c.count.result) text)))
