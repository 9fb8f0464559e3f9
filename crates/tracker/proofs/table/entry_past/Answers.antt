use Rattle.std.proofs.Common.{◌≡◌, ◌+◌, ◌-◌, nat_le, length, take, drop, refl, ap, ◌∙◌, rules, tests}
use Rattle.std.specs.List.{prefix_len}
use Rattle.std.proofs.lemmas.Iterator.{YieldsList-from_slice}
use Rattle.std.proofs.lemmas.Iterator.Consumers.{count_from_yields_List}
use Rattle.std.proofs.lemmas.Iterator.Search.{YieldsList-from_take_while}
use Rattle.std.proofs.lemmas.List.{take_rest}
use Rattle.std.proofs.lemmas.List.Folds.{length-prefix_len}
use Rattle.tracker.proofs.Passing.{walk_list}
use Rattle.tracker.proofs.table.entry_past.Goals as goal

pub returns : goal.returns
returns c =
    let es = c.args.entries.now in
    let from = c.args.from in
    let line = c.args.line in
    let rest : c.take_while.result.iter.rest.now ≡ drop from es = search (rules, take_rest) in
    let count : c.count.result ≡ length (take (prefix_len (λ e. nat_le e line) (drop from es)) (drop from es)) = count_from_yields_List c.take_while.result c.count.result c.count.ensures.ran (YieldsList-from_take_while _ (λ e. nat_le e line) (YieldsList-from_slice (drop from es) rest) c.take_while.ensures.closure c.take_while.ensures.done (λ x b q k. search (rules, tests))) in
    ap (λ n. from + n) (count ∙ length-prefix_len (λ e. nat_le e line) (drop from es)) ∙ walk_list (λ e. nat_le e line) es (length es - from) from refl
