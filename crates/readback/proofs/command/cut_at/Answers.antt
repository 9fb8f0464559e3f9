use Rattle.std.proofs.Common.{◌≡◌, ℕ, ◌+◌, ◌≤◌, ◌==◌, cond, ltb, Some, None, length, take, drop, sym, ap, ◌∙◌, arith, rules, tests}
use Rattle.std.specs.List.{prefix_len}
use Rattle.std.proofs.lemmas.Iterator.{YieldsList-from_slice}
use Rattle.std.proofs.lemmas.Iterator.Search.{position_from_yields_List}
use Rattle.std.proofs.lemmas.Bool.Decides.{nat_tests}
use Rattle.std.proofs.lemmas.List.{take_rest, drop_all, take_all}
use Rattle.readback.specs.Commands.{other}
use Rattle.readback.proofs.command.cut_at.Goals as goal

found : (i k n : ℕ) → Some i ≡ cond (ltb k n) (Some k) None → i ≡ k
found i k n e = grind (arith, nat_tests)

missing : (k n : ℕ) → None ≡ cond (ltb k n) (Some k) None → n ≤ k
missing k n e = grind (arith, nat_tests)

pub returns-in-Some-clause-word : goal.returns-in-Some-clause-word
returns-in-Some-clause-word c =
    let at = position_from_yields_List (λ b. b == c.args.mark) _ _ c.position.result c.position.ensures.ran (YieldsList-from_slice c.args.line.now cc) (λ x b q k. search (rules, tests)) in
    ap (λ n. take n c.args.line.now) (found c.in-Some.i _ _ (sym c.in-Some.is ∙ at))

pub returns-in-Some-clause-behind : goal.returns-in-Some-clause-behind
returns-in-Some-clause-behind c =
    let at = position_from_yields_List (λ b. b == c.args.mark) _ _ c.position.result c.position.ensures.ran (YieldsList-from_slice c.args.line.now cc) (λ x b q k. search (rules, tests)) in
    take_rest c.args.line.now (c.in-Some.i + 1) ∙ ap (λ n. drop (n + 1) c.args.line.now) (found c.in-Some.i _ _ (sym c.in-Some.is ∙ at))

pub returns-in-None-clause-word : goal.returns-in-None-clause-word
returns-in-None-clause-word c =
    let at = position_from_yields_List (λ b. b == c.args.mark) _ _ c.position.result c.position.ensures.ran (YieldsList-from_slice c.args.line.now cc) (λ x b q k. search (rules, tests)) in
    sym (take_all (prefix_len (other c.args.mark) c.args.line.now) c.args.line.now (missing _ _ (sym c.in-None.is ∙ at)))

pub returns-in-None-clause-behind : goal.returns-in-None-clause-behind
returns-in-None-clause-behind c =
    let line = c.args.line.now in
    let at = position_from_yields_List (λ b. b == c.args.mark) _ _ c.position.result c.position.ensures.ran (YieldsList-from_slice line cc) (λ x b q k. search (rules, tests)) in
    let past : length line ≤ prefix_len (other c.args.mark) line = missing _ _ (sym c.in-None.is ∙ at) in
    take_rest line (length line) ∙ drop_all (length line) line (omega arith) ∙ sym (drop_all (prefix_len (other c.args.mark) line + 1) line (omega arith))
