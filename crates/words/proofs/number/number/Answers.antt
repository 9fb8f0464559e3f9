use Rattle.std.proofs.Common.{◌≤◌, length, sym, ◌∙◌, arith, rules}
use Rattle.words.proofs.Decimal.{step, stop, done}
use Rattle.words.proofs.number.number.Goals as goal

pub returns-in_err-n : goal.returns-in_err-n
returns-in_err-n c =
    c.from_residual.ensures ∙ stop c.loop-b.n c.loop-b.b-index c.args.text.now (omega arith) (sym c.with_digit.ensures ∙ c.in_err-n.was) c.loop-b.invariant.0 c.loop-b.invariant.1

pub loop-b-preserved : goal.loop-b-preserved
loop-b-preserved c =
    let s = step c.loop-b.n c.in_ok-n.n c.loop-b.b-index c.args.text.now (omega arith) (sym c.with_digit.ensures ∙ c.in_ok-n.was) in
    (s.0 ∙ c.loop-b.invariant.0, s.1 ∙ c.loop-b.invariant.1, s.2)

pub returns : goal.returns
returns c =
    let some : 1 ≤ length c.args.text.now = search rules in
    done c.loop-b.n c.loop-b.b-index c.args.text.now (omega arith) some (omega arith) (omega arith) c.loop-b.invariant.0 c.loop-b.invariant.1
