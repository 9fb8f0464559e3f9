use Rattle.std.proofs.Common.{◌≡◌, ◌≤◌, false, length, get_or, sym, ◌∙◌, rules}
use Rattle.std.proofs.lemmas.Result.{err_from_is_err_and}
use Rattle.packed.specs.Fields.{stands}
use Rattle.packed.proofs.Steps.{opened, whole, text_out, number_if, text_if}
use Rattle.packed.proofs.line.PackedLine.read.Goals as goal

pub returns : goal.returns
returns c =
    let h : 1 ≤ length c.args.bytes.now = search rules in
    let z : stands (get_or c.args.bytes.now 0 0) 240 ≡ false = search rules in
    let speaker = number_if _ _ _ _ c.in_ok-speaker.ensures.unset c.in_ok-speaker.ensures.set in
    let question = number_if _ _ _ _ c.in_ok-question.ensures.unset c.in_ok-question.ensures.set in
    let elapsed = number_if _ _ _ _ c.in_ok-elapsed.ensures.unset c.in_ok-elapsed.ensures.set in
    let text = text_if _ _ _ c.in_ok-text.ensures.unset c.in_ok-text.ensures.set in
    sym (opened c.args.bytes.now h z ∙ whole _ _ _ _ speaker _ _ question _ _ elapsed _ _ text)

pub returns-in_err-text : goal.returns-in_err-text
returns-in_err-text c =
    let h : 1 ≤ length c.args.bytes.now = search rules in
    let z : stands (get_or c.args.bytes.now 0 0) 240 ≡ false = search rules in
    let speaker = number_if _ _ _ _ c.in_ok-speaker.ensures.unset c.in_ok-speaker.ensures.set in
    let question = number_if _ _ _ _ c.in_ok-question.ensures.unset c.in_ok-question.ensures.set in
    let elapsed = number_if _ _ _ _ c.in_ok-elapsed.ensures.unset c.in_ok-elapsed.ensures.set in
    let text = text_if _ _ _ c.in_err-text.ensures.unset c.in_err-text.ensures.set in
    let p = err_from_is_err_and c.from_residual-in_err-text.result c.from_residual-in_err-text.ensures.1 in
    rw (p.1, p.2) (sym (opened c.args.bytes.now h z ∙ text_out _ _ _ _ speaker _ _ question _ _ elapsed _ text))
