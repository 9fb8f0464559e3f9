use Rattle.std.proofs.Common.{◌≡◌, Some, Err, sym, refl, ap, ◌∙◌}
use Rattle.std.proofs.lemmas.Result.{err_from_is_err_and}
use Rattle.packed.specs.Views.{from_line}
use Rattle.sitting.specs.Rules.{or_else, answered, settled, filed_to}
use Rattle.sitting.proofs.Checks.{answered_ok, answered_err}
use Rattle.tracker.specs.Meetings.{packed_fault}
use Rattle.tracker.specs.Trackers.{state_of}
use Rattle.tracker.specs.Transfers.{slip_of, either_fault, passed_on}
use Rattle.tracker.proofs.filing.file_packed.Goals as goal

pub returns-in_err-check_filing : goal.returns-in_err-check_filing
returns-in_err-check_filing g c =
    let s = state_of c.args.tracker.now in
    let v = c.args.view.now in
    let n = c.args.n in
    let m = packed_fault g.K.PackedKey.reads v (slip_of s n) in
    let x = c.in_err-check_filing.field-0.0 in
    let p = err_from_is_err_and c.from_residual.result c.from_residual.ensures.1 in
    let is : c.from_residual.result ≡ Err x = p.1 ∙ ap Err p.2 in
    let due : either_fault s n m ≡ Some x = ap (λ d. or_else d m) (answered_err _ tt x (sym c.in_err-check_filing.ensures)) in
    record {
      answer = ap passed_on is ∙ sym (ap (λ d. answered d (s.filed, from_line v n)) due);
      tracker = sym (ap (λ d. settled d s (filed_to s n)) due);
      lent = refl;
    }

pub returns-in_err-check_packed : goal.returns-in_err-check_packed
returns-in_err-check_packed g c =
    let s = state_of c.args.tracker.now in
    let v = c.args.view.now in
    let n = c.args.n in
    let m = packed_fault g.K.PackedKey.reads v (slip_of s n) in
    let x = c.in_err-check_packed.field-0.0 in
    let p = err_from_is_err_and c.from_residual-in_err-check_packed.result c.from_residual-in_err-check_packed.ensures.1 in
    let is : c.from_residual-in_err-check_packed.result ≡ Err x = p.1 ∙ ap Err p.2 in
    let none = (answered_ok _ tt tt (sym c.in_ok-check_filing.ensures)).0 in
    let due : either_fault s n m ≡ Some x = ap (λ d. or_else d m) none ∙ answered_err _ tt x (sym c.in_err-check_packed.ensures) in
    record {
      answer = ap passed_on is ∙ sym (ap (λ d. answered d (s.filed, from_line v n)) due);
      tracker = sym (ap (λ d. settled d s (filed_to s n)) due);
      lent = refl;
    }
