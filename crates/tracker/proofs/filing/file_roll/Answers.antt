use Rattle.std.proofs.Common.{◌≡◌, length, Some, None, Err, sym, refl, ap, ◌∙◌}
use Rattle.std.proofs.lemmas.Result.{err_from_is_err_and}
use Rattle.sitting.specs.Rules.{or_else, answered, settled, filed_to}
use Rattle.sitting.proofs.Checks.{answered_ok, answered_err}
use Rattle.tracker.specs.Rolls.{held_of, meet_fault, kept_from, kept_slots}
use Rattle.tracker.specs.Trackers.{state_of}
use Rattle.tracker.specs.Transfers.{slip_of, roll_fault}
use Rattle.tracker.proofs.filing.file_roll.Goals as goal

pub returns-in_err-check_filing : goal.returns-in_err-check_filing
returns-in_err-check_filing g c =
    let s = state_of c.args.tracker.now in
    let h = held_of c.args.roll.now in
    let xs = c.args.array.now in
    let n = c.args.n in
    let x = c.in_err-check_filing.field-0.0 in
    let p = err_from_is_err_and c.from_residual.result c.from_residual.ensures.1 in
    let is : c.from_residual.result ≡ Err x = p.1 ∙ ap Err p.2 in
    let due : roll_fault s n h (length xs) ≡ Some x = ap (λ d. or_else d (meet_fault h (length xs) (slip_of s n))) (answered_err _ tt x (sym c.in_err-check_filing.ensures)) in
    record {
      answer = is ∙ sym (ap (λ d. answered d (s.filed, n)) due);
      tracker = sym (ap (λ d. settled d s (filed_to s n)) due);
      roll = sym (ap (λ d. settled d h (kept_from n h)) due);
      array = sym (ap (λ d. settled d xs (kept_slots n h xs)) due);
      lent = refl;
    }

pub returns-in_err-check_slip : goal.returns-in_err-check_slip
returns-in_err-check_slip g c =
    let s = state_of c.args.tracker.now in
    let h = held_of c.args.roll.now in
    let xs = c.args.array.now in
    let n = c.args.n in
    let x = c.in_err-check_slip.field-0.0 in
    let p = err_from_is_err_and c.from_residual-in_err-check_slip.result c.from_residual-in_err-check_slip.ensures.1 in
    let is : c.from_residual-in_err-check_slip.result ≡ Err x = p.1 ∙ ap Err p.2 in
    let none = (answered_ok _ tt tt (sym c.in_ok-check_filing.ensures)).0 in
    let due : roll_fault s n h (length xs) ≡ Some x = ap (λ d. or_else d (meet_fault h (length xs) (slip_of s n))) none ∙ answered_err _ tt x (sym c.in_err-check_slip.ensures) in
    record {
      answer = is ∙ sym (ap (λ d. answered d (s.filed, n)) due);
      tracker = sym (ap (λ d. settled d s (filed_to s n)) due);
      roll = sym (ap (λ d. settled d h (kept_from n h)) due);
      array = sym (ap (λ d. settled d xs (kept_slots n h xs)) due);
      lent = refl;
    }

pub returns : goal.returns
returns g c =
    let s = state_of c.args.tracker.now in
    let h = held_of c.args.roll.now in
    let xs = c.args.array.now in
    let n = c.args.n in
    let none = (answered_ok _ tt tt (sym c.in_ok-check_filing.ensures)).0 in
    let met = (answered_ok _ tt tt (sym c.in_ok-check_slip.ensures)).0 in
    let due : roll_fault s n h (length xs) ≡ None = ap (λ d. or_else d (meet_fault h (length xs) (slip_of s n))) none ∙ met in
    record {
      answer = sym (ap (λ d. answered d (s.filed, n)) due);
      tracker = c.file.ensures.filed.leaves ∙ ap (λ d. settled d s (filed_to s n)) none ∙ sym (ap (λ d. settled d s (filed_to s n)) due);
      roll = c.move_on.ensures.roll ∙ sym (ap (λ d. settled d h (kept_from n h)) due);
      array = c.move_on.ensures.array ∙ sym (ap (λ d. settled d xs (kept_slots n h xs)) due);
      lent = c.file.ensures.lent;
    }
