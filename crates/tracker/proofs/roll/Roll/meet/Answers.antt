use Rattle.std.proofs.Common.{◌≡◌, ℕ, length, Some, sym, ap, ◌∙◌}
use Rattle.sitting.specs.Rules.{settled}
use Rattle.sitting.proofs.Checks.{answered_err}
use Rattle.tracker.specs.Rolls.{held_of, meet_fault, given_back, kept_from, kept_slots}
use Rattle.tracker.proofs.roll.Roll.meet.Goals as goal

pub returns-in-Err : goal.returns-in-Err
returns-in-Err g c =
    let h = held_of c.args.self.now in
    let slip = c.args.slip in
    let array = c.args.array.now in
    let room = length array in
    let to = c.to-to.ensures in
    let from = c.from.ensures in
    let due : meet_fault h room slip ≡ Some c.in-Err.refusal =
    ap (λ (i : ℕ). meet_fault h room (record { from = i; to = slip.to })) (sym from)
    ∙ ap (λ (i : ℕ). meet_fault h room (record { from = c.from.result; to = i })) (sym to)
    ∙ answered_err _ tt c.in-Err.refusal (sym c.in-Err.ensures) in
    record {
      answer = sym (ap (λ d. given_back slip d tt) due);
      roll = sym (ap (λ d. settled d h (kept_from slip.to h)) due);
      array = sym (ap (λ d. settled d array (kept_slots slip.to h array)) due);
    }
