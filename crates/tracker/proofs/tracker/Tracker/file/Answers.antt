use Rattle.std.proofs.Common.{◌≡◌, length, take, Err, Result, sym, refl, ap, ◌∙◌, subst}
use Rattle.std.proofs.lemmas.Result.{err_from_is_err_and}
use Rattle.frame.specs.declared.refusal.Refusal.{Refusal}
use Rattle.sitting.specs.Calls.{Filing}
use Rattle.sitting.specs.Rules.{staying, answered, settled, filed_to}
use Rattle.sitting.proofs.Checks.{answered_ok, answered_err, file_clear}
use Rattle.tracker.specs.declared.slip.Slip.{Slip}
use Rattle.tracker.specs.Slips.{by_numbers}
use Rattle.tracker.specs.States.{grant_of, state}
use Rattle.sitting.specs.Tables.{in_front}
use Rattle.tracker.proofs.Sifted.{filed_sound}
use Rattle.tracker.proofs.Windows.{sound_of}
use Rattle.tracker.proofs.tracker.Tracker.file.Goals as goal

pub invariant_of-self : goal.invariant_of-self
invariant_of-self g c =
    let t = c.args.self.now in
    let s = t.standing in
    let table = t.table.ends.now in
    let n = c.args.n in
    let u = c.units.ensures in
    let kept = c.keep_above-live.ensures in
    let h = filed_sound s table (sound_of t) n c.keep_above-live.result c.keep_above-live.new.self.ends.now (file_clear (grant_of s.last) s.filed n (answered_ok _ tt tt (sym c.in_ok-check_filing.ensures)).0).0 (kept.count ∙ ap (λ v. length (staying v n (take s.live table))) u) (kept.moved ∙ ap (λ v. in_front (staying v n (take s.live table)) table) u) in
    record { kept = h.kept; shown = h.shown; rowed = h.rowed; room = h.room; past = h.past; within = h.within; rising = h.rising; passed = h.passed; behind = h.behind }

pub returns-in_err-check_filing : goal.returns-in_err-check_filing
returns-in_err-check_filing g c =
    let t = c.args.self.now in
    let s = state t.standing t.table.ends.now in
    let n = c.args.n in
    let x = c.in_err-check_filing.field-0.0 in
    let p = err_from_is_err_and c.from_residual.result c.from_residual.ensures.1 in
    let is : c.from_residual.result ≡ Err x = p.1 ∙ ap Err p.2 in
    let due = answered_err _ tt x (sym c.in_err-check_filing.ensures) in
    let w : Filing s n (by_numbers (Err x)) s = record { answers = sym (ap (λ d. answered d (s.filed, n)) due); leaves = sym (ap (λ d. settled d s (filed_to s n)) due) } in
    let P : Result Slip Refusal → Type 0 = λ r. Filing s n (by_numbers r) s in
    record { filed = subst P (sym is) w; lent = refl }
