use Rattle.std.proofs.Common.{◌≡◌, ℕ, Err, Result, sym, refl, ap, ◌∙◌, subst}
use Rattle.std.proofs.lemmas.Result.{err_from_is_err_and}
use Rattle.frame.specs.declared.refusal.Refusal.{Refusal}
use Rattle.meaning.specs.Lines.{ranked}
use Rattle.sitting.specs.Calls.{Window}
use Rattle.sitting.proofs.Checks.{answered_ok, answered_err}
use Rattle.sitting.proofs.First.{first_window}
use Rattle.tracker.specs.States.{grant_of, state}
use Rattle.tracker.proofs.Granting.{window_refused}
use Rattle.tracker.proofs.Windows.{sound_of, is_ready, is_kept, is_granted, is_short, still_sound}
use Rattle.tracker.proofs.tracker.Tracker.window.Goals as goal

pub returns-in_err-check : goal.returns-in_err-check
returns-in_err-check g c =
    let s = c.args.self.now.standing in
    let table = c.args.self.now.table.ends.now in
    let first = g.V.Transcript.starts c.args.view.now in
    let X = ranked g.K.KeyKind.rank (g.V.Transcript.lines c.args.view.now) in
    let x = c.in_err-check.field-0.0 in
    let p = err_from_is_err_and c.from_residual.result c.from_residual.ensures.1 in
    let is : c.from_residual.result ≡ Err x = p.1 ∙ ap Err p.2 in
    let h = answered_err _ tt x (sym c.in_err-check.ensures) in
    let P : Result (ℕ × ℕ) Refusal → Type 0 = λ r. Window (state s table) first X c.args.line r (state s table) in
    let w : P c.from_residual.result = subst P (sym is) (window_refused s.options s.frame.units s.frame.start_bound s.frame.end_bound (grant_of s.last) s.filed s.live table first X c.args.line x h) in
    record { window = w; begun = first_window _ _ _ _ _ _ w; lent = refl }

pub find-requires : goal.find-requires
find-requires g c =
    let t = c.args.self.now in
    let none = (answered_ok _ tt tt (sym c.in_ok-check.ensures)).0 in
    is_ready g.K.KeyKind.rank t.standing t.table.ends.now (sound_of t) (g.V.Transcript.starts c.args.view.now) (g.V.Transcript.lines c.args.view.now) c.args.line none

pub invariant_of-self-2 : goal.invariant_of-self-2
invariant_of-self-2 g c =
    let t = c.args.self.now in
    let none = (answered_ok _ tt tt (sym c.in_ok-check.ensures)).0 in
    let h = (is_kept g.K.KeyKind.rank t.standing t.table.ends.now (sound_of t) (g.V.Transcript.starts c.args.view.now) (g.V.Transcript.lines c.args.view.now) c.args.line none c.total-total.result c.total-total.ensures c.in-Ok.found c.find.new.self.ends.now c.in-Ok.ensures.found).sound in
    record { kept = h.kept; shown = h.shown; rowed = h.rowed; room = h.room; past = h.past; within = h.within; rising = h.rising; passed = h.passed; behind = h.behind }

pub invariant_of-self : goal.invariant_of-self
invariant_of-self g c =
    let t = c.args.self.now in
    let none = (answered_ok _ tt tt (sym c.in_ok-check.ensures)).0 in
    let h = still_sound g.K.KeyKind.rank t.standing t.table.ends.now (sound_of t) (g.V.Transcript.starts c.args.view.now) (g.V.Transcript.lines c.args.view.now) c.args.line none c.in-Err.needed c.find.new.self.ends.now c.in-Err.ensures.found in
    record { kept = h.kept; shown = h.shown; rowed = h.rowed; room = h.room; past = h.past; within = h.within; rising = h.rising; passed = h.passed; behind = h.behind }

pub returns : goal.returns
returns g c =
    let t = c.args.self.now in
    let none = (answered_ok _ tt tt (sym c.in_ok-check.ensures)).0 in
    let w = is_granted g.K.KeyKind.rank t.standing t.table.ends.now (sound_of t) (g.V.Transcript.starts c.args.view.now) (g.V.Transcript.lines c.args.view.now) c.args.line none c.total-total.result c.total-total.ensures c.in-Ok.found c.find.new.self.ends.now c.in-Ok.ensures.found in
    record { window = w; begun = first_window _ _ _ _ _ _ w; lent = c.find.ensures.lent }

pub returns-in-Err : goal.returns-in-Err
returns-in-Err g c =
    let t = c.args.self.now in
    let s = t.standing in
    let table = t.table.ends.now in
    let first = g.V.Transcript.starts c.args.view.now in
    let xs = g.V.Transcript.lines c.args.view.now in
    let none = (answered_ok _ tt tt (sym c.in_ok-check.ensures)).0 in
    let P : Result (ℕ × ℕ) Refusal → Type 0 = λ r. Window (state s table) first (ranked g.K.KeyKind.rank xs) c.args.line r (state s c.find.new.self.ends.now) in
    let w : P (Err c.refuse.result) = subst P (sym (ap Err c.refuse.ensures)) (is_short g.K.KeyKind.rank s table (sound_of t) first xs c.args.line none c.in-Err.needed c.find.new.self.ends.now c.in-Err.ensures.found) in
    record { window = w; begun = first_window _ _ _ _ _ _ w; lent = c.find.ensures.lent }
