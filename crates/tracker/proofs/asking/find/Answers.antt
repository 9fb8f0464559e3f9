use Rattle.std.proofs.Common.{◌≡◌, ℕ, ◌+◌, length, Ok, Result, sym, refl, ap, ◌∙◌, subst}
use Rattle.frame.specs.declared.bound.WindowFrameUnits.{WindowFrameUnits}
use Rattle.meaning.specs.Lines.{ranked}
use Rattle.meaning.specs.Rows.{row_start, row_end}
use Rattle.tracker.specs.declared.asking.Answered.{Answered}
use Rattle.tracker.specs.Asking.{Asks, given_ends, Plainly, Finds}
use Rattle.tracker.specs.States.{state}
use Rattle.tracker.proofs.Ordering.{all_shown}
use Rattle.tracker.proofs.asking.find.Goals as goal

pub returns-in-Groups : goal.returns-in-Groups
returns-in-Groups g c =
    let first = g.V.Transcript.starts c.args.view.now in
    let xs = g.V.Transcript.lines c.args.view.now in
    let X = ranked g.K.KeyKind.rank xs in
    let s = state c.args.standing.now c.args.table.now in
    let line = c.args.line in
    let r = c.ask_groups.result in
    let new = c.ask_groups.new.table in
    let T : ℕ → Type 0 = λ t. Asks s.frame first t (given_ends first X s.table s.used) s.used line s.table r new in
    let P : WindowFrameUnits → Type 0 = λ u. Finds u s first X line r new in
    subst P (sym (sym c.units.ensures ∙ c.in-Groups.is)) (subst T (all_shown g.K.KeyKind.rank first xs) c.ask_groups.ensures)

pub returns-in-Rows : goal.returns-in-Rows
returns-in-Rows g c =
    let first = g.V.Transcript.starts c.args.view.now in
    let xs = g.V.Transcript.lines c.args.view.now in
    let X = ranked g.K.KeyKind.rank xs in
    let s = state c.args.standing.now c.args.table.now in
    let line = c.args.line in
    let t : c.total.result ≡ first + length X = c.total.ensures ∙ all_shown g.K.KeyKind.rank first xs in
    let a : c.window_by_rows.result.0 ≡ row_start s.frame.start (first + length X) line = c.window_by_rows.ensures.start ∙ ap (λ n. row_start s.frame.start n line) t in
    let b : c.window_by_rows.result.1 ≡ row_end s.frame.end (first + length X) line = c.window_by_rows.ensures.end ∙ ap (λ n. row_end s.frame.end n line) t in
    let r : Result Answered ℕ = Ok (record { start = c.window_by_rows.result.0; end = c.window_by_rows.result.1; live = 0; at = 0 }) in
    let p : Plainly (row_start s.frame.start (first + length X) line) (row_end s.frame.end (first + length X) line) r s.table s.table = record { answer = cc; table = refl } in
    let P : WindowFrameUnits → Type 0 = λ u. Finds u s first X line r s.table in
    subst P (sym (sym c.units.ensures ∙ c.in-Rows.is)) p
