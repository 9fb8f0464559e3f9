use Rattle.std.proofs.Common.{ℕ, ◌+◌, ◌-◌, ◌≤◌, length, None, ap, ◌∙◌, arith}
use Rattle.meaning.specs.Clause.{same_line}
use Rattle.meaning.specs.Lines.{ranked}
use Rattle.meaning.specs.Turns.{turn_of, first_of}
use Rattle.search.proofs.Explaining.{first_back, first_on}
use Rattle.search.proofs.Seeking.{ranked_length}
use Rattle.search.proofs.explain.turn_edge.Goals as goal

pub returns-in-Preceding-clause-end : goal.returns-in-Preceding-clause-end
returns-in-Preceding-clause-end g c i e =
    let v = c.args.view.now in
    let f = g.V.Transcript.starts v in
    let ys = ranked g.K.KeyKind.rank (g.V.Transcript.lines v) in
    c.turn_start.ensures
    ∙ ap (λ (k : ℕ). f + first_of None same_line ys k) c.saturating_sub.ensures
    ∙ ap (λ (t : ℕ). f + first_of None same_line ys (t - c.in-Preceding.n)) e
    ∙ ap (λ (k : ℕ). f + k) (first_back ys (turn_of None same_line ys i) c.in-Preceding.n)
    ∙ simp c.in-Preceding.is

pub returns-in-Following-clause-start : goal.returns-in-Following-clause-start
returns-in-Following-clause-start g c i e =
    let v = c.args.view.now in
    let f = g.V.Transcript.starts v in
    let ys = ranked g.K.KeyKind.rank (g.V.Transcript.lines v) in
    let short : length ys ≤ 18446744073709551615 = omega (arith, ranked_length g.K.KeyKind.rank (g.V.Transcript.lines v), c.total-total.ensures) in
    c.turn_start-in-Following.ensures
    ∙ ap (λ (k : ℕ). f + k) (first_on ys c.args.turn c.in-Following.n c.saturating_add.result (turn_of None same_line ys i + c.in-Following.n) short c.saturating_add.ensures (omega (arith, e)))
    ∙ simp c.in-Following.is

pub returns-in-Following-clause-end : goal.returns-in-Following-clause-end
returns-in-Following-clause-end g c i e =
    let v = c.args.view.now in
    let f = g.V.Transcript.starts v in
    let ys = ranked g.K.KeyKind.rank (g.V.Transcript.lines v) in
    let short : length ys ≤ 18446744073709551615 = omega (arith, ranked_length g.K.KeyKind.rank (g.V.Transcript.lines v), c.total-total.ensures) in
    c.turn_start-in-Following.ensures
    ∙ ap (λ (k : ℕ). f + k) (first_on ys c.args.turn c.in-Following.n c.saturating_add.result (turn_of None same_line ys i + c.in-Following.n + 1) short c.saturating_add.ensures (omega (arith, e)))
    ∙ simp c.in-Following.is
