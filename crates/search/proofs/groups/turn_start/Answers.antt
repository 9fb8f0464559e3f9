use Rattle.std.proofs.Common.{◌≡◌, ℕ, ◌+◌, ◌-◌, ◌<◌, None, sym, ap, ◌∙◌, ⊎_elim, arith}
use Rattle.transcript.specs.Lines.{at_line}
use Rattle.meaning.specs.Clause.{same_line}
use Rattle.meaning.specs.Lines.{ranked}
use Rattle.meaning.specs.Turns.{turn_of}
use Rattle.search.specs.Views.{turn_at}
use Rattle.search.proofs.Seeking.{alike_by, turn_same, turn_next, turn_begins_at, begins_at}
use Rattle.search.proofs.groups.turn_start.Goals as goal
use Rattle.search.proofs.groups.turn_start.Goals.{then-not-is_same+else-turn-k, else-not-is_same}

pub returns-then-k-eq0 : goal.returns-then-k-eq0
returns-then-k-eq0 g c =
    let v = c.args.view.now in
    begins_at g.K.KeyKind.rank (g.V.Transcript.starts v) (g.V.Transcript.lines v) c.args.k c.first-first.result c.total-total.result c.total-total.ensures (omega arith) (omega arith) (λ j h. absurd (omega arith))
    (λ h. ⊎_elim (λ e. omega (arith, e)) (λ e. absurd (omega (arith, e.1))) c.then-k-eq0.either)

pub loop-n-init : goal.loop-n-init
loop-n-init g c =
    let v = c.args.view.now in
    let f = g.V.Transcript.starts v in
    let xs = g.V.Transcript.lines v in
    let same : c.first-first.result ≡ c.first-first.result + 1 - 1 = omega arith in
    let none : c.first-first.result + 1 - 1 - f ≡ 0 = omega arith in (
      c.line-before.ensures ∙ ap (at_line f xs) same,
      sym (ap (turn_of None same_line (ranked g.K.KeyKind.rank xs)) none),
      omega (arith, c.if-k-eq0.false),
    )

pub returns-then-turn-k : goal.returns-then-turn-k
returns-then-turn-k g c =
    let v = c.args.view.now in
    let rank = g.K.KeyKind.rank in
    let f = g.V.Transcript.starts v in
    let xs = g.V.Transcript.lines v in
    let here = sym (alike_by rank f xs c.loop-n.n c.loop-n.before c.line-here.result c.loop-n.invariant.0 c.line-here.ensures) in
    turn_begins_at rank f xs c.args.k c.loop-n.n c.total-total.result c.total-total.ensures (omega arith) (omega arith) (omega (arith, c.loop-n.invariant.1, c.loop-n.invariant.2))
    (λ h. omega (arith, c.if-turn-k.true, c.loop-n.invariant.1, turn_next rank f xs c.loop-n.n (omega arith) (here ∙ sym c.is_same.ensures ∙ c.if-not-is_same.true)))

pub loop-n-preserved : goal.loop-n-preserved
loop-n-preserved g c =
    let v = c.args.view.now in
    let rank = g.K.KeyKind.rank in
    let f = g.V.Transcript.starts v in
    let xs = g.V.Transcript.lines v in
    let low : f < c.loop-n.n = omega arith in
    let e : c.loop-n.n ≡ c.loop-n.n + 1 - 1 = omega arith in
    let line = c.line-here.ensures ∙ ap (at_line f xs) e in
    let turn = ap (turn_at rank f xs) e in
    let here = sym (alike_by rank f xs c.loop-n.n c.loop-n.before c.line-here.result c.loop-n.invariant.0 c.line-here.ensures) ∙ sym c.is_same.ensures in
    elim c.if-not-is_same.branch [
      | then-not-is_same+else-turn-k w ↦ (
        line,
        w.turn-is ∙ ap (λ (t : ℕ). t + 1) c.loop-n.invariant.1 ∙ sym (turn_next rank f xs c.loop-n.n low (here ∙ w.if-not-is_same.true)) ∙ turn,
        omega (arith, w.turn-is, w.if-turn-k.false, c.loop-n.invariant.2),
      )
      | else-not-is_same w ↦ (
        line,
        w.turn-is ∙ c.loop-n.invariant.1 ∙ sym (turn_same rank f xs c.loop-n.n low (here ∙ w.if-not-is_same.false)) ∙ turn,
        omega (arith, w.turn-is, c.loop-n.invariant.2),
      )
    ]

pub returns : goal.returns
returns g c =
    let v = c.args.view.now in
    let rank = g.K.KeyKind.rank in
    let f = g.V.Transcript.starts v in
    let xs = g.V.Transcript.lines v in
    let e : c.total-total.result - 1 ≡ c.loop-n.n - 1 = omega arith in
    turn_begins_at rank f xs c.args.k c.total-total.result c.total-total.result c.total-total.ensures (omega arith) (omega arith) (omega (arith, ap (turn_at rank f xs) e, c.loop-n.invariant.1, c.loop-n.invariant.2)) (λ h. absurd (omega arith))
