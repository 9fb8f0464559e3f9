use Rattle.std.proofs.Common.{◌≡◌, Err, length, sym, ap, ◌∙◌, arith}
use Rattle.frame.specs.Frames.{framed}
use Rattle.frame.specs.declared.refusal.Reason.TheVariants.{TotalFell, LineNotShown, LineBeforeLast}
use Rattle.meaning.specs.Lines.{ranked}
use Rattle.search.proofs.Seeking.{ranked_length}
use Rattle.sitting.specs.Rules.{refuse}
use Rattle.tracker.specs.Checks.{allowed}
use Rattle.tracker.specs.States.{grant_of}
use Rattle.tracker.proofs.Faulting.{total_fell, not_shown, before_last, only_order}
use Rattle.tracker.proofs.checks.check.Goals as goal

pub returns-then-total-standing : goal.returns-then-total-standing
returns-then-total-standing g c =
    let s = c.args.standing.now in
    let xs = g.V.Transcript.lines c.args.view.now in
    let X = ranked g.K.KeyKind.rank xs in
    let n : length X ≡ length xs = ranked_length g.K.KeyKind.rank xs in
    let next = sym c.first.ensures ∙ c.if-first-standing.false in
    let total = c.total-total.ensures in
    ap Err (c.refuse-then-total-standing.ensures ∙ ap (refuse TotalFell) c.from-then-total-standing.ensures)
    ∙ sym (ap allowed (total_fell s.options (framed s.frame) (grant_of s.last) s.filed _ X c.args.line next (omega (arith, c.if-total-standing.true))))

pub returns-then-line-total : goal.returns-then-line-total
returns-then-line-total g c =
    let s = c.args.standing.now in
    let xs = g.V.Transcript.lines c.args.view.now in
    let X = ranked g.K.KeyKind.rank xs in
    let n : length X ≡ length xs = ranked_length g.K.KeyKind.rank xs in
    let next = sym c.first.ensures ∙ c.if-first-standing.false in
    let total = c.total-total.ensures in
    ap Err (c.refuse-then-line-total.ensures ∙ ap (refuse LineNotShown) c.from-then-line-total.ensures)
    ∙ sym (ap allowed (not_shown s.options (framed s.frame) (grant_of s.last) s.filed _ X c.args.line next (omega (arith, c.if-total-standing.false)) (omega (arith, c.if-line-total.true))))

pub returns-then-line-standing : goal.returns-then-line-standing
returns-then-line-standing g c =
    let s = c.args.standing.now in
    let xs = g.V.Transcript.lines c.args.view.now in
    let X = ranked g.K.KeyKind.rank xs in
    let n : length X ≡ length xs = ranked_length g.K.KeyKind.rank xs in
    let next = sym c.first.ensures ∙ c.if-first-standing.false in
    let total = c.total-total.ensures in
    ap Err (c.refuse-then-line-standing.ensures ∙ ap (refuse LineBeforeLast) c.from-then-line-standing.ensures)
    ∙ sym (ap allowed (before_last s.options (framed s.frame) (grant_of s.last) s.filed _ X c.args.line next (omega (arith, c.if-total-standing.false)) (omega (arith, c.if-line-total.false)) (omega (arith, c.if-line-standing.true))))

pub returns : goal.returns
returns g c =
    let s = c.args.standing.now in
    let xs = g.V.Transcript.lines c.args.view.now in
    let X = ranked g.K.KeyKind.rank xs in
    let n : length X ≡ length xs = ranked_length g.K.KeyKind.rank xs in
    let next = sym c.first.ensures ∙ c.if-first-standing.false in
    let total = c.total-total.ensures in
    c.check_order.ensures ∙ sym (ap allowed (only_order s.options (framed s.frame) (grant_of s.last) s.filed _ X c.args.line next (omega (arith, c.if-total-standing.false)) (omega (arith, c.if-line-total.false)) (omega (arith, c.if-line-standing.false))))
