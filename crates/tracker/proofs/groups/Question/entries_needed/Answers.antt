use Rattle.std.proofs.Common.{◌≡◌, ℕ, ◌-◌, min, max, length, ap, ◌∙◌, arith}
use Rattle.meaning.specs.Turns.{last_held}
use Rattle.tracker.specs.Ends.{far}
use Rattle.tracker.specs.Walks.{ends_from, walked}
use Rattle.tracker.proofs.Using.{came, needs_used}
use Rattle.tracker.proofs.groups.Question.entries_needed.Goals as goal

pub returns : goal.returns
returns g c =
    let rank = g.K.KeyKind.rank in
    let q = c.args.self.now in
    let first = g.V.Transcript.starts q.view.now in
    let xs = g.V.Transcript.lines q.view.now in
    let live = length q.used.now in
    let entry = c.args.entry in
    let p = last_held first q.used.now in
    let b = c.args.frame.now.start_bound in
    let d = c.args.frame.now.end_bound in
    let big : ℕ = 18446744073709551615 in
    let s : c.furthest-start.result ≡ min (far b entry) big = c.furthest-start.ensures ∙ ap (λ x. min (far x entry) big) c.start_bound.ensures in
    let t : c.furthest-end.result ≡ min (far d entry) big = c.furthest-end.ensures ∙ ap (λ x. min (far x entry) big) c.end_bound.ensures in
    let want : c.max-wanted.result ≡ max (max live (min (far b entry) big)) (min (far d entry) big) = omega (arith, c.max.ensures, c.max-wanted.ensures, s, t) in
    came rank first xs q.used.now q.rises q.below q.line q.low q.high _ _ _ _ c.walk_on.ensures c.last_held.ensures.entries c.last_held.ensures.end
    ∙ ap (λ k. (walked q.line k (ends_from rank first xs p) (live - 1) p).0) want
    ∙ needs_used rank first xs q.used.now q.rises q.below q.line q.low q.high b d entry big (omega (arith, q.fits)) c.requires
