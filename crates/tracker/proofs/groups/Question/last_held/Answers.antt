use Rattle.std.proofs.Common.{◌-◌, length, arith}
use Rattle.std.proofs.lemmas.List.{length-take-le}
use Rattle.search.specs.Views.{total_of}
use Rattle.tracker.proofs.Using.{past_first, last_is, few}
use Rattle.tracker.proofs.groups.Question.last_held.Goals as goal

pub overflow_sub-result : goal.overflow_sub-result
overflow_sub-result g c =
    let q = c.args.self.now in
    omega (arith, past_first (g.V.Transcript.starts q.view.now) (total_of (g.V.Transcript.starts q.view.now) (g.V.Transcript.lines q.view.now)) q.used.now q.rises q.below c.in-len1-up.len_at_least)

pub overflow_cast-result : goal.overflow_cast-result
overflow_cast-result g c =
    let q = c.args.self.now in
    let last = last_is (g.V.Transcript.starts q.view.now) (total_of (g.V.Transcript.starts q.view.now) (g.V.Transcript.lines q.view.now)) q.used.now q.rises q.below c.in-len1-up.len_at_least in
    let below = q.below in
    let fits = q.fits in
    omega arith

pub returns-in-len1-up-clause-low : goal.returns-in-len1-up-clause-low
returns-in-len1-up-clause-low g c =
    let q = c.args.self.now in
    omega (arith, past_first (g.V.Transcript.starts q.view.now) (total_of (g.V.Transcript.starts q.view.now) (g.V.Transcript.lines q.view.now)) q.used.now q.rises q.below c.in-len1-up.len_at_least)

pub returns-in-len1-up-clause-few : goal.returns-in-len1-up-clause-few
returns-in-len1-up-clause-few g c =
    let q = c.args.self.now in
    let first = g.V.Transcript.starts q.view.now in
    let last = last_is first (total_of first (g.V.Transcript.lines q.view.now)) q.used.now q.rises q.below c.in-len1-up.len_at_least in
    omega (arith, few first (total_of (g.V.Transcript.starts q.view.now) (g.V.Transcript.lines q.view.now)) q.used.now q.rises q.below c.in-len1-up.len_at_least, length-take-le (length q.used.now - 1) q.used.now (omega arith))
