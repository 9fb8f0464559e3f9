use Rattle.std.proofs.Common.{◌≤◌, length, rules}
use Rattle.packed.proofs.Shows.{entry_within}
use Rattle.packed.proofs.view.PackedViewTranscript.line.Goals as goal

pub slice_bounds-read-count : goal.slice_bounds-read-count
slice_bounds-read-count g c =
    let found = c.in_ok-place.ensures.lookup.3 in
    entry_within c.args.self.now _ _ found.0 (found.1 0)

pub slice_bounds-read-start : goal.slice_bounds-read-start
slice_bounds-read-start g c =
    let found = c.in_ok-place.ensures.lookup.3 in
    let h : c.in_ok-place.field-0.now ≤ length c.args.self.now.bytes.now = entry_within c.args.self.now _ _ found.0 (found.1 0) in
    search rules
