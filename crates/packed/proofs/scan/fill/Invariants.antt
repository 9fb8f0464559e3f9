use Rattle.std.proofs.Common.{◌≡◌, ◌-◌, ◌≤◌, true, false, length, drop, is_ok}
use Rattle.packed.specs.Scans.{walk_of, filled}
use Rattle.packed.proofs.Fills.{half}
use Rattle.packed.proofs.scan.fill.Given as goal

abbrev pub invariant-loop-slot : goal.invariant-loop-slot
invariant-loop-slot l =
    (length l.rest ≤ length l.bytes)
    × (is_ok (walk_of false (drop l.slot-index l.table) l.slot-index (length l.bytes - length l.rest) l.rest) ≡ true)
    × (half l.table l.slot-index (length l.bytes - length l.rest) l.rest ≡ filled l.initial.table 0 l.bytes)
