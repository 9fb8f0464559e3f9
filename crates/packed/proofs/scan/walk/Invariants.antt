use Rattle.std.proofs.Common.{◌≡◌, ◌-◌, ◌≤◌, Bool, length, drop}
use Rattle.packed.specs.Scans.{walk_of, TestsEntry}
use Rattle.packed.proofs.scan.walk.Given as goal

-- what is left to walk answers what the whole walk does
abbrev pub invariant-loop-rest : goal.invariant-loop-rest
invariant-loop-rest g l =
    (length l.rest ≤ length l.bytes)
    × (l.count ≤ length l.table)
    × ((s : Bool) → TestsEntry s (goal.F-post g l.is_right) → walk_of s (drop l.count l.table) l.count (length l.bytes - length l.rest) l.rest ≡ walk_of s l.table 0 0 l.bytes)

abbrev pub decreases-loop-rest : goal.decreases-loop-rest
decreases-loop-rest g l = length l.rest
