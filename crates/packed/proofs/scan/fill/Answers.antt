use Rattle.std.proofs.Common.{◌≡◌, ◌+◌, ◌-◌, ◌<◌, length, ◌∙◌, arith}
use Rattle.packed.proofs.Tails.{line_tail}
use Rattle.packed.proofs.Fills.{half_more, near, ok_more}
use Rattle.packed.proofs.scan.fill.Goals as goal

pub overflow_cast-slot : goal.overflow_cast-slot
overflow_cast-slot c = omega (arith, near c.loop-slot.table c.loop-slot.slot-index _ _ _ c.in-Ok.ensures c.loop-slot.invariant.1)

pub loop-slot-preserved : goal.loop-slot-preserved
loop-slot-preserved c =
    let lt : c.loop-slot.slot-index < length c.loop-slot.table = omega arith in
    let less : length c.in-Ok.next.now < length c.loop-slot.rest.now = (line_tail _ _ c.in-Ok.ensures).0 in
    let at : length c.args.bytes.now - length c.in-Ok.next.now ≡ (length c.args.bytes.now - length c.loop-slot.rest.now) + (length c.loop-slot.rest.now - length c.in-Ok.next.now) = omega arith in (
      omega arith,
      rw at (ok_more c.loop-slot.table c.loop-slot.slot-index _ _ _ _ lt c.in-Ok.ensures c.loop-slot.invariant.1),
      rw at (half_more c.loop-slot.table c.loop-slot.slot-index _ _ _ lt c.in-Ok.ensures ∙ c.loop-slot.invariant.2),
    )
