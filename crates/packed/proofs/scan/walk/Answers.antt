use Rattle.std.proofs.Common.{◌≡◌, ◌+◌, ◌-◌, ◌<◌, false, not, ◌&&◌, eqb, length, get_or, Err, sym, ap, ◌∙◌, arith, rules}
use Rattle.frame.specs.declared.refusal.Reason.{Reason}
use Rattle.packed.specs.Scans.{refuse}
use Rattle.packed.proofs.Tails.{line_tail}
use Rattle.packed.proofs.Walks.{full, far, done, faulty, on}
use Rattle.packed.proofs.scan.walk.Goals as goal
use Rattle.packed.proofs.scan.walk.Goals.{then-count-table-via-then-count-table, then-count-table-via-else-count-table+then-place}

pub returns-then-count-table : goal.returns-then-count-table
returns-then-count-table g c s t =
    let some : 0 < length c.loop-rest.rest.now = search rules in
    elim c.then-count-table.branch [
      | then-count-table-via-then-count-table w ↦ ap Err c.refuse.ensures ∙ sym (full _ _ _ _ _ some w.if-count-table.true) ∙ c.loop-rest.invariant.2 s t
      | then-count-table-via-else-count-table+then-place w ↦ ap Err c.refuse.ensures ∙ sym (far _ _ _ _ _ some w.if-place.true) ∙ c.loop-rest.invariant.2 s t
    ]

pub returns-in-Err : goal.returns-in-Err
returns-in-Err g c s t =
    let some : 0 < length c.loop-rest.rest.now = search rules in
    let within : length c.args.bytes.now - length c.loop-rest.rest.now < 4294967296 = omega (arith, c.if-place.false) in
    ap Err (c.refuse-in-Err.ensures ∙ ap (λ (z : Reason). refuse z (length c.args.bytes.now - length c.loop-rest.rest.now)) c.into.ensures) ∙ sym (faulty _ _ _ _ _ some c.if-count-table.false within c.in-Err.fault c.in-Err.ensures) ∙ c.loop-rest.invariant.2 s t

pub loop-rest-smaller : goal.loop-rest-smaller
loop-rest-smaller g c = (line_tail _ _ c.in-Ok.ensures).0

pub loop-rest-preserved : goal.loop-rest-preserved
loop-rest-preserved g c =
    let some : 0 < length c.loop-rest.rest.now = search rules in
    let within : length c.args.bytes.now - length c.loop-rest.rest.now < 4294967296 = omega (arith, c.if-place.false) in
    let less : length c.in-Ok.read.1.now < length c.loop-rest.rest.now = (line_tail _ _ c.in-Ok.ensures).0 in
    let entry = get_or c.args.table.now c.loop-rest.count 0 in
    let place = length c.args.bytes.now - length c.loop-rest.rest.now in
    let at : length c.args.bytes.now - length c.in-Ok.read.1.now ≡ place + (length c.loop-rest.rest.now - length c.in-Ok.read.1.now) = omega arith in (
      omega arith,
      omega arith,
      λ s t.
          let test : false ≡ (s && not (eqb entry place)) = ap not (sym c.if-not-is_right.false) ∙ t entry place _ (omega (arith, c.type_inv.table c.loop-rest.count)) (omega arith) c.is_right.ensures in
          rw at (sym (on _ _ _ _ _ some c.if-count-table.false within _ c.in-Ok.ensures test) ∙ c.loop-rest.invariant.2 s t),
    )

pub returns : goal.returns
returns g c s t =
    let none : length c.loop-rest.rest.now ≡ 0 = search rules in
    sym (done _ _ _ _ _ none) ∙ c.loop-rest.invariant.2 s t
