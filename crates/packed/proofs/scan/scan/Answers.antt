use Rattle.std.proofs.Common.{◌≡◌, Ok, Err, refl, arith, rules}
use Rattle.packed.specs.Scans.{scan_of}
use Rattle.packed.proofs.Listing.{scanned}
use Rattle.packed.proofs.scan.scan.Goals as goal

pub returns-in_err-count-clause-lines : goal.returns-in_err-count-clause-lines
returns-in_err-count-clause-lines c =
    let answer : c.from_residual.result ≡ scan_of c.args.table.now c.args.bytes.now = search rules in
    scanned c.args.bytes.now c.args.table.now _ _ (λ i. omega (arith, c.type_inv.bytes i)) answer (search rules)

pub returns-then-count-clause-lines : goal.returns-then-count-clause-lines
returns-then-count-clause-lines c =
    let answer : Err c.refuse.result ≡ scan_of c.args.table.now c.args.bytes.now = search rules in
    scanned c.args.bytes.now c.args.table.now _ _ (λ i. omega (arith, c.type_inv.bytes i)) answer refl

pub returns-clause-lines : goal.returns-clause-lines
returns-clause-lines c =
    let answer : Ok c.in_ok-count.count ≡ scan_of c.args.table.now c.args.bytes.now = search rules in
    scanned c.args.bytes.now c.args.table.now _ _ (λ i. omega (arith, c.type_inv.bytes i)) answer c.fill.ensures
