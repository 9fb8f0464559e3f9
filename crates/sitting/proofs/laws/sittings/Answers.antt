use Rattle.sitting.proofs.Law.{sitting_law}
use Rattle.sitting.proofs.laws.sittings.Goals as goal

pub returns : goal.returns
returns c = sitting_law
