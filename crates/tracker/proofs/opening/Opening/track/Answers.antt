use Rattle.std.proofs.Common.{refl}
use Rattle.sitting.proofs.Law.{sitting_law}
use Rattle.tracker.proofs.opening.Opening.track.Goals as goal

pub returns : goal.returns
returns g c = record { fresh = refl; lent = refl; sittings = sitting_law }
