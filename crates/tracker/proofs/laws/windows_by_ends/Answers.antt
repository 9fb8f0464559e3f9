use Rattle.meaning.specs.Lines.{Line}
use Rattle.tracker.proofs.ByEnds.{read_off}
use Rattle.tracker.proofs.Enough.{enough}
use Rattle.tracker.proofs.laws.windows_by_ends.Goals as goal

pub returns : goal.returns
returns c = record { read = read_off Line; enough = enough }
