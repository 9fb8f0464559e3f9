use Rattle.meaning.specs.Lines.{Line}
use Rattle.tracker.proofs.Rising.{ends_rise, walked_counts}
use Rattle.tracker.proofs.laws.walks.Goals as goal

pub returns : goal.returns
returns c = record { rise = ends_rise Line; counts = walked_counts }
