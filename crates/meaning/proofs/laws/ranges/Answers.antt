use Rattle.meaning.proofs.Clause.{range_unsettled}
use Rattle.meaning.proofs.Mirror.{range_mirror}
use Rattle.meaning.proofs.Ranges.{range_fronts}
use Rattle.meaning.proofs.Sorting.{range_walked}
use Rattle.meaning.proofs.laws.ranges.Goals as goal

pub returns : goal.returns
returns c = record { fronts = range_fronts; walked = range_walked; mirror = range_mirror; unsettled = range_unsettled }
