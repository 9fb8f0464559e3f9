use Rattle.std.proofs.Common.{◌≡◌, rules}
use Rattle.packed.specs.Views.{place_of}
use Rattle.packed.proofs.Shows.{place_within}
use Rattle.packed.proofs.view.PackedView.place_of.Goals as goal

pub returns : goal.returns
returns g c =
    let value : c.map_or.result ≡ place_of c.args.self.now c.args.k = search rules in
    record { value = value; bound = rw value (place_within c.args.self.now c.args.k) }
