use Rattle.std.proofs.Common.{ℕ, drop, ap, ◌∙◌}
use Rattle.std.proofs.lemmas.List.{take_rest}
use Rattle.packed.specs.Views.{place_of}
use Rattle.packed.proofs.Shows.{handed}
use Rattle.packed.proofs.view.PackedView.bytes_from.Goals as goal

pub returns : goal.returns
returns g c =
    let v = c.args.self.now in
    let e = take_rest v.bytes.now c.place_of-place.result
    ∙ ap (λ (p : ℕ). drop p v.bytes.now) c.place_of-place.ensures.value
    ∙ ap (λ (k : ℕ). drop (place_of v k) v.bytes.now) c.saturating_sub.ensures in
    record { table = e; kept = e ∙ handed v c.args.n }
