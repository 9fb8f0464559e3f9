use Rattle.std.proofs.Common.{refl}
use Rattle.meaning.proofs.laws.samples.Goals as goal

-- each is computed
pub returns : goal.returns
returns c = record {
  windows = (refl, (refl, (refl, (refl, (refl, (refl, (refl, (refl, (refl, (refl, (refl, (refl, (refl, (refl, (refl, (refl, (refl, (refl, (refl, (refl, (refl, (refl, (refl, (refl, (refl, tt)))))))))))))))))))))))));
  tables = (refl, refl, refl);
}
