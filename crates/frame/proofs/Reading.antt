-- The parts of a clause, read one after the other, are the clause.
use Rattle.std.proofs.Common.{◌≡◌, ℕ, ◌≤◌, Bool, cond, List, [], length, Err, ap}
use Rattle.std.proofs.lemmas.Bool.{le-leb}
use Rattle.frame.specs.declared.refusal.Reason.TheVariants.{ClauseTooLong}
use Rattle.frame.specs.declared.refusal.Layer.TheVariants as layers
use Rattle.words.specs.Words.{all_words}
use Rattle.frame.specs.Refusals.{refused}
use Rattle.frame.specs.Clause.{clause_of, clause}

-- a text that is short enough says what its words say
pub short_clause : (bs : List ℕ) → length bs ≤ 256 → clause bs ≡ clause_of (all_words bs)
short_clause bs short = ap (λ (t : Bool). cond t (clause_of (all_words bs)) (Err (refused ClauseTooLong layers.Clause (record { text = []; place = 256 })))) (le-leb (length bs) 256 short)
