-- ROWS: the laws.
use Rattle.std.proofs.Common.{List, arith}
use Rattle.std.proofs.lemmas.Bool.Decides.{nat_tests}
use Rattle.std.proofs.lemmas.List.{length-take, length-drop}
use Rattle.frame.specs.declared.bound.WindowFrameBound.{WindowFrameBound}
use Rattle.frame.specs.declared.bound.WindowFrameBound.TheVariants.{UnboundedPreceding, Preceding, CurrentRow, Following, UnboundedFollowing}
use Rattle.meaning.specs.Edges.{Lawful}
use Rattle.meaning.specs.Rows.{rows_start, rows_end}
use Rattle.meaning.proofs.Edges.{none_lawful, all_lawful}

module _ {L : Type 0} (F : List L) where
  pub start_lawful : (b : WindowFrameBound) → Lawful F (rows_start b)
  start_lawful UnboundedPreceding = none_lawful F
  start_lawful (Preceding n) = record { cut = λ t i v l. omega arith; rest = λ f i v l. omega arith; rises = λ i k h l. omega arith }
  start_lawful CurrentRow = record { cut = λ t i v l. omega arith; rest = λ f i v l. omega arith; rises = λ i k h l. omega arith }
  start_lawful (Following n) = record { cut = λ t i v l. let m = length-take t F in omega arith; rest = λ f i v l. let m = length-drop f F in omega arith; rises = λ i k h l. omega arith }
  start_lawful UnboundedFollowing = all_lawful F

  pub end_lawful : (b : WindowFrameBound) → Lawful F (rows_end b)
  end_lawful UnboundedPreceding = none_lawful F
  end_lawful (Preceding n) = record { cut = λ t i v l. grind (arith, nat_tests); rest = λ f i v l. grind (arith, nat_tests); rises = λ i k h l. grind (arith, nat_tests) }
  end_lawful CurrentRow = record { cut = λ t i v l. omega arith; rest = λ f i v l. omega arith; rises = λ i k h l. omega arith }
  end_lawful (Following n) = record { cut = λ t i v l. let m = length-take t F in omega arith; rest = λ f i v l. let m = length-drop f F in omega arith; rises = λ i k h l. omega arith }
  end_lawful UnboundedFollowing = all_lawful F
