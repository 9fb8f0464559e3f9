-- A target seen from the line tested: as far the other way.
use Rattle.std.proofs.Common.{◌≡◌, ℤ, Bool, true, false, Some, None, refl, arith}
use Rattle.std.proofs.lemmas.Int.{ints}
use Rattle.frame.specs.declared.bound.WindowFrameBound.{WindowFrameBound}
use Rattle.frame.specs.declared.bound.WindowFrameBound.TheVariants.{UnboundedPreceding, Preceding, CurrentRow, Following, UnboundedFollowing}
use Rattle.frame.specs.Bounds.{turned}
use Rattle.meaning.specs.declared.options.SortOptions.{SortOptions}
use Rattle.meaning.specs.Lines.{Line}
use Rattle.meaning.specs.Ranges.{before, rank_before, rank_target, target}

ranks_faced : (d : Bool) (b : WindowFrameBound) (x y : ℤ) → rank_before d y (rank_target d (turned b) x) ≡ rank_before d (rank_target d b y) x
ranks_faced d UnboundedPreceding x y = refl
ranks_faced false (Preceding n) x y = grind (arith, ints)
ranks_faced true (Preceding n) x y = grind (arith, ints)
ranks_faced d CurrentRow x y = refl
ranks_faced false (Following n) x y = grind (arith, ints)
ranks_faced true (Following n) x y = grind (arith, ints)
ranks_faced d UnboundedFollowing x y = refl

pub faced : (o : SortOptions) (b : WindowFrameBound) (x y : Line) → before o y (target o (turned b) x) ≡ before o (target o b y) x
faced o b (Some x) (Some y) = ranks_faced o.descending b x y
faced o b (Some x) None = refl
faced o b None (Some y) = refl
faced o b None None = refl
