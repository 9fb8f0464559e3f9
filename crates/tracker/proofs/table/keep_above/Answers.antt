use Rattle.std.proofs.Common.{leb, take, ◌∙◌, arith, rules, tests}
use Rattle.std.proofs.lemmas.List.{length-take-le}
use Rattle.std.proofs.lemmas.List.{length-take-le}
use Rattle.std.proofs.lemmas.List.Sorted.{IsPartitionPoint-from_clause}
use Rattle.tracker.proofs.Splitting.{rising_splits, kept_count, kept_front}
use Rattle.tracker.proofs.table.keep_above.Goals as goal

pub returns-clause-count : goal.returns-clause-count
returns-clause-count c =
    let point = IsPartitionPoint-from_clause (λ e. leb e c.args.n) (take c.args.live c.args.table.now) c.partition_point-gone.result c.partition_point-gone.ensures.partitioned (rising_splits c.args.n c.args.live c.args.table.now c.requires.room c.requires.rising) (λ a r f k. search (rules, tests)) in
    kept_count c.args.n c.args.live c.args.table.now c.requires.room c.partition_point-gone.result (omega (arith, c.partition_point-gone.ensures.bound, length-take-le c.args.live c.args.table.now c.requires.room)) point

pub returns-clause-moved : goal.returns-clause-moved
returns-clause-moved c =
    let point = IsPartitionPoint-from_clause (λ e. leb e c.args.n) (take c.args.live c.args.table.now) c.partition_point-gone.result c.partition_point-gone.ensures.partitioned (rising_splits c.args.n c.args.live c.args.table.now c.requires.room c.requires.rising) (λ a r f k. search (rules, tests)) in
    c.copy_within.ensures.after ∙ kept_front c.args.n c.args.live c.args.table.now c.requires.room c.partition_point-gone.result (omega (arith, c.partition_point-gone.ensures.bound, length-take-le c.args.live c.args.table.now c.requires.room)) point
