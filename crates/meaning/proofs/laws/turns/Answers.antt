use Rattle.meaning.specs.Lines.{Line}
use Rattle.meaning.proofs.Turns.{ends_of_front}
use Rattle.meaning.proofs.Ends.{one_turn, ends_listed, ends_of_rest, reached_monotone}
use Rattle.meaning.proofs.Table.{table_view, table_filed}
use Rattle.meaning.proofs.Growing.{ends_grow, ends_walk, table_grows}
use Rattle.meaning.proofs.laws.turns.Goals as goal

pub returns : goal.returns
returns c = record {
  one = one_turn Line;
  listed = ends_listed Line;
  rest = ends_of_rest Line;
  front = ends_of_front Line;
  reach = reached_monotone Line;
  view = table_view Line;
  filed = table_filed Line;
  grow = ends_grow Line;
  walk = ends_walk Line;
  grows = table_grows Line;
}
