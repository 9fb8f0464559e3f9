use Rattle.meaning.proofs.Clause.{same_decides, clause_holds, clause_lawful, clause_monotone, clause_causal, clause_not_causal, clause_view, clause_tracked}
use Rattle.meaning.proofs.laws.windows.Goals as goal

pub returns : goal.returns
returns c = record {
  same = same_decides;
  holds = clause_holds;
  lawful = clause_lawful;
  monotone = clause_monotone;
  causal = clause_causal;
  not_causal = clause_not_causal;
  view = clause_view;
  tracked = clause_tracked;
}
