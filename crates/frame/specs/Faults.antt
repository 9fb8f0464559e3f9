-- What the reader's errors and answers say.
use Rattle.std.specs.Prelude.{Result}
use Rattle.frame.specs.declared.errors.BoundError.{BoundError}
use Rattle.frame.specs.declared.errors.BoundError.TheVariants as bound
use Rattle.frame.specs.declared.errors.ClauseError.{ClauseError}
use Rattle.frame.specs.declared.errors.ClauseError.TheVariants as clause
use Rattle.frame.specs.declared.reader.ReadBound.{ReadBound}
use Rattle.frame.specs.declared.frame.WindowFrame.{WindowFrame}
use Rattle.frame.specs.declared.clause.ClauseRefusal.{ClauseRefusal}
use Rattle.frame.specs.declared.refusal.Reason.TheVariants.{ClauseTooLong, WrongWord, BadNumber, WordAfterClause, StartUnboundedFollowing, EndUnboundedPreceding}
use Rattle.frame.specs.declared.refusal.Layer.TheVariants as layers
use Rattle.words.specs.Faults.{both, fault}
use Rattle.words.specs.Tokens.{placed}
use Rattle.frame.specs.Clause.{Said}
use Rattle.frame.specs.Frames.{Frame, framed}
use Rattle.frame.specs.Refusals.{Refused, refused, refusal_of}

abbrev pub told_bound : BoundError → Refused
told_bound (bound.Word e) = refused BadNumber layers.Word (fault e)
told_bound (bound.Wrong s) = refused WrongWord layers.Bound (placed s)

abbrev pub told : ClauseError → Refused
told (clause.TooLong s) = refused ClauseTooLong layers.Clause (placed s)
told (clause.Bound e) = told_bound e
told (clause.Wrong s) = refused WrongWord layers.Clause (placed s)
told (clause.After s) = refused WordAfterClause layers.Clause (placed s)
told (clause.Start s) = refused StartUnboundedFollowing layers.Clause (placed s)
told (clause.End s) = refused EndUnboundedPreceding layers.Clause (placed s)

abbrev pub said : ReadBound → Said
said b = record { bound = b.bound; at = placed b.at }

-- why a clause is refused, with the word at fault
abbrev pub told_clause : ClauseRefusal → Refused
told_clause e = refusal_of e.refusal e.word.now

-- a frame or why it is refused, with the word at fault
abbrev pub answer : Result WindowFrame ClauseRefusal → Result Frame Refused
answer r = both framed told_clause r
