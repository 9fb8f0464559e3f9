use Rattle.std.proofs.Common.{rules}
use Rattle.words.proofs.Running.{cut_of}
use Rattle.words.proofs.cursor.Words.new.Goals as goal

pub returns : goal.returns
returns c = record { words = search rules; runs = cut_of c.args.text.now }
