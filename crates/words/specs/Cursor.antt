-- What a cursor has left of its clause.
use Rattle.std.specs.Prelude.{length}
use Rattle.words.specs.declared.cursor.Words.{Words}
use Rattle.words.specs.Words.{Rest, words_from}

abbrev pub left : Words → Rest
left w = record { words = words_from w.text.now w.at; end = length w.text.now }
