use Rattle.std.proofs.Common.{◌≡◌, rules}
use Rattle.std.specs.Result.{result_ok}
use Rattle.words.specs.Numbers.{numeral}
use Rattle.words.proofs.Decimal.{written_by}
use Rattle.words.proofs.word.Span.number.Goals as goal

pub returns-clause-digits : goal.returns-clause-digits
returns-clause-digits c =
    let w = c.args.self.text.now in
    let o = result_ok c.ok_or.result in
    let e : numeral w ≡ o = search rules in
    written_by w o e
