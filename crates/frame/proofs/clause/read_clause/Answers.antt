use Rattle.std.proofs.Common.{sym, ◌∙◌}
use Rattle.std.proofs.lemmas.Result.{err_from_is_err_and}
use Rattle.frame.proofs.Derives.{forward, backward, only_frame, no_ok}
use Rattle.frame.proofs.Written.{shown_reads_back}
use Rattle.frame.proofs.clause.read_clause.Goals as goal

pub returns-in_err-parse-clause-grammar : goal.returns-in_err-parse-clause-grammar
returns-in_err-parse-clause-grammar c =
    let p = err_from_is_err_and c.from_residual.result c.from_residual.ensures.1 in
    rw p.1 (λ f d. no_ok (c.in_err-parse.ensures ∙ backward c.args.text.now f d))

pub returns-in_err-parse-clause-shown : goal.returns-in_err-parse-clause-shown
returns-in_err-parse-clause-shown c = shown_reads_back

pub returns-clause-grammar : goal.returns-clause-grammar
returns-clause-grammar c =
    let e = sym c.in_ok-parse.ensures in
    (forward _ _ e, λ f d. only_frame _ f _ e d)

pub returns-clause-shown : goal.returns-clause-shown
returns-clause-shown c = shown_reads_back
