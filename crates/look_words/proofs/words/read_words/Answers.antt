use Rattle.std.proofs.Common.{subst, None, Some, ◌≢◌}
use Rattle.std.proofs.lemmas.Result.{err_from_is_err_and, IfErr-weaker, IfOk-weaker}
use Rattle.command_words.specs.declared.fault.WordsFault.TheVariants.{NoMemory}
use Rattle.clap.specs.Words.{app_of, found_of}
use Rattle.look_words.proofs.Meaning.{simple, said, unsaid}
use Rattle.look_words.proofs.words.read_words.Goals as goal

pub matches-requires : goal.matches-requires
matches-requires c = simple (app_of c.in-Ok.command) c.in-Ok.ensures

pub returns-in_err-matches-clause-err : goal.returns-in_err-matches-clause-err
returns-in_err-matches-clause-err c =
    let (fault, is, from) = err_from_is_err_and c.from_residual.result c.from_residual.ensures.1 in
    rw is (λ other. unsaid (app_of c.in-Ok.command) _ c.in-Ok.ensures (c.in_err-matches.ensures.refused (subst (λ e. e ≢ NoMemory) from other)))

pub returns-clause-ok : goal.returns-clause-ok
returns-clause-ok c = IfOk-weaker c.words_by.result _ _ (λ words by. said (app_of c.in-Ok.command) _ (found_of c.in_ok-matches.matches) (Some words) c.in-Ok.ensures c.in_ok-matches.ensures.taken c.in_ok-matches.ensures.rows by) c.words_by.ensures.ok

pub returns-clause-err : goal.returns-clause-err
returns-clause-err c = IfErr-weaker c.words_by.result _ _ (λ e by other. said (app_of c.in-Ok.command) _ (found_of c.in_ok-matches.matches) None c.in-Ok.ensures c.in_ok-matches.ensures.taken c.in_ok-matches.ensures.rows (by other)) c.words_by.ensures.err
