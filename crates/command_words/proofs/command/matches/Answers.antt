use Rattle.std.proofs.Common.{◌≡◌, ◌∙◌, true, false}
use Rattle.clap.specs.Words.{app_of}
use Rattle.clap.specs.declared.error.kind.ErrorKind.TheVariants.{OutOfMemory}
use Rattle.command_words.proofs.Reading.{none_is_taken, rows_are, some_is_refused}
use Rattle.command_words.proofs.command.matches.Goals as goal

pub returns-in-Ok-clause-taken : goal.returns-in-Ok-clause-taken
returns-in-Ok-clause-taken c = none_is_taken (app_of c.args.command) _ (c.in-Ok.ensures.kinds c.requires)

pub returns-in-Ok-clause-rows : goal.returns-in-Ok-clause-rows
returns-in-Ok-clause-rows c = rows_are (app_of c.args.command) _ c.in-Ok.matches c.requires c.in-Ok.ensures.matches

pub returns-else-eq-clause-refused : goal.returns-else-eq-clause-refused
returns-else-eq-clause-refused c = λ other. some_is_refused (app_of c.args.command) _ c.in-Err.error (c.in-Err.ensures.kinds c.requires) (λ memory.
    let same : c.kind.result ≡ OutOfMemory = c.kind.ensures ∙ memory in
    let bad : false ≡ true = rw same at c.if-eq.ensures in
    cc)
