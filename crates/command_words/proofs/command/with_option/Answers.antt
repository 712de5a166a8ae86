use Rattle.std.proofs.Common.{rules, ap, ◌≡◌, ◌∙◌}
use Rattle.clap.specs.Words.{app_of, rule_of, with_rule}
use Rattle.command_words.specs.Commands.{option}
use Rattle.command_words.proofs.command.with_option.Goals as goal

pub returns : goal.returns
returns c =
    let is : rule_of c.long-arg.result ≡ option c.args.name.now = search rules in
    c.in_ok-arg.ensures.shape (search rules) ∙ ap (with_rule (app_of c.args.command)) is
