use Rattle.std.proofs.Common.{ap, ◌∙◌}
use Rattle.clap.specs.Simple.{app_of_fields}
use Rattle.command_words.specs.Commands.{unnamed}
use Rattle.command_words.proofs.command.unnamed.Goals as goal

pub returns : goal.returns
returns c = ap app_of_fields c.no_binary_name.ensures ∙ ap unnamed c.new.ensures.app
