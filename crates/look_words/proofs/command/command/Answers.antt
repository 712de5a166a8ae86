use Rattle.std.proofs.Common.{ap, codes, ◌∙◌}
use Rattle.std.proofs.lemmas.Result.{IfOk-weaker}
use Rattle.clap.specs.Words.{App, with_rule}
use Rattle.command_words.specs.Commands.{positional, option}
use Rattle.look_words.proofs.command.command.Goals as goal

pub returns : goal.returns
returns c =
    let first = c.in_ok-named.ensures ∙ ap (λ (a : App). with_rule a (positional (codes "program"))) c.unnamed.ensures in
    let second = c.in_ok-placed.ensures ∙ ap (λ (a : App). with_rule a (option (codes "region"))) first in
    let third = c.in_ok-chosen.ensures ∙ ap (λ (a : App). with_rule a (option (codes "function"))) second in
    let fourth = c.in_ok-scripted.ensures ∙ ap (λ (a : App). with_rule a (option (codes "script"))) third in
    let fifth = c.in_ok-recorded.ensures ∙ ap (λ (a : App). with_rule a (option (codes "ring"))) fourth in
    IfOk-weaker c.with_option-5.result _ _ (λ d is. is ∙ ap (λ (a : App). with_rule a (option (codes "svg"))) fifth) c.with_option-5.ensures
