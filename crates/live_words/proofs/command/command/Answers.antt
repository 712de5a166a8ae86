use Rattle.std.proofs.Common.{ap, codes, ◌∙◌}
use Rattle.std.proofs.lemmas.Result.{IfOk-weaker}
use Rattle.clap.specs.Words.{App, with_rule}
use Rattle.command_words.specs.Commands.{positional, option, flag}
use Rattle.live_words.proofs.command.command.Goals as goal

pub returns : goal.returns
returns c =
    let first = c.in_ok-named.ensures ∙ ap (λ (a : App). with_rule a (positional (codes "program"))) c.unnamed.ensures in
    let second = c.in_ok-shared.ensures ∙ ap (λ (a : App). with_rule a (option (codes "workers"))) first in
    let third = c.in_ok-timed.ensures ∙ ap (λ (a : App). with_rule a (option (codes "every"))) second in
    let fourth = c.in_ok-limited.ensures ∙ ap (λ (a : App). with_rule a (option (codes "limit"))) third in
    let fifth = c.in_ok-placed.ensures ∙ ap (λ (a : App). with_rule a (option (codes "region"))) fourth in
    let sixth = c.in_ok-noted.ensures ∙ ap (λ (a : App). with_rule a (option (codes "ring"))) fifth in
    let seventh = c.in_ok-recorded.ensures ∙ ap (λ (a : App). with_rule a (option (codes "record"))) sixth in
    IfOk-weaker c.with_flag.result _ _ (λ d is. is ∙ ap (λ (a : App). with_rule a (flag (codes "report"))) seventh) c.with_flag.ensures
