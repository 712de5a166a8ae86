use Rattle.std.proofs.Common.{sym, ap, ◌∙◌}
use Rattle.std.specs.Prelude.{is_some}
use Rattle.sim_laws.specs.Steps.{replaced_step, is_layout}
use Rattle.world.specs.Worlds.{code_in}
use Rattle.world.proofs.Fetching.{layout_kind, real_kind, layout_left, real_made, word_is}
use Rattle.world.proofs.Noting.{ended_none, resting_none, layout_none, real_moved}
use Rattle.world.proofs.code.other_step_in.Goals as goal

pub returns-then-is_layout_fetch-clause-kind : goal.returns-then-is_layout_fetch-clause-kind
returns-then-is_layout_fetch-clause-kind c =
    layout_kind (code_in c.args.image.now c.args.text.now c.args.lives.now.layouts.items) c.args.h c.args.machine.now c.hart.result.now c.fetch-fetched.result
    (ap is_some (sym c.outcome.ensures) ∙ sym c.is_some.ensures ∙ c.if-is_some.false) (sym c.is_live.ensures ∙ c.if-not-is_live.false) c.hart.ensures c.fetch-fetched.ensures
    (sym c.is_layout_fetch.ensures ∙ c.if-is_layout_fetch.true)

pub returns-then-is_layout_fetch-clause-step : goal.returns-then-is_layout_fetch-clause-step
returns-then-is_layout_fetch-clause-step c =
    let code = code_in c.args.image.now c.args.text.now c.args.lives.now.layouts.items in
    layout_left code c.args.h c.args.machine.now c.hart.result.now c.fetch-fetched.result
    (ap is_some (sym c.outcome.ensures) ∙ sym c.is_some.ensures ∙ c.if-is_some.false) (sym c.is_live.ensures ∙ c.if-not-is_live.false) c.hart.ensures c.fetch-fetched.ensures
    (replaced_step c.args.image.now code c.args.h c.args.machine.now) (sym c.is_layout_fetch.ensures ∙ c.if-is_layout_fetch.true)

pub step_live-requires-clause-word : goal.step_live-requires-clause-word
step_live-requires-clause-word c =
    word_is (code_in c.args.image.now c.args.text.now c.args.lives.now.layouts.items) c.args.h c.args.machine.now c.hart.result.now c.fetch-fetched.result
    (ap is_some (sym c.outcome.ensures) ∙ sym c.is_some.ensures ∙ c.if-is_some.false) (sym c.is_live.ensures ∙ c.if-not-is_live.false) c.hart.ensures c.fetch-fetched.ensures
    c.word_of.result c.word_of.ensures (sym c.is_layout_fetch.ensures ∙ c.if-is_layout_fetch.false)

pub returns-clause-kind : goal.returns-clause-kind
returns-clause-kind c =
    real_kind (code_in c.args.image.now c.args.text.now c.args.lives.now.layouts.items) c.args.h c.args.machine.now c.hart.result.now c.fetch-fetched.result
    (ap is_some (sym c.outcome.ensures) ∙ sym c.is_some.ensures ∙ c.if-is_some.false) (sym c.is_live.ensures ∙ c.if-not-is_live.false) c.hart.ensures c.fetch-fetched.ensures
    (sym c.is_layout_fetch.ensures ∙ c.if-is_layout_fetch.false)

pub returns-clause-step : goal.returns-clause-step
returns-clause-step c =
    let code = code_in c.args.image.now c.args.text.now c.args.lives.now.layouts.items in
    real_made code c.args.h c.args.machine.now c.hart.result.now c.fetch-fetched.result
    (ap is_some (sym c.outcome.ensures) ∙ sym c.is_some.ensures ∙ c.if-is_some.false) (sym c.is_live.ensures ∙ c.if-not-is_live.false) c.hart.ensures c.fetch-fetched.ensures
    c.step_live.new.machine (replaced_step c.args.image.now code c.args.h c.args.machine.now) (sym c.is_layout_fetch.ensures ∙ c.if-is_layout_fetch.false) c.in-Ok.ensures.ok

pub returns-then-is_some-clause-transfer : goal.returns-then-is_some-clause-transfer
returns-then-is_some-clause-transfer c =
    sym (ended_none c.args.image.now (code_in c.args.image.now c.args.text.now c.args.lives.now.layouts.items) c.args.h c.args.machine.now (ap is_some (sym c.outcome.ensures) ∙ sym c.is_some.ensures ∙ c.if-is_some.true))

pub returns-then-not-is_live-clause-transfer : goal.returns-then-not-is_live-clause-transfer
returns-then-not-is_live-clause-transfer c =
    sym (resting_none c.args.image.now (code_in c.args.image.now c.args.text.now c.args.lives.now.layouts.items) c.args.h c.args.machine.now
    (ap is_some (sym c.outcome.ensures) ∙ sym c.is_some.ensures ∙ c.if-is_some.false) (sym c.is_live.ensures ∙ c.if-not-is_live.true))

pub returns-then-is_layout_fetch-clause-transfer : goal.returns-then-is_layout_fetch-clause-transfer
returns-then-is_layout_fetch-clause-transfer c =
    let code = code_in c.args.image.now c.args.text.now c.args.lives.now.layouts.items in
    let kind = layout_kind code c.args.h c.args.machine.now c.hart.result.now c.fetch-fetched.result
    (ap is_some (sym c.outcome.ensures) ∙ sym c.is_some.ensures ∙ c.if-is_some.false) (sym c.is_live.ensures ∙ c.if-not-is_live.false) c.hart.ensures c.fetch-fetched.ensures
    (sym c.is_layout_fetch.ensures ∙ c.if-is_layout_fetch.true) in
    sym (layout_none c.args.image.now code c.args.h c.args.machine.now (sym (ap is_layout kind)))

pub returns-clause-transfer : goal.returns-clause-transfer
returns-clause-transfer c =
    let code = code_in c.args.image.now c.args.text.now c.args.lives.now.layouts.items in
    let kind = real_kind code c.args.h c.args.machine.now c.hart.result.now c.fetch-fetched.result
    (ap is_some (sym c.outcome.ensures) ∙ sym c.is_some.ensures ∙ c.if-is_some.false) (sym c.is_live.ensures ∙ c.if-not-is_live.false) c.hart.ensures c.fetch-fetched.ensures
    (sym c.is_layout_fetch.ensures ∙ c.if-is_layout_fetch.false) in
    real_moved c.args.image.now code c.args.h c.args.machine.now c.in-Ok.transfer (sym (ap is_layout kind)) c.in-Ok.ensures.transfer
