use Rattle.std.proofs.Common.{rules, ◌≡◌, Bool, true, false, ap, sym, ◌∙◌}
use Rattle.hart.specs.Effects.{is_private}
use Rattle.machine.specs.Steps.{is_indirect}
use Rattle.sim_laws.specs.Origins.{origin}
use Rattle.world.specs.Adopting.{code_shown}
use Rattle.ahead.specs.Making.{jump_gone}
use Rattle.ahead.proofs.Acting.{not_alone, next_goes, jump_goes, jump_stays, stop_none, stop_stays, never_out, some_by, none_by, stays_by}
use Rattle.ahead.proofs.going.go.Goals as goal

pub returns-then-not-private-clause-none : goal.returns-then-not-private-clause-none
returns-then-not-private-clause-none c =
    let shared : is_private c.args.i.now ≡ false = search rules in
    not_alone (origin (code_shown c.args.code.now)) c.args.code.now.image c.args.hart.now c.args.i.now shared

pub returns-in-Next-clause-some : goal.returns-in-Next-clause-some
returns-in-Next-clause-some c =
    let alone : is_private c.args.i.now ≡ true = search rules in
    next_goes (origin (code_shown c.args.code.now)) c.args.code.now.image _ c.args.hart.now c.act.new.hart c.args.i.now alone c.in-Next.ensures.acts.0 c.in-Next.ensures.acts.1

pub returns-in-Jump-clause-some : goal.returns-in-Jump-clause-some
returns-in-Jump-clause-some c =
    let alone : is_private c.args.i.now ≡ true = search rules in
    let org = origin (code_shown c.args.code.now) in
    let p = c.args.code.now.image in
    some_by c.jump.new.hart c.jump.result _ _
    (jump_goes org p _ c.args.hart.now c.act.new.hart c.args.i.now alone c.in-Jump.to c.in-Jump.by c.in-Jump.link c.in-Jump.ensures.acts.0 c.in-Jump.ensures.acts.1
    ∙ ap (λ (b : Bool). jump_gone org p b c.in-Jump.to c.in-Jump.by c.in-Jump.link c.act.new.hart) (sym c.is_indirect.ensures))
    c.jump.ensures.some

pub returns-in-Jump-clause-none : goal.returns-in-Jump-clause-none
returns-in-Jump-clause-none c =
    let alone : is_private c.args.i.now ≡ true = search rules in
    let org = origin (code_shown c.args.code.now) in
    let p = c.args.code.now.image in
    none_by c.jump.result _ _
    (jump_goes org p _ c.args.hart.now c.act.new.hart c.args.i.now alone c.in-Jump.to c.in-Jump.by c.in-Jump.link c.in-Jump.ensures.acts.0 c.in-Jump.ensures.acts.1
    ∙ ap (λ (b : Bool). jump_gone org p b c.in-Jump.to c.in-Jump.by c.in-Jump.link c.act.new.hart) (sym c.is_indirect.ensures))
    c.jump.ensures.none

pub returns-in-Jump-clause-stays : goal.returns-in-Jump-clause-stays
returns-in-Jump-clause-stays c =
    let alone : is_private c.args.i.now ≡ true = search rules in
    stays_by c.jump.result c.jump.new.hart c.act.new.hart c.args.hart.now
    (jump_stays (origin (code_shown c.args.code.now)) c.args.code.now.image _ c.args.hart.now c.act.new.hart c.args.i.now alone c.in-Jump.to c.in-Jump.by c.in-Jump.link c.in-Jump.ensures.acts.0 c.in-Jump.ensures.acts.1)
    c.jump.ensures.stays

pub returns-in-Stored : goal.returns-in-Stored
returns-in-Stored c =
    let alone : is_private c.args.i.now ≡ true = search rules in
    let org = origin (code_shown c.args.code.now) in
    record {
      some = tt;
      none = stop_none org c.args.code.now.image _ c.args.hart.now c.act.new.hart c.args.i.now alone _ tt c.in-Stored.ensures.acts.0;
      stays = stop_stays org c.args.code.now.image _ c.args.hart.now c.act.new.hart c.args.i.now alone _ tt c.in-Stored.ensures.acts.0 c.in-Stored.ensures.acts.1;
    }

pub returns-in-Call : goal.returns-in-Call
returns-in-Call c =
    let alone : is_private c.args.i.now ≡ true = search rules in
    let org = origin (code_shown c.args.code.now) in
    record {
      some = tt;
      none = stop_none org c.args.code.now.image _ c.args.hart.now c.act.new.hart c.args.i.now alone _ tt c.in-Call.ensures.acts.0;
      stays = stop_stays org c.args.code.now.image _ c.args.hart.now c.act.new.hart c.args.i.now alone _ tt c.in-Call.ensures.acts.0 c.in-Call.ensures.acts.1;
    }

pub returns-in-Trap : goal.returns-in-Trap
returns-in-Trap c =
    let alone : is_private c.args.i.now ≡ true = search rules in
    let org = origin (code_shown c.args.code.now) in
    record {
      some = tt;
      none = stop_none org c.args.code.now.image _ c.args.hart.now c.act.new.hart c.args.i.now alone _ tt c.in-Trap.ensures.acts.0;
      stays = stop_stays org c.args.code.now.image _ c.args.hart.now c.act.new.hart c.args.i.now alone _ tt c.in-Trap.ensures.acts.0 c.in-Trap.ensures.acts.1;
    }

pub returns-in-LinkUse : goal.returns-in-LinkUse
returns-in-LinkUse c =
    let alone : is_private c.args.i.now ≡ true = search rules in
    let org = origin (code_shown c.args.code.now) in
    record {
      some = tt;
      none = stop_none org c.args.code.now.image _ c.args.hart.now c.act.new.hart c.args.i.now alone _ tt c.in-LinkUse.ensures.acts.0;
      stays = stop_stays org c.args.code.now.image _ c.args.hart.now c.act.new.hart c.args.i.now alone _ tt c.in-LinkUse.ensures.acts.0 c.in-LinkUse.ensures.acts.1;
    }

pub returns-in-NoMemory : goal.returns-in-NoMemory
returns-in-NoMemory c =
    let alone : is_private c.args.i.now ≡ true = search rules in
    absurd (never_out (origin (code_shown c.args.code.now)) c.args.code.now.image _ c.args.hart.now c.act.new.hart c.args.i.now alone c.in-NoMemory.ensures.acts.0)
