use Rattle.std.proofs.Common.{◌∙◌, ap, rules}
use Rattle.rv_isa.specs.declared.instr.Width.TheVariants.{D}
use Rattle.guest_mem.specs.Access.{refusal, loaded}
use Rattle.guest_mem.proofs.Reading.{loaded-ok, whole-back}
use Rattle.guest_mem.proofs.tests.stored_and_loaded.Goals as goal

pub returns : goal.returns
returns g c =
    let origin = g.O.Origins.origin c.args.origins.now in
    let contents = g.M.GuestStore.contents in
    let after = contents c.store.new.self in
    loaded-ok (refusal after.readable c.args.at 8) (loaded origin after c.args.at D) c.in-Ok-load.back c.in-Ok-load.ensures
    ∙ ap (λ m. loaded origin m c.args.at D) c.in-Ok.ensures.ok
    ∙ whole-back origin (contents c.args.mem.now) c.args.at c.args.v (search rules)
