use Rattle.std.proofs.Common.{◌<◌, length, List, get_or, sym, ap, subst, ◌∙◌}
use Rattle.hart.specs.declared.hart.Hart.{Hart}
use Rattle.machine.proofs.Reserving.{acts_none, set_none}
use Rattle.machine.proofs.harts.Harts.act.Goals.{then-reserves, else-reserves}
use Rattle.machine.proofs.harts.Harts.act.Goals as goal

pub invariant_of-self : goal.invariant_of-self
invariant_of-self g c =
    let hart = c.index_mut.result.now in
    let made = subst (λ (hs : List Hart). c.args.h < length hs) (sym c.self.view_is) c.requires.made in
    elim c.if-reserves.branch [
      | then-reserves w ↦ rw (w.self-inside-is) (c.self.invariant.0, λ e. absurd cc)
      | else-reserves w ↦ rw (w.self-inside-is) (
        c.self.invariant.0,
        λ e. (
            let here = c.index_mut.ensures.value ∙ ap (λ s. get_or s.list.items c.args.h hart) w.self-inside-is in
            let none = ap (λ (k : Hart). k.reservation) here ∙ c.self.invariant.1 e c.args.h hart made in
            let other = sym c.reserves.ensures ∙ w.if-reserves.false in
            set_none c.self.inside.list.items c.args.h c.act.new.hart (c.self.invariant.1 e) (acts_none _ c.args.i.now hart c.act.new.hart _ _ c.act.result other none c.act.ensures.acts)),
      )
    ]
