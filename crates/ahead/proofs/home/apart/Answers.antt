use Rattle.std.proofs.Common.{◌≡◌, List, [], ◌∷◌, sym, ap, ◌∙◌, subst}
use Rattle.std.specs.Prelude.{Some, IfNone}
use Rattle.std.specs.Arc.{arc_value}
use Rattle.hart.specs.declared.hart.Hart.{Hart}
use Rattle.machine.specs.Harts.{hart_in}
use Rattle.world.specs.Worlds.{code_of}
use Rattle.ahead.specs.declared.note.Note.{Note}
use Rattle.ahead.specs.Notes.{compared_notes}
use Rattle.ahead.specs.Flown.{Flown, place_of, compared_values, compared, MayComeHome}
use Rattle.ahead.proofs.FirstApart.{told, chained}
use Rattle.ahead.proofs.Coming.{not_there, is_there, none_home}
use Rattle.ahead.proofs.home.apart.Goals as goal

pub returns-then-not-is_there-clause-is : goal.returns-then-not-is_there-clause-is
returns-then-not-is_there-clause-is c =
    let w = c.args.world.now in
    let i = c.away.inside in
    let a : Flown = record {
      hart = i.hart;
      code = i.code;
      steps = i.steps;
      from = record { regs = i.from_regs; pc = i.from_pc };
      now = place_of i.course.hart;
      made = i.made;
      notes = i.course.notes.items;
      shared = arc_value i.shared;
    } in
    subst (λ (x : Flown). Some (record { kept = 0; brought = 1 }) ≡ told (compared c.args.is_away c.args.code c.args.steps w x)) c.away.view_is
    (not_there c.args.is_away c.args.code c.args.steps w a (sym c.is_there.ensures ∙ c.if-not-is_there.true))

pub returns-clause-is : goal.returns-clause-is
returns-clause-is c =
    let w = c.args.world.now in
    let i = c.away.inside in
    let a : Flown = record {
      hart = i.hart;
      code = i.code;
      steps = i.steps;
      from = record { regs = i.from_regs; pc = i.from_pc };
      now = place_of i.course.hart;
      made = i.made;
      notes = i.course.notes.items;
      shared = arc_value i.shared;
    } in
    let k = hart_in w.machine.harts i.hart in
    let rest = chained c.differ.result c.differ-2.result c.differ-3.result c.apart_values.result c.apart_notes.result c.or.result c.or-2.result c.or-3.result c.or-4.result
    (c.args.code, i.code) (c.args.steps, i.steps) (k.pc, i.from_pc) (compared_values k.regs i.from_regs) (compared_notes w.image (code_of w) i.course.notes.items)
    c.differ.ensures c.differ-2.ensures (c.differ-3.ensures ∙ ap (λ (x : Hart). told ((x.pc, i.from_pc) ∷ [])) c.hart-hart.ensures)
    (c.apart_values.ensures ∙ ap (λ (x : Hart). told (compared_values x.regs i.from_regs)) c.hart-hart.ensures)
    (c.apart_notes.ensures ∙ ap (λ (xs : List Note). told (compared_notes w.image (code_of w) xs)) c.deref.ensures.value)
    c.or.ensures c.or-2.ensures c.or-3.ensures c.or-4.ensures in
    subst (λ (x : Flown). c.or-4.result ≡ told (compared c.args.is_away c.args.code c.args.steps w x)) c.away.view_is
    (rest ∙ is_there c.args.is_away c.args.code c.args.steps w a (sym c.is_there.ensures ∙ c.if-not-is_there.false))

pub returns-clause-home : goal.returns-clause-home
returns-clause-home c = none_home c.or-4.result c.args.is_away c.args.code c.args.steps c.args.world.now c.args.away.now (returns-clause-is c)
