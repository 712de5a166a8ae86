use Rattle.std.proofs.Common.{◌≡◌, ◌<◌, ◌^◌, true, length, refl, sym, ap, ◌∙◌, subst, arith}
use Rattle.machine.specs.Steps.{can_step}
use Rattle.recorder.specs.Recording.{Recorded}
use Rattle.stop_gate.specs.Gates.{is_away, back_in}
use Rattle.world.specs.Worlds.{Replaced}
use Rattle.run_book.specs.Visits.{IsPart}
use Rattle.run_book.proofs.Homes.{home_part}
use Rattle.run_book.proofs.Runnings.{strange_book, landed_book, room_home, has_worker}
use Rattle.run_book.proofs.running.Running.land.Goals as goal

pub returns-in-Ok : goal.returns-in-Ok
returns-in-Ok c t total b =
    let w = c.args.self.now.recorder in
    let h = c.hart-h.result in
    let is : c.args.away.hart ≡ h = sym c.hart-h.ensures in
    let on = c.requires.goes_on in
    let home = c.in-Ok.ensures.ok on in
    let few : length w.at.machine.harts < 2 ^ 32 =
    (let range = c.made-harts.type_inv in let many = c.made-harts.ensures.harts ∙ ap (λ (x : Replaced). length x.machine.harts) c.world.ensures in omega (arith, range, many)) in
    let room = room_home t total c.args.self.now b few in
    let part = home_part c.args.away w c.home.new.self home b.run.closed c.home.ensures.few (c.in-Ok.ensures.run on) room (c.in-Ok.ensures.real on) (c.in-Ok.ensures.follows on)
    (c.in-Ok.ensures.still on) in
    let begun : IsPart true c.made-made.result h w c.home.new.self =
    subst (λ n. IsPart true n h w c.home.new.self) (sym c.made-made.ensures) (subst (λ k. IsPart true c.args.away.made k w c.home.new.self) is part) in
    landed_book t total c.args.self.now h b c.requires.spent (subst (λ k. is_away w.gate k ≡ true) is c.requires.away) c.turn-turned.new.world c.turn-turned.result.made c.turn-turned.result.whole _
    (c.turn-turned.ensures.gate ∙ ap (λ (x : Recorded). x.gate) home ∙ ap (λ k. back_in k w.gate) is)
    (c.turn-turned.ensures.part w b.run.closed room begun) c.turn-turned.ensures.most c.turn-turned.ensures.full
    (subst (λ k. can_step k w.at.machine ≡ true) is (c.in-Ok.ensures.can on)) refl (has_worker t total c.args.self.now b h)

pub returns-in-Err : goal.returns-in-Err
returns-in-Err c t total b = strange_book t total c.args.self.now c.args.away.hart b c.requires.spent c.requires.away c.home.new.self _ c.in-Err.ensures.err
