use Rattle.std.proofs.Common.{◌≤◌, subst, ◌∙◌, sym, ap, length, ◌≡◌}
use Rattle.guest_sys.specs.Limits.{hart_limit}
use Rattle.world.specs.Worlds.{Replaced}
use Rattle.live.proofs.Living.{lived_if}
use Rattle.live.proofs.run.run_image.Goals as goal

pub returns : goal.returns
returns g c =
    let world : c.world-2.result.now ≡ c.in_ok-ran.ran.recorder.at = c.world-2.ensures in
    let same : c.world.result.now ≡ c.in_ok-ran.ran.recorder.at = c.world.ensures in
    let harts : c.made-made.result ≡ length c.in_ok-ran.ran.recorder.at.machine.harts = c.made-made.ensures.harts ∙ ap (λ (w : Replaced). length w.machine.harts) world in
    let system : c.made-made.result ≡ c.in_ok-ran.ran.recorder.at.machine.system.made = c.made-made.ensures.system ∙ ap (λ (w : Replaced). w.machine.system.made) world in
    let few : c.in_ok-ran.ran.recorder.at.machine.system.made ≤ hart_limit = subst (λ (w : Replaced). w.machine.system.made ≤ hart_limit) same c.kept.ensures.system.few_made in
    lived_if
    (record { plays = c.plays_law.ensures; back = c.record_law.ensures.back; text = c.record_law.ensures.text; headline = c.headline_law.ensures; one_run = c.one_run_law.ensures.world })
    c.args.image c.args.input.items c.args.said.now c.requires.kept c.requires.ranges c.in_ok-ran.ran c.in_ok-ran.ensures.run (subst (λ n. n ≤ hart_limit) (sym system ∙ harts) few) c.life_of.result
    c.life_of.ensures.delivery c.life_of.ensures.log c.life_of.ensures.shares c.life_of.ensures.recorded
