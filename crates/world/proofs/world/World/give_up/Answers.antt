use Rattle.std.proofs.Common.{◌≡◌, ◌<◌, List, length, sym, ap, ◌∙◌, subst, arith}
use Rattle.std.specs.Prelude.{All}
use Rattle.layout.specs.Laid.{Laid}
use Rattle.layout.specs.Bases.{ArePlaces}
use Rattle.region.specs.Space.{Space}
use Rattle.world.specs.Worlds.{Replaced}
use Rattle.world.specs.Retiring.{held_by, freed}
use Rattle.world.proofs.Found.{shorter}
use Rattle.world.proofs.LeftOver.{climbs}
use Rattle.world.proofs.Referring.{within_all}
use Rattle.world.proofs.Retirement.{spread_of, gone_sound}
use Rattle.world.proofs.world.World.give_up.Goals as goal

pub give_up-requires-clause-within : goal.give_up-requires-clause-within
give_up-requires-clause-within c =
    let w = c.args.self.now in
    subst (λ (x : Replaced). All (λ k. k < length x.lives) c.args.gone.now) (sym c.self.view_is) (within_all w.lives (held_by w) c.args.gone.now c.requires)

pub give_up-requires-clause-spread : goal.give_up-requires-clause-spread
give_up-requires-clause-spread c =
    let i = c.self.inside in
    let s = spread_of i.image i.text i.lives.layouts.items i.numbers.items i.region.free c.self.invariant.1 in
    let all = ap (λ (s : Space). s.all) c.in_ok-reserve.ensures.ok ∙ c.self.invariant.0 in
    let free = ap (λ (s : Space). s.free) c.in_ok-reserve.ensures.ok in
    rw (all, free) s

pub place_all-requires : goal.place_all-requires
place_all-requires c =
    let i = c.self.inside in
    let w = c.args.self.now in
    let all = subst (λ (x : Replaced). All (λ k. k < length x.lives) c.args.gone.now) (sym c.self.view_is) (within_all w.lives (held_by w) c.args.gone.now c.requires) in
    let less = shorter c.args.gone.now i.lives.layouts.items (climbs c.args.gone.now c.requires.ascending) all in
    let left = ap length c.give_up.ensures.lives in
    let room = c.self.invariant.3 in
    omega (arith, less, left, room)

pub invariant_of-self-2 : goal.invariant_of-self-2
invariant_of-self-2 c =
    let i = c.self.inside in
    let w = c.args.self.now in
    let within = subst (λ (x : Replaced). All (λ k. k < length x.lives) c.args.gone.now) (sym c.self.view_is) (within_all w.lives (held_by w) c.args.gone.now c.requires) in
    let less = shorter c.args.gone.now i.lives.layouts.items (climbs c.args.gone.now c.requires.ascending) within in
    let free = c.give_up.ensures.free ∙ ap (λ (s : Space). freed c.args.gone.now i.lives.layouts.items s.free) c.in_ok-reserve.ensures.ok in
    let left : c.place_all.new.self.layouts.items ≡ c.give_up.new.lives.items = ap (λ v. v.items) c.place_all.ensures.layouts in (
      c.give_up.ensures.all ∙ ap (λ (s : Space). s.all) c.in_ok-reserve.ensures.ok ∙ c.self.invariant.0,
      rw (left ∙ c.give_up.ensures.lives, c.give_up.ensures.numbers, free) (gone_sound c.args.self.now _ c.args.gone.now c.self.view_is c.requires c.self.invariant.1),
      subst (λ (ls : List Laid). ArePlaces ls c.place_all.new.self.places.items) (sym left) c.place_all.ensures.places,
      (
          let long = ap length left in
          let gone = ap length c.give_up.ensures.lives in
          let room = c.self.invariant.3 in
          let kept = c.place_all.ensures.capacity in
          omega (arith, long, gone, less, room, kept)),
    )
