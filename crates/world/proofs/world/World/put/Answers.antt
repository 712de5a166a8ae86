use Rattle.std.proofs.Common.{◌≡◌, ℕ, ◌^◌, ◌<◌, List, length, sym, ap, ◌∙◌, subst, arith}
use Rattle.std.specs.Prelude.{All, true}
use Rattle.guest_mem.specs.Memory.{is_link_at}
use Rattle.layout.specs.Laid.{Laid}
use Rattle.layout.specs.Bases.{ArePlaces}
use Rattle.region.specs.Space.{Space}
use Rattle.patcher.specs.Patched.{Fits, joined, layouts_with}
use Rattle.patcher.proofs.Patching.{fits}
use Rattle.sim_laws.specs.Changes.{with_links, with_memory}
use Rattle.world.specs.Worlds.{Replaced, IsWorld, code_of}
use Rattle.world.specs.Replacing.{IsPlacement, slots_sent, numbered, left_by}
use Rattle.world.proofs.Found.{joined_long}
use Rattle.world.proofs.Replacement.{put_sound, put_is, is_replaced, finish_is}
use Rattle.world.proofs.SentSlots.{sent_links}
use Rattle.world.proofs.world.World.put.Goals as goal

pub send-requires : goal.send-requires
send-requires c =
    let w = c.args.self.now in
    let sent = sent_links w.image (code_of w) c.args.placement.layout w.machine.memory in
    subst (λ (x : Replaced). All (λ (l : ℕ × ℕ). is_link_at x.machine.memory l.0 ≡ true) c.deref.result.now) (sym c.self.view_is)
    (subst (λ (ls : List (ℕ × ℕ)). All (λ (l : ℕ × ℕ). is_link_at w.machine.memory l.0 ≡ true) ls) (sym (c.deref.ensures.value ∙ c.requires.slots)) sent)

pub aim-requires : goal.aim-requires
aim-requires c =
    let q = c.args.placement.patches in
    let sound = c.self.invariant.1 in
    let placement = subst (λ (x : Replaced). IsPlacement x.image x.lives x.free c.args.plan.now c.args.placement.layout q) (sym c.self.view_is) c.requires.placement in
    subst (Fits q c.self.inside.text) (sym c.reserve_one.ensures.layouts)
    (fits c.self.inside.image c.args.placement.layout c.self.inside.text c.self.inside.lives.layouts.items q sound.kept sound.placed.text sound.placed.laid placement.aims)

pub place_all-requires : goal.place_all-requires
place_all-requires c =
    let new = c.args.placement.layout in
    let one = joined_long c.aim.new.lives.items new in
    let added = ap length c.add.ensures.lives in
    let aimed = c.aim.ensures.len in
    let kept = ap length c.reserve_one.ensures.layouts in
    let room = c.in_ok-reserve_one.ensures.place in
    omega (arith, one, added, aimed, kept, room)

pub invariant_of-self-2 : goal.invariant_of-self-2
invariant_of-self-2 c =
    let i = c.self.inside in
    let q = c.args.placement.patches in
    let new = c.args.placement.layout in
    let placement = subst (λ (x : Replaced). IsPlacement x.image x.lives x.free c.args.plan.now new q) (sym c.self.view_is) c.requires.placement in
    let all = c.add.ensures.all ∙ ap (λ (s : Space). s.all) c.in_ok-reserve.ensures.ok ∙ c.self.invariant.0 in
    let left : c.place_all.new.self.layouts.items ≡ c.add.new.lives.items = ap (λ v. v.items) c.place_all.ensures.layouts in (
      all,
      put_sound i.image i.text i.lives.layouts.items i.numbers.items i.region.free c.args.plan.now new q i.counts
          c.aim.new.text c.place_all.new.self.layouts.items c.reserve_one.new.self.layouts.items c.add.new.numbers.items c.reserve-2.new.self.items c.add.new.region.free c.reserve.new.self.free
          c.self.invariant.1 placement c.reserve_one.ensures.layouts c.in_ok-reserve-2.ensures.items (ap (λ (s : Space). s.free) c.in_ok-reserve.ensures.ok)
          c.aim.ensures.text (left ∙ c.add.ensures.lives ∙ ap (λ ls. joined ls new) c.aim.ensures.lives) c.add.ensures.numbers c.add.ensures.free,
      subst (λ (ls : List Laid). ArePlaces ls c.place_all.new.self.places.items) (sym left) c.place_all.ensures.places,
      (
          let long = ap length left in
          let one = joined_long c.aim.new.lives.items new in
          let added = ap length c.add.ensures.lives in
          let aimed = c.aim.ensures.len in
          let same = ap length c.reserve_one.ensures.layouts in
          let room = c.in_ok-reserve_one.ensures.place in
          let kept = c.place_all.ensures.capacity in
          omega (arith, long, one, added, aimed, same, room, kept)),
    )

pub returns-clause-ok : goal.returns-clause-ok
returns-clause-ok c =
    let i = c.self.inside in
    let q = c.args.placement.patches in
    let new = c.args.placement.layout in
    let sound = subst IsWorld c.self.view_is c.self.invariant.1 in
    let lives = c.reserve_one.ensures.layouts in
    let older = c.aim.ensures.lives ∙ ap (layouts_with q.lives) (lives ∙ ap (λ (x : Replaced). x.lives) c.self.view_is) in
    let slots = c.deref.ensures.value ∙ c.requires.slots ∙ ap (λ (x : Replaced). slots_sent x.image (code_of x) new x.machine.memory) (sym c.self.view_is) in
    let left : c.place_all.new.self.layouts.items ≡ c.add.new.lives.items = ap (λ v. v.items) c.place_all.ensures.layouts in
    is_replaced c.args.plan.now c.args.self.now _ new q sound c.requires.placement (subst (λ (ls : List Laid). All (λ (l : Laid). All (λ n. n < 2 ^ 32) l.words) ls) older c.aim.ensures.short)
    (put_is _ c.args.self.now new q c.self.view_is c.aim.new.text c.place_all.new.self.layouts.items c.add.new.numbers.items c.add.new.region.free c.send.new.machine c.finish.new.self
    c.aim.ensures.text
    (left ∙ c.add.ensures.lives ∙ ap (λ ls. joined ls new) (c.aim.ensures.lives ∙ ap (layouts_with q.lives) lives))
    (c.add.ensures.numbers ∙ ap (numbered new i.counts) c.in_ok-reserve-2.ensures.items)
    (c.add.ensures.free ∙ ap (left_by new) (ap (λ (s : Space). s.free) c.in_ok-reserve.ensures.ok))
    (c.send.ensures ∙ ap (λ (ls : List (ℕ × ℕ)). with_memory (with_links ls i.machine.memory) i.machine) slots)
    (finish_is new i.counts c.add.new.counts c.finish.new.self c.add.ensures.counts c.finish.ensures))
