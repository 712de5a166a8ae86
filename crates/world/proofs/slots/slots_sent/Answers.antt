use Rattle.std.proofs.Common.{◌≡◌, ℕ, ◌%◌, ◌<◌, List, get_or, sym, ◌∙◌, subst}
use Rattle.std.specs.Prelude.{Option, All, AllPairs, None, if◌then◌else◌}
use Rattle.std.specs.List.{filter_map}
use Rattle.std.specs.Option.{option_copied}
use Rattle.image.specs.declared.ranges.Aim.{Aim}
use Rattle.image.specs.Picture.{Picture}
use Rattle.layout.specs.Laid.{Laid}
use Rattle.world.specs.Worlds.{code_in}
use Rattle.world.specs.Replacing.{is_own, sent_to}
use Rattle.world.proofs.LinkAt.{one_more, all_there, slots_are}
use Rattle.world.proofs.LinksRise.{links_rise}
use Rattle.world.proofs.SentSlots.{slots_whole}
use Rattle.world.proofs.slots.slots_sent.Goals as goal

pub slot_sent-requires-clause-rise : goal.slot_sent-requires-clause-rise
slot_sent-requires-clause-rise c =
    subst (λ (ls : List (ℕ × ℕ)). AllPairs (λ (k l : ℕ × ℕ). k.0 < l.0) ls) (sym (c.deref.ensures.value ∙ c.in_ok-links.ensures)) (links_rise c.args.machine.now.memory)

pub loop-s-preserved : goal.loop-s-preserved
loop-s-preserved c = λ text. (
    let lives = c.args.lives.now.layouts.items in
    let m = c.args.machine.now.memory in
    let new = option_copied c.in_ok-aims.aims.new in
    let d : Aim = record { at = 0; func = 0 } in
    let s : Aim = get_or c.slots-s-items.result.now c.loop-s.s-index d in
    let links = c.deref.ensures.value ∙ c.in_ok-links.ensures in
    let whole = subst (λ (xs : List Aim). All (λ (s : Aim). s.at % 8 ≡ 0) xs) (sym c.slots-s-items.ensures) (slots_whole c.args.image.now c.kept.ensures) in
    let sent = c.slot_sent.ensures text m links (whole c.loop-s.s-index d c.loop-s-test.true) in
    let is = subst (λ (p : Picture). c.slot_sent.result ≡ (if is_own p (code_in p text lives) m s then sent_to p new s else None)) c.in_ok-aims.ensures.image sent in
    one_more _ c.slots-s-items.result.now c.loop-s.s-index d c.slot_sent.result c.loop-s.all.items c.push_sent.new.all.items _ c.loop-s-test.true is c.in_ok-push_sent.ensures (c.loop-s.invariant text))

pub returns : goal.returns
returns c = λ text. (
    let lives = c.args.lives.now.layouts.items in
    let p = c.args.image.now in
    let m = c.args.machine.now.memory in
    let all = all_there _ c.slots-s-items.result.now c.loop-s.s-index c.loop-s.all.items _ c.loop-s-test.false (c.loop-s.invariant text) in
    let listed = subst (λ (xs : List Aim). c.loop-s.all.items ≡ filter_map (λ s. if is_own p (code_in p text lives) m s then sent_to p (option_copied c.in_ok-aims.aims.new) s else None) xs) c.slots-s-items.ensures all in
    slots_are p (code_in p text lives) (option_copied c.args.new) m c.loop-s.all.items
    (subst (λ (o : Option Laid). c.loop-s.all.items ≡ filter_map (λ s. if is_own p (code_in p text lives) m s then sent_to p o s else None) p.slots) c.in_ok-aims.ensures.new listed))
