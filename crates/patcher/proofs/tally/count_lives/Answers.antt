use Rattle.std.proofs.Common.{◌≡◌, ◌+◌, [], ◌∷◌, ◌++◌, take, sym, ◌∙◌, ap, rules}
use Rattle.std.specs.Option.{option_copied}
use Rattle.std.proofs.lemmas.List.{take_more}
use Rattle.layout.specs.Laid.{Laid}
use Rattle.patcher.proofs.Tallies.{more_each, more_least}
use Rattle.patcher.proofs.tally.count_lives.Goals as goal

pub loop-layout-preserved : goal.loop-layout-preserved
loop-layout-preserved c =
    let e : take (c.loop-layout.layout-index + 1) c.args.lives.now ≡ take c.loop-layout.layout-index c.args.lives.now ++ c.layout-item.result ∷ [] =
    take_more c.args.lives.now c.loop-layout.layout-index c.layout-item.result c.loop-layout-test.true ∙ ap (λ (x : Laid). take c.loop-layout.layout-index c.args.lives.now ++ x ∷ []) (sym c.layout-item.is) in
    let lists : c.push.new.self.items ≡ c.loop-layout.all.lists.items ++ c.in_ok-one.one.patches.items ∷ [] = search rules in
    record {
      each = rw (e, lists) (more_each c.args.aims.now.image.now (option_copied c.args.aims.now.new) (take c.loop-layout.layout-index c.args.lives.now) c.layout-item.result
          c.loop-layout.all.lists.items c.in_ok-one.one.patches.items c.in_ok-one.one.out c.loop-layout.invariant.each c.in_ok-one.ensures);
      least = rw (e, c.lower-all.ensures) (more_least c.args.aims.now.image.now (option_copied c.args.aims.now.new) (take c.loop-layout.layout-index c.args.lives.now) c.layout-item.result
          c.in_ok-one.one.patches.items c.loop-layout.all.out c.in_ok-one.one.out c.loop-layout.invariant.least c.in_ok-one.ensures);
    }
