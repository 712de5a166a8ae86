use Rattle.std.proofs.Common.{◌≡◌, subst, rules}
use Rattle.std.specs.Prelude.{None}
use Rattle.std.specs.Option.{option_copied}
use Rattle.patcher.specs.Reach.{LivesOut}
use Rattle.patcher.specs.Calls.{EachOut, IsLeastOut}
use Rattle.patcher.proofs.Worked.{lives_made, lives_least}
use Rattle.patcher.proofs.work.lives_patches.Goals as goal

pub returns-in-Some-clause-fault : goal.returns-in-Some-clause-fault
returns-in-Some-clause-fault c =
    subst (IsLeastOut (LivesOut c.args.aims.now.image.now (option_copied c.args.aims.now.new) c.args.lives.now)) c.in-Some.is
    (lives_least c.args.aims.now.image.now (option_copied c.args.aims.now.new) c.args.lives.now c.in-Ok.all.out c.requires c.in-Ok.ensures.least)

pub returns-in-None-clause-is : goal.returns-in-None-clause-is
returns-in-None-clause-is c =
    let e : c.in-Ok.all.out ≡ None = search rules in
    lives_made c.args.aims.now.image.now (option_copied c.args.aims.now.new) c.args.lives.now c.in-Ok.all.lists.items c.requires
    (subst (IsLeastOut (EachOut c.args.aims.now.image.now (option_copied c.args.aims.now.new) c.args.lives.now)) e c.in-Ok.ensures.least) c.in-Ok.ensures.each

pub returns-in-None-clause-reach : goal.returns-in-None-clause-reach
returns-in-None-clause-reach c =
    let e : c.in-Ok.all.out ≡ None = search rules in
    subst (IsLeastOut (LivesOut c.args.aims.now.image.now (option_copied c.args.aims.now.new) c.args.lives.now)) e
    (lives_least c.args.aims.now.image.now (option_copied c.args.aims.now.new) c.args.lives.now c.in-Ok.all.out c.requires c.in-Ok.ensures.least)
