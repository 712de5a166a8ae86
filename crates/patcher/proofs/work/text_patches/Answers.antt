use Rattle.std.proofs.Common.{◌≡◌, subst, rules}
use Rattle.std.specs.Prelude.{None}
use Rattle.std.specs.Option.{option_copied}
use Rattle.patcher.specs.Reach.{TextOut}
use Rattle.patcher.specs.Calls.{IsLeastOut}
use Rattle.patcher.proofs.Worked.{text_made, text_least}
use Rattle.patcher.proofs.work.text_patches.Goals as goal

pub returns-in-Some-clause-fault : goal.returns-in-Some-clause-fault
returns-in-Some-clause-fault c =
    subst (IsLeastOut (TextOut c.args.aims.now.image.now (option_copied c.args.aims.now.new))) c.in-Some.is
    (text_least c.args.aims.now.image.now (option_copied c.args.aims.now.new) c.in-Ok-count.text.patches.items c.in-Ok-count.text.out (search rules))

pub returns-clause-is : goal.returns-clause-is
returns-clause-is c =
    let e : c.in-Ok-count.text.out ≡ None = search rules in
    text_made c.args.aims.now.image.now (option_copied c.args.aims.now.new) c.in-Ok-count.text.patches.items c.in-Ok-count.text.out e (search rules)

pub returns-clause-reach : goal.returns-clause-reach
returns-clause-reach c =
    let e : c.in-Ok-count.text.out ≡ None = search rules in
    subst (IsLeastOut (TextOut c.args.aims.now.image.now (option_copied c.args.aims.now.new))) e
    (text_least c.args.aims.now.image.now (option_copied c.args.aims.now.new) c.in-Ok-count.text.patches.items c.in-Ok-count.text.out (search rules))
