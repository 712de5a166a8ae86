use Rattle.std.proofs.lemmas.Result.{on_ok_weaker}
use Rattle.place_funcs.specs.Links.{link_at}
use Rattle.place_funcs.proofs.Moved.{all_moved}
use Rattle.place_funcs.proofs.merge.move_links.Goals as goal

pub returns-clause-links : goal.returns-clause-links
returns-clause-links c =
    on_ok_weaker c.add-2.result (λ d.
    all_moved c.args.a c.args.b c.args.y c.requires.apart.0 c.requires.apart.1 c.requires.apart.2
    (link_at c.args.table.now.links) (link_at c.take-there.new.table.links) (link_at c.take-back.new.table.links) (link_at c.add.new.table.links) (link_at c.add-2.new.table.links)
    c.take-there.result c.take-back.result
    c.take-there.ensures.value c.take-there.ensures.links c.take-back.ensures.value c.take-back.ensures.links
    c.in_ok-add.ensures.links d) c.add-2.ensures.links
