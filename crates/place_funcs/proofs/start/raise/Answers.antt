use Rattle.std.proofs.lemmas.Result.{on_ok_weaker}
use Rattle.std.proofs.Common.{ap, arith}
use Rattle.std.specs.Prelude.{◌+◌}
use Rattle.place_funcs.specs.Links.{link_at}
use Rattle.place_funcs.proofs.Raised.{put_lone, put_top}
use Rattle.place_funcs.proofs.start.raise.Goals as goal

pub returns-clause-tops : goal.returns-clause-tops
returns-clause-tops c =
    on_ok_weaker c.put.result (λ d. put_top (link_at c.args.table.now.links) (link_at c.put.new.table.links) c.args.x c.args.y (c.top_at.result + c.args.count) (omega (arith, c.requires.some)) d c.args.count (ap (λ n. n + c.args.count) c.top_at.ensures)) c.put.ensures.links

pub returns-clause-lone : goal.returns-clause-lone
returns-clause-lone c =
    on_ok_weaker c.put.result (λ d. put_lone (link_at c.args.table.now.links) (link_at c.put.new.table.links) c.args.x c.args.y (c.top_at.result + c.args.count) (omega (arith, c.requires.some)) d c.requires.lone) c.put.ensures.links
