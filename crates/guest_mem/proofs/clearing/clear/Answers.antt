use Rattle.std.proofs.Common.{◌-◌, arith}
use Rattle.guest_mem.proofs.PutLaws.{clear_nothing}
use Rattle.guest_mem.proofs.clearing.clear.Goals as goal

pub returns-else-range-clause-contents : goal.returns-else-range-clause-contents
returns-else-range-clause-contents g c =
    clear_nothing (g.S.WordStore.contents c.args.store.now) c.args.range.from (c.args.range.to - c.args.range.from) (omega arith)
