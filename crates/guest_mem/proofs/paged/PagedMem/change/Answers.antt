use Rattle.std.proofs.Common.{◌-◌, arith}
use Rattle.guest_mem.proofs.ChangeLaws.{changed_nothing}
use Rattle.guest_mem.proofs.paged.PagedMem.change.Goals as goal

pub returns-then-range-clause-ok : goal.returns-then-range-clause-ok
returns-then-range-clause-ok c = changed_nothing c.args.cleared c.args.self.now.contents c.args.range.from (c.args.range.to - c.args.range.from) c.args.rights (omega arith)
