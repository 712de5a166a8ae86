use Rattle.std.proofs.Common.{map}
use Rattle.relocs.specs.Named.{aim_at, aim_entry}
use Rattle.finite.proofs.Mapped.{lists_from_map}
use Rattle.relocs.proofs.aims.aims.Goals as goal

pub returns : goal.returns
returns g c = lists_from_map (aim_at (g.R.Rule.takes c.args.rule.now) (g.R.Rule.aim c.args.rule.now) c.args.relocs.now) c.in_ok-aims.aims (map aim_entry c.in_ok-all.all.items) c.listed.ensures.ordered c.in_ok-aims.ensures c.in_ok-all.ensures.entries
