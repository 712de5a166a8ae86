use Rattle.std.proofs.Common.{map}
use Rattle.finite.proofs.Mapped.{lists_from_map}
use Rattle.relocs.specs.Functions.{end_at, func_entry}
use Rattle.relocs.proofs.functions.functions.Goals as goal

pub returns : goal.returns
returns c = lists_from_map (end_at c.args.texts.now c.args.symbols.now) c.in_ok-ends.ends (map func_entry c.in_ok-all.all.items) c.listed.ensures.ordered c.in_ok-ends.ensures c.in_ok-all.ensures.entries
