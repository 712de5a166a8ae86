use Rattle.std.proofs.Common.{◌∙◌}
use Rattle.place_funcs.proofs.Callees.{one_of_is}
use Rattle.place_funcs.proofs.start.is_one_of.Goals as goal

pub returns : goal.returns
returns c = c.is_ok.ensures.value ∙ one_of_is c.args.functions.now c.args.f c.binary_search.result c.binary_search.ensures.position c.requires
