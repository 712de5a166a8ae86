use Rattle.std.proofs.Common.{Ok, rules, tests}
use Rattle.std.proofs.lemmas.Iterator.{items_from_collect, YieldsList-from_slice}
use Rattle.std.proofs.lemmas.Iterator.Consumers.{YieldsList-from_filter_map, YieldsList-from_chain, YieldsList-at}
use Rattle.std.specs.declared.alloc.AllocError.{AllocError}
use Rattle.retire.specs.References.{aim_of}
use Rattle.retire.proofs.aims.aims_of.Goals as goal

pub returns : goal.returns
returns c =
    items_from_collect {E = AllocError} (Ok c.in_ok-collect.field-0) c.in_ok-collect.ensures.ran
    (YieldsList-from_filter_map _ (aim_of c.args.layout.now)
    (YieldsList-at c.filter_map.ensures.source
    (YieldsList-from_chain (YieldsList-from_slice c.args.layout.now.sites (cc)) (YieldsList-from_slice c.args.layout.now.pairs (cc)) c.chain.ensures.first_done c.chain.ensures.second_done))
    c.filter_map.ensures.closure (λ x r q k. search (rules, tests)))
