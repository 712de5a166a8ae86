use Rattle.std.proofs.Common.{◌∙◌}
use Rattle.ahead.proofs.Coming.{bring_made, bring_leads, bring_runs}
use Rattle.ahead.proofs.home.bring.Goals as goal

pub adopt-requires-clause-made : goal.adopt-requires-clause-made
adopt-requires-clause-made c = bring_made c.args.world.now c.args.away c.away.invariant.0 c.away.view_is c.kept.ensures.code c.requires.going c.requires.home

pub adopt-requires-clause-leads : goal.adopt-requires-clause-leads
adopt-requires-clause-leads c =
    bring_leads c.args.world.now c.args.away c.away.invariant.0 c.away.view_is c.kept.ensures.code c.requires.going c.requires.home
    c.from.result c.made_transfers-layouts.result c.original_at-last.result c.deref.result.now c.deref-2.result.now
    c.from.ensures c.deref.ensures.value c.original_at-last.ensures c.made_transfers-layouts.ensures.layouts
    (c.deref-2.ensures.value ∙ c.made_transfers-layouts.ensures.transfers)

pub returns-clause-run : goal.returns-clause-run
returns-clause-run c =
    bring_runs c.args.world.now c.args.away c.away.invariant.0 c.away.view_is c.kept.ensures.code c.requires.going c.requires.home
    c.adopt.new.self c.from.result c.from.ensures c.adopt.ensures.is
