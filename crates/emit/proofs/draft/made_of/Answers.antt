use Rattle.emit.proofs.Emission.{made_laid}
use Rattle.emit.proofs.draft.made_of.Goals as goal

pub of-requires : goal.of-requires
of-requires c =
    made_laid c.args.image.now c.args.base c.args.entries.now c.in-Ok.words.items c.in-Ok-points_of.points.items c.in-Ok-sites_in.sites.items c.in-Ok-pairs_in.pairs.items c.requires.whole
    c.requires.fits c.in-Ok.ensures.ok c.in-Ok-points_of.ensures c.in-Ok-sites_in.ensures c.in-Ok-pairs_in.ensures
