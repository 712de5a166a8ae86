use Rattle.relocs.proofs.Builds.{default_paged}
use Rattle.relocs.proofs.build.region_of.Goals as goal

pub returns-in-None-clause-pages : goal.returns-in-None-clause-pages
returns-in-None-clause-pages c = rw c.default_region.ensures (default_paged c.as_slice.result.now)
