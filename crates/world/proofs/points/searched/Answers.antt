use Rattle.world.proofs.Lives.{are_places, nearest_none, nearest_some}
use Rattle.world.proofs.points.searched.Goals as goal

pub returns-in_default : goal.returns-in_default
returns-in_default c =
    nearest_none c.args.lives.now c.deref.result.now c.args.at c.nearest.result c.deref.ensures.value c.requires c.nearest.ensures.only c.in_default.is

pub returns : goal.returns
returns c =
    let lives = c.args.lives.now in
    let places = are_places lives c.deref.result.now c.args.at c.nearest.result c.deref.ensures.value c.requires c.nearest.ensures.only in
    nearest_some lives c.deref.result.now c.args.at c.nearest.result c.deref.ensures.value c.requires c.nearest.ensures.only
    c.in-Some.k c.index.result.now c.both_in.result c.in-Some.is (c.in-Some.ensures.within lives.layouts.items places) c.index.ensures c.both_in.ensures
