use Rattle.std.proofs.Common.{map, ap, ◌∙◌, arith}
use Rattle.place_funcs.specs.Edges.{edge}
use Rattle.place_funcs.specs.Groups.{alone}
use Rattle.place_funcs.specs.Links.{link_at, links_after}
use Rattle.place_funcs.specs.Grouping.{merged, named}
use Rattle.place_funcs.proofs.Begun.{begun_way}
use Rattle.place_funcs.proofs.Closing.{rise_pairs, some_at}
use Rattle.place_funcs.proofs.Totals.{edges}
use Rattle.place_funcs.proofs.UnderWay.{after, next, same_way, second_below, way_done, way_even, way_first, way_second, way_merged, way_none, way_small}
use Rattle.place_funcs.proofs.grouped.grouped.Goals as goal

pub loop-nearest-init : goal.loop-nearest-init
loop-nearest-init c = (
  map alone c.args.chosen.now,
  c.in_ok-groups.ensures,
  begun_way c.args.funcs.now c.args.profile.now c.args.chosen.now c.requires (link_at c.in_ok-table.table.links) c.in_ok-table.ensures.lone c.in_ok-table.ensures.tops,
  c.in_ok-table.ensures.queued,
)

pub front-requires-clause-small : goal.front-requires-clause-small
front-requires-clause-small c =
    let i = c.loop-nearest.invariant in
    way_small (edge c.args.funcs.now c.args.profile.now) c.args.chosen.now (edges c.args.funcs.now c.args.profile.now c.args.chosen.now c.requires) i.0 (link_at c.loop-nearest.table.links) i.2

pub merge-requires-clause-first : goal.merge-requires-clause-first
merge-requires-clause-first c =
    let i = c.loop-nearest.invariant in
    let n = c.in-Some.nearest in
    some_at c.loop-nearest.groups.entries (map named i.0) n.first i.1
    (way_first (edge c.args.funcs.now c.args.profile.now) c.args.chosen.now (edges c.args.funcs.now c.args.profile.now c.args.chosen.now c.requires) i.0 (link_at c.loop-nearest.table.links) i.2 n.first n.second n.link c.in-Some.ensures.first)

pub merge-requires-clause-second : goal.merge-requires-clause-second
merge-requires-clause-second c =
    let i = c.loop-nearest.invariant in
    let n = c.in-Some.nearest in
    some_at c.loop-nearest.groups.entries (map named i.0) n.second i.1
    (way_second (edge c.args.funcs.now c.args.profile.now) c.args.chosen.now (edges c.args.funcs.now c.args.profile.now c.args.chosen.now c.requires) i.0 (link_at c.loop-nearest.table.links) i.2 n.first n.second n.link c.in-Some.ensures.first)

pub merge-requires-clause-below : goal.merge-requires-clause-below
merge-requires-clause-below c =
    let i = c.loop-nearest.invariant in
    let n = c.in-Some.nearest in
    second_below (edge c.args.funcs.now c.args.profile.now) c.args.chosen.now (edges c.args.funcs.now c.args.profile.now c.args.chosen.now c.requires) i.0 (link_at c.loop-nearest.table.links) i.2 n.first n.second n.link c.in-Some.ensures.first

pub merge-requires-clause-apart : goal.merge-requires-clause-apart
merge-requires-clause-apart c = λ e. let lt = c.in-Some.ensures.first.ordered in omega (arith, lt, e)

pub merge-requires-clause-none : goal.merge-requires-clause-none
merge-requires-clause-none c =
    let i = c.loop-nearest.invariant in
    way_none (edge c.args.funcs.now c.args.profile.now) c.args.chosen.now (edges c.args.funcs.now c.args.profile.now c.args.chosen.now c.requires) i.0 (link_at c.loop-nearest.table.links) i.2

pub merge-requires-clause-even : goal.merge-requires-clause-even
merge-requires-clause-even c =
    let i = c.loop-nearest.invariant in
    way_even (edge c.args.funcs.now c.args.profile.now) c.args.chosen.now (edges c.args.funcs.now c.args.profile.now c.args.chosen.now c.requires) i.0 (link_at c.loop-nearest.table.links) i.2

pub merge-requires-clause-small : goal.merge-requires-clause-small
merge-requires-clause-small c =
    let i = c.loop-nearest.invariant in
    way_small (edge c.args.funcs.now c.args.profile.now) c.args.chosen.now (edges c.args.funcs.now c.args.profile.now c.args.chosen.now c.requires) i.0 (link_at c.loop-nearest.table.links) i.2

pub merge-requires-clause-small_after : goal.merge-requires-clause-small_after
merge-requires-clause-small_after c =
    let i = c.loop-nearest.invariant in
    let n = c.in-Some.nearest in
    let e = edge c.args.funcs.now c.args.profile.now in
    let k = edges c.args.funcs.now c.args.profile.now c.args.chosen.now c.requires in
    let l = link_at c.loop-nearest.table.links in
    way_small e c.args.chosen.now k (after e c.args.chosen.now k i.0 l i.2 n.first n.second n.link c.in-Some.ensures.first) (links_after l n.first n.second)
    (next e c.args.chosen.now k i.0 l i.2 n.first n.second n.link c.in-Some.ensures.first)

pub loop-nearest-preserved : goal.loop-nearest-preserved
loop-nearest-preserved c =
    let i = c.loop-nearest.invariant in
    let n = c.in-Some.nearest in
    let e = edge c.args.funcs.now c.args.profile.now in
    let k = edges c.args.funcs.now c.args.profile.now c.args.chosen.now c.requires in
    let l = link_at c.loop-nearest.table.links in
    let gs = after e c.args.chosen.now k i.0 l i.2 n.first n.second n.link c.in-Some.ensures.first in (
      gs,
      c.in_ok-merge.ensures.entries ∙ ap (merged n) i.1 ∙ way_merged e c.args.chosen.now k i.0 l i.2 n.first n.second n.link c.in-Some.ensures.first,
      same_way e c.args.chosen.now gs (links_after l n.first n.second) (link_at c.merge.new.table.links) c.in_ok-merge.ensures.links (next e c.args.chosen.now k i.0 l i.2 n.first n.second n.link c.in-Some.ensures.first),
      c.in_ok-merge.ensures.queued,
    )

pub loop-nearest-smaller : goal.loop-nearest-smaller
loop-nearest-smaller c = c.in_ok-merge.ensures.fewer

pub returns : goal.returns
returns c =
    let i = c.loop-nearest.invariant in
    let e = edge c.args.funcs.now c.args.profile.now in
    let k = edges c.args.funcs.now c.args.profile.now c.args.chosen.now c.requires in
    let l = link_at c.loop-nearest.table.links in
    let d = way_done e c.args.chosen.now k i.0 l i.2 c.in_default.ensures.none in
    record { merges = d.0; last = i.0; ends = d.1; is = i.1; rise = rise_pairs i.0 i.2.rise; same = i.2.same }
