use Rattle.std.proofs.Common.{◌≡◌, ℕ, ◌+◌, List, map, drop, sym, subst, ◌∙◌, arith}
use Rattle.std.specs.Prelude.{slice_index, Contains}
use Rattle.std.proofs.lemmas.List.{drop_more, drop_all}
use Rattle.place_funcs.specs.Links.{link_at, links_after, links_of, moved, second_name}
use Rattle.branch_ring.proofs.Ascending.{in_head}
use Rattle.place_funcs.proofs.Over.{IsOnTheWay, all_neighbours, all_over, begun, begun_small, one_on, only_neighbours, small_on, small_same}
use Rattle.place_funcs.proofs.merge.merge_links.Goals as goal

pub loop-y-init : goal.loop-y-init
loop-y-init c =
    let old = link_at c.args.table.now.links in
    let one = link_at c.take.new.table.links in
    let two = link_at c.take-2.new.table.links in
    let a = c.args.a in
    let b = c.args.b in
    let m = c.take-2.new.table.links in
    let names : c.deref-y-items.result.now ≡ map second_name (links_of b m.entries) = c.deref-y-items.ensures.value ∙ c.in_ok-names.ensures.names in
    record {
      way = subst (λ (xs : List ℕ). IsOnTheWay old two a b xs) (sym names)
          (begun old one two a b c.requires.apart c.take.ensures.links c.take-2.ensures.links (map second_name (links_of b m.entries)) c.requires.none c.requires.even
          (all_neighbours m c.in_ok-names.ensures.ordered b) (only_neighbours m c.in_ok-names.ensures.ordered b));
      small = begun_small old one two a b c.requires.apart c.take.ensures.links c.take-2.ensures.links c.requires.small;
      queued = c.take-2.ensures.queued;
    }

pub move_links-requires-clause-apart : goal.move_links-requires-clause-apart
move_links-requires-clause-apart c =
    let ys = c.deref-y-items.result.now in
    let i = c.loop-y.y-index in
    let y = slice_index ys i in
    let here : Contains (drop i ys) y = subst (λ (xs : List ℕ). Contains xs y) (sym (drop_more ys i 0 c.loop-y-test.true)) (in_head y (drop (i + 1) ys)) in
    let h = c.loop-y.invariant.way.apart y here in
    (c.requires.apart, h.1, h.0)

pub loop-y-preserved : goal.loop-y-preserved
loop-y-preserved c =
    let old = link_at c.args.table.now.links in
    let now = link_at c.loop-y.table.links in
    let next = link_at c.move_links.new.table.links in
    let a = c.args.a in
    let b = c.args.b in
    let ys = c.deref-y-items.result.now in
    let i = c.loop-y.y-index in
    let y = slice_index ys i in
    let way = subst (λ (xs : List ℕ). IsOnTheWay old now a b xs) (drop_more ys i 0 c.loop-y-test.true) c.loop-y.invariant.way in
    let h = way.apart y (in_head y (drop (i + 1) ys)) in
    record {
      way = one_on old now next a b y (drop (i + 1) ys) c.requires.apart c.in_ok-move_links.ensures.links way;
      small = small_same (moved now a b y) next c.in_ok-move_links.ensures.links (small_on now a b y c.requires.apart h.1 h.0 (links_after old a b) way.same c.requires.small_after c.loop-y.invariant.small);
      queued = c.in_ok-move_links.ensures.queued;
    }

pub returns-clause-links : goal.returns-clause-links
returns-clause-links c =
    let old = link_at c.args.table.now.links in
    let now = link_at c.loop-y.table.links in
    all_over old now c.args.a c.args.b c.requires.apart
    (subst (λ (xs : List ℕ). IsOnTheWay old now c.args.a c.args.b xs) (drop_all c.loop-y.y-index c.deref-y-items.result.now (omega (arith, c.loop-y-test.false))) c.loop-y.invariant.way)
