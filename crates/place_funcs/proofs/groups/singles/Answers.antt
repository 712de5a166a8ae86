use Rattle.std.proofs.Common.{ℕ, ◌∷◌, [], List, map, take, sym, ap, ◌∙◌}
use Rattle.std.specs.Prelude.{slice_index}
use Rattle.std.specs.Ordering.{nat_cmp}
use Rattle.std.specs.BTreeMap.{insert_entry}
use Rattle.std.proofs.lemmas.List.{take_more, map-append}
use Rattle.place_funcs.specs.Groups.{alone}
use Rattle.place_funcs.specs.Grouping.{named}
use Rattle.place_funcs.proofs.Standing.{pushed_alone, taken_below}
use Rattle.place_funcs.proofs.groups.singles.Goals as goal

pub loop-f-preserved : goal.loop-f-preserved
loop-f-preserved c =
    let fs = c.args.functions.now in
    let i = c.loop-f.f-index in
    let f = slice_index fs i in
    c.in_ok-push_single.ensures
    ∙ ap (λ es. insert_entry nat_cmp es f (alone f)) c.loop-f.invariant
    ∙ pushed_alone f (take i fs) (taken_below fs i c.loop-f-test.true c.requires)
    ∙ sym (ap (λ (gs : List (List ℕ)). map named gs) (ap (map alone) (take_more fs i 0 c.loop-f-test.true) ∙ map-append alone (take i fs) (f ∷ [])) ∙ map-append named (map alone (take i fs)) (alone f ∷ []))
