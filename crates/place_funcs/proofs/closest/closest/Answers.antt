use Rattle.std.proofs.Common.{◌≡◌, ℕ, [], List, sym, ap, subst, ◌∙◌}
use Rattle.std.specs.Prelude.{◌<◌, All, length}
use Rattle.image.specs.declared.ranges.Func.{Func}
use Rattle.branch_ring.specs.declared.counted.Counted.{Counted}
use Rattle.place_funcs.specs.Edges.{count, edge}
use Rattle.std.specs.List.{flat_map}
use Rattle.std.proofs.lemmas.Result.{IfOk-weaker}
use Rattle.place_funcs.specs.Grouping.{group_of, ranks, IsGrouped}
use Rattle.place_funcs.specs.Groups.{IsClosest}
use Rattle.place_funcs.specs.Rows.{IsGiven}
use Rattle.place_funcs.proofs.Closing.{all_there, closed, given}
use Rattle.place_funcs.proofs.closest.closest.Goals as goal

pub grouped-requires : goal.grouped-requires
grouped-requires c =
    let p : c.deref.result.now ≡ c.args.profile.now = c.deref.ensures.value ∙ c.in_ok-lines.ensures in
    subst (λ (fs : List Func). IsGiven fs c.deref.result.now c.args.funcs.now) (sym c.funcs.ensures)
    (subst (λ (ps : List Counted). IsGiven c.args.image.now.funcs ps c.args.funcs.now) (sym p) (given c.args.image.now c.args.profile.now c.args.funcs.now c.kept.ensures c.kept-2.ensures c.requires.rise c.requires.there))

pub in_order-requires-clause-there : goal.in_order-requires-clause-there
in_order-requires-clause-there c =
    subst (λ (n : ℕ). All (λ e. All (λ f. f < n) e.1) c.in_ok-groups.groups.entries) (ap length (sym c.funcs-2.ensures)) (all_there (edge c.funcs.result.now c.deref.result.now) (length c.args.image.now.funcs) c.args.funcs.now c.in_ok-groups.groups.entries c.requires.there c.in_ok-groups.ensures)

pub returns : goal.returns
returns c =
    let p : c.deref.result.now ≡ c.args.profile.now = c.deref.ensures.value ∙ c.in_ok-lines.ensures in
    let q : c.deref-2.result.now ≡ c.args.profile.now = c.deref-2.ensures.value ∙ c.in_ok-lines.ensures in
    let g : IsGrouped (edge c.args.image.now.funcs c.args.profile.now) c.args.funcs.now c.in_ok-groups.groups.entries =
    subst (λ (fs : List Func). IsGrouped (edge fs c.args.profile.now) c.args.funcs.now c.in_ok-groups.groups.entries) c.funcs.ensures
    (subst (λ (ps : List Counted). IsGrouped (edge c.funcs.result.now ps) c.args.funcs.now c.in_ok-groups.groups.entries) p c.in_ok-groups.ensures) in
    let es = c.in_ok-groups.groups.entries in
    IfOk-weaker c.in_order.result (λ v. v.items ≡ flat_map group_of (ranks (count c.funcs-2.result.now c.deref-2.result.now) [] es)) (λ v. IsClosest (edge c.args.image.now.funcs c.args.profile.now) (count c.args.image.now.funcs c.args.profile.now) c.args.funcs.now v.items)
    (λ v e. closed c.args.image.now.funcs c.args.profile.now c.args.funcs.now es v.items c.kept-2.ensures g
    (e ∙ ap (λ (fs : List Func). flat_map group_of (ranks (count fs c.deref-2.result.now) [] es)) c.funcs-2.ensures ∙ ap (λ (ps : List Counted). flat_map group_of (ranks (count c.args.image.now.funcs ps) [] es)) q))
    c.in_order.ensures
