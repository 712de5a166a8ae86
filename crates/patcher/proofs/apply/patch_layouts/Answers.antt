use Rattle.std.proofs.Common.{◌≡◌, ℕ, ◌<◌, ◌+◌, suc, List, length, set, take, get_or, sym, ◌∙◌, ap, rules, arith}
use Rattle.layout.specs.Laid.{Laid}
use Rattle.patcher.specs.declared.patches.Patch.{Patch}
use Rattle.patcher.specs.Patched.{layouts_with, layout_with}
use Rattle.patcher.proofs.PutAll.{still_within, not_yet, one_more}
use Rattle.patcher.proofs.apply.patch_layouts.Goals as goal

pub bounds-lives-i : goal.bounds-lives-i
bounds-lives-i c = rw c.loop-i.invariant (still_within c.args.lives.now c.args.lists.now c.loop-i.i c.requires c.loop-i-test.true)

pub offset_bounds-lives-i : goal.offset_bounds-lives-i
offset_bounds-lives-i c =
    let lt : c.loop-i.i < length c.loop-i.lives = rw c.loop-i.invariant (still_within c.args.lives.now c.args.lists.now c.loop-i.i c.requires c.loop-i-test.true) in
    search rules

pub patch_layout-requires : goal.patch_layout-requires
patch_layout-requires c =
    let e : c.as_slice.result.now ≡ get_or c.args.lists.now c.loop-i.i c.index-lists-i.result = search rules in
    rw (e, c.loop-i.invariant) (not_yet c.args.lives.now c.args.lists.now c.loop-i.i c.index-lives-i.result c.index-lists-i.result c.requires c.loop-i-test.true)

pub loop-i-preserved : goal.loop-i-preserved
loop-i-preserved c =
    let e : c.as_slice.result.now ≡ get_or c.args.lists.now c.loop-i.i c.index-lists-i.result = search rules in
    let n : c.loop-i.i + 1 ≡ suc c.loop-i.i = omega arith in
    let w : c.patch_layout.new.layout ≡ layout_with (get_or c.args.lists.now c.loop-i.i c.index-lists-i.result) (get_or c.loop-i.lives c.loop-i.i c.index-lives-i.result) = c.patch_layout.ensures ∙ ap (λ (s : List Patch). layout_with s (get_or c.loop-i.lives c.loop-i.i c.index-lives-i.result)) e in
    ap (set c.loop-i.lives c.loop-i.i) w
    ∙ ap (λ (ls : List Laid). set ls c.loop-i.i (layout_with (get_or c.args.lists.now c.loop-i.i c.index-lists-i.result) (get_or ls c.loop-i.i c.index-lives-i.result))) c.loop-i.invariant
    ∙ one_more c.args.lives.now c.args.lists.now c.loop-i.i c.index-lives-i.result c.index-lists-i.result c.requires c.loop-i-test.true
    ∙ ap (λ (k : ℕ). layouts_with (take k c.args.lists.now) c.args.lives.now) (sym n)
