use Rattle.std.proofs.Common.{◌≤◌, ◌<◌, ◌+◌, List, length, subst, arith}
use Rattle.std.proofs.lemmas.List.{get_or_default}
use Rattle.image.specs.declared.ranges.Func.{Func}
use Rattle.blocks.specs.declared.index.Reach.{Reach}
use Rattle.blocks.proofs.Overlapping.{reaches_length, reaches_rise, one_before, before_within, one_after, none_after}
use Rattle.blocks.proofs.index.place_overlapped.Goals.{else-after-funcs-via-then-after-funcs+else-funcs-after, else-after-funcs-via-else-after-funcs}
use Rattle.blocks.proofs.index.place_overlapped.Goals as goal

pub keys_up_to-before-requires : goal.keys_up_to-before-requires
keys_up_to-before-requires c = λ i j d le l.
    rw (c.requires.reaches) (reaches_rise 0 c.args.funcs.now i j d le (subst (λ m. j < m) (reaches_length 0 c.args.funcs.now) (subst (λ (rs : List Reach). j < length rs) c.requires.reaches l)))

pub returns-then-before-n-clause-first : goal.returns-then-before-n-clause-first
returns-then-before-n-clause-first c =
    one_before c.args.funcs.now c.args.all.now c.args.n c.args.f.now c.keys_up_to-before.result c.requires.rise c.requires.filled c.requires.reaches c.requires.there
    c.keys_up_to-before.ensures.within c.keys_up_to-before.ensures.up_to c.keys_up_to-before.ensures.others c.if-before-n.true

pub returns-then-before-n-clause-within : goal.returns-then-before-n-clause-within
returns-then-before-n-clause-within c =
    before_within c.args.funcs.now c.args.all.now c.args.n c.args.f.now c.keys_up_to-before.result c.requires.rise c.requires.filled c.requires.reaches c.requires.there
    c.keys_up_to-before.ensures.within c.keys_up_to-before.ensures.up_to c.keys_up_to-before.ensures.others c.if-before-n.true

pub returns-then-funcs-after-clause-first : goal.returns-then-funcs-after-clause-first
returns-then-funcs-after-clause-first c =
    one_after c.args.funcs.now c.args.all.now c.args.n c.args.f.now c.keys_up_to-before.result c.requires.rise c.requires.filled c.requires.reaches c.requires.there
    c.keys_up_to-before.ensures.within c.keys_up_to-before.ensures.up_to c.keys_up_to-before.ensures.others (omega (arith, c.if-before-n.false)) c.if-after-funcs.true
    (subst (λ (g : Func). g.from < c.args.f.now.to) (get_or_default c.args.funcs.now (c.args.n + 1) _ c.args.f.now c.if-after-funcs.true) c.if-funcs-after.true)

pub returns-clause-first : goal.returns-clause-first
returns-clause-first c =
    none_after c.args.funcs.now c.args.all.now c.args.n c.args.f.now c.keys_up_to-before.result c.requires.rise c.requires.filled c.requires.reaches c.requires.there
    c.keys_up_to-before.ensures.within c.keys_up_to-before.ensures.up_to c.keys_up_to-before.ensures.others (omega (arith, c.if-before-n.false)) (λ l.
    elim c.else-after-funcs.branch [
      | else-after-funcs-via-then-after-funcs+else-funcs-after w ↦ subst (λ (g : Func). c.args.f.now.to ≤ g.from) (get_or_default c.args.funcs.now (c.args.n + 1) _ c.args.f.now l) w.if-funcs-after.false
      | else-after-funcs-via-else-after-funcs w ↦ absurd (omega (arith, w.if-after-funcs.false, l))
    ])
