use Rattle.std.proofs.Common.{◌≡◌, ◌∙◌, ◌+◌, ◌-◌, ◌*◌, ℕ, min, sym, ap, arith, rules}
use Rattle.finite.specs.Maps.{contains_all}
use Rattle.finite.proofs.MapLaws.{all-none}
use Rattle.guest_mem.specs.Memory.{with_right}
use Rattle.guest_mem.proofs.Laws.{not_true, end_of, all_word, all_lacks}
use Rattle.guest_mem.proofs.access.all_have_right.Goals as goal

pub returns-then-n-eq0-clause-value : goal.returns-then-n-eq0-clause-value
returns-then-n-eq0-clause-value g c =
    let s = with_right (g.S.WordStore.contents c.args.store.now) c.args.right in
    sym (ap (contains_all s c.args.at) c.if-n-eq0.true ∙ all-none s c.args.at)

pub returns-then-saturating_add-gt-GUEST_END-clause-value : goal.returns-then-saturating_add-gt-GUEST_END-clause-value
returns-then-saturating_add-gt-GUEST_END-clause-value g c =
    let s = with_right (g.S.WordStore.contents c.args.store.now) c.args.right in
    sym (not_true (contains_all s c.args.at c.args.n) (λ e. (let h = end_of s c.args.at c.args.n (c.bounded.ensures.rights c.args.right) (omega arith) e in absurd (omega arith))))

pub loop-w-init : goal.loop-w-init
loop-w-init g c =
    let s = with_right (g.S.WordStore.contents c.args.store.now) c.args.right in
    ap (contains_all s c.args.at) (omega arith) ∙ all-none s c.args.at

pub returns-then-not-have_rights-clause-value : goal.returns-then-not-have_rights-clause-value
returns-then-not-have_rights-clause-value g c =
    let s = with_right (g.S.WordStore.contents c.args.store.now) c.args.right in
    sym (all_lacks s c.args.at c.args.n c.max-from.result c.min-to.result (omega arith) (omega arith) (sym c.have_rights.ensures.value ∙ search rules))

pub loop-w-preserved : goal.loop-w-preserved
loop-w-preserved g c =
    let s = with_right (g.S.WordStore.contents c.args.store.now) c.args.right in
    let e : c.min-to.result ≡ min (c.args.at + c.args.n) (8 * c.loop-w.w + 8) = omega arith in
    all_word s c.args.at c.args.n c.loop-w.w c.max-from.result (omega arith) c.loop-w.invariant
    (ap (λ (t : ℕ). contains_all s c.max-from.result (t - c.max-from.result)) (sym e) ∙ sym c.have_rights.ensures.value ∙ search rules)
