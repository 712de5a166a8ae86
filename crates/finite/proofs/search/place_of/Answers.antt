use Rattle.std.proofs.Common.{◌≡◌, ◌∙◌, ap, arith, sym}
use Rattle.std.proofs.lemmas.List.{get_or_default}
use Rattle.finite.proofs.Searching.{hit, miss}
use Rattle.finite.proofs.search.place_of.Goals as goal

pub returns-then-i-items-clause-place : goal.returns-then-i-items-clause-place
returns-then-i-items-clause-place g c = sym (miss g.T.Keyed.key c.args.items.now c.args.key c.keys_below-i.result (λ i j d lt h. c.requires i j d lt h) c.keys_below-i.ensures.below c.keys_below-i.ensures.others (λ d lt. absurd (omega arith)))

pub returns-then-key-clause-place : goal.returns-then-key-clause-place
returns-then-key-clause-place g c = sym (miss g.T.Keyed.key c.args.items.now c.args.key c.keys_below-i.result (λ i j d lt h. c.requires i j d lt h) c.keys_below-i.ensures.below c.keys_below-i.ensures.others (λ d lt e. (
    let same = get_or_default c.args.items.now c.keys_below-i.result d c.index-items-i.result lt in
    let is : c.key.result ≡ c.args.key = c.key.ensures ∙ ap g.T.Keyed.key (c.index-items-i.is ∙ sym same) ∙ e in
    absurd (omega (arith, is, c.if-key.true)))))

pub returns-clause-place : goal.returns-clause-place
returns-clause-place g c = sym (hit g.T.Keyed.key c.args.items.now c.args.key c.keys_below-i.result c.index-items-i.result c.keys_below-i.ensures.below (omega arith) (let is = c.index-items-i.is in let k = c.key.ensures in let e = c.if-key.false in cc))
