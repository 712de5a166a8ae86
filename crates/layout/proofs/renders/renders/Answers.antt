use Rattle.std.proofs.Common.{refl}
use Rattle.layout.proofs.Exact.{sound, full_words, full_sites, full_pairs}
use Rattle.layout.proofs.renders.renders.Goals as goal

pub returns-then-not-are_words : goal.returns-then-not-are_words
returns-then-not-are_words c = (λ e. absurd (cc), λ r. c.if-not-are_words.ensures.1 (full_words c.args.image.now c.args.layout.now c.kept.ensures c.kept-2.ensures r))

pub returns-then-not-are_sites : goal.returns-then-not-are_sites
returns-then-not-are_sites c = (λ e. absurd (cc), λ r. c.if-not-are_sites.ensures.1 (full_sites c.args.image.now c.args.layout.now r))

pub returns : goal.returns
returns c = (
  λ e. sound c.args.image.now c.args.layout.now c.kept.ensures c.kept-2.ensures (c.if-not-is_within.ensures.0 refl) (c.if-not-are_words.ensures.0 refl) (c.if-not-are_sites.ensures.0 refl) (c.are_pairs.ensures.0 e),
  λ r. c.are_pairs.ensures.1 (full_pairs c.args.image.now c.args.layout.now r),
)
