use Rattle.std.proofs.Common.{rules, subst}
use Rattle.patcher.specs.Texts.{AreTexts}
use Rattle.patcher.proofs.text.TextNow.of.Goals as goal

pub invariant_of-result : goal.invariant_of-result
invariant_of-result c = subst AreTexts (search rules) (record { fit = c.kept.ensures.texts_fit; rise = c.kept.ensures.texts_rise })
