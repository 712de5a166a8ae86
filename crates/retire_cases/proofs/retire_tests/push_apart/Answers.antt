use Rattle.std.proofs.Common.{subst}
use Rattle.std.specs.Prelude.{List, All}
use Rattle.std.proofs.lemmas.List.Quantifiers.{all_pairs_push}
use Rattle.layout.specs.Laid.{Laid}
use Rattle.layout.specs.Apart.{LieApart}
use Rattle.retire_cases.proofs.retire_tests.push_apart.Goals as goal

pub returns : goal.returns
returns c =
    let each = subst (λ (ls : List Laid). All (λ l. LieApart l c.args.layout) ls) c.deref.ensures.value (c.lies_apart.ensures.0 c.if-not-lies_apart.false) in
    rw c.in_ok-push.ensures.items (all_pairs_push LieApart c.args.lives.now.items c.args.layout c.requires each)
