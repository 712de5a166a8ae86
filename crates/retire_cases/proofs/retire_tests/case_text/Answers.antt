use Rattle.std.proofs.Common.{subst, sym}
use Rattle.std.specs.Prelude.{List, AllPairs}
use Rattle.layout.specs.Laid.{Laid}
use Rattle.layout.specs.Apart.{LieApart}
use Rattle.retire_cases.proofs.retire_tests.case_text.Goals as goal

pub answer_of-requires : goal.answer_of-requires
answer_of-requires c = subst (λ (ls : List Laid). AllPairs LieApart ls) (sym c.deref.ensures.value) c.in_ok-lives.ensures
