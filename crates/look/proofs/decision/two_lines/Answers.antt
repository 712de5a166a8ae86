use Rattle.std.proofs.Common.{List, ℕ, ◌++◌, ap, codes, ◌∙◌}
use Rattle.look.proofs.decision.two_lines.Goals as goal

pub returns : goal.returns
returns c =
    c.in_ok-extend_from_slice-3.ensures.ok
    ∙ ap (λ (t : List ℕ). t ++ codes "\n") (c.in_ok-extend_from_slice-2.ensures.ok
    ∙ ap (λ (t : List ℕ). t ++ c.args.meaning.now) (c.in_ok-extend_from_slice.ensures.ok
    ∙ ap (λ (t : List ℕ). t ++ codes "ocolos_look: ") c.in_ok-lines.ensures))
