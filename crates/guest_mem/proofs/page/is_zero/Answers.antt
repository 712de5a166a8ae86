use Rattle.std.proofs.Common.{get_or, sym, ap, ◌∙◌}
use Rattle.std.proofs.lemmas.Bool.{eqb-true}
use Rattle.guest_mem.specs.Memory.{bytes_of}
use Rattle.guest_mem.proofs.PageLaws.{zero_bytes}
use Rattle.guest_mem.proofs.page.is_zero.Goals as goal

pub returns-then-eq-clause-bytes : goal.returns-then-eq-clause-bytes
returns-then-eq-clause-bytes c e j lt =
    ap (λ xs. get_or xs j 0) (sym c.number.ensures.back) ∙ ap (λ n. get_or (bytes_of n) j 0) (eqb-true _ 0 e) ∙ zero_bytes j lt
