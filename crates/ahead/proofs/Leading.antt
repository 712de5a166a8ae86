-- What was written to a register, written back.
use Rattle.std.proofs.Common.{◌≡◌, ℕ, ◌==◌, Bool, true, false, cond, List, [], ◌∷◌, get_or, set, zero, suc, refl, sym, ap, ◌∙◌}
use Rattle.std.proofs.lemmas.List.{set-get_or}
use Rattle.link_tags.specs.declared.value.Value.{Value}
use Rattle.link_tags.specs.Values.{plain}
use Rattle.hart.specs.declared.hart.Hart.{Hart}
use Rattle.hart.specs.Harts.{reg, with_reg}

set_again : {A : Type 0} (xs : List A) (i : ℕ) (x y : A) → set (set xs i x) i y ≡ set xs i y
set_again [] i x y = refl
set_again (z ∷ zs) zero x y = refl
set_again {A = A} (z ∷ zs) (suc i) x y = ap (λ (xs : List A). z ∷ xs) (set_again zs i x y)

regs_back : (regs : List Value) (rd : ℕ) (v : Value) → with_reg (with_reg regs rd v) rd (reg regs rd) ≡ regs
regs_back regs rd v = by_zero (rd == 0)
  where
    by_zero : (b : Bool) → cond b (cond b regs (set regs rd v)) (set (cond b regs (set regs rd v)) rd (cond b (plain 0) (get_or regs rd (plain 0)))) ≡ regs
    by_zero true = refl
    by_zero false = set_again regs rd v (get_or regs rd (plain 0)) ∙ set-get_or regs rd (plain 0)

pub written_back : (k new : Hart) (rd pc : ℕ) (v old : Value) → old ≡ reg k.regs rd → new ≡ record k { regs = with_reg k.regs rd v }
    → record new { regs = with_reg new.regs rd old; pc = k.pc } ≡ k
written_back k new rd pc v old o n =
    (λ i. record (n i) { regs = with_reg (n i).regs rd (o i); pc = k.pc }) ∙ (λ i. record k { regs = regs_back k.regs rd v i })
