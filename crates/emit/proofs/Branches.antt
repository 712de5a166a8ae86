-- The words of a branch, form by form.
use Rattle.std.proofs.Common.{◌≡◌, ℕ, Bool, true, false, List, [], ◌∷◌, refl}
use Rattle.std.specs.Prelude.{Option, if◌then◌else◌}
use Rattle.rv_isa.specs.Conditions.{opposite}
use Rattle.rv_isa.specs.declared.instr.Cond.{Cond}
use Rattle.image.specs.declared.ranges.Func.{Func}
use Rattle.emit.specs.declared.entry.To.TheVariants.{Over}
use Rattle.emit.specs.declared.entry.Made.TheVariants.{Branch}
use Rattle.emit.specs.declared.entry.Entry.{Entry}
use Rattle.emit.specs.Entries.{aimed, start, hop, is_next, branch_of}

-- what holds of each form holds of the words of a branch
pub branch_cases : (P : List Entry → Type 0) (f : Func) (next : Option ℕ) (far : ℕ → Bool) (x : ℕ) (o : Cond) (rs1 rs2 t y : ℕ)
    → (is_next next y ≡ true → P (start x (Branch (opposite o) rs1 rs2 Over) ∷ hop f t ∷ []))
    → (is_next next y ≡ true → far t ≡ false → P (start x (Branch o rs1 rs2 (aimed f t)) ∷ []))
    → (is_next next t ≡ true → P (start x (Branch o rs1 rs2 Over) ∷ hop f y ∷ []))
    → (is_next next t ≡ true → far y ≡ false → P (start x (Branch (opposite o) rs1 rs2 (aimed f y)) ∷ []))
    → P (start x (Branch (opposite o) rs1 rs2 Over) ∷ hop f t ∷ hop f y ∷ [])
    → (far t ≡ false → P (start x (Branch o rs1 rs2 (aimed f t)) ∷ hop f y ∷ []))
    → P (branch_of f next far x o rs1 rs2 t y)
unfolding branch_of
branch_cases P f next far x o rs1 rs2 t y falls_far falls takes_far takes both_far both = by_test (is_next next y) (is_next next t) (far t) (far y) refl refl refl refl
  where
    by_test : (fall take l m : Bool) → is_next next y ≡ fall → is_next next t ≡ take → far t ≡ l → far y ≡ m → P (if fall then
        (if l then start x (Branch (opposite o) rs1 rs2 Over) ∷ hop f t ∷ [] else start x (Branch o rs1 rs2 (aimed f t)) ∷ [])
        else (if take then
        (if m then start x (Branch o rs1 rs2 Over) ∷ hop f y ∷ [] else start x (Branch (opposite o) rs1 rs2 (aimed f y)) ∷ [])
        else
        (if l then start x (Branch (opposite o) rs1 rs2 Over) ∷ hop f t ∷ hop f y ∷ []
        else start x (Branch o rs1 rs2 (aimed f t)) ∷ hop f y ∷ [])))
    by_test true k true m p q r s = falls_far p
    by_test true k false m p q r s = falls p r
    by_test false true l true p q r s = takes_far q
    by_test false true l false p q r s = takes q s
    by_test false false true m p q r s = both_far
    by_test false false false m p q r s = both r
