-- Sums of addresses: those that instructions make are those that images and layouts speak of.
use Rattle.std.proofs.Common.{◌≡◌, ℕ, suc, ◌+◌, ◌-◌, ◌*◌, ◌%◌, ◌^◌, ◌<◌, Bool, true, false, cond, ltb, refl, ◌∙◌, ap, arith}
use Rattle.std.proofs.Common.{List, [], ◌∷◌, Option, Some, None, IfSome, subst}
use Rattle.std.specs.Prelude.{ℤ, pos, negsuc, if◌then◌else◌}
use Rattle.std.specs.Option.{option_map, option_and_then}
use Rattle.finite.specs.First.{first_of}
use Rattle.rv_isa.specs.Decoded.{decoded, readings, where_has, where_is, row_in, alu_ops, imm_ops, shift_ops, conditions, load_widths, store_widths, widths, amo_ops}
use Rattle.rv_isa.specs.Rows.{Field, alu_row, imm_row, shift_row, branch_row, load_row, store_row, amo_row}
use Rattle.rv_isa.specs.Reads.{width_row}
use Rattle.rv_isa.specs.declared.instr.Instr.{Instr}
use Rattle.rv_isa.specs.declared.instr.Instr.TheVariants as instr
use Rattle.std.proofs.lemmas.Bool.{ltb-true, ltb-false}
use Rattle.rv_isa.specs.Word.{signed}
use Rattle.rv_isa.specs.declared.instr.ImmOp.TheVariants.{Addi}
use Rattle.rv_alu.specs.Arithmetic.{imm_of, alu_of}
use Rattle.image.specs.Targets.{reduced, target, made_by}
use Rattle.hart.specs.Harts.{add64, moved_by, after, even, upper}

pub moved_is : (a : ℕ) (off : ℤ) → moved_by a off ≡ target a off
unfolding target
moved_is a (pos n) = omega arith
moved_is a (negsuc n) = by_order (ltb a (suc n)) refl
  where
    by_order : (b : Bool) → ltb a (suc n) ≡ b → (a + (2 ^ 64 - 1 - n % 2 ^ 64)) % 2 ^ 64 ≡ reduced (cond b (negsuc (suc n - suc a)) (pos (a - suc n)))
    by_order true e = let lt = ltb-true a (suc n) e in omega (arith, lt)
    by_order false e = let le = ltb-false a (suc n) e in omega (arith, le)

-- an AUIPC's value
pub made_is : (a high : ℕ) → add64 a (upper high) ≡ made_by a high
unfolding made_by target
made_is a high =
    let turned : high * 2 ^ 12 ≡ 4096 * high = omega arith in
    ap (λ n. moved_by a (signed 32 n)) turned ∙ moved_is a (signed 32 (4096 * high))

-- an ADDI's value
pub added_is : (a : ℕ) (low : ℤ) → imm_of Addi a low ≡ target a low
unfolding imm_of alu_of
added_is a low = moved_is a low

-- the address after one of the guest's space
pub after_is : (a : ℕ) → a < 0x08000000 → after a ≡ a + 4
after_is a lt = omega (arith, lt)

pub even_whole : (a : ℕ) → a % 4 ≡ 0 → even a ≡ a
even_whole a e = omega (arith, e)

pub target_zero : (a : ℕ) → a < 2 ^ 64 → target a (pos 0) ≡ a
unfolding target
target_zero a lt = omega (arith, lt)

-- ---- the register of an AUIPC
abbrev Small : Instr → Type 0
Small (instr.Auipc rd imm) = rd < 32
Small _ = Unit {0}

abbrev AllSmall : List (Option Instr) → Type 0
AllSmall [] = Unit {0}
AllSmall (o ∷ os) = IfSome o Small × AllSmall os

first_small : (os : List (Option Instr)) → AllSmall os → IfSome (first_of os) Small
first_small [] h = tt
first_small (None ∷ os) h = first_small os h.1
first_small (Some i ∷ os) h = h.0

mapped_small : {A : Type 0} (f : A → Instr) (o : Option A) → ((x : A) → Small (f x)) → IfSome (option_map f o) Small
mapped_small f None h = tt
mapped_small f (Some x) h = h x

then_small : {A : Type 0} (f : A → Option Instr) (o : Option A) → ((x : A) → IfSome (f x) Small) → IfSome (option_and_then f o) Small
then_small f None h = tt
then_small f (Some x) h = h x

if_small : (b : Bool) (i : Instr) → Small i → IfSome (if b then Some i else None) Small
if_small true i h = h
if_small false i h = tt

has_small : (w : ℕ) (fs : List Field) (i : Instr) → Small i → IfSome (where_has w fs i) Small
unfolding where_has
has_small w fs i h = if_small _ i h

is_small : (w word : ℕ) (i : Instr) → Small i → IfSome (where_is w word i) Small
unfolding where_is
is_small w word i h = if_small _ i h

infixr 2 ◌&◌
◌&◌ : {A B : Type 0} → A → B → A × B
a & b = (a, b)

word_small : (w : ℕ) → IfSome (decoded w) Small
unfolding decoded readings
word_small w =
    first_small (readings w)
    (mapped_small _ (row_in w alu_row alu_ops) (λ _. tt)
    & mapped_small _ (row_in w imm_row imm_ops) (λ _. tt)
    & mapped_small _ (row_in w shift_row shift_ops) (λ _. tt)
    & has_small w _ _ tt
    & has_small w _ _ (omega arith)
    & has_small w _ _ tt
    & has_small w _ _ tt
    & mapped_small _ (row_in w branch_row conditions) (λ _. tt)
    & mapped_small _ (row_in w load_row load_widths) (λ _. tt)
    & mapped_small _ (row_in w store_row store_widths) (λ _. tt)
    & then_small _ (row_in w width_row widths) (λ wide. has_small w _ _ tt)
    & then_small _ (row_in w width_row widths) (λ wide. has_small w _ _ tt)
    & then_small _ (row_in w width_row widths) (λ wide. mapped_small _ (row_in w amo_row amo_ops) (λ _. tt))
    & has_small w _ _ tt
    & is_small w _ _ tt
    & is_small w _ _ tt
    & tt)

pub register_small : (w rd imm : ℕ) → decoded w ≡ Some (instr.Auipc rd imm) → rd < 32
register_small w rd imm e = subst (λ (o : Option Instr). IfSome o Small) e (word_small w)
