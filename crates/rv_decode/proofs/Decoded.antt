-- The list of all rows gives what Reads says.
use Rattle.std.proofs.Common.{◌≡◌, ℕ, List, [], ◌∷◌, Bool, true, false, ◌==◌, ◌&&◌, Option, Some, None, refl, sym, ◌∙◌, IfSome, cond, rules, subst, if◌then◌else◌}
use Rattle.std.specs.Option.{option_map, option_and_then}
use Rattle.rv_isa.specs.Rows.{Field, Has, alu_row, imm_row, shift_row, branch_row, load_row, store_row, amo_row, lr_row, sc_row}
use Rattle.rv_isa.specs.Instr.{IsStoreWidth}
use Rattle.rv_isa.specs.Reads.{Reads, width_row}
use Rattle.finite.specs.First.{first_of}
use Rattle.rv_isa.specs.Decoded.{has, row_in, where_has, where_is, readings, decoded, alu_ops, imm_ops, shift_ops, conditions, load_widths, store_widths, widths, amo_ops}
use Rattle.rv_isa.specs.declared.instr.AluOp.{AluOp}
use Rattle.rv_isa.specs.declared.instr.AluOp.TheVariants as alu
use Rattle.rv_isa.specs.declared.instr.ImmOp.{ImmOp}
use Rattle.rv_isa.specs.declared.instr.ImmOp.TheVariants as imm
use Rattle.rv_isa.specs.declared.instr.ShiftOp.{ShiftOp}
use Rattle.rv_isa.specs.declared.instr.ShiftOp.TheVariants as shift
use Rattle.rv_isa.specs.declared.instr.AmoOp.{AmoOp}
use Rattle.rv_isa.specs.declared.instr.AmoOp.TheVariants as amo
use Rattle.rv_isa.specs.declared.instr.Cond.{Cond}
use Rattle.rv_isa.specs.declared.instr.Cond.TheVariants as cond
use Rattle.rv_isa.specs.declared.instr.Width.{Width}
use Rattle.rv_isa.specs.declared.instr.Width.TheVariants as width
use Rattle.rv_isa.specs.declared.instr.Instr.{Instr}
use Rattle.rv_isa.specs.declared.instr.Instr.TheVariants.{Alu, AluImm, ShiftImm, Lui, Auipc, Jal, Jalr, Branch, Load, Store, Lr, Sc, Amo, Fence, Ecall, Ebreak}

eq_left : (a b : ℕ) (c : Bool) → (a == b && c) ≡ true → a ≡ b
eq_left a b c e = search rules

eq_right : (a b : ℕ) (c : Bool) → (a == b && c) ≡ true → c ≡ true
eq_right a b c e = search rules

eq_both : (a b : ℕ) (c : Bool) → a ≡ b → c ≡ true → (a == b && c) ≡ true
eq_both a b c e h = search rules

-- the test of the fields and the fact
has-Has : (w : ℕ) (fs : List Field) → has w fs ≡ true → Has w fs
has-Has w [] e = tt
has-Has w (f ∷ fs) e = (eq_left _ _ _ e, has-Has w fs (eq_right _ _ _ e))

Has-has : (w : ℕ) (fs : List Field) → Has w fs → has w fs ≡ true
Has-has w [] h = refl
Has-has w (f ∷ fs) h = eq_both _ _ _ h.0 (Has-has w fs h.1)

-- a choice that gives something, and one that gives nothing
pick-Some : {A : Type 0} (P : A → Type 0) (b : Bool) (x y : A) (rest : Option A) → (b ≡ true → P x) → (rest ≡ Some y → P y) → cond b (Some x) rest ≡ Some y → P y
pick-Some P true x y rest h k e = let same : x ≡ y = cc in subst P same (h refl)
pick-Some P false x y rest h k e = k e

pick-None : {A : Type 0} (b : Bool) (x : A) (rest : Option A) → cond b (Some x) rest ≡ None → (b ≡ true → ⊥) × (rest ≡ None)
pick-None true x rest e = cc
pick-None false x rest e = (λ t. (let no_way = t in cc), e)

-- the row that is found has the fields
row-Some : {A : Type 0} (w : ℕ) (row : A → List Field) (ops : List A) (op : A) → row_in w row ops ≡ Some op → Has w (row op)
unfolding row_in
row-Some w row [] op e = cc
row-Some w row (x ∷ xs) op e = pick-Some (λ op. Has w (row op)) (has w (row x)) x op (row_in w row xs) (has-Has w (row x)) (row-Some w row xs op) e

-- P holds of each in the list
abbrev AllOf : {A : Type 0} → (A → Type 0) → List A → Type 0
AllOf P [] = Unit {0}
AllOf P (x ∷ xs) = P x × AllOf P xs

-- what holds of all in the list holds of the one that is found
row-All : {A : Type 0} (w : ℕ) (row : A → List Field) (ops : List A) (P : A → Type 0) (op : A) → AllOf P ops → row_in w row ops ≡ Some op → P op
unfolding row_in
row-All w row [] P op h e = cc
row-All w row (x ∷ xs) P op h e = pick-Some P (has w (row x)) x op (row_in w row xs) (λ t. h.0) (λ k. row-All w row xs P op h.1 k) e

-- and where none is found no row of the list has them
row-None : {A : Type 0} (w : ℕ) (row : A → List Field) (ops : List A) → row_in w row ops ≡ None → AllOf (λ op. Has w (row op) → ⊥) ops
unfolding row_in
row-None w row [] e = tt
row-None w row (x ∷ xs) e =
    let none = pick-None (has w (row x)) x (row_in w row xs) e in
    (λ h. none.0 (Has-has w (row x) h), row-None w row xs none.1)

-- every operation stands in its list; the line with _ is checked for each
each_alu : (P : AluOp → Type 0) → AllOf P alu_ops → (op : AluOp) → P op
each_alu P h alu.Add = search rules
each_alu P h _ = search rules

each_imm : (P : ImmOp → Type 0) → AllOf P imm_ops → (op : ImmOp) → P op
each_imm P h imm.Addi = search rules
each_imm P h _ = search rules

each_shift : (P : ShiftOp → Type 0) → AllOf P shift_ops → (op : ShiftOp) → P op
each_shift P h shift.Slli = search rules
each_shift P h _ = search rules

each_condition : (P : Cond → Type 0) → AllOf P conditions → (op : Cond) → P op
each_condition P h cond.Eq = search rules
each_condition P h _ = search rules

each_load : (P : Width → Type 0) → AllOf P load_widths → (op : Width) → P op
each_load P h width.B = search rules
each_load P h _ = search rules

each_amo : (P : AmoOp → Type 0) → AllOf P amo_ops → (op : AmoOp) → P op
each_amo P h amo.Swap = search rules
each_amo P h _ = search rules

each_store : (P : Width → Type 0) → AllOf P store_widths → (op : Width) → IsStoreWidth op → P op
each_store P h width.B s = search rules
each_store P h width.H s = search rules
each_store P h width.W s = search rules
each_store P h width.D s = search rules
each_store P h _ s = absurd s

-- the first that stands passes what all pass, and where there is none nothing stands
first-Some : (P : Instr → Type 0) (os : List (Option Instr)) (j : Instr) → AllOf (λ o. IfSome o P) os → first_of os ≡ Some j → P j
first-Some P [] j h e = cc
first-Some P (None ∷ os) j h e = first-Some P os j h.1 e
first-Some P (Some i ∷ os) j h e = let same : i ≡ j = cc in subst P same h.0

first-None : (os : List (Option Instr)) → first_of os ≡ None → AllOf (λ o. o ≡ None) os
first-None [] e = tt
first-None (None ∷ os) e = (refl, first-None os e)
first-None (Some i ∷ os) e = cc

-- what is made of an operation that was found
IfSome-map : {A : Type 0} (P : Instr → Type 0) (f : A → Instr) (o : Option A) → ((op : A) → o ≡ Some op → P (f op)) → IfSome (option_map f o) P
IfSome-map P f None h = tt
IfSome-map P f (Some op) h = h op refl

IfSome-then : {A : Type 0} (P : Instr → Type 0) (f : A → Option Instr) (o : Option A) → ((op : A) → o ≡ Some op → IfSome (f op) P) → IfSome (option_and_then f o) P
IfSome-then P f None h = tt
IfSome-then P f (Some op) h = h op refl

map-None : {A : Type 0} (f : A → Instr) (o : Option A) → option_map f o ≡ None → o ≡ None
map-None f None e = refl
map-None f (Some op) e = cc

then-None : {A : Type 0} (f : A → Option Instr) (o : Option A) (x : A) → option_and_then f o ≡ None → o ≡ Some x → f x ≡ None
then-None f None x e is = cc
then-None f (Some y) x e is = let same : y ≡ x = cc in subst (λ z. f z ≡ None) same e

-- a test of the whole word or of some fields
if-Some : (b : Bool) (i : Instr) (P : Instr → Type 0) → (b ≡ true → P i) → IfSome (if b then Some i else None) P
if-Some true i P h = h refl
if-Some false i P h = tt

if-None : (b : Bool) (i : Instr) → (if b then Some i else None) ≡ None → b ≡ true → ⊥
if-None true i e t = cc
if-None false i e t = cc

where_has-Some : (w : ℕ) (fields : List Field) (i : Instr) (P : Instr → Type 0) → (Has w fields → P i) → IfSome (where_has w fields i) P
unfolding where_has
where_has-Some w fields i P h = if-Some (has w fields) i P (λ t. h (has-Has w fields t))

where_has-None : (w : ℕ) (fields : List Field) (i : Instr) → where_has w fields i ≡ None → Has w fields → ⊥
unfolding where_has
where_has-None w fields i e h = if-None (has w fields) i e (Has-has w fields h)

where_is-Some : (w word : ℕ) (i : Instr) (P : Instr → Type 0) → (w ≡ word → P i) → IfSome (where_is w word i) P
unfolding where_is
where_is-Some w word i P h = if-Some (w == word) i P (λ t. h (eqb_eq t))
  where
    eqb_eq : (w == word) ≡ true → w ≡ word
    eqb_eq t = search rules

where_is-None : (w word : ℕ) (i : Instr) → where_is w word i ≡ None → w ≡ word → ⊥
unfolding where_is
where_is-None w word i e h = if-None (w == word) i e (eq_eqb h)
  where
    eq_eqb : w ≡ word → (w == word) ≡ true
    eq_eqb t = search rules

-- a fact of the first of a list, and of the others
infixr 2 ◌&◌
◌&◌ : {A B : Type 0} → A → B → A × B
a & b = (a, b)

-- whatever a class gives is read
row-Reads : {A : Type 0} (w : ℕ) (row : A → List Field) (ops : List A) (f : A → Instr) → ((op : A) → Has w (row op) → Reads w (f op)) → IfSome (option_map f (row_in w row ops)) (Reads w)
row-Reads w row ops f h = IfSome-map (Reads w) f (row_in w row ops) (λ op e. h op (row-Some w row ops op e))

wide-Reads : (w : ℕ) (f : Bool → Option Instr) → ((wide : Bool) → Has w (width_row wide) → IfSome (f wide) (Reads w)) → IfSome (option_and_then f (row_in w width_row widths)) (Reads w)
wide-Reads w f h = IfSome-then (Reads w) f (row_in w width_row widths) (λ wide e. h wide (row-Some w width_row widths wide e))

sound : (w : ℕ) → AllOf (λ o. IfSome o (Reads w)) (readings w)
unfolding readings Reads
sound w =
    row-Reads w alu_row alu_ops _ (λ op h. (h, refl, refl, refl))
    & row-Reads w imm_row imm_ops _ (λ op h. (h, refl, refl, refl))
    & row-Reads w shift_row shift_ops _ (λ op h. (h, refl, refl, refl))
    & where_has-Some w _ _ (Reads w) (λ h. (h, refl, refl))
    & where_has-Some w _ _ (Reads w) (λ h. (h, refl, refl))
    & where_has-Some w _ _ (Reads w) (λ h. (h, refl, refl))
    & where_has-Some w _ _ (Reads w) (λ h. (h, refl, refl, refl))
    & row-Reads w branch_row conditions _ (λ c h. (h, refl, refl, refl))
    & row-Reads w load_row load_widths _ (λ width h. (h, refl, refl, refl))
    & IfSome-map (Reads w) _ (row_in w store_row store_widths) (λ width e. (row-All w store_row store_widths IsStoreWidth width (tt & tt & tt & tt & tt) e, row-Some w store_row store_widths width e, refl, refl, refl))
    & wide-Reads w _ (λ wide k. where_has-Some w lr_row _ (Reads w) (λ h. (h, k, refl, refl, refl)))
    & wide-Reads w _ (λ wide k. where_has-Some w sc_row _ (Reads w) (λ h. (h, k, refl, refl, refl, refl)))
    & wide-Reads w _ (λ wide k. row-Reads w amo_row amo_ops _ (λ op h. (h, k, refl, refl, refl, refl)))
    & where_has-Some w _ _ (Reads w) (λ h. (h, refl, refl, refl))
    & where_is-Some w _ _ (Reads w) (λ e. e)
    & where_is-Some w _ _ (Reads w) (λ e. e)
    & tt

-- a word with the fields of a width is given by some width
wide-None : (w : ℕ) (f : Bool → Option Instr) (wide : Bool) → Has w (width_row wide) → option_and_then f (row_in w width_row widths) ≡ None → (x : Bool) × (f x ≡ None)
wide-None w f wide g e = by_cases (row_in w width_row widths) refl
  where
    fails : (b : Bool) → AllOf (λ b. Has w (width_row b) → ⊥) widths → Has w (width_row b) → ⊥
    fails true h = h.0
    fails false h = h.1.0

    by_cases : (o : Option Bool) → row_in w width_row widths ≡ o → (x : Bool) × (f x ≡ None)
    by_cases None k = absurd (fails wide (row-None w width_row widths k) g)
    by_cases (Some x) k = (x, then-None f (row_in w width_row widths) x e k)

-- and whatever is read is given by its class
complete : (w : ℕ) (i : Instr) → AllOf (λ o. o ≡ None) (readings w) → Reads w i → ⊥
unfolding readings Reads
complete w (Alu op rd rs1 rs2) h g = each_alu (λ op. Has w (alu_row op) → ⊥) (row-None w alu_row alu_ops (map-None _ _ h.0)) op g.0
complete w (AluImm op rd rs1 imm) h g = each_imm (λ op. Has w (imm_row op) → ⊥) (row-None w imm_row imm_ops (map-None _ _ h.1.0)) op g.0
complete w (ShiftImm op rd rs1 by) h g = each_shift (λ op. Has w (shift_row op) → ⊥) (row-None w shift_row shift_ops (map-None _ _ h.1.1.0)) op g.0
complete w (Lui rd imm) h g = where_has-None w _ _ h.1.1.1.0 g.0
complete w (Auipc rd imm) h g = where_has-None w _ _ h.1.1.1.1.0 g.0
complete w (Jal rd off) h g = where_has-None w _ _ h.1.1.1.1.1.0 g.0
complete w (Jalr rd rs1 off) h g = where_has-None w _ _ h.1.1.1.1.1.1.0 g.0
complete w (Branch c rs1 rs2 off) h g = each_condition (λ op. Has w (branch_row op) → ⊥) (row-None w branch_row conditions (map-None _ _ h.1.1.1.1.1.1.1.0)) c g.0
complete w (Load width rd rs1 off) h g = each_load (λ op. Has w (load_row op) → ⊥) (row-None w load_row load_widths (map-None _ _ h.1.1.1.1.1.1.1.1.0)) width g.0
complete w (Store width rs2 rs1 off) h g = each_store (λ op. Has w (store_row op) → ⊥) (row-None w store_row store_widths (map-None _ _ h.1.1.1.1.1.1.1.1.1.0)) width g.0 g.1
complete w (Lr wide order rd rs1) h g = where_has-None w lr_row _ (wide-None w _ wide g.1 h.1.1.1.1.1.1.1.1.1.1.0).1 g.0
complete w (Sc wide order rd rs1 rs2) h g = where_has-None w sc_row _ (wide-None w _ wide g.1 h.1.1.1.1.1.1.1.1.1.1.1.0).1 g.0
complete w (Amo op wide order rd rs1 rs2) h g =
    each_amo (λ op. Has w (amo_row op) → ⊥) (row-None w amo_row amo_ops (map-None _ _ (wide-None w _ wide g.1 h.1.1.1.1.1.1.1.1.1.1.1.1.0).1)) op g.0
complete w (Fence rd rs1 imm) h g = where_has-None w _ _ h.1.1.1.1.1.1.1.1.1.1.1.1.1.0 g.0
complete w Ecall h g = where_is-None w _ _ h.1.1.1.1.1.1.1.1.1.1.1.1.1.1.0 g
complete w Ebreak h g = where_is-None w _ _ h.1.1.1.1.1.1.1.1.1.1.1.1.1.1.1.0 g

pub same_as_decoded : (w : ℕ) (r : Option Instr) → IfSome r (Reads w) → ((i : Instr) → Reads w i → r ≡ Some i) → r ≡ decoded w
unfolding decoded
same_as_decoded w r reads only = by_cases r (decoded w) refl refl
  where
    by_cases : (s d : Option Instr) → r ≡ s → decoded w ≡ d → r ≡ decoded w
    by_cases s (Some j) e k = only j (first-Some (Reads w) (readings w) j (sound w) k) ∙ sym k
    by_cases None None e k = e ∙ sym k
    by_cases (Some i) None e k = absurd (complete w i (first-None (readings w) k) (subst (λ o. IfSome o (Reads w)) e reads))

-- what is decoded is read
pub decoded_read : (w : ℕ) (i : Instr) → decoded w ≡ Some i → Reads w i
unfolding decoded
decoded_read w i e = first-Some (Reads w) (readings w) i (sound w) e
