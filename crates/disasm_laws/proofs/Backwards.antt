-- A shown word is read back.
use Rattle.std.proofs.Common.{◌≡◌, ◌∙◌, ◌==◌, ◌&&◌, ◌||◌, ◌<◌, ◌^◌, ◌≤ℤ◌, ◌<ℤ◌, ◌+ℤ◌, ◌-ℤ◌, ℕ, ℤ, pos, negsuc, neg_ℤ, unsigned_abs, int_lt, not, codes, is_some, if◌then◌else◌, Bool, true, false, eqb, Option, Some, None, IfSome, List, [], ◌∷◌, sym, subst, ap, refl, arith}
use Rattle.std.proofs.lemmas.Int.{ints}
use Rattle.std.proofs.lemmas.Bool.{false≢true}
use Rattle.std.proofs.lemmas.Bool.Decides.{nat_tests}
use Rattle.std.specs.Option.{option_map_or}
use Rattle.rv_isa.specs.Reads.{Reads, amount_of}
use Rattle.rv_isa.specs.Instr.{IsAmount, IsStoreWidth}
use Rattle.rv_isa.specs.declared.instr.Width.{Width}
use Rattle.rv_isa.specs.declared.instr.ShiftOp.{ShiftOp}
use Rattle.rv_isa.specs.declared.instr.ShiftOp.TheVariants as shift
use Rattle.rv_decode.proofs.Decoded.{decoded_read}
use Rattle.rv_isa.specs.Ranges.{IsOffB, IsOffJ}
use Rattle.rv_isa.specs.declared.instr.Order.{Order}
use Rattle.rv_isa.specs.declared.instr.Instr.{Instr}
use Rattle.rv_isa.specs.declared.instr.Instr.TheVariants.{Alu, AluImm, ShiftImm, Lui, Auipc, Jal, Jalr, Branch, Load, Store, Lr, Sc, Amo, Fence, Ecall, Ebreak}
use Rattle.rv_isa.specs.declared.instr.Cond.{Cond}
use Rattle.rv_isa.specs.Decoded.{decoded}
use Rattle.rv_encode.proofs.OneWord.{one_word}
use Rattle.asm_text.specs.declared.keyword.Section.TheVariants.{Text}
use Rattle.asm_text.specs.declared.operand.Target.TheVariants.{Address}
use Rattle.asm_text.specs.declared.body.Body.{Body}
use Rattle.asm_text.specs.declared.body.Body.TheVariants as says
use Rattle.asm_text.specs.Bodies.{no_order}
use Rattle.rv_asm.specs.declared.meaning.Meaning.{Meaning}
use Rattle.rv_asm.specs.declared.state.State.{State}
use Rattle.rv_asm.specs.declared.code.Code.{Code}
use Rattle.rv_asm.specs.declared.code.Code.TheVariants.{Instruction, Raw}
use Rattle.rv_asm.specs.Names.{text_at}
use Rattle.rv_asm.specs.Emission.{AreWords, Stands, code}
use Rattle.rv_asm.specs.Faults.{faults, size_faults, jal_reaches, branch_reaches}
use Rattle.disasm.specs.Shown.{register, hexadecimal, statement, branch_name, if_plain, shown, instruction_text, word_text, target_from, is_full}
use Rattle.disasm_laws.proofs.Lexed.{left_of, right_of}
use Rattle.disasm_laws.specs.Back.{ReadsBack, HasRanges}
use Rattle.disasm_laws.proofs.Bodies.{IsLine, stated, not_less, within, alu_line, imm_line, shift_line, lui_line, auipc_line, jal_line, branch_line, jalr_line, load_line, store_line, lr_line, sc_line, amo_line, word_line, fence_line, ecall_line, ebreak_line}

-- a line whose statement gives this code, which one word alone stands for
by_code : (line : List ℕ) (at word : ℕ) (b : Body) (c : Code) → IsLine line b
    → ((n : ℕ) (names : List (List ℕ × Meaning)) (s : State) → s.section ≡ Text → text_at s ≡ at → (code names s (stated n b) ≡ c ∷ []) × (faults names s (stated n b) ≡ size_faults s n b))
    → Stands word c → ((v : ℕ) → v < 2 ^ 32 → Stands v c → v ≡ word) → ReadsBack line at word
by_code line at word b c is gives one only n names s text here = record {
  statement = stated n b;
  alone = is n;
  bare = refl;
  gives = λ v lt. (
    λ all. only v lt (subst (AreWords (v ∷ [])) (gives n names s text here).0 all).0,
    λ e. subst (λ w. AreWords (w ∷ []) (code names s (stated n b))) (sym e) (subst (AreWords (word ∷ [])) (sym (gives n names s text here).0) (one, tt)),
  );
  sound = (gives n names s text here).1;
}

only_one : (word : ℕ) (i : Instr) → word < 2 ^ 32 → Reads word i → (v : ℕ) → v < 2 ^ 32 → Stands v (Instruction i) → v ≡ word
only_one word i lt reads v small stands = one_word v word i small lt stands.1 reads

by_instr : (line : List ℕ) (at word : ℕ) (i : Instr) → word < 2 ^ 32 → Reads word i → IsLine line (says.Instr i) → ReadsBack line at word
by_instr line at word i lt reads is =
    by_code line at word (says.Instr i) (Instruction i) is (λ n names s text here. rw text (refl, refl)) (lt, reads) (only_one word i lt reads)

by_word : (at word : ℕ) → word < 2 ^ 32 → ReadsBack (word_text word) at word
by_word at word lt =
    by_code (word_text word) at word (says.Word word) (Raw word) (word_line word lt) (λ n names s text here. rw text (refl, refl)) refl (λ v small e. e)

-- ---- targets

absolute : (z : ℤ) → pos 0 ≤ℤ z → pos (unsigned_abs z) ≡ z
absolute (pos n) le = refl
absolute (negsuc n) le = absurd (omega (arith, ints))

not_both : (x y : Bool) → (x || not y) ≡ false → (x ≡ false) × (y ≡ true)
not_both true y e = absurd (false≢true (sym e))
not_both false true e = (refl, refl)
not_both false false e = absurd (false≢true (sym e))

if_some : (b : Bool) (x y : ℕ) → (if b then None else Some x) ≡ Some y → (b ≡ false) × (x ≡ y)
if_some true x y e = absurd (false≢true (ap is_some e))
if_some false x y e = (refl, ap (λ o. option_map_or (λ n. n) o 0) e)

-- how far the target is
aimed : (at : ℕ) (off : ℤ) (to : ℕ) → target_from at off ≡ Some to → (pos to -ℤ pos at ≡ off) × (to < 2 ^ 64)
unfolding target_from
aimed at off to e =
    let found = if_some (int_lt (pos at +ℤ off) (pos 0) || not (int_lt (pos at +ℤ off) (pos (2 ^ 64)))) (unsigned_abs (pos at +ℤ off)) to e in
    let ends = not_both (int_lt (pos at +ℤ off) (pos 0)) (int_lt (pos at +ℤ off) (pos (2 ^ 64))) found.0 in
    let low : pos 0 ≤ℤ (pos at +ℤ off) = omega (arith, ints, ends.0) in
    let high : (pos at +ℤ off) <ℤ pos (2 ^ 64) = omega (arith, ints, ends.1) in
    let same : pos to ≡ pos at +ℤ off = sym (ap (λ n. pos n) found.1) ∙ absolute (pos at +ℤ off) low in
    (omega (arith, ints, same), omega (arith, ints, same, high))

jal_reached : (at to : ℕ) (off : ℤ) → pos to -ℤ pos at ≡ off → IsOffJ off → jal_reaches at (pos to) ≡ true
jal_reached at to off e is =
    let low : pos 0 ≤ℤ pos to = omega (arith, ints) in
    rw (not_less (pos to) (pos 0) low, e, within (neg_ℤ (pos 1048576)) (pos 1048574) off is.0, is.1) refl

branch_reached : (at to : ℕ) (off : ℤ) → pos to -ℤ pos at ≡ off → IsOffB off → branch_reaches at (pos to) ≡ true
branch_reached at to off e is =
    let low : pos 0 ≤ℤ pos to = omega (arith, ints) in
    rw (not_less (pos to) (pos 0) low, e, within (neg_ℤ (pos 4096)) (pos 4094) off is.0, is.1) refl

jal_gives : (rd at to : ℕ) (off : ℤ) → pos to -ℤ pos at ≡ off → IsOffJ off → (n : ℕ) (names : List (List ℕ × Meaning)) (s : State) → s.section ≡ Text → text_at s ≡ at
    → (code names s (stated n (says.Jal rd (Address (pos to)))) ≡ Instruction (Jal rd off) ∷ []) × (faults names s (stated n (says.Jal rd (Address (pos to)))) ≡ size_faults s n (says.Jal rd (Address (pos to))))
jal_gives rd at to off e is n names s text here = rw (text, here, jal_reached at to off e is, e) (refl, refl)

branch_gives : (c : Cond) (rs1 rs2 at to : ℕ) (off : ℤ) → pos to -ℤ pos at ≡ off → IsOffB off → (n : ℕ) (names : List (List ℕ × Meaning)) (s : State) → s.section ≡ Text → text_at s ≡ at
    → (code names s (stated n (says.Branch c rs1 rs2 (Address (pos to)))) ≡ Instruction (Branch c rs1 rs2 off) ∷ []) × (faults names s (stated n (says.Branch c rs1 rs2 (Address (pos to)))) ≡ size_faults s n (says.Branch c rs1 rs2 (Address (pos to))))
branch_gives c rs1 rs2 at to off e is n names s text here = rw (text, here, branch_reached at to off e is, e) (refl, refl)

jal_back : (word at rd : ℕ) (off : ℤ) → word < 2 ^ 32 → Reads word (Jal rd off) → rd < 32 → IsOffJ off → (o : Option ℕ) → target_from at off ≡ o
    → ReadsBack (option_map_or (λ to. statement (codes "jal") (register rd ∷ hexadecimal to ∷ [])) o (word_text word)) at word
jal_back word at rd off lt reads a is None e = by_word at word lt
jal_back word at rd off lt reads a is (Some to) e =
    let t = aimed at off to e in
    by_code _ at word (says.Jal rd (Address (pos to))) (Instruction (Jal rd off)) (jal_line rd to a t.1) (jal_gives rd at to off t.0 is) (lt, reads) (only_one word (Jal rd off) lt reads)

branch_back : (word at : ℕ) (c : Cond) (rs1 rs2 : ℕ) (off : ℤ) → word < 2 ^ 32 → Reads word (Branch c rs1 rs2 off) → rs1 < 32 → rs2 < 32 → IsOffB off → (o : Option ℕ) → target_from at off ≡ o
    → ReadsBack (option_map_or (λ to. statement (branch_name c) (register rs1 ∷ register rs2 ∷ hexadecimal to ∷ [])) o (word_text word)) at word
branch_back word at c rs1 rs2 off lt reads a b is None e = by_word at word lt
branch_back word at c rs1 rs2 off lt reads a b is (Some to) e =
    let t = aimed at off to e in
    by_code _ at word (says.Branch c rs1 rs2 (Address (pos to))) (Instruction (Branch c rs1 rs2 off)) (branch_line c rs1 rs2 to a b t.1) (branch_gives c rs1 rs2 at to off t.0 is) (lt, reads) (only_one word (Branch c rs1 rs2 off) lt reads)

-- ---- orders

-- an atomic instruction without an order is shown by its statement, another one by its word
by_order : (word at : ℕ) (aq rl : Bool) (i : Order → Instr) (text : List ℕ) → word < 2 ^ 32 → Reads word (i (record { aq = aq; rl = rl })) → IsLine text (says.Instr (i no_order))
    → ReadsBack (if_plain (record { aq = aq; rl = rl }) text (word_text word)) at word
by_order word at true rl i text lt reads is = by_word at word lt
by_order word at false true i text lt reads is = by_word at word lt
by_order word at false false i text lt reads is = by_instr text at word (i no_order) lt reads is

-- ---- fences

equal : (a b : ℕ) → eqb a b ≡ true → a ≡ b
equal a b e = grind (arith, nat_tests)

full : (rd rs1 : ℕ) (z : ℤ) → is_full rd rs1 z ≡ true → (rd ≡ 0) × (rs1 ≡ 0) × (z ≡ pos 255)
full rd rs1 (pos n) e =
    let third = not (int_lt (pos n) (pos 0)) && (n == 255) in
    let second = right_of (rd == 0) (rs1 == 0 && third) e in
    let last = right_of (not (int_lt (pos n) (pos 0))) (n == 255) (right_of (rs1 == 0) third second) in
    (equal rd 0 (left_of (rd == 0) (rs1 == 0 && third) e), equal rs1 0 (left_of (rs1 == 0) third second), ap (λ n. pos n) (equal n 255 last))
full rd rs1 (negsuc n) e = absurd (false≢true (right_of (rs1 == 0) false (right_of (rd == 0) (rs1 == 0 && false) e)))

fence_back : (word at rd rs1 : ℕ) (z : ℤ) → word < 2 ^ 32 → Reads word (Fence rd rs1 z) → (b : Bool) → is_full rd rs1 z ≡ b → ReadsBack (if b then codes "fence" else word_text word) at word
fence_back word at rd rs1 z lt reads true e =
    let f = full rd rs1 z e in
    let none = subst (λ r. Reads word (Fence r rs1 z)) f.0 reads in
    let nor = subst (λ r. Reads word (Fence 0 r z)) f.1 none in
    by_instr (codes "fence") at word (Fence 0 0 (pos 0x0ff)) lt (subst (λ r. Reads word (Fence 0 0 r)) f.2 nor) fence_line
fence_back word at rd rs1 z lt reads false e = by_word at word lt

-- ---- all

fits : (op : ShiftOp) (by word : ℕ) → by ≡ amount_of op word → IsAmount op by
fits shift.Slli by word e = tt
fits shift.Srli by word e = tt
fits shift.Srai by word e = tt
fits shift.Slliw by word e = omega (arith, e)
fits shift.Srliw by word e = omega (arith, e)
fits shift.Sraiw by word e = omega (arith, e)

amount : (op : ShiftOp) (rd rs1 by word : ℕ) → Reads word (ShiftImm op rd rs1 by) → by ≡ amount_of op word
unfolding Reads
amount op rd rs1 by word reads = reads.3

stored : (width : Width) (rs2 rs1 : ℕ) (off : ℤ) (word : ℕ) → Reads word (Store width rs2 rs1 off) → IsStoreWidth width
unfolding Reads
stored width rs2 rs1 off word reads = reads.0

instruction_back : (word at : ℕ) (i : Instr) → word < 2 ^ 32 → Reads word i → HasRanges i → ReadsBack (instruction_text word at i) at word
unfolding instruction_text
instruction_back word at (Alu op rd rs1 rs2) lt reads r = by_instr _ at word (Alu op rd rs1 rs2) lt reads (alu_line op rd rs1 rs2 r.0 r.1 r.2)
instruction_back word at (AluImm op rd rs1 imm) lt reads r = by_instr _ at word (AluImm op rd rs1 imm) lt reads (imm_line op rd rs1 imm r.0 r.1 r.2)
instruction_back word at (ShiftImm op rd rs1 by) lt reads r =
    by_instr _ at word (ShiftImm op rd rs1 by) lt reads (shift_line op rd rs1 by r.0 r.1 r.2 (fits op by word (amount op rd rs1 by word reads)))
instruction_back word at (Lui rd imm) lt reads r = by_instr _ at word (Lui rd imm) lt reads (lui_line rd imm r.0 r.1)
instruction_back word at (Auipc rd imm) lt reads r = by_instr _ at word (Auipc rd imm) lt reads (auipc_line rd imm r.0 r.1)
instruction_back word at (Jal rd off) lt reads r = jal_back word at rd off lt reads r.0 r.1 (target_from at off) refl
instruction_back word at (Jalr rd rs1 off) lt reads r = by_instr _ at word (Jalr rd rs1 off) lt reads (jalr_line rd rs1 off r.0 r.1 r.2)
instruction_back word at (Branch c rs1 rs2 off) lt reads r = branch_back word at c rs1 rs2 off lt reads r.0 r.1 r.2 (target_from at off) refl
instruction_back word at (Load width rd rs1 off) lt reads r = by_instr _ at word (Load width rd rs1 off) lt reads (load_line width rd rs1 off r.0 r.1 r.2)
instruction_back word at (Store width rs2 rs1 off) lt reads r =
    by_instr _ at word (Store width rs2 rs1 off) lt reads (store_line width rs2 rs1 off r.0 r.1 r.2 (stored width rs2 rs1 off word reads))
instruction_back word at (Lr wide order rd rs1) lt reads r = by_order word at order.aq order.rl (λ o. Lr wide o rd rs1) _ lt reads (lr_line wide rd rs1 r.0 r.1)
instruction_back word at (Sc wide order rd rs1 rs2) lt reads r = by_order word at order.aq order.rl (λ o. Sc wide o rd rs1 rs2) _ lt reads (sc_line wide rd rs1 rs2 r.0 r.1 r.2)
instruction_back word at (Amo op wide order rd rs1 rs2) lt reads r =
    by_order word at order.aq order.rl (λ o. Amo op wide o rd rs1 rs2) _ lt reads (amo_line op wide rd rs1 rs2 r.0 r.1 r.2)
instruction_back word at (Fence rd rs1 imm) lt reads r = fence_back word at rd rs1 imm lt reads (is_full rd rs1 imm) refl
instruction_back word at Ecall lt reads r = by_instr _ at word Ecall lt reads ecall_line
instruction_back word at Ebreak lt reads r = by_instr _ at word Ebreak lt reads ebreak_line

of_decoded : (word at : ℕ) (o : Option Instr) → word < 2 ^ 32 → decoded word ≡ o → IfSome o HasRanges → ReadsBack (option_map_or (instruction_text word at) o (word_text word)) at word
of_decoded word at None lt e r = by_word at word lt
of_decoded word at (Some i) lt e r = instruction_back word at i lt (decoded_read word i e) r

pub shown_back : (word at : ℕ) → word < 2 ^ 32 → IfSome (decoded word) HasRanges → ReadsBack (shown word at) at word
unfolding shown
shown_back word at lt r = of_decoded word at (decoded word) lt refl r
