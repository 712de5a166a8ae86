-- Related operands give related effects. Each word by which an effect depends on what is read has one lemma here: related in,
-- related out; an instruction's proof is its effect with these lemmas in place of the words.
use Rattle.std.proofs.Common.{◌≡◌, ◌≢◌, ℕ, zero, suc, ◌%◌, ◌^◌, ◌<◌, Bool, true, false, not, List, [], ◌∷◌, refl, sym, ap, subst, ◌∙◌, arith}
use Rattle.std.specs.Prelude.{ℤ, pos, negsuc, nat_eq, nat_lt, int_lt, ◌==◌, Option, Some, None, if◌then◌else◌}
use Rattle.std.specs.List.{list_any}
use Rattle.std.proofs.lemmas.Bool.{both_ways, eqb-true}
use Rattle.finite.specs.Maps.{Places, contains_all}
use Rattle.rv_isa.specs.Conditions.{opposite}
use Rattle.rv_isa.specs.Word.{signed}
use Rattle.rv_isa.specs.declared.instr.Cond.{Cond}
use Rattle.rv_isa.specs.declared.instr.Cond.TheVariants.{Eq, Ne, Lt, Ge, Ltu, Geu}
use Rattle.rv_isa.specs.declared.instr.AmoOp.{AmoOp}
use Rattle.rv_isa.specs.declared.instr.ImmOp.{ImmOp}
use Rattle.rv_isa.specs.declared.instr.Width.{Width}
use Rattle.rv_isa.specs.declared.instr.Instr.{Instr}
use Rattle.rv_isa.specs.declared.instr.Instr.TheVariants.{Alu, AluImm, ShiftImm, Lui, Auipc, Jal, Jalr, Branch, Load, Store, Lr, Sc, Amo, Fence, Ecall, Ebreak}
use Rattle.rv_alu.specs.Arithmetic.{alu_of, imm_of, shift_of, amo_of}
use Rattle.image.specs.Texts.{covers}
use Rattle.image.specs.Picture.{Picture, is_second}
use Rattle.image.specs.Picture as image
use Rattle.link_tags.specs.declared.value.Tag.{Tag}
use Rattle.link_tags.specs.declared.value.Tag.TheVariants.{Plain, Link}
use Rattle.link_tags.specs.declared.value.Value.{Value}
use Rattle.link_tags.specs.Values.{plain}
use Rattle.link_tags.specs.Forbidden.{Use, use_as, is_zero, is_move, uses, first_link}
use Rattle.guest_mem.specs.declared.fault.Access.TheVariants.{Misaligned, NoAccess}
use Rattle.guest_mem.specs.Memory.{Memory, is_link_at}
use Rattle.guest_mem.specs.Access.{size_of, refusal, loaded, load_of, unless}
use Rattle.hart.specs.declared.hart.Hart.{Hart}
use Rattle.hart.specs.Harts.{reg, add64, moved_by, after, even, upper, block_of}
use Rattle.hart.specs.Effects.{Effect, next, write, jump, link_use, unless_used, unless_refused, on_load, unless_link, if_held, is_taken, atomic_width, loading, storing, reserving, storing_if_held, exchanging, effect_on, effect_of}
use Rattle.layout.specs.Points.{Code, StandsFor}
use Rattle.layout.specs.Rows.{IsKept}
use Rattle.machine.specs.Steps.{is_indirect}
use Rattle.sim_laws.specs.Origins.{origin}
use Rattle.sim_laws.specs.Codes.{IsCodeOf}
use Rattle.sim_laws.specs.Related.{Lands, ValuesRelated, both_plain, both_links, MemoriesRelated, RegsRelated}
use Rattle.sim_laws.proofs.EffectPairs.{Follows, by_number, by_link, direct, by_call, EffectsRelated, both_next, both_write, both_jump, jump_next, next_jump, both_call, both_trap, both_use}
use Rattle.sim_laws.proofs.Lands.{plain_related, jump_by_link}
use Rattle.sim_laws.proofs.MemoryLaws.{loaded_related, loaded_link}

-- what both harts hold alike where an instruction reads them
pub record ReadAlike (p : Picture) (c : Code) (m n : Memory) (r o : Hart) : Type 0 where
  pub place : origin c r.pc ≡ o.pc
  pub regs : RegsRelated p c r.regs o.regs
  pub reservation : r.reservation ≡ o.reservation
  pub memory : MemoriesRelated p c m n

same_plain : (p : Picture) (c : Code) {x y : ℕ} → x ≡ y → ValuesRelated p c (plain x) (plain y)
same_plain p c e = both_plain refl refl e

same_some : {a b : ℕ} → Some a ≡ Some b → b ≡ a
same_some e = cc

moved_fits : (a : ℕ) (z : ℤ) → moved_by a z < 2 ^ 64
moved_fits a z = omega arith

none_linked : {a : ℕ} → None ≡ Some a → ⊥
none_linked e = cc

-- a jump to an address of the original program, a whole word's
jump_by_own : {p : Picture} {c : Code} {a x : ℕ} → Lands p c a x → even (moved_by x (pos zero)) ≡ x
jump_by_own l = omega (arith, l.fits, l.whole)

-- a value that isn't a link is a number that both sides share
plain_number : {p : Picture} {c : Code} {v w : Value} (b : Bool) → ValuesRelated p c v w → (w.tag ≡ Link → b ≡ true) → b ≡ false → v.number ≡ w.number
plain_number b (both_plain s t e) h none = e
plain_number b (both_links s t l) h none = absurd (both_ways b none (h t))

-- ---- the words of an effect
module _ (p : Picture) (c : Code) (r o : Hart) (i j : Bool) where
  -- a register that is used as a number: the same on both sides, or refused on both
  used_related : (rule k : ℕ) {a b : Value} (us ws : List Use) (e f : Effect) → ValuesRelated p c a b
      → (a.number ≡ b.number → EffectsRelated p c r o i j (unless_used (first_link us) e) (unless_used (first_link ws) f))
      → EffectsRelated p c r o i j (unless_used (first_link (use_as rule k a ∷ us)) e) (unless_used (first_link (use_as rule k b ∷ ws)) f)
  used_related rule k us ws e f (both_plain s t q) h = rw (s, t) (h q)
  used_related rule k us ws e f (both_links s t l) h = rw (s, t) (both_use {rule = rule})

  one_use : (rule k : ℕ) {a b : Value} (e f : Effect) → ValuesRelated p c a b → (a.number ≡ b.number → EffectsRelated p c r o i j e f)
      → EffectsRelated p c r o i j (unless_used (first_link (use_as rule k a ∷ [])) e) (unless_used (first_link (use_as rule k b ∷ [])) f)
  one_use rule k e f v h = used_related rule k [] [] e f v h

  two_uses : (rule k other l : ℕ) {a b x y : Value} (e f : Effect) → ValuesRelated p c a b → ValuesRelated p c x y → (a.number ≡ b.number → x.number ≡ y.number → EffectsRelated p c r o i j e f)
      → EffectsRelated p c r o i j (unless_used (first_link (use_as rule k a ∷ use_as other l x ∷ [])) e) (unless_used (first_link (use_as rule k b ∷ use_as other l y ∷ [])) f)
  two_uses rule k other l {x = x} {y = y} e f v w h = used_related rule k (use_as other l x ∷ []) (use_as other l y ∷ []) e f v (λ d. one_use other l e f w (h d))

  refused_by : (misaligned denied at : ℕ) {e f : Effect} (t d : Bool) → (t ≡ true → EffectsRelated p c r o i j e f)
      → EffectsRelated p c r o i j (unless_refused (if t then (if d then None else Some NoAccess) else Some Misaligned) misaligned denied at e) (unless_refused (if t then (if d then None else Some NoAccess) else Some Misaligned) misaligned denied at f)
  refused_by misaligned denied at true true h = h refl
  refused_by misaligned denied at true false h = both_trap {cause = denied} {value = at}
  refused_by misaligned denied at false d h = both_trap {cause = misaligned} {value = at}

  refused_related : (s t : Places) (misaligned denied at n : ℕ) {e f : Effect} → s ≡ t → (at % n ≡ 0 → EffectsRelated p c r o i j e f)
      → EffectsRelated p c r o i j (unless_refused (refusal s at n) misaligned denied at e) (unless_refused (refusal t at n) misaligned denied at f)
  refused_related s t misaligned denied at n {e = e} {f = f} same h =
      subst (λ x. EffectsRelated p c r o i j (unless_refused (refusal s at n) misaligned denied at e) (unless_refused (refusal x at n) misaligned denied at f)) same
      (refused_by misaligned denied at (nat_eq (at % n) 0) (contains_all s at n) (λ q. h (eqb-true (at % n) 0 q)))

  load_by : (misaligned denied at : ℕ) {v w : Value} (g h : Value → Effect) (t d : Bool) → (t ≡ true → EffectsRelated p c r o i j (g v) (h w))
      → EffectsRelated p c r o i j (on_load (unless (if t then (if d then None else Some NoAccess) else Some Misaligned) v) misaligned denied at g) (on_load (unless (if t then (if d then None else Some NoAccess) else Some Misaligned) w) misaligned denied at h)
  load_by misaligned denied at g h true true l = l refl
  load_by misaligned denied at g h true false l = both_trap {cause = denied} {value = at}
  load_by misaligned denied at g h false d l = both_trap {cause = misaligned} {value = at}

  -- a value that is loaded, a link only from a word that is one
  load_related : {m n : Memory} → MemoriesRelated p c m n → (misaligned denied at : ℕ) (width : Width) (g h : Value → Effect)
      → ((v w : Value) → ValuesRelated p c v w → (w.tag ≡ Link → is_link_at n at ≡ true) → EffectsRelated p c r o i j (g v) (h w))
      → EffectsRelated p c r o i j (on_load (load_of (origin c) m at width) misaligned denied at g) (on_load (load_of (λ a. a) n at width) misaligned denied at h)
  load_related {m = m} {n = n} k misaligned denied at width g h l =
      let v = loaded (origin c) m at width in
      let w = loaded (λ a. a) n at width in
      subst (λ s. EffectsRelated p c r o i j (on_load (unless (refusal m.readable at (size_of width)) v) misaligned denied at g) (on_load (unless (refusal s at (size_of width)) w) misaligned denied at h)) k.readable
      (load_by misaligned denied at g h (nat_eq (at % size_of width) 0) (contains_all m.readable at (size_of width))
      (λ q. l v w (loaded_related p c k at width (eqb-true (at % size_of width) 0 q)) (loaded_link (λ a. a) n at width)))

  link_by : {e f : Effect} (b : Bool) → (b ≡ false → EffectsRelated p c r o i j e f) → EffectsRelated p c r o i j (if b then link_use 4 else e) (if b then link_use 4 else f)
  link_by true h = both_use {rule = 4}
  link_by false h = h refl

  -- a word that an atomic instruction addresses
  link_related : {m n : Memory} → MemoriesRelated p c m n → (at : ℕ) {e f : Effect} → (is_link_at n at ≡ false → EffectsRelated p c r o i j e f)
      → EffectsRelated p c r o i j (unless_link m at e) (unless_link n at f)
  link_related {n = n} k at h = let e = k.links in rw e (link_by (is_link_at n at) h)

  held_by : {e f g h : Effect} (b : Bool) → EffectsRelated p c r o i j e f → EffectsRelated p c r o i j g h → EffectsRelated p c r o i j (if b then e else g) (if b then f else h)
  held_by true k l = k
  held_by false k l = l

  held_at : (held : Option ℕ) (block : ℕ) {e f g h : Effect} → EffectsRelated p c r o i j e f → EffectsRelated p c r o i j g h → EffectsRelated p c r o i j (if_held held block e g) (if_held held block f h)
  held_at None block k l = l
  held_at (Some at) block k l = held_by (at == block) k l

  -- a block that the hart has reserved
  held_related : (s t : Option ℕ) (block : ℕ) {e f g h : Effect} → s ≡ t → EffectsRelated p c r o i j e f → EffectsRelated p c r o i j g h → EffectsRelated p c r o i j (if_held s block e g) (if_held t block f h)
  held_related s t block {e = e} {f = f} {g = g} {h = h} same k l = subst (λ x. EffectsRelated p c r o i j (if_held s block e g) (if_held x block f h)) same (held_at s block k l)

  goes_related : (rd : ℕ) (v w : Value) → r.reservation ≡ o.reservation → Follows p c r o → (rd ≢ 0 → ValuesRelated p c v w) → EffectsRelated p c r o i j (next rd v r.reservation) (next rd w o.reservation)
  goes_related rd v w same n h = subst (λ x. EffectsRelated p c r o i j (next rd v r.reservation) (next rd w x)) same (both_next {rd = rd} n h)

  writes_related : (at : ℕ) (width : Width) (a b : Value) (rd : ℕ) (v w : Value) → r.reservation ≡ o.reservation → at % size_of width ≡ 0 → Follows p c r o → ValuesRelated p c a b → ValuesRelated p c v w
      → EffectsRelated p c r o i j (write at width a rd v r.reservation) (write at width b rd w o.reservation)
  writes_related at width a b rd v w same d n k l =
      subst (λ x. EffectsRelated p c r o i j (write at width a rd v r.reservation) (write at width b rd w x)) same (both_write {at = at} {width = width} {rd = rd} d n k (λ _. l))

  moved_word : (op : ImmOp) (imm : ℤ) (rd rs : ℕ) {a b : Value} (t : Bool) → r.reservation ≡ o.reservation → Follows p c r o → ValuesRelated p c a b
      → EffectsRelated p c r o i j
      (unless_used (first_link (if t then [] else use_as 1 rs a ∷ [])) (next rd (if t then a else plain (imm_of op a.number imm)) r.reservation))
      (unless_used (first_link (if t then [] else use_as 1 rs b ∷ [])) (next rd (if t then b else plain (imm_of op b.number imm)) o.reservation))
  moved_word op imm rd rs {a = a} {b = b} true same n k = goes_related rd a b same n (λ _. k)
  moved_word op imm rd rs {a = a} {b = b} false same n k =
      used_related 1 rs [] [] (next rd (plain (imm_of op a.number imm)) r.reservation) (next rd (plain (imm_of op b.number imm)) o.reservation) k
      (λ e. goes_related rd _ _ same n (λ _. same_plain p c (ap (λ x. imm_of op x imm) e)))

-- ---- instructions that are kept as they are
module _ (p : Picture) (c : Code) {m n : Memory} {r o : Hart} (k : ReadAlike p c m n r o) (f : Follows p c r o) (i j : Bool) where
  abbrev Alike : Instr → Type 0
  Alike instr = EffectsRelated p c r o i j (effect_of (origin c) m r instr) (effect_of (λ a. a) n o instr)

  goes : (rd : ℕ) (v w : Value) → ValuesRelated p c v w → EffectsRelated p c r o i j (next rd v r.reservation) (next rd w o.reservation)
  goes rd v w h = goes_related p c r o i j rd v w k.reservation f (λ _. h)

  loading_alike : (width : Width) (rd at to : ℕ) → at ≡ to → EffectsRelated p c r o i j (loading (origin c) m r width rd at) (loading (λ a. a) n o width rd to)
  loading_alike width rd at to e =
      rw e (load_related p c r o i j k.memory 4 5 to width (λ v. next rd v r.reservation) (λ v. next rd v o.reservation) (λ v w h _. goes rd v w h))

  storing_alike : (width : Width) (at to : ℕ) {a b : Value} → ValuesRelated p c a b → at ≡ to → EffectsRelated p c r o i j (storing (origin c) m r width at a) (storing (λ a. a) n o width to b)
  storing_alike width at to {a = a} {b = b} h e =
      rw e (refused_related p c r o i j m.writable n.writable 6 7 to (size_of width) k.memory.writable (λ whole.
      writes_related p c r o i j to width a b 0 (plain 0) (plain 0) k.reservation whole f h (plain_related p c 0)))

  reserving_alike : (width : Width) (rd at to : ℕ) → at ≡ to → EffectsRelated p c r o i j (reserving (origin c) m r width rd at) (reserving (λ a. a) n o width rd to)
  reserving_alike width rd at to e =
      rw e (load_related p c r o i j k.memory 4 5 to width
      (λ v. unless_link m to (next rd v (Some (block_of to))))
      (λ v. unless_link n to (next rd v (Some (block_of to))))
      (λ v w h _. link_related p c r o i j k.memory to (λ _. both_next {rd = rd} {v = v} {w = w} f (λ _. h))))

  storing_if_held_alike : (width : Width) (rd at to : ℕ) {a b : Value} → ValuesRelated p c a b → at ≡ to → EffectsRelated p c r o i j (storing_if_held (origin c) m r width rd at a) (storing_if_held (λ a. a) n o width rd to b)
  storing_if_held_alike width rd at to {a = a} {b = b} h e =
      rw e (refused_related p c r o i j m.writable n.writable 6 7 to (size_of width) k.memory.writable (λ whole.
      link_related p c r o i j k.memory to (λ _.
      held_related p c r o i j r.reservation o.reservation (block_of to) k.reservation
      (both_write {at = to} {width = width} {rd = rd} whole f h (λ _. plain_related p c 0))
      (both_next {rd = rd} f (λ _. plain_related p c 1)))))

  exchanging_alike : (op : AmoOp) (wide : Bool) (rd at to : ℕ) (a b : Value) → a.number ≡ b.number → at ≡ to → EffectsRelated p c r o i j (exchanging (origin c) m r op wide rd at a) (exchanging (λ a. a) n o op wide rd to b)
  exchanging_alike op wide rd at to a b q e =
      let width = atomic_width wide in
      rw e (refused_related p c r o i j m.writable n.writable 6 7 to (size_of width) k.memory.writable (λ whole.
      load_related p c r o i j k.memory 6 7 to width
      (λ v. unless_link m to (write to width (plain (amo_of op wide v.number a.number)) rd v r.reservation))
      (λ v. unless_link n to (write to width (plain (amo_of op wide v.number b.number)) rd v o.reservation))
      (λ v w h there.
      link_related p c r o i j k.memory to (λ none.
      writes_related p c r o i j to width (plain (amo_of op wide v.number a.number)) (plain (amo_of op wide w.number b.number)) rd v w k.reservation whole f
      (same_plain p c (ap (λ x. amo_of op wide x a.number) (plain_number (is_link_at n to) h there none) ∙ ap (amo_of op wide w.number) q))
      h))))

  -- one law for all words that are kept
  kept : (instr : Instr) → IsKept instr → Alike instr
  unfolding effect_of effect_on uses
  kept (Alu op rd rs1 rs2) x =
      two_uses p c r o i j 1 rs1 1 rs2 _ _ (k.regs rs1) (k.regs rs2) (λ d e.
      goes rd _ _ (same_plain p c (ap (λ x. alu_of op x (reg r.regs rs2).number) d ∙ ap (alu_of op (reg o.regs rs1).number) e)))
  kept (AluImm op rd rs1 imm) x = moved_word p c r o i j op imm rd rs1 (is_move op imm) k.reservation f (k.regs rs1)
  kept (ShiftImm op rd rs1 by) x =
      one_use p c r o i j 1 rs1 _ _ (k.regs rs1) (λ d. goes rd _ _ (same_plain p c (ap (λ x. shift_of op x by) d)))
  kept (Lui rd imm) x = goes rd _ _ (plain_related p c (upper imm))
  kept (Auipc rd imm) x = goes_related p c r o i j rd _ _ k.reservation f (λ some. absurd (some x))
  kept (Jal rd off) x = absurd x
  kept (Jalr rd rs1 off) x = absurd x
  kept (Branch cond rs1 rs2 off) x = absurd x
  kept (Load width rd rs1 off) x =
      one_use p c r o i j 3 rs1 _ _ (k.regs rs1) (λ d. loading_alike width rd _ _ (ap (λ x. moved_by x off) d))
  kept (Store width rs2 rs1 off) x =
      one_use p c r o i j 3 rs1 _ _ (k.regs rs1) (λ d. storing_alike width _ _ (k.regs rs2) (ap (λ x. moved_by x off) d))
  kept (Lr wide order rd rs1) x =
      one_use p c r o i j 3 rs1 _ _ (k.regs rs1) (λ d. reserving_alike (atomic_width wide) rd _ _ d)
  kept (Sc wide order rd rs1 rs2) x =
      two_uses p c r o i j 3 rs1 4 rs2 _ _ (k.regs rs1) (k.regs rs2) (λ d e. storing_if_held_alike (atomic_width wide) rd _ _ (k.regs rs2) d)
  kept (Amo op wide order rd rs1 rs2) x =
      two_uses p c r o i j 3 rs1 4 rs2 _ _ (k.regs rs1) (k.regs rs2) (λ d e. exchanging_alike op wide rd _ _ (reg r.regs rs2) (reg o.regs rs2) e d)
  kept (Fence rd rs1 imm) x = goes 0 _ _ (plain_related p c 0)
  kept Ecall x = both_call f
  kept Ebreak x = let e = k.place in rw e (both_trap {cause = 3} {value = o.pc})

-- ---- jumps and branches
not_not : (b : Bool) → not (not b) ≡ b
not_not true = refl
not_not false = refl

is_opposite : (k : Cond) (a b : ℕ) → is_taken (opposite k) a b ≡ not (is_taken k a b)
is_opposite Eq a b = refl
is_opposite Ne a b = sym (not_not (a == b))
is_opposite Lt a b = refl
is_opposite Ge a b = sym (not_not (int_lt (signed 64 a) (signed 64 b)))
is_opposite Ltu a b = refl
is_opposite Geu a b = sym (not_not (nat_lt a b))

made_near : (p : Picture) (c : Code) (r o : Hart) (z : Bool) (rs : ℕ) (w : Value) (e f : Effect) → w.tag ≡ Plain → EffectsRelated p c r o false true e f
    → EffectsRelated p c r o false true e (unless_used (first_link (if z then [] else use_as 6 rs w ∷ [])) f)
made_near p c r o true rs w e f t h = h
made_near p c r o false rs w e f t h = rw t h

abbrev branched : Hart → ℕ → Bool → Effect
branched h at b = if b then jump at Link None else next 0 (plain 0) h.reservation

-- two branches that are both taken or both not, and two of which one is
module _ (p : Picture) (c : Code) (r o : Hart) (same : r.reservation ≡ o.reservation) (to u : ℕ) where
  both_ways_alike : (t : Bool) → StandsFor c to u → u < 2 ^ 64 → is_second p.pairs u ≡ false → Follows p c r o → EffectsRelated p c r o false false (branched r to t) (branched o u t)
  both_ways_alike true s fits x f = both_jump {linked = None} (direct s fits x) (λ rd is. absurd (none_linked is))
  both_ways_alike false s fits x f = goes_related p c r o false false 0 (plain 0) (plain 0) same f (λ _. plain_related p c 0)

  other_ways : (t : Bool) → Lands p c to (after o.pc) → Lands p c (after r.pc) u → EffectsRelated p c r o false false (branched r to (not t)) (branched o u t)
  other_ways true x y = next_jump y
  other_ways false x y = jump_next x

-- a jump by a number or a link in a register
module _ (p : Picture) (c : Code) (kept : image.IsKept p) (code : IsCodeOf p c) (r o : Hart) where
  number_jump : (a b : ℕ) (rd : ℕ) (t u : Tag) → t ≡ Plain → u ≡ Plain → a ≡ b → (rd ≢ 0 → Follows p c r o) → EffectsRelated p c r o true true (jump a t (Some rd)) (jump b u (Some rd))
  number_jump a b rd t u s v e n = rw (s, v, e) (both_jump {linked = Some rd} by_number (λ rd2 is some. n (λ none. some (same_some is ∙ none))))

  link_jump : (a x : ℕ) (rd : ℕ) (t u : Tag) → t ≡ Link → u ≡ Link → StandsFor c a x → x < 2 ^ 64 → (rd ≢ 0 → Follows p c r o) → EffectsRelated p c r o true true (jump a t (Some rd)) (jump x u (Some rd))
  link_jump a x rd t u s v e fits n = rw (s, v) (both_jump {linked = Some rd} (by_link e fits) (λ rd2 is some. n (λ none. some (same_some is ∙ none))))

  no_uses : (z : Bool) (rs : ℕ) (a b : Value) (e f : Effect) → a.tag ≡ Plain → b.tag ≡ Plain → EffectsRelated p c r o true true e f
      → EffectsRelated p c r o true true (unless_used (first_link (if z then [] else use_as 6 rs a ∷ [])) e) (unless_used (first_link (if z then [] else use_as 6 rs b ∷ [])) f)
  no_uses true rs a b e f s t h = h
  no_uses false rs a b e f s t h = rw (s, t) h

  refused_link : (rs : ℕ) (a b : Value) (e f : Effect) → a.tag ≡ Link → b.tag ≡ Link
      → EffectsRelated p c r o true true (unless_used (first_link (use_as 6 rs a ∷ [])) e) (unless_used (first_link (use_as 6 rs b ∷ [])) f)
  refused_link rs a b e f s t = rw (s, t) (both_use {rule = 6})

  register_jump : (rd rs : ℕ) (off : ℤ) (a b : Value) → ValuesRelated p c a b → (rd ≢ 0 → Follows p c r o)
      → EffectsRelated p c r o true true
      (unless_used (first_link (if is_zero off then [] else use_as 6 rs a ∷ [])) (jump (even (moved_by a.number off)) a.tag (Some rd)))
      (unless_used (first_link (if is_zero off then [] else use_as 6 rs b ∷ [])) (jump (even (moved_by b.number off)) b.tag (Some rd)))
  register_jump rd rs off a b (both_plain s t e) n =
      no_uses (is_zero off) rs a b _ _ s t (number_jump _ _ rd a.tag b.tag s t (ap (λ x. even (moved_by x off)) e) n)
  register_jump rd rs (pos zero) a b (both_links s t l) n =
      link_jump _ _ rd a.tag b.tag s t
      (subst (λ x. StandsFor c x (even (moved_by b.number (pos zero)))) (sym (jump_by_link p c kept code l))
      (subst (λ x. StandsFor c a.number x) (sym (jump_by_own l)) l.stands)) (rw (jump_by_own l) l.fits) n
  register_jump rd rs (pos (suc k)) a b (both_links s t l) n = refused_link rs a b _ _ s t
  register_jump rd rs (negsuc k) a b (both_links s t l) n = refused_link rs a b _ _ s t

module _ (p : Picture) (c : Code) where
  pub kept_related : {m n : Memory} {r o : Hart} → ReadAlike p c m n r o → (i : Instr) → IsKept i → Follows p c r o → EffectsRelated p c r o (is_indirect i) (is_indirect i) (effect_of (origin c) m r i) (effect_of (λ a. a) n o i)
  kept_related k i x f = kept p c k f (is_indirect i) (is_indirect i) i x

  pub address_related : {m n : Memory} {r o : Hart} → ReadAlike p c m n r o → (rd imm : ℕ) → r.pc ≡ o.pc → Follows p c r o
      → EffectsRelated p c r o false false (effect_of (origin c) m r (Auipc rd imm)) (effect_of (λ a. a) n o (Auipc rd imm))
  unfolding effect_of effect_on uses
  address_related {r = r} {o = o} k rd imm e f =
      goes_related p c r o false false rd _ _ k.reservation f (λ _. same_plain p c (ap (λ x. add64 x (upper imm)) e))

  pub jalr_related : image.IsKept p → IsCodeOf p c → {m n : Memory} {r o : Hart} → ReadAlike p c m n r o → (rd rs : ℕ) (off : ℤ) → (rd ≢ 0 → Follows p c r o)
      → EffectsRelated p c r o true true (effect_of (origin c) m r (Jalr rd rs off)) (effect_of (λ a. a) n o (Jalr rd rs off))
  unfolding effect_of effect_on uses
  jalr_related kept code {r = r} {o = o} k rd rs off n = register_jump p c kept code r o rd rs off (reg r.regs rs) (reg o.regs rs) (k.regs rs) n

  -- a direct jump, by whatever distances
  pub jal_related : (m n : Memory) {r o : Hart} → (rd : ℕ) (aim off : ℤ) → StandsFor c (moved_by r.pc aim) (moved_by o.pc off) → is_second p.pairs (moved_by o.pc off) ≡ false → (rd ≢ 0 → Follows p c r o)
      → EffectsRelated p c r o false false (effect_of (origin c) m r (Jal rd aim)) (effect_of (λ a. a) n o (Jal rd off))
  unfolding effect_of effect_on uses
  jal_related m k {o = o} rd aim off s u n = both_jump {linked = Some rd} (direct s (moved_fits o.pc off) u) (λ rd2 is some. n (λ none. some (same_some is ∙ none)))

  -- the second word of a far call that was made a near one: the register holds a Plain number
  pub call_related : (m n : Memory) {r o : Hart} → (rd rs made : ℕ) (aim off : ℤ) → reg o.regs rs ≡ plain made → StandsFor c (moved_by r.pc aim) (even (moved_by made off)) → is_second p.pairs (even (moved_by made off)) ≡ false
      → list_any (covers (even (moved_by made off))) p.texts ≡ true → (rd ≢ 0 → Follows p c r o)
      → EffectsRelated p c r o false true (effect_of (origin c) m r (Jal rd aim)) (effect_of (λ a. a) n o (Jalr rd rs off))
  unfolding effect_of effect_on uses
  call_related m k {r = r} {o = o} rd rs made aim off held s u t n =
      rw held (made_near p c r o (is_zero off) rs (plain made) _ _ refl (both_jump {linked = Some rd} (by_call s u t) (λ rd2 is some. n (λ none. some (same_some is ∙ none)))))

  same_taken : (k : Cond) {a b x y : ℕ} → a ≡ b → x ≡ y → is_taken k a x ≡ is_taken k b y
  same_taken k {b = b} {x = x} d e = ap (λ z. is_taken k z x) d ∙ ap (is_taken k b) e

  -- two branches on the same registers, by what they do for the same numbers
  branches_related : {m n : Memory} {r o : Hart} → ReadAlike p c m n r o → (k l : Cond) (rs1 rs2 : ℕ) (aim off : ℤ)
      → ((a b : ℕ) → EffectsRelated p c r o false false (branched r (moved_by r.pc aim) (is_taken k a b)) (branched o (moved_by o.pc off) (is_taken l a b)))
      → EffectsRelated p c r o false false (effect_of (origin c) m r (Branch k rs1 rs2 aim)) (effect_of (λ a. a) n o (Branch l rs1 rs2 off))
  unfolding effect_of effect_on uses
  branches_related {r = r} {o = o} h k l rs1 rs2 aim off sides =
      let a = (reg o.regs rs1).number in
      let b = (reg o.regs rs2).number in
      let to = moved_by r.pc aim in
      let other = branched o (moved_by o.pc off) (is_taken l a b) in
      two_uses p c r o false false 2 rs1 2 rs2 (branched r to (is_taken k (reg r.regs rs1).number (reg r.regs rs2).number)) other (h.regs rs1) (h.regs rs2) (λ d e.
      subst (λ t. EffectsRelated p c r o false false (branched r to t) other) (sym (same_taken k d e)) (sides a b))

  -- a branch with the same condition
  pub branch_related : {m n : Memory} {r o : Hart} → ReadAlike p c m n r o → (k : Cond) (rs1 rs2 : ℕ) (aim off : ℤ) → StandsFor c (moved_by r.pc aim) (moved_by o.pc off) → is_second p.pairs (moved_by o.pc off) ≡ false → Follows p c r o
      → EffectsRelated p c r o false false (effect_of (origin c) m r (Branch k rs1 rs2 aim)) (effect_of (λ a. a) n o (Branch k rs1 rs2 off))
  branch_related {r = r} {o = o} h k rs1 rs2 aim off s x f =
      branches_related h k k rs1 rs2 aim off (λ a b. both_ways_alike p c r o h.reservation (moved_by r.pc aim) (moved_by o.pc off) (is_taken k a b) s (moved_fits o.pc off) x f)

  -- and one with the opposite, whose two sides are exchanged
  pub inverted_related : {m n : Memory} {r o : Hart} → ReadAlike p c m n r o → (k : Cond) (rs1 rs2 : ℕ) (aim off : ℤ) → Lands p c (moved_by r.pc aim) (after o.pc) → Lands p c (after r.pc) (moved_by o.pc off)
      → EffectsRelated p c r o false false (effect_of (origin c) m r (Branch (opposite k) rs1 rs2 aim)) (effect_of (λ a. a) n o (Branch k rs1 rs2 off))
  inverted_related {r = r} {o = o} h k rs1 rs2 aim off x y =
      branches_related h (opposite k) k rs1 rs2 aim off (λ a b.
      rw (is_opposite k a b) (other_ways p c r o h.reservation (moved_by r.pc aim) (moved_by o.pc off) (is_taken k a b) x y))
