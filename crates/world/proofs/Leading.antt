-- Each live code pointer leads to code, in a state that stands for one of the original machine.
use Rattle.std.proofs.Common.{◌≡◌, ℕ, ◌+◌, ◌*◌, true, false, refl, sym, ap, ◌∙◌, subst, inl, inr}
use Rattle.std.specs.Prelude.{ℤ, Option, Some, None, IsSome, is_some, slice_get}
use Rattle.std.proofs.lemmas.Bool.{cases_eq}
use Rattle.rv_isa.specs.declared.instr.Instr.{Instr}
use Rattle.rv_isa.specs.declared.instr.Instr.TheVariants as instr
use Rattle.rv_isa.specs.declared.instr.ImmOp.TheVariants as immop
use Rattle.image.specs.Targets.{target}
use Rattle.image.specs.Picture.{Picture}
use Rattle.finite.specs.Maps.{contains}
use Rattle.link_tags.specs.declared.value.Value.{Value}
use Rattle.link_tags.specs.declared.value.Tag.TheVariants.{Link}
use Rattle.guest_mem.specs.Memory.{number_at}
use Rattle.hart.specs.declared.hart.Hart.{Hart}
use Rattle.hart.specs.Harts.{reg}
use Rattle.layout.specs.declared.point.Point.{Point}
use Rattle.layout.specs.declared.point.Point.TheVariants.{Start, Hop, Mid}
use Rattle.layout.specs.Points.{Code, StandsFor, at_start, at_hop, read}
use Rattle.layout.specs.Rows.{IsKept, StartRow, no_word, unread, kept, address_in_place, address_moved, jump, site, jump_register, call_second, branch, branch_inverted, HopRow, MidRow, Renders}
use Rattle.layout.proofs.TextRows.{read_is}
use Rattle.machine.specs.Harts.{has_ended}
use Rattle.machine.specs.States.{State}
use Rattle.sim_laws.specs.Changes.{IsPointer, at_pc, in_register, in_memory}
use Rattle.sim_laws.specs.Related.{Both, found, neither, ValuesRelated, both_plain, both_links, PlacesRelated, whole, half, HartsRelated, GoOnAlike, StatesRelated}
use Rattle.world.specs.Retiring.{JumpsTo, by_jal, by_branch, LeadsToCode}

some_is : {X : Type 0} (o : Option X) (x : X) → o ≡ Some x → IsSome o
some_is o x e = ap is_some e

module _ (c : Code) where
  stands_somewhere : (a x : ℕ) → StandsFor c a x → IsSome (c.point a)
  stands_somewhere a x (at_start e) = some_is (c.point a) (Start x) e
  stands_somewhere a x (at_hop e) = some_is (c.point a) (Hop x) e

  -- ---- pointers of harts and of memory
  module _ (p : Picture) (r o : State) (s : StatesRelated p c r o) where
    record Goes (hart : Hart) : Type 0 where
      original : Hart
      alike : GoOnAlike p c hart original

    goes : (h : ℕ) (hart : Hart) → slice_get r.harts h ≡ Some hart → has_ended hart.status ≡ false → Goes hart
    goes h hart e n = by_both (slice_get r.harts h) (slice_get o.harts h) (s.harts h) e
      where
        by_both : (x y : Option Hart) → Both (HartsRelated p c) x y → x ≡ Some hart → Goes hart
        by_both x y neither f = absurd (cc)
        by_both x y (found {a} {b} k) f =
            let same : a ≡ hart = cc in
            let k : HartsRelated p c hart b = subst (λ (z : Hart). HartsRelated p c z b) same k in
            record { original = b; alike = k.alike (ap has_ended (sym k.status) ∙ n) }

    link_leads : (v w : Value) → ValuesRelated p c v w → v.tag ≡ Link → IsSome (c.point v.number)
    link_leads v w (both_plain t u e) l = absurd (cc)
    link_leads v w (both_links t u k) l = stands_somewhere v.number w.number k.stands

    place_leads : (hart original : Hart) → PlacesRelated p c hart.pc hart.regs original.pc original.regs → IsSome (c.point hart.pc)
    place_leads hart original (whole k regs) = stands_somewhere hart.pc original.pc k
    place_leads hart original (half b rd high row e value regs) = some_is (c.point hart.pc) (Mid original.pc) (ap (λ a. c.point a) e ∙ row.mid)

    register_leads : (hart original : Hart) (k : ℕ) → PlacesRelated p c hart.pc hart.regs original.pc original.regs → (reg hart.regs k).tag ≡ Link → IsSome (c.point (reg hart.regs k).number)
    register_leads hart original k (whole stands regs) l = link_leads (reg hart.regs k) (reg original.regs k) (regs k) l
    register_leads hart original k (half b rd high row e value regs) l = elim (cases_eq k rd) [
      | inl same ↦ absurd (let t = sym l ∙ ap (λ (n : ℕ). (reg hart.regs n).tag) same ∙ ap (λ (v : Value). v.tag) value in cc)
      | inr other ↦ link_leads (reg hart.regs k) (reg original.regs k) (regs k other) l
    ]

    pub pointer_leads : (a : ℕ) → IsPointer r a → IsSome (c.point a)
    pointer_leads a (at_pc h hart e n is) =
        let g = goes h hart e n in
        subst (λ (x : ℕ). IsSome (c.point x)) is (place_leads hart g.original g.alike.places)
    pointer_leads a (in_register h k hart e n tag is) =
        let g = goes h hart e n in
        subst (λ (x : ℕ). IsSome (c.point x)) is (register_leads hart g.original k g.alike.places tag)
    pointer_leads a (in_memory w e is) =
        let held : contains o.memory.links w ≡ true = sym (ap (λ l. contains l w) s.memory.links) ∙ e in
        let l = s.memory.numbers w held in
        subst (λ (x : ℕ). IsSome (c.point x)) is (stands_somewhere (number_at r.memory (8 * w)) (number_at o.memory (8 * w)) l.stands)

  -- ---- direct jumps
  -- a word that is a jump or branch
  data Aims (a : ℕ) (i : Instr) (t : ℕ) : Type 0 where
    jal : (rd : ℕ) (off : ℤ) → i ≡ instr.Jal rd off → t ≡ target a off → Aims a i t
    cond_branch : (k : _) (rs1 rs2 : ℕ) (off : ℤ) → i ≡ instr.Branch k rs1 rs2 off → t ≡ target a off → Aims a i t

  reads_as : (a t : ℕ) → JumpsTo c a t → (i : Instr) × (read c.word a ≡ Some i) × Aims a i t
  reads_as a t (by_jal rd off e f) = (instr.Jal rd off, e, jal rd off refl f)
  reads_as a t (by_branch k rs1 rs2 off e f) = (instr.Branch k rs1 rs2 off, e, cond_branch k rs1 rs2 off refl f)

  not_kept : (a t : ℕ) (i : Instr) → Aims a i t → IsKept i → ⊥
  not_kept a t i (jal rd off e f) k = subst IsKept e k
  not_kept a t i (cond_branch b rs1 rs2 off e f) k = subst IsKept e k

  same_read : (a : ℕ) (i j : Instr) → read c.word a ≡ Some i → read c.word a ≡ Some j → i ≡ j
  same_read a i j e f = cc

  no_read : (a : ℕ) → c.word a ≡ None → read c.word a ≡ None
  unfolding read
  no_read a e = rw e refl

  -- where the distance is known, so is the place
  jal_aim : (a t : ℕ) (i : Instr) (rd : ℕ) (aim : ℤ) → Aims a i t → i ≡ instr.Jal rd aim → IsSome (c.point (target a aim)) → IsSome (c.point t)
  jal_aim a t i rd aim (jal q off e f) g s = let same : off ≡ aim = cc in subst (λ (x : ℕ). IsSome (c.point x)) (sym (f ∙ ap (target a) same)) s
  jal_aim a t i rd aim (cond_branch k rs1 rs2 off e f) g s = absurd (cc)

  branch_aim : (a t : ℕ) (i : Instr) (k : _) (rs1 rs2 : ℕ) (aim : ℤ) → Aims a i t → i ≡ instr.Branch k rs1 rs2 aim → IsSome (c.point (target a aim)) → IsSome (c.point t)
  branch_aim a t i k rs1 rs2 aim (jal q off e f) g s = absurd (cc)
  branch_aim a t i k rs1 rs2 aim (cond_branch b x y off e f) g s = let same : off ≡ aim = cc in subst (λ (x : ℕ). IsSome (c.point x)) (sym (f ∙ ap (target a) same)) s

  no_jump : (a t : ℕ) (i j : Instr) → Aims a i t → read c.word a ≡ Some i → read c.word a ≡ Some j → ((rd : ℕ) (off : ℤ) → j ≡ instr.Jal rd off → ⊥)
      → ((k : _) (rs1 rs2 : ℕ) (off : ℤ) → j ≡ instr.Branch k rs1 rs2 off → ⊥) → ⊥
  no_jump a t i j (jal rd off e f) g h n m = n rd off (sym (same_read a i j g h) ∙ e)
  no_jump a t i j (cond_branch k rs1 rs2 off e f) g h n m = m k rs1 rs2 off (sym (same_read a i j g h) ∙ e)

  start_leads : (a x t : ℕ) (i : Instr) → read c.word a ≡ Some i → Aims a i t → StartRow c a x → IsSome (c.point t)
  start_leads a x t i e m (no_word u w) = absurd (let n = no_read a w in cc)
  start_leads a x t i e m (unread b u r w) = absurd (let n = read_is c.word a b None w r in cc)
  start_leads a x t i e m (kept b j u r k w n) = absurd (not_kept a t i m (subst IsKept (same_read a j i (read_is c.word a b (Some j) w r) e) k))
  start_leads a x t i e m (address_in_place rd imm s u w n) = absurd (no_jump a t i (instr.Auipc rd imm) m e w (λ q off f. cc) (λ k q v off f. cc))
  start_leads a x t i e m (address_moved rd high row) = absurd (no_jump a t i (instr.Auipc rd high) m e row.first (λ q off f. cc) (λ k q v off f. cc))
  start_leads a x t i e m (jump rd off aim u w h n) =
      jal_aim a t i rd aim m (same_read a i (instr.Jal rd aim) e w) (stands_somewhere (target a aim) (target x off) h.stands)
  start_leads a x t i e m (site rd to off aim u f w h n) =
      jal_aim a t i rd aim m (same_read a i (instr.Jal rd aim) e w) (some_is (c.point (target a aim)) (Start to) h)
  start_leads a x t i e m (jump_register b rd rs off u r w n) =
      absurd (no_jump a t i (instr.Jalr rd rs off) m e (read_is c.word a b (Some (instr.Jalr rd rs off)) w r) (λ q off f. cc) (λ k q v off f. cc))
  start_leads a x t i e m (call_second rd rs to off aim u f w h n) =
      jal_aim a t i rd aim m (same_read a i (instr.Jal rd aim) e w) (some_is (c.point (target a aim)) (Start to) h)
  start_leads a x t i e m (branch k rs1 rs2 off aim u w h n) =
      branch_aim a t i k rs1 rs2 aim m (same_read a i (instr.Branch k rs1 rs2 aim) e w) (stands_somewhere (target a aim) (target x off) h.stands)
  start_leads a x t i e m (branch_inverted k rs1 rs2 off aim u w h n) =
      branch_aim a t i _ rs1 rs2 aim m (same_read a i _ e w) (stands_somewhere (target a aim) (x + 4) h.stands)

  hop_leads : (a x t : ℕ) (i : Instr) → read c.word a ≡ Some i → Aims a i t → HopRow c a x → IsSome (c.point t)
  hop_leads a x t i e m h = jal_aim a t i 0 h.aim m (same_read a i (instr.Jal 0 h.aim) e h.word) (some_is (c.point (target a h.aim)) (Start x) h.start)

  mid_leads : (a x t : ℕ) (i : Instr) → read c.word a ≡ Some i → Aims a i t → MidRow c a x → IsSome (c.point t)
  mid_leads a x t i e m h =
      absurd (no_jump a t i (instr.AluImm immop.Addi h.rd h.rd h.moved.low) m e (ap (λ b. read c.word b) h.after ∙ h.moved.second) (λ q off f. cc) (λ k q v off f. cc))

  pub jump_leads : Renders c → (a t : ℕ) → IsSome (c.point a) → JumpsTo c a t → IsSome (c.point t)
  jump_leads n a t s j =
      let i = reads_as a t j in
      by_point (c.point a) refl s i.0 i.1 i.2
    where
      by_point : (o : Option Point) → c.point a ≡ o → IsSome o → (i : Instr) → read c.word a ≡ Some i → Aims a i t → IsSome (c.point t)
      by_point None e h i r m = absurd (cc)
      by_point (Some (Start x)) e h i r m = start_leads a x t i r m (n.starts a x e)
      by_point (Some (Hop x)) e h i r m = hop_leads a x t i r m (n.hops a x e)
      by_point (Some (Mid x)) e h i r m = mid_leads a x t i r m (n.mids a x e)

  pub leads_to_code : (p : Picture) (r o : State) → StatesRelated p c r o → Renders c → LeadsToCode c r
  leads_to_code p r o s n = record { pointers = pointer_leads p r o s; jumps = jump_leads n }
