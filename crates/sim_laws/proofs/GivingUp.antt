-- The law of layouts that are given up.
use Rattle.std.proofs.Common.{◌≡◌, ℕ, ◌+◌, Bool, true, false, refl, sym, ap, ◌∙◌, subst, inl, inr}
use Rattle.std.specs.Prelude.{ℤ, Option, Some, IsSome}
use Rattle.rv_isa.specs.declared.instr.Instr.{Instr}
use Rattle.rv_isa.specs.declared.instr.Instr.TheVariants as instr
use Rattle.rv_isa.specs.declared.instr.ImmOp.TheVariants as immop
use Rattle.image.specs.Targets.{target}
use Rattle.layout.specs.declared.point.Point.{Point}
use Rattle.layout.specs.declared.point.Point.TheVariants.{Start, Hop, Mid}
use Rattle.layout.specs.Points.{Code, StandsFor, at_start, at_hop, read}
use Rattle.layout.specs.Rows.{Near, Next, AimsAt, MovedRow, StartRow, no_word, unread, kept, address_in_place, address_moved, jump, site, jump_register, call_second, branch, branch_inverted, HopRow, MidRow, Renders}
use Rattle.layout.proofs.TextRows.{read_same}
use Rattle.machine.specs.States.{State}
use Rattle.sim_laws.specs.Changes.{KeepsPointers, GivesUp, LeavesCalls, LeavesPointers}

module _ (gone : ℕ → Bool) (c d : Code) (g : GivesUp gone c d) where
  -- what has a point afterwards isn't gone
  left : (a : ℕ) (u : Point) → d.point a ≡ Some u → gone a ≡ false
  left a u e = by_test (gone a) refl
    where
      by_test : (b : Bool) → gone a ≡ b → gone a ≡ false
      by_test true t = absurd (let l = g.lost a t in cc)
      by_test false t = t

  near_left : (a t : ℕ) → gone a ≡ false → Near c a t → gone t ≡ false
  near_left a t e (inl n) = g.outside t n
  near_left a t e (inr n) = g.whole t a n ∙ e

  stands_on : (a x : ℕ) → gone a ≡ false → StandsFor c a x → StandsFor d a x
  stands_on a x e (at_start p) = at_start (g.point a e ∙ p)
  stands_on a x e (at_hop p) = at_hop (g.point a e ∙ p)

  near_on : (a t : ℕ) → gone a ≡ false → Near c a t → Near d a t
  near_on a t e (inl n) = inl (g.home t (g.outside t n) ∙ n)
  near_on a t e (inr n) = inr (g.home t (g.whole t a n ∙ e) ∙ n ∙ sym (g.home a e))

  next_on : (a y : ℕ) → gone a ≡ false → Next c a y → Next d a y
  next_on a y e n = record { stands = stands_on (a + 4) y (near_left a (a + 4) e n.near) n.stands; near = near_on a (a + 4) e n.near }

  aims_on : (a : ℕ) (off : ℤ) (y : ℕ) → gone a ≡ false → AimsAt c a off y → AimsAt d a off y
  aims_on a off y e n = record { stands = stands_on (target a off) y (near_left a (target a off) e n.near) n.stands; near = near_on a (target a off) e n.near }

  text_on : (x : ℕ) (i : Option Instr) → read c.text x ≡ i → read d.text x ≡ i
  text_on x i e = read_same d.text c.text x (g.text x) ∙ e

  word_on : (a : ℕ) (i : Option Instr) → gone a ≡ false → read c.word a ≡ i → read d.word a ≡ i
  word_on a i e r = read_same d.word c.word a (g.word a e) ∙ r

  moved_on : (a x rd high : ℕ) → gone a ≡ false → MovedRow c a x rd high → MovedRow d a x rd high
  moved_on a x rd high e m =
      let second : gone (a + 4) ≡ false = g.whole (a + 4) a m.home ∙ e in
      record {
        imm = m.imm;
        low = m.low;
        text = text_on x (Some (instr.Auipc rd m.imm)) m.text;
        is_written = m.is_written;
        first = word_on a (Some (instr.Auipc rd high)) e m.first;
        mid = g.point (a + 4) second ∙ m.mid;
        home = g.home (a + 4) second ∙ m.home ∙ sym (g.home a e);
        second = word_on (a + 4) (Some (instr.AluImm immop.Addi rd rd m.low)) second m.second;
        value = m.value;
        next = next_on (a + 4) (x + 4) second m.next;
      }

  module _ (u : LeavesCalls gone c) where
    row_on : (a x : ℕ) → gone a ≡ false → c.point a ≡ Some (Start x) → StartRow c a x → StartRow d a x
    row_on a x e at (no_word t w) = no_word (g.text x ∙ t) (g.word a e ∙ w)
    row_on a x e at (unread b t r w) = unread b (g.text x ∙ t) r (g.word a e ∙ w)
    row_on a x e at (kept b i t r k w n) = kept b i (g.text x ∙ t) r k (g.word a e ∙ w) (next_on a (x + 4) e n)
    row_on a x e at (address_in_place rd imm i t w n) =
        address_in_place rd imm i (text_on x (Some (instr.Auipc rd imm)) t) (word_on a (Some (instr.Auipc rd imm)) e w) (next_on a (x + 4) e n)
    row_on a x e at (address_moved rd high m) = address_moved rd high (moved_on a x rd high e m)
    row_on a x e at (jump rd off aim t w h n) =
        jump rd off aim (text_on x (Some (instr.Jal rd off)) t) (word_on a (Some (instr.Jal rd aim)) e w) (aims_on a aim (target x off) e h) (λ z. next_on a (x + 4) e (n z))
    row_on a x e at (site rd to off aim t f w p n) =
        site rd to off aim (text_on x (Some (instr.Jal rd off)) t) (g.site x ∙ f) (word_on a (Some (instr.Jal rd aim)) e w)
        (g.point (target a aim) (u.sites a x to e at f rd aim w) ∙ p) (λ z. next_on a (x + 4) e (n z))
    row_on a x e at (jump_register b rd rs off t r w n) = jump_register b rd rs off (g.text x ∙ t) r (g.word a e ∙ w) (λ z. next_on a (x + 4) e (n z))
    row_on a x e at (call_second rd rs to off aim t f w p n) =
        call_second rd rs to off aim (text_on x (Some (instr.Jalr rd rs off)) t) (g.second x ∙ f) (word_on a (Some (instr.Jal rd aim)) e w)
        (g.point (target a aim) (u.seconds a x to e at f rd aim w) ∙ p) (λ z. next_on a (x + 4) e (n z))
    row_on a x e at (branch k rs1 rs2 off aim t w h n) =
        branch k rs1 rs2 off aim (text_on x (Some (instr.Branch k rs1 rs2 off)) t) (word_on a (Some (instr.Branch k rs1 rs2 aim)) e w) (aims_on a aim (target x off) e h) (next_on a (x + 4) e n)
    row_on a x e at (branch_inverted k rs1 rs2 off aim t w h n) =
        branch_inverted k rs1 rs2 off aim (text_on x (Some (instr.Branch k rs1 rs2 off)) t) (word_on a _ e w) (aims_on a aim (x + 4) e h) (next_on a (target x off) e n)

    hop_on : (a x : ℕ) → gone a ≡ false → HopRow c a x → HopRow d a x
    hop_on a x e h = record {
      aim = h.aim;
      word = word_on a (Some (instr.Jal 0 h.aim)) e h.word;
      start = g.point (target a h.aim) (near_left a (target a h.aim) e h.near) ∙ h.start;
      near = near_on a (target a h.aim) e h.near;
    }

    mid_on : (m x : ℕ) → gone m ≡ false → MidRow c m x → MidRow d m x
    mid_on m x e r =
        let first : gone r.first ≡ false = g.whole r.first (r.first + 4) (sym r.moved.home) ∙ ap gone (sym r.after) ∙ e in
        record { first = r.first; rd = r.rd; high = r.high; after = r.after; start = g.point r.first first ∙ r.start; moved = moved_on r.first x r.rd r.high first r.moved }

    pub renders_on : Renders c → Renders d
    renders_on r = record {
      starts = λ a x e. (let l = left a (Start x) e in let at : c.point a ≡ Some (Start x) = sym (g.point a l) ∙ e in row_on a x l at (r.starts a x at));
      hops = λ a x e. (let l = left a (Hop x) e in hop_on a x l (r.hops a x (sym (g.point a l) ∙ e)));
      mids = λ a x e. (let l = left a (Mid x) e in mid_on a x l (r.mids a x (sym (g.point a l) ∙ e)));
      reads = λ a x h e. (
          let l = left a (Start x) e in
          let reads = r.reads a x (subst IsSome (g.home a l) h) (sym (g.point a l) ∙ e) in
          subst IsSome (sym (read_same d.text c.text x (g.text x))) reads);
    }

  pub pointers_on : (s : State) → LeavesPointers gone s → KeepsPointers c d s
  pointers_on s u = record {
    stands = λ a x p. stands_on a x (u a p);
    moved = λ b x rd high p m. moved_on b x rd high (g.whole b (b + 4) (sym m.home) ∙ u (b + 4) p) m;
  }
