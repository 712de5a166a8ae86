-- Rows of one code in another, in which every point of the first is the same.
use Rattle.std.proofs.Common.{◌≡◌, ◌≢◌, ℕ, ◌+◌, ◌^◌, ◌<◌, refl, sym, ◌∙◌, inl, inr, arith}
use Rattle.std.specs.Prelude.{Option, Some, None, ℤ, pos, ◌+ℤ◌, ◌-ℤ◌}
use Rattle.std.proofs.lemmas.Int.{ints}
use Rattle.rv_isa.specs.Decoded.{decoded}
use Rattle.rv_isa.specs.declared.instr.Instr.{Instr}
use Rattle.rv_isa.specs.declared.instr.Instr.TheVariants as instr
use Rattle.image.specs.Targets.{target}
use Rattle.layout.specs.declared.point.Point.{Point}
use Rattle.layout.specs.declared.point.Point.TheVariants.{Start, Hop, Mid}
use Rattle.layout.specs.Points.{Code, StandsFor, at_start, at_hop, read}
use Rattle.layout.specs.Rows.{Near, Next, AimsAt, MovedRow, StartRow, no_word, unread, kept, address_in_place, address_moved, jump, site, jump_register, call_second, branch, branch_inverted, HopRow, MidRow}
use Rattle.layout.proofs.TextRows.{read_is, read_same}

-- a jump by the distance to an address goes there
pub target_back : (a t : ℕ) → t < 2 ^ 64 → target a (pos t -ℤ pos a) ≡ t
unfolding target
target_back a t h =
    let e : pos a +ℤ (pos t -ℤ pos a) ≡ pos t = omega (arith, ints) in
    rw e (omega arith)

pub record Carries (c d : Code) : Type 0 where
  pub text : (x : ℕ) → d.text x ≡ c.text x
  pub site : (x : ℕ) → d.site x ≡ c.site x
  pub second : (x : ℕ) → d.second x ≡ c.second x
  pub point : (a : ℕ) (u : Point) → c.point a ≡ Some u → d.point a ≡ Some u
  pub home : (a : ℕ) (u : Point) → c.point a ≡ Some u → d.home a ≡ c.home a

read_none : (words : ℕ → Option ℕ) (a : ℕ) → words a ≡ None → read words a ≡ None
unfolding read
read_none words a e = rw e refl

module _ (c d : Code) (s : Carries c d) where
  pub stands_more : (a x : ℕ) → StandsFor c a x → StandsFor d a x
  stands_more a x (at_start e) = at_start (s.point a (Start x) e)
  stands_more a x (at_hop e) = at_hop (s.point a (Hop x) e)

  home_stands : (a x : ℕ) → StandsFor c a x → d.home a ≡ c.home a
  home_stands a x (at_start e) = s.home a (Start x) e
  home_stands a x (at_hop e) = s.home a (Hop x) e

  near_more : (a t x : ℕ) (u : Point) → c.point a ≡ Some u → StandsFor c t x → Near c a t → Near d a t
  near_more a t x u e b (inl z) = inl (home_stands t x b ∙ z)
  near_more a t x u e b (inr z) = inr (home_stands t x b ∙ z ∙ sym (s.home a u e))

  next_more : (a y : ℕ) (u : Point) → c.point a ≡ Some u → Next c a y → Next d a y
  next_more a y u e n = record { stands = stands_more (a + 4) y n.stands; near = near_more a (a + 4) y u e n.stands n.near }

  aims_more : (a : ℕ) (off : ℤ) (y : ℕ) (u : Point) → c.point a ≡ Some u → AimsAt c a off y → AimsAt d a off y
  aims_more a off y u e n = record { stands = stands_more (target a off) y n.stands; near = near_more a (target a off) y u e n.stands n.near }

  text_reads : (x : ℕ) (i : Option Instr) → read c.text x ≡ i → read d.text x ≡ i
  text_reads x i e = read_same d.text c.text x (s.text x) ∙ e

  module _ (a x : ℕ) (at : c.point a ≡ Some (Start x)) where
    -- an address that is made in two words, both of which are the same
    pub moved_more : (rd high : ℕ) → d.word a ≡ c.word a → d.word (a + 4) ≡ c.word (a + 4) → MovedRow c a x rd high → MovedRow d a x rd high
    moved_more rd high w v m =
        record {
          imm = m.imm;
          low = m.low;
          text = text_reads x (Some (instr.Auipc rd m.imm)) m.text;
          is_written = m.is_written;
          first = read_same d.word c.word a w ∙ m.first;
          mid = s.point (a + 4) (Mid x) m.mid;
          home = s.home (a + 4) (Mid x) m.mid ∙ m.home ∙ sym (s.home a (Start x) at);
          second = read_same d.word c.word (a + 4) v ∙ m.second;
          value = m.value;
          next = next_more (a + 4) (x + 4) (Mid x) m.mid m.next;
        }

    -- a word that is the same renders the same
    pub kept_row : d.word a ≡ c.word a → ((y : ℕ) → c.point (a + 4) ≡ Some (Mid y) → d.word (a + 4) ≡ c.word (a + 4)) → StartRow c a x → StartRow d a x
    kept_row e v (no_word t w) = no_word (s.text x ∙ t) (e ∙ w)
    kept_row e v (unread b t r w) = unread b (s.text x ∙ t) r (e ∙ w)
    kept_row e v (kept b i t r k w n) = kept b i (s.text x ∙ t) r k (e ∙ w) (next_more a (x + 4) (Start x) at n)
    kept_row e v (address_in_place rd imm i t w n) =
        address_in_place rd imm i (text_reads x (Some (instr.Auipc rd imm)) t) (read_same d.word c.word a e ∙ w) (next_more a (x + 4) (Start x) at n)
    kept_row e v (address_moved rd high m) = address_moved rd high (moved_more rd high e (v x m.mid) m)
    kept_row e v (jump rd off aim t w g n) =
        jump rd off aim (text_reads x (Some (instr.Jal rd off)) t) (read_same d.word c.word a e ∙ w) (aims_more a aim (target x off) (Start x) at g) (λ h. next_more a (x + 4) (Start x) at (n h))
    kept_row e v (site rd to off aim t f w p n) =
        site rd to off aim (text_reads x (Some (instr.Jal rd off)) t) (s.site x ∙ f) (read_same d.word c.word a e ∙ w) (s.point (target a aim) (Start to) p) (λ h. next_more a (x + 4) (Start x) at (n h))
    kept_row e v (jump_register b rd rs off t r w n) = jump_register b rd rs off (s.text x ∙ t) r (e ∙ w) (λ h. next_more a (x + 4) (Start x) at (n h))
    kept_row e v (call_second rd rs to off aim t f w p n) =
        call_second rd rs to off aim (text_reads x (Some (instr.Jalr rd rs off)) t) (s.second x ∙ f) (read_same d.word c.word a e ∙ w) (s.point (target a aim) (Start to) p)
        (λ h. next_more a (x + 4) (Start x) at (n h))
    kept_row e v (branch k rs1 rs2 off aim t w g n) =
        branch k rs1 rs2 off aim (text_reads x (Some (instr.Branch k rs1 rs2 off)) t) (read_same d.word c.word a e ∙ w) (aims_more a aim (target x off) (Start x) at g) (next_more a (x + 4) (Start x) at n)
    kept_row e v (branch_inverted k rs1 rs2 off aim t w g n) =
        branch_inverted k rs1 rs2 off aim (text_reads x (Some (instr.Branch k rs1 rs2 off)) t) (read_same d.word c.word a e ∙ w) (aims_more a aim (x + 4) (Start x) at g)
        (next_more a (target x off) (Start x) at n)

    -- what comes after a call
    jal_next : (rd : ℕ) (off : ℤ) → read c.text x ≡ Some (instr.Jal rd off) → StartRow c a x → rd ≢ 0 → Next c a (x + 4)
    jal_next rd off e (no_word t w) h = let k = read_none c.text x t in absurd (cc)
    jal_next rd off e (unread b t r w) h = let k = read_is c.text x b None t r in absurd (cc)
    jal_next rd off e (kept b i t r k w n) h = n
    jal_next rd off e (address_in_place r imm i t w n) h = n
    jal_next rd off e (address_moved r high m) h = let t = m.text in absurd (cc)
    jal_next rd off e (jump r off' aim t w g n) h = let q : r ≡ rd = cc in n (λ z. h (sym q ∙ z))
    jal_next rd off e (site r to off' aim t f w p n) h = let q : r ≡ rd = cc in n (λ z. h (sym q ∙ z))
    jal_next rd off e (jump_register b r rs off' t i w n) h = let k = read_is c.text x b (Some (instr.Jalr r rs off')) t i in absurd (cc)
    jal_next rd off e (call_second r rs to off' aim t f w p n) h = absurd (cc)
    jal_next rd off e (branch k rs1 rs2 off' aim t w g n) h = n
    jal_next rd off e (branch_inverted k rs1 rs2 off' aim t w g n) h = absurd (cc)

    jalr_next : (rd rs : ℕ) (off : ℤ) → read c.text x ≡ Some (instr.Jalr rd rs off) → StartRow c a x → rd ≢ 0 → Next c a (x + 4)
    jalr_next rd rs off e (no_word t w) h = let k = read_none c.text x t in absurd (cc)
    jalr_next rd rs off e (unread b t r w) h = let k = read_is c.text x b None t r in absurd (cc)
    jalr_next rd rs off e (kept b i t r k w n) h = n
    jalr_next rd rs off e (address_in_place r imm i t w n) h = n
    jalr_next rd rs off e (address_moved r high m) h = let t = m.text in absurd (cc)
    jalr_next rd rs off e (jump r off' aim t w g n) h = absurd (cc)
    jalr_next rd rs off e (site r to off' aim t f w p n) h = absurd (cc)
    jalr_next rd rs off e (jump_register b r rs' off' t i w n) h =
        let k = read_is c.text x b (Some (instr.Jalr r rs' off')) t i in
        let q : r ≡ rd = cc in
        n (λ z. h (sym q ∙ z))
    jalr_next rd rs off e (call_second r rs' to off' aim t f w p n) h = let q : r ≡ rd = cc in n (λ z. h (sym q ∙ z))
    jalr_next rd rs off e (branch k rs1 rs2 off' aim t w g n) h = n
    jalr_next rd rs off e (branch_inverted k rs1 rs2 off' aim t w g n) h = absurd (cc)

    -- a site that goes to a Start of its function
    pub site_row : (w st to rd : ℕ) (off : ℤ) → read c.text x ≡ Some (instr.Jal rd off) → c.site x ≡ Some st → d.word a ≡ Some w → decoded w ≡ Some (instr.Jal rd (pos to -ℤ pos a))
        → d.point to ≡ Some (Start st) → to < 2 ^ 64 → StartRow c a x → StartRow d a x
    site_row w st to rd off t f e r p lt row =
        site rd st off (pos to -ℤ pos a) (text_reads x (Some (instr.Jal rd off)) t) (s.site x ∙ f) (read_is d.word a w (Some (instr.Jal rd (pos to -ℤ pos a))) e r) (rw (target_back a to lt) p)
        (λ h. next_more a (x + 4) (Start x) at (jal_next rd off t row h))

    -- the second word of a pair that goes to one
    pub second_row : (w st to rd rs : ℕ) (off : ℤ) → read c.text x ≡ Some (instr.Jalr rd rs off) → c.second x ≡ Some st → d.word a ≡ Some w → decoded w ≡ Some (instr.Jal rd (pos to -ℤ pos a))
        → d.point to ≡ Some (Start st) → to < 2 ^ 64 → StartRow c a x → StartRow d a x
    second_row w st to rd rs off t f e r p lt row =
        call_second rd rs st off (pos to -ℤ pos a) (text_reads x (Some (instr.Jalr rd rs off)) t) (s.second x ∙ f) (read_is d.word a w (Some (instr.Jal rd (pos to -ℤ pos a))) e r)
        (rw (target_back a to lt) p) (λ h. next_more a (x + 4) (Start x) at (jalr_next rd rs off t row h))

    -- the second word of a pair that is the original one
    pub original_row : (w rd rs : ℕ) (off : ℤ) → c.text x ≡ Some w → decoded w ≡ Some (instr.Jalr rd rs off) → d.word a ≡ Some w → StartRow c a x → StartRow d a x
    original_row w rd rs off t r e row =
        jump_register w rd rs off (s.text x ∙ t) r e (λ h. next_more a (x + 4) (Start x) at (jalr_next rd rs off (read_is c.text x w (Some (instr.Jalr rd rs off)) t r) row h))

  pub hop_row : (a x : ℕ) → c.point a ≡ Some (Hop x) → d.word a ≡ c.word a → HopRow c a x → HopRow d a x
  hop_row a x at e h =
      record {
        aim = h.aim;
        word = read_same d.word c.word a e ∙ h.word;
        start = s.point (target a h.aim) (Start x) h.start;
        near = near_more a (target a h.aim) x (Hop x) at (at_start h.start) h.near;
      }

  pub mid_row : (m x : ℕ) (r : MidRow c m x) → d.word r.first ≡ c.word r.first → d.word (r.first + 4) ≡ c.word (r.first + 4) → MidRow d m x
  mid_row m x r e f =
      record { first = r.first; rd = r.rd; high = r.high; after = r.after; start = s.point r.first (Start x) r.start; moved = moved_more r.first x r.start r.rd r.high e f r.moved }
