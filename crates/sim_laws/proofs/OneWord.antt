-- The law of one word: a step at a word that renders its original keeps the states related. One case for each row.
use Rattle.std.proofs.Common.{◌≡◌, ◌≢◌, ℕ, zero, suc, ◌+◌, ◌%◌, ◌^◌, ◌<◌, Bool, true, false, cond, not, List, length, refl, sym, ap, ◌∙◌, subst, arith}
use Rattle.std.specs.Prelude.{Option, Some, None, ℤ, pos, negsuc, ◌==◌, IsSome, is_some, slice_get, slice_set, option_and_then}
use Rattle.std.specs.List.{list_any}
use Rattle.std.proofs.lemmas.Bool.{eq-eqb, ne_eqb, and_right, and_from, false≢true}
use Rattle.std.proofs.lemmas.List.{get_or-set_same, get_or-set_other}
use Rattle.std.proofs.lemmas.Option.{same_Some}
use Rattle.rv_isa.specs.Conditions.{opposite}
use Rattle.rv_isa.specs.Decoded.{decoded}
use Rattle.rv_isa.specs.declared.instr.ImmOp.TheVariants.{Addi}
use Rattle.rv_isa.specs.declared.instr.Cond.{Cond}
use Rattle.rv_isa.specs.declared.instr.Instr.{Instr}
use Rattle.rv_isa.specs.declared.instr.Instr.TheVariants.{AluImm, Auipc, Jal, Jalr, Branch}
use Rattle.image.specs.Targets.{target, made_by}
use Rattle.image.specs.Texts.{word_at, covers}
use Rattle.image.specs.Aims.{func_from}
use Rattle.image.specs.Picture.{Picture, is_second}
use Rattle.image.specs.Picture as image
use Rattle.link_tags.specs.declared.value.Tag.TheVariants.{Link}
use Rattle.link_tags.specs.declared.value.Value.{Value}
use Rattle.link_tags.specs.Values.{plain}
use Rattle.link_tags.specs.Forbidden.{uses}
use Rattle.guest_mem.specs.Memory.{Memory}
use Rattle.guest_sys.specs.State.{IsOrderly}
use Rattle.hart.specs.declared.hart.Hart.{Hart}
use Rattle.hart.specs.Harts.{reg, with_reg, moved_by, after, even}
use Rattle.hart.specs.Effects.{next, jump, effect_of, effect_on, hart_after}
use Rattle.layout.specs.declared.point.Point.TheVariants.{Start, Hop, Mid}
use Rattle.layout.specs.Points.{Code, StandsFor, at_start, at_hop, in_range, read}
use Rattle.layout.specs.Rows as rows
use Rattle.layout.specs.Rows.{IsKept, Next, AimsAt, MovedRow, StartRow, no_word, unread, kept, address_in_place, address_moved, jump_register, call_second, branch, branch_inverted, HopRow, Renders}
use Rattle.layout.proofs.TextWords.{text_high, text_whole, text_outside, aimed_outside, target_small}
use Rattle.layout.proofs.TextRows.{read_is, read_back}
use Rattle.layout.proofs.Full.{site_target}
use Rattle.machine.specs.declared.outcome.Outcome.TheVariants.{Trap}
use Rattle.machine.specs.Harts.{is_live, hart_in}
use Rattle.machine.specs.States.{State}
use Rattle.machine.specs.Steps.{is_indirect, ended, with_hart, place_of, after_effect, on_fetched}
use Rattle.sim_laws.specs.Origins.{origin, is_moved_address, is_layout_step}
use Rattle.sim_laws.specs.Codes.{IsCodeOf}
use Rattle.sim_laws.specs.Related.{Lands, ValuesRelated, both_plain, RegsRelated, RegsRelatedBut, HoldsPair, PlacesRelated, whole, half, GoOnAlike, HartsRelated, StatesRelated}
use Rattle.sim_laws.proofs.Arithmetic.{moved_is, made_is, added_is, after_is, even_whole, target_zero, register_small}
use Rattle.sim_laws.proofs.ImageFacts.{after_unpaired, target_unpaired, start_unpaired, second_pair, second_is, start_is, start_whole, start_covered, region_low}
use Rattle.sim_laws.proofs.CodeFacts.{text_word, text_reads, outside_start, start_low, lands_next, moved_apart}
use Rattle.sim_laws.proofs.Lands.{origin_lands, pointer_whole}
use Rattle.sim_laws.proofs.EffectPairs.{EffectsRelated, Follows}
use Rattle.sim_laws.proofs.HartLists.{hart_at}
use Rattle.sim_laws.proofs.GoingOn.{length-with_reg, with_reg_related, next_hart}
use Rattle.sim_laws.proofs.Settled.{next_after, hop_after, ended_related, moved_on, left_on}
use Rattle.sim_laws.proofs.Values.{ReadAlike, kept_related, jalr_related, jal_related, call_related, branch_related, inverted_related}
use Rattle.sim_laws.proofs.Applied.{applied}

-- what a step at a made of a state: nothing for the original one, or its step
pub data Made (p : Picture) (c : Code) (a : ℕ) (new o after_o : State) : Type 0 where
  layout : is_layout_step c a ≡ true → StatesRelated p c new o → Made p c a new o after_o
  real : is_layout_step c a ≡ false → StatesRelated p c new after_o → Made p c a new o after_o

-- ---- which steps are steps of the layout alone
module _ (c : Code) where
  kind_at_start : (a x : ℕ) → c.point a ≡ Some (Start x) → is_layout_step c a ≡ is_moved_address a x (read c.text x)
  unfolding is_layout_step
  kind_at_start a x p = rw p refl

  pub kind_at_hop : (a x : ℕ) → c.point a ≡ Some (Hop x) → is_layout_step c a ≡ true
  unfolding is_layout_step
  kind_at_hop a x p = rw p refl

  pub kind_at_mid : (a x : ℕ) → c.point a ≡ Some (Mid x) → is_layout_step c a ≡ false
  unfolding is_layout_step
  kind_at_mid a x p = rw p refl

  pub kind_of_row : (a x : ℕ) (j : Option Instr) (b : Bool) → c.point a ≡ Some (Start x) → read c.text x ≡ j → is_moved_address a x j ≡ b → is_layout_step c a ≡ b
  kind_of_row a x j b p t e = kind_at_start a x p ∙ ap (is_moved_address a x) t ∙ e

pub kept_not_moved : (a x : ℕ) (i : Instr) → IsKept i → is_moved_address a x (Some i) ≡ false
kept_not_moved a x (Auipc rd imm) k = rw (eq-eqb rd 0 k) refl
kept_not_moved a x _ k = refl

pub in_place_not_moved : (a x rd imm : ℕ) → a ≡ x → is_moved_address a x (Some (Auipc rd imm)) ≡ false
in_place_not_moved a x rd imm e = and_right (not (rd == 0)) (not (a == x)) (ap not (eq-eqb a x e))

pub moved_is_moved : (a x rd imm : ℕ) → rd ≢ 0 → a ≢ x → is_moved_address a x (Some (Auipc rd imm)) ≡ true
moved_is_moved a x rd imm n m = and_from (not (rd == 0)) (not (a == x)) (ap not (ne_eqb rd 0 n)) (ap not (ne_eqb a x m))

-- ---- effects of the words that make an address, and of a jump
pub address_effect : (org : ℕ → ℕ) (m : Memory) (h : Hart) (rd imm : ℕ) → effect_of org m h (Auipc rd imm) ≡ next rd (plain (made_by h.pc imm)) h.reservation
unfolding effect_of effect_on uses
address_effect org m h rd imm = ap (λ n. next rd (plain n) h.reservation) (made_is h.pc imm)

pub jump_effect : (org : ℕ → ℕ) (m : Memory) (h : Hart) (rd : ℕ) (off : ℤ) → effect_of org m h (Jal rd off) ≡ jump (target h.pc off) Link (Some rd)
unfolding effect_of effect_on uses
jump_effect org m h rd off = ap (λ n. jump n Link (Some rd)) (moved_is h.pc off)

mid_effect : (org : ℕ → ℕ) (m : Memory) (h : Hart) (rd n : ℕ) (low : ℤ) → reg h.regs rd ≡ plain n → n < 2 ^ 64
    → effect_of org m h (AluImm Addi rd rd low) ≡ next rd (plain (target n low)) h.reservation
unfolding effect_of effect_on uses
mid_effect org m h rd n (pos zero) e lt = ap (λ v. next rd v h.reservation) (e ∙ ap plain (sym (target_zero n lt)))
mid_effect org m h rd n (pos (suc k)) e lt = rw e (ap (λ v. next rd (plain v) h.reservation) (added_is n (pos (suc k))))
mid_effect org m h rd n (negsuc k) e lt = rw e (ap (λ v. next rd (plain v) h.reservation) (added_is n (negsuc k)))

made_small : (a high : ℕ) → made_by a high < 2 ^ 64
unfolding made_by
made_small a high = let k = made_is a high in omega (arith, k)

-- ---- registers
pub written_same : (rs : List Value) (d : ℕ) (v : Value) → d ≢ 0 → d < length rs → reg (with_reg rs d v) d ≡ v
written_same rs d v n g = rw (ne_eqb d 0 n) (get_or-set_same rs d v (plain 0) g)

written_other : (rs : List Value) (d j : ℕ) (v : Value) → j ≢ d → reg (with_reg rs d v) j ≡ reg rs j
written_other rs d j v e = by_test (d == 0)
  where
    by_test : (t : Bool) → reg (cond t rs (slice_set rs d v)) j ≡ reg rs j
    by_test true = refl
    by_test false = ap (λ x. cond (j == 0) (plain 0) x) (get_or-set_other rs d j v (plain 0) e)

-- ---- a word that was fetched
pub none_read : (words : ℕ → Option ℕ) (a : ℕ) → words a ≡ None → read words a ≡ None
unfolding read
none_read words a e = ap (option_and_then decoded) e

fetched_is : (org : ℕ → ℕ) (p : Picture) (h w : ℕ) (s : State) (hart : Hart) (i : Instr) (f : Option ℕ) → slice_get s.harts h ≡ Some hart → f ≡ Some w → decoded w ≡ Some i
    → on_fetched org p h f s ≡ after_effect org p h (is_indirect i) (effect_of org s.memory hart i) s
unfolding on_fetched
fetched_is org p h w s hart i f e is d = rw (is, d) (ap (λ (x : Hart). after_effect org p h (is_indirect i) (effect_of org s.memory x i) s) (hart_at s.harts h hart e))

pub read_fetched : (org : ℕ → ℕ) (p : Picture) (h : ℕ) (s : State) (hart : Hart) (words : ℕ → Option ℕ) (i : Instr) → slice_get s.harts h ≡ Some hart → read words hart.pc ≡ Some i
    → on_fetched org p h (words hart.pc) s ≡ after_effect org p h (is_indirect i) (effect_of org s.memory hart i) s
read_fetched org p h s hart words i e is = let b = read_back words hart.pc i is in fetched_is org p h b.0 s hart i _ e b.1 b.2

trap_place : (org : ℕ → ℕ) (h : ℕ) (s : State) (hart : Hart) → slice_get s.harts h ≡ Some hart → place_of org h s ≡ org hart.pc
trap_place org h s hart e = ap (λ (x : Hart). org x.pc) (hart_at s.harts h hart e)

no_fetched : (org : ℕ → ℕ) (p : Picture) (h x : ℕ) (s : State) (f : Option ℕ) → place_of org h s ≡ x → f ≡ None → on_fetched org p h f s ≡ ended (Trap 1 x x) s
unfolding on_fetched
no_fetched org p h x s f e is = rw is (ap (λ n. ended (Trap 1 n n) s) e)

unread_fetched : (org : ℕ → ℕ) (p : Picture) (h x w : ℕ) (s : State) (f : Option ℕ) → place_of org h s ≡ x → f ≡ Some w → decoded w ≡ None → on_fetched org p h f s ≡ ended (Trap 2 x w) s
unfolding on_fetched
unread_fetched org p h x w s f e is d = rw (is, d) (ap (λ n. ended (Trap 2 n w) s) e)

module _ (p : Picture) (c : Code) where
  pub same_states : {x y u v : State} → x ≡ u → y ≡ v → StatesRelated p c u v → StatesRelated p c x y
  same_states {x = x} {v = v} e f s = subst (λ (z : State). StatesRelated p c x z) (sym f) (subst (λ (z : State). StatesRelated p c z v) (sym e) s)

  stands_moved : (a x : ℕ) (aim off : ℤ) → StandsFor c (target a aim) (target x off) → StandsFor c (moved_by a aim) (moved_by x off)
  stands_moved a x aim off s = subst (λ n. StandsFor c (moved_by a aim) n) (sym (moved_is x off)) (subst (λ n. StandsFor c n (target x off)) (sym (moved_is a aim)) s)

  same_lands : {a b x y : ℕ} → a ≡ b → x ≡ y → Lands p c b y → Lands p c a x
  same_lands {a = a} {y = y} e f l = subst (λ n. Lands p c a n) (sym f) (subst (λ n. Lands p c n y) (sym e) l)

-- the original word at x reads as i
record IsTextOf (p : Picture) (x : ℕ) (i : Instr) : Type 0 where
  w : ℕ
  is : word_at p.texts x ≡ Some w
  reads : decoded w ≡ Some i

module _ (p : Picture) (c : Code) (image_kept : image.IsKept p) (code : IsCodeOf p c) (n : Renders c) where
  -- a word that a Start of a whole word falls to stands for a whole word
  whole_by : (a y : ℕ) → a % 4 ≡ 0 → StandsFor c a y → (b : Bool) → in_range p.region a ≡ b → y % 4 ≡ 0
  whole_by a y e (at_hop s) b i = code.hops a y s
  whole_by a y e (at_start s) false i = ap (λ n. n % 4) (sym (outside_start p c image_kept code a y i s)) ∙ e
  whole_by a y e (at_start s) true i = by_read (read c.text y) refl (n.reads a y (code.lives a i (ap is_some s)) s)
    where
      by_read : (o : Option Instr) → read c.text y ≡ o → IsSome o → y % 4 ≡ 0
      by_read None f k = absurd (cc)
      by_read (Some i) f k = let b = read_back c.text y i f in text_whole p image_kept y b.0 (text_word p c image_kept code y b.0 b.1)

  whole_at : (a y : ℕ) → a % 4 ≡ 0 → StandsFor c a y → y % 4 ≡ 0
  whole_at a y e s = whole_by a y e s (in_range p.region a) refl

module _ (p : Picture) (c : Code) (image_kept : image.IsKept p) (code : IsCodeOf p c) (n : Renders c) (h : ℕ) (hr ho : Hart) (r o : State) (s : StatesRelated p c r o) (q : IsOrderly r.system) (er : slice_get r.harts h ≡ Some hr) (eo : slice_get o.harts h ≡ Some ho) (live : is_live ho.status ≡ true) (k : HartsRelated p c hr ho) (g : GoOnAlike p c hr ho) where
  unfoldable pub IsMade : Type 0
  IsMade = Made p c hr.pc (on_fetched (origin c) p h (c.word hr.pc) r) o (on_fetched (λ a. a) p h (word_at p.texts ho.pc) o)

  -- ---- the original word
  text_of : (i : Instr) → read c.text ho.pc ≡ Some i → IsTextOf p ho.pc i
  text_of i t = let b = read_back c.text ho.pc i t in record { w = b.0; is = text_word p c image_kept code ho.pc b.0 b.1; reads = b.2 }

  step_r : (i : Instr) → read c.word hr.pc ≡ Some i → on_fetched (origin c) p h (c.word hr.pc) r ≡ after_effect (origin c) p h (is_indirect i) (effect_of (origin c) r.memory hr i) r
  step_r i w = read_fetched (origin c) p h r hr c.word i er w

  step_o : (i : Instr) → read c.text ho.pc ≡ Some i → on_fetched (λ a. a) p h (word_at p.texts ho.pc) o ≡ after_effect (λ a. a) p h (is_indirect i) (effect_of (λ a. a) o.memory ho i) o
  step_o i t = read_fetched (λ a. a) p h o ho (word_at p.texts) i eo (sym (text_reads p c image_kept code ho.pc) ∙ t)

  written_but : (rs os : List Value) (rd : ℕ) (v : Value) → RegsRelated p c rs os → RegsRelatedBut p c rd (with_reg rs rd v) os
  written_but rs os rd v b j d = subst (λ (y : Value). ValuesRelated p c y (reg os j)) (sym (written_other rs rd j v d)) (b j)

  -- the second word of an address that was moved lies in the guest's space
  mid_low : (b rd high : ℕ) → hr.pc ≡ b + 4 → (imm : ℕ) → IsTextOf p ho.pc (Auipc rd imm) → c.point (b + 4) ≡ Some (Mid ho.pc) → hr.pc < 0x08000000
  mid_low b rd high at imm x m = by_test (in_range p.region (b + 4)) refl
    where
      by_test : (t : Bool) → in_range p.region (b + 4) ≡ t → hr.pc < 0x08000000
      by_test true i = let low = region_low p image_kept (b + 4) i in omega (arith, low, at)
      by_test false i = let own : Some (Mid ho.pc) ≡ Some (Start (b + 4)) = sym m ∙ code.point (b + 4) i in absurd (cc)

  -- after the word at hand comes no second word
  unpaired : (i : Instr) → IsTextOf p ho.pc i → ((rd high : ℕ) → i ≡ Auipc rd high → rd ≡ 0) → is_second p.pairs (ho.pc + 4) ≡ false
  unpaired i x f = after_unpaired p image_kept ho.pc (λ rd high e. f rd high (same_Some _ _ (sym (read_is (word_at p.texts) ho.pc x.w (Some i) x.is x.reads) ∙ e)))

  after_o : (i : Instr) → IsTextOf p ho.pc i → after ho.pc ≡ ho.pc + 4
  after_o i x = let high = text_high p image_kept ho.pc x.w x.is in after_is ho.pc (omega (arith, high))

  not_live : is_live ho.status ≡ false → ⊥
  not_live e = false≢true (sym e ∙ live)

  module _ (st : c.point hr.pc ≡ Some (Start ho.pc)) (b : RegsRelated p c hr.regs ho.regs) where
    after_r : (i : Instr) → IsTextOf p ho.pc i → after hr.pc ≡ hr.pc + 4
    after_r i x = after_is hr.pc (start_low p c image_kept code hr.pc ho.pc x.w st x.is)

    alike : ReadAlike p c r.memory o.memory hr ho
    alike = record { place = origin_lands p c (at_start st); regs = b; reservation = k.reservation; memory = s.memory }

    -- where the next word goes on
    follows : (i : Instr) → IsTextOf p ho.pc i → StandsFor c (hr.pc + 4) (ho.pc + 4) → ((rd high : ℕ) → i ≡ Auipc rd high → rd ≡ 0) → Follows p c hr ho
    follows i x m f = same_lands p c (after_r i x) (after_o i x) (lands_next p c image_kept code (hr.pc + 4) ho.pc x.w x.is m (unpaired i x f))

    -- a step of both, by the two words and their effects
    both_made : (i j : Instr) → read c.word hr.pc ≡ Some i → read c.text ho.pc ≡ Some j → is_moved_address hr.pc ho.pc (Some j) ≡ false
        → EffectsRelated p c hr ho (is_indirect i) (is_indirect j) (effect_of (origin c) r.memory hr i) (effect_of (λ a. a) o.memory ho j) → IsMade
    unfolding IsMade
    both_made i j w t l e =
        real (kind_of_row c hr.pc ho.pc (Some j) false st t l)
        (same_states p c (step_r i w) (step_o j t) (applied p c image_kept code n h hr ho r o (is_indirect i) (is_indirect j) s q er eo live (origin_lands p c (at_start st)) b e))

    -- ---- the rows but for an AUIPC's
    kept_made : (w : ℕ) (i : Instr) → c.text ho.pc ≡ Some w → decoded w ≡ Some i → IsKept i → c.word hr.pc ≡ Some w → Next c hr.pc (ho.pc + 4) → IsMade
    kept_made w i t d m u nx =
        let rt = read_is c.text ho.pc w (Some i) t d in
        both_made i i (read_is c.word hr.pc w (Some i) u d) rt (kept_not_moved hr.pc ho.pc i m)
        (kept_related p c alike i m (follows i (text_of i rt) nx.stands (λ rd high e. subst IsKept e m)))

    jump_made : (rd : ℕ) (off aim : ℤ) → read c.text ho.pc ≡ Some (Jal rd off) → read c.word hr.pc ≡ Some (Jal rd aim) → StandsFor c (target hr.pc aim) (target ho.pc off)
        → (rd ≢ 0 → Next c hr.pc (ho.pc + 4)) → IsMade
    jump_made rd off aim t w m nx =
        let x = text_of (Jal rd off) t in
        let u = target_unpaired p image_kept ho.pc x.w (target ho.pc off) (Jal rd off) x.is x.reads refl in
        both_made (Jal rd aim) (Jal rd off) w t refl
        (jal_related p c r.memory o.memory rd aim off (stands_moved p c hr.pc ho.pc aim off m) (ap (is_second p.pairs) (moved_is ho.pc off) ∙ u)
        (λ d. follows (Jal rd off) x (nx d).stands (λ rd2 high e. absurd (cc))))

    site_made : (rd to : ℕ) (off aim : ℤ) → read c.text ho.pc ≡ Some (Jal rd off) → c.site ho.pc ≡ Some to → read c.word hr.pc ≡ Some (Jal rd aim)
        → c.point (target hr.pc aim) ≡ Some (Start to) → (rd ≢ 0 → Next c hr.pc (ho.pc + 4)) → IsMade
    site_made rd to off aim t e w m nx =
        let x = text_of (Jal rd off) t in
        let to_is : target ho.pc off ≡ to = site_target p image_kept ho.pc x.w rd to off (sym (code.site ho.pc) ∙ e) x.is x.reads in
        jump_made rd off aim t w (subst (λ y. StandsFor c (target hr.pc aim) y) (sym to_is) (at_start m)) nx

    jump_register_made : (w rd rs : ℕ) (off : ℤ) → c.text ho.pc ≡ Some w → decoded w ≡ Some (Jalr rd rs off) → c.word hr.pc ≡ Some w → (rd ≢ 0 → Next c hr.pc (ho.pc + 4)) → IsMade
    jump_register_made w rd rs off t d u nx =
        let rt = read_is c.text ho.pc w (Some (Jalr rd rs off)) t d in
        both_made (Jalr rd rs off) (Jalr rd rs off) (read_is c.word hr.pc w (Some (Jalr rd rs off)) u d) rt refl
        (jalr_related p c image_kept code alike rd rs off (λ z. follows (Jalr rd rs off) (text_of (Jalr rd rs off) rt) (nx z).stands (λ rd2 high e. absurd (cc))))

    branch_made : (j : Cond) (rs1 rs2 : ℕ) (off aim : ℤ) → read c.text ho.pc ≡ Some (Branch j rs1 rs2 off) → read c.word hr.pc ≡ Some (Branch j rs1 rs2 aim)
        → AimsAt c hr.pc aim (target ho.pc off) → Next c hr.pc (ho.pc + 4) → IsMade
    branch_made j rs1 rs2 off aim t w m nx =
        let x = text_of (Branch j rs1 rs2 off) t in
        let u = target_unpaired p image_kept ho.pc x.w (target ho.pc off) (Branch j rs1 rs2 off) x.is x.reads refl in
        both_made (Branch j rs1 rs2 aim) (Branch j rs1 rs2 off) w t refl
        (branch_related p c alike j rs1 rs2 aim off (stands_moved p c hr.pc ho.pc aim off m.stands) (ap (is_second p.pairs) (moved_is ho.pc off) ∙ u)
        (follows (Branch j rs1 rs2 off) x nx.stands (λ rd high e. absurd (cc))))

    inverted_made : (j : Cond) (rs1 rs2 : ℕ) (off aim : ℤ) → read c.text ho.pc ≡ Some (Branch j rs1 rs2 off) → read c.word hr.pc ≡ Some (Branch (opposite j) rs1 rs2 aim)
        → AimsAt c hr.pc aim (ho.pc + 4) → Next c hr.pc (target ho.pc off) → IsMade
    inverted_made j rs1 rs2 off aim t w m nx =
        let x = text_of (Branch j rs1 rs2 off) t in
        let i = Branch j rs1 rs2 off in
        let place = pointer_whole p c code (at_start st) g.whole in
        let falls : Lands p c (target hr.pc aim) (ho.pc + 4) = lands_next p c image_kept code (target hr.pc aim) ho.pc x.w x.is m.stands (unpaired i x (λ rd high e. absurd (cc))) in
        let taken : Lands p c (hr.pc + 4) (target ho.pc off) = record {
          stands = nx.stands;
          whole = whole_at p c image_kept code n (hr.pc + 4) (target ho.pc off) (omega (arith, place)) nx.stands;
          fits = target_small ho.pc off;
          outside = aimed_outside p image_kept ho.pc x.w i (target ho.pc off) x.is x.reads refl;
          unpaired = target_unpaired p image_kept ho.pc x.w (target ho.pc off) i x.is x.reads refl;
        } in
        both_made (Branch (opposite j) rs1 rs2 aim) i w t refl
        (inverted_related p c alike j rs1 rs2 aim off (same_lands p c (moved_is hr.pc aim) (after_o i x) falls) (same_lands p c (after_r i x) (moved_is ho.pc off) taken))

    call_made : (rd rs to : ℕ) (off aim : ℤ) → read c.text ho.pc ≡ Some (Jalr rd rs off) → c.second ho.pc ≡ Some to → read c.word hr.pc ≡ Some (Jal rd aim)
        → c.point (target hr.pc aim) ≡ Some (Start to) → (rd ≢ 0 → Next c hr.pc (ho.pc + 4)) → IsMade
    call_made rd rs to off aim t e w m nx =
        let x = text_of (Jalr rd rs off) t in
        let z = second_is p image_kept ho.pc to (sym (code.second ho.pc) ∙ e) in
        let f = z.2 in
        let made = made_by z.0.at f.high in
        let same : Some (Jalr rd rs off) ≡ Some (Jalr f.linked f.rd f.off) =
        sym (read_is (word_at p.texts) ho.pc x.w (Some (Jalr rd rs off)) x.is x.reads)
        ∙ ap (read (word_at p.texts)) (sym z.1) ∙ read_is (word_at p.texts) (z.0.at + 4) f.second_word (Some (Jalr f.linked f.rd f.off)) f.second f.reads_second in
        let rs_is : rs ≡ f.rd = cc in
        let off_is : off ≡ f.off = cc in
        let held : reg ho.regs rs ≡ plain made =
        ap (reg ho.regs) rs_is
        ∙ g.pair z.0.at f.rd f.high (sym z.1) z.4 (read_is (word_at p.texts) z.0.at f.first_word (Some (Auipc f.rd f.high)) f.first f.reads_first) in
        let calls : func_from p.funcs (target made off) ≡ Some z.0.func = ap (λ d. func_from p.funcs (target made d)) off_is ∙ f.calls in
        let starts = start_is p image_kept (target made off) z.0.func calls in
        let to_is : target made off ≡ to = same_Some _ _ (sym starts.3 ∙ z.3) in
        let goes : even (moved_by made off) ≡ target made off = ap even (moved_is made off) ∙ even_whole (target made off) (start_whole p image_kept (target made off) z.0.func calls) in
        let stands : StandsFor c (moved_by hr.pc aim) (even (moved_by made off)) =
        subst (λ y. StandsFor c y (even (moved_by made off))) (sym (moved_is hr.pc aim))
        (subst (λ y. StandsFor c (target hr.pc aim) y) (sym (goes ∙ to_is)) (at_start m)) in
        both_made (Jal rd aim) (Jalr rd rs off) w t refl
        (call_related p c r.memory o.memory rd rs made aim off held stands
        (ap (is_second p.pairs) goes ∙ start_unpaired p image_kept (target made off) z.0.func calls)
        (ap (λ y. list_any (covers y) p.texts) goes ∙ start_covered p image_kept (target made off) z.0.func calls)
        (λ d. follows (Jalr rd rs off) x (nx d).stands (λ rd2 high e. absurd (cc))))

    -- ---- a word that doesn't read, and none
    no_word_made : c.text ho.pc ≡ None → c.word hr.pc ≡ None → IsMade
    unfolding IsMade
    no_word_made t w =
        real (kind_of_row c hr.pc ho.pc None false st (none_read c.text ho.pc t) refl)
        (same_states p c (no_fetched (origin c) p h ho.pc r _ (trap_place (origin c) h r hr er ∙ origin_lands p c (at_start st)) w)
        (no_fetched (λ a. a) p h ho.pc o _ (trap_place (λ a. a) h o ho eo) (sym (code.text ho.pc) ∙ t)) (ended_related p c (Trap 1 ho.pc ho.pc) r o s))

    unread_made : (w : ℕ) → c.text ho.pc ≡ Some w → decoded w ≡ None → c.word hr.pc ≡ Some w → IsMade
    unfolding IsMade
    unread_made w t d u =
        real (kind_of_row c hr.pc ho.pc None false st (read_is c.text ho.pc w None t d) refl)
        (same_states p c (unread_fetched (origin c) p h ho.pc w r _ (trap_place (origin c) h r hr er ∙ origin_lands p c (at_start st)) u d)
        (unread_fetched (λ a. a) p h ho.pc w o _ (trap_place (λ a. a) h o ho eo) (sym (code.text ho.pc) ∙ t) d) (ended_related p c (Trap 2 ho.pc w) r o s))

  -- ---- the words that make an address
  -- after the first word of a pair, its register holds what it makes
  holds_after : (rd imm : ℕ) (held : Option ℕ) → IsTextOf p ho.pc (Auipc rd imm)
      → HoldsPair p (hart_after (next rd (plain (made_by ho.pc imm)) held) ho).pc (hart_after (next rd (plain (made_by ho.pc imm)) held) ho).regs
  unfolding hart_after
  holds_after rd imm held x first rd2 imm2 at u e =
      let here : ho.pc + 4 ≡ first + 4 = sym (after_o (Auipc rd imm) x) ∙ at in
      let same : ho.pc ≡ first = omega (arith, here) in
      let z = second_pair p image_kept (after ho.pc) u in
      let f = z.2 in
      let at_pair = z.1 in
      let pair_here : z.0.at ≡ first = omega (arith, at_pair, at) in
      let own : Some (Auipc rd imm) ≡ Some (Auipc rd2 imm2) = sym (read_is (word_at p.texts) ho.pc x.w (Some (Auipc rd imm)) x.is x.reads) ∙ ap (read (word_at p.texts)) same ∙ e in
      let other : Some (Auipc rd2 imm2) ≡ Some (Auipc f.rd f.high) =
      sym e ∙ ap (read (word_at p.texts)) (sym pair_here) ∙ read_is (word_at p.texts) z.0.at f.first_word (Some (Auipc f.rd f.high)) f.first f.reads_first in
      let rd_is : rd2 ≡ rd = cc in
      let imm_is : imm2 ≡ imm = cc in
      let rd_f : rd ≡ f.rd = cc in
      let small = register_small x.w rd imm x.reads in
      let size = k.original_length in
      ap (reg (with_reg ho.regs rd (plain (made_by ho.pc imm)))) rd_is
      ∙ written_same ho.regs rd (plain (made_by ho.pc imm)) (λ v. f.is_written (sym rd_f ∙ v)) (omega (arith, small, size))
      ∙ ap (λ y. plain (made_by y imm)) same ∙ ap (λ y. plain (made_by first y)) (sym imm_is)

  -- both go on with the original value in the register
  address_made : (rd imm : ℕ) → read c.text ho.pc ≡ Some (Auipc rd imm) → (i : Bool)
      → on_fetched (origin c) p h (c.word hr.pc) r ≡ after_effect (origin c) p h i (next rd (plain (made_by ho.pc imm)) hr.reservation) r
      → is_layout_step c hr.pc ≡ false → StandsFor c (after hr.pc) (ho.pc + 4) → RegsRelatedBut p c rd hr.regs ho.regs → (rd ≡ 0 → RegsRelated p c hr.regs ho.regs) → IsMade
  unfolding IsMade hart_after
  address_made rd imm t i step l m b all =
      let x = text_of (Auipc rd imm) t in
      let v = plain (made_by ho.pc imm) in
      let held = ho.reservation in
      let nr = hart_after (next rd v held) hr in
      let no = hart_after (next rd v held) ho in
      let new_r : on_fetched (origin c) p h (c.word hr.pc) r ≡ with_hart h nr r =
      step ∙ next_after (origin c) p h i rd v hr.reservation r hr er ∙ ap (λ e. with_hart h (hart_after (next rd v e) hr) r) k.reservation in
      let new_o : on_fetched (λ a. a) p h (word_at p.texts ho.pc) o ≡ with_hart h no o =
      step_o (Auipc rd imm) t ∙ ap (λ e. after_effect (λ a. a) p h false e o) (address_effect (λ a. a) o.memory ho rd imm) ∙ next_after (λ a. a) p h false rd v held o ho eo in
      let at = after_o (Auipc rd imm) x in
      let whole_text = text_whole p image_kept ho.pc x.w x.is in
      let high_text = text_high p image_kept ho.pc x.w x.is in
      let goes : GoOnAlike p c nr no = record {
        whole = omega (arith, at, whole_text);
        fits = omega (arith, at, high_text);
        outside = ap (in_range p.region) at ∙ text_outside p image_kept ho.pc x.w x.is (ho.pc + 4) (omega arith) (omega arith);
        pair = holds_after rd imm held x;
        places = whole (subst (λ y. StandsFor c (after hr.pc) y) (sym at) m) (with_reg_related p c hr.regs ho.regs rd v v k.replaced_length k.original_length b all (λ d. both_plain refl refl refl));
        rests = λ e. absurd (not_live e);
      } in
      let status : no.status ≡ (hart_in o.harts h).status = ap (λ (y : Hart). y.status) (sym (hart_at o.harts h ho eo)) in
      real l (same_states p c new_r new_o (moved_on p c h nr no r o s (next_hart p c hr ho rd v v held k goes) status))

  in_place_made : c.point hr.pc ≡ Some (Start ho.pc) → RegsRelated p c hr.regs ho.regs → (rd imm : ℕ) → hr.pc ≡ ho.pc → read c.text ho.pc ≡ Some (Auipc rd imm) → read c.word hr.pc ≡ Some (Auipc rd imm)
      → Next c hr.pc (ho.pc + 4) → IsMade
  in_place_made st b rd imm at t w nx =
      let x = text_of (Auipc rd imm) t in
      let value : effect_of (origin c) r.memory hr (Auipc rd imm) ≡ next rd (plain (made_by ho.pc imm)) hr.reservation =
      address_effect (origin c) r.memory hr rd imm ∙ ap (λ y. next rd (plain (made_by y imm)) hr.reservation) at in
      address_made rd imm t false
      (step_r (Auipc rd imm) w ∙ ap (λ e. after_effect (origin c) p h false e r) value)
      (kind_of_row c hr.pc ho.pc (Some (Auipc rd imm)) false st t (in_place_not_moved hr.pc ho.pc rd imm at))
      (subst (λ y. StandsFor c y (ho.pc + 4)) (sym (after_r st b (Auipc rd imm) x)) nx.stands)
      (λ j d. b j) (λ z. b)

  -- the second word of an address that was moved
  half_made : (b rd high : ℕ) → MovedRow c b ho.pc rd high → hr.pc ≡ b + 4 → reg hr.regs rd ≡ plain (made_by b high) → RegsRelatedBut p c rd hr.regs ho.regs → IsMade
  half_made b rd high m at held rest =
      let x = text_of (Auipc rd m.imm) m.text in
      let low = mid_low b rd high at m.imm x m.mid in
      let value : effect_of (origin c) r.memory hr (AluImm Addi rd rd m.low) ≡ next rd (plain (made_by ho.pc m.imm)) hr.reservation =
      mid_effect (origin c) r.memory hr rd (made_by b high) m.low held (made_small b high) ∙ ap (λ y. next rd (plain y) hr.reservation) m.value in
      address_made rd m.imm m.text false
      (step_r (AluImm Addi rd rd m.low) (ap (read c.word) at ∙ m.second) ∙ ap (λ e. after_effect (origin c) p h false e r) value)
      (ap (is_layout_step c) at ∙ kind_at_mid c (b + 4) ho.pc m.mid)
      (subst (λ y. StandsFor c y (ho.pc + 4)) (sym (after_is hr.pc low ∙ ap (λ y. y + 4) at)) m.next.stands)
      rest (λ z. absurd (m.is_written z))

  -- the first word of an address that was moved: the register is half made, and the original hart stands where it stood
  moved_made : c.point hr.pc ≡ Some (Start ho.pc) → RegsRelated p c hr.regs ho.regs → (rd high : ℕ) → MovedRow c hr.pc ho.pc rd high → IsMade
  unfolding IsMade hart_after
  moved_made st b rd high m =
      let x = text_of (Auipc rd m.imm) m.text in
      let v = plain (made_by hr.pc high) in
      let small = register_small x.w rd m.imm x.reads in
      let size = k.replaced_length in
      let nr = hart_after (next rd v hr.reservation) hr in
      let new_r : on_fetched (origin c) p h (c.word hr.pc) r ≡ with_hart h nr r =
      step_r (Auipc rd high) m.first ∙ ap (λ e. after_effect (origin c) p h false e r) (address_effect (origin c) r.memory hr rd high) ∙ next_after (origin c) p h false rd v hr.reservation r hr er in
      let goes : GoOnAlike p c nr ho = record {
        whole = g.whole;
        fits = g.fits;
        outside = g.outside;
        pair = g.pair;
        places = half hr.pc rd high m (after_r st b (Auipc rd m.imm) x) (written_same hr.regs rd v m.is_written (omega (arith, small, size))) (written_but hr.regs ho.regs rd v b);
        rests = λ e. absurd (not_live e);
      } in
      layout (kind_of_row c hr.pc ho.pc (Some (Auipc rd m.imm)) true st m.text (moved_is_moved hr.pc ho.pc rd m.imm m.is_written (moved_apart p c image_kept code hr.pc ho.pc x.w x.is m.mid)))
      (same_states p c new_r refl (left_on p c h nr ho r o s eo (record {
        replaced_length = length-with_reg hr.regs rd v ∙ k.replaced_length;
        original_length = k.original_length;
        status = k.status;
        reservation = k.reservation;
        clear = k.clear;
        alike = λ e. goes;
      })))

  hop_made : c.point hr.pc ≡ Some (Hop ho.pc) → RegsRelated p c hr.regs ho.regs → HopRow c hr.pc ho.pc → IsMade
  unfolding IsMade
  hop_made st b m =
      let to = target hr.pc m.aim in
      let nr : Hart = record hr { pc = to } in
      let whole_to : origin c to % 4 ≡ 0 = ap (λ y. y % 4) (origin_lands p c (at_start m.start)) ∙ g.whole in
      let new_r : on_fetched (origin c) p h (c.word hr.pc) r ≡ with_hart h nr r =
      step_r (Jal 0 m.aim) m.word ∙ ap (λ e. after_effect (origin c) p h false e r) (jump_effect (origin c) r.memory hr 0 m.aim) ∙ hop_after (origin c) p h to r hr er whole_to in
      let goes : GoOnAlike p c nr ho = record {
        whole = g.whole;
        fits = g.fits;
        outside = g.outside;
        pair = g.pair;
        places = whole (at_start m.start) b;
        rests = λ e. absurd (not_live e);
      } in
      layout (kind_at_hop c hr.pc ho.pc st)
      (same_states p c new_r refl (left_on p c h nr ho r o s eo (record {
        replaced_length = k.replaced_length;
        original_length = k.original_length;
        status = k.status;
        reservation = k.reservation;
        clear = k.clear;
        alike = λ e. goes;
      })))

  -- ---- all rows
  start_made : c.point hr.pc ≡ Some (Start ho.pc) → RegsRelated p c hr.regs ho.regs → StartRow c hr.pc ho.pc → IsMade
  start_made st b (no_word t w) = no_word_made st b t w
  start_made st b (unread w t d u) = unread_made st b w t d u
  start_made st b (kept w i t d m u nx) = kept_made st b w i t d m u nx
  start_made st b (address_in_place rd imm at t w nx) = in_place_made st b rd imm at t w nx
  start_made st b (address_moved rd high m) = moved_made st b rd high m
  start_made st b (rows.jump rd off aim t w m nx) = jump_made st b rd off aim t w m.stands nx
  start_made st b (rows.site rd to off aim t e w m nx) = site_made st b rd to off aim t e w m nx
  start_made st b (jump_register w rd rs off t d u nx) = jump_register_made st b w rd rs off t d u nx
  start_made st b (call_second rd rs to off aim t e w m nx) = call_made st b rd rs to off aim t e w m nx
  start_made st b (branch j rs1 rs2 off aim t w m nx) = branch_made st b j rs1 rs2 off aim t w m nx
  start_made st b (branch_inverted j rs1 rs2 off aim t w m nx) = inverted_made st b j rs1 rs2 off aim t w m nx

  whole_made : StandsFor c hr.pc ho.pc → RegsRelated p c hr.regs ho.regs → IsMade
  whole_made (at_start st) b = start_made st b (n.starts hr.pc ho.pc st)
  whole_made (at_hop st) b = hop_made st b (n.hops hr.pc ho.pc st)

  place_made : PlacesRelated p c hr.pc hr.regs ho.pc ho.regs → IsMade
  place_made (whole m b) = whole_made m b
  place_made (half b rd high m at held rest) = half_made b rd high m at held rest

  -- the law of one word
  pub made : IsMade
  made = place_made g.places
