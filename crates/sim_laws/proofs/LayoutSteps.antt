-- At most two steps of the layout alone stand before one that the original machine makes too.
use Rattle.std.proofs.Common.{◌≡◌, ◌≢◌, ℕ, zero, suc, ◌+◌, ◌%◌, ◌<◌, Bool, true, false, cond, refl, sym, ap, ◌∙◌, subst, arith}
use Rattle.std.specs.Prelude.{List, Option, Some, None, ◌&&◌, is_some, slice_get, slice_set}
use Rattle.std.proofs.lemmas.Bool.{false≢true, and_parts}
use Rattle.rv_isa.specs.declared.instr.Instr.{Instr}
use Rattle.rv_isa.specs.declared.instr.Instr.TheVariants.{Auipc, Jal}
use Rattle.image.specs.Targets.{target, made_by}
use Rattle.image.specs.Picture.{Picture}
use Rattle.image.specs.Picture as image
use Rattle.link_tags.specs.declared.value.Value.{Value}
use Rattle.link_tags.specs.Values.{plain}
use Rattle.hart.specs.declared.hart.Hart.{Hart}
use Rattle.hart.specs.Harts.{with_reg, after}
use Rattle.hart.specs.Effects.{next, hart_after}
use Rattle.layout.specs.declared.point.Point.{Point}
use Rattle.layout.specs.declared.point.Point.TheVariants.{Start, Hop, Mid}
use Rattle.layout.specs.Points.{Code, at_start, read}
use Rattle.layout.specs.Rows as rows
use Rattle.layout.specs.Rows.{StartRow, no_word, unread, kept, address_in_place, address_moved, jump_register, call_second, branch, branch_inverted, MovedRow, HopRow, Renders}
use Rattle.layout.proofs.TextRows.{read_is, read_back}
use Rattle.machine.specs.Harts.{is_live, hart_in}
use Rattle.machine.specs.States.{State}
use Rattle.machine.specs.Steps.{with_hart, after_effect, on_fetched, settled, step_with}
use Rattle.sim_laws.specs.declared.stepped.Stepped.{Stepped}
use Rattle.sim_laws.specs.declared.stepped.Stepped.TheVariants.{Real, Layout, Over}
use Rattle.sim_laws.specs.Origins.{origin, is_layout_point, is_layout_step}
use Rattle.sim_laws.specs.Codes.{IsCodeOf}
use Rattle.sim_laws.specs.Steps.{replaced_step, stepped, is_layout, kind_until}
use Rattle.sim_laws.proofs.Arithmetic.{after_is}
use Rattle.sim_laws.proofs.CodeFacts.{text_word, start_low}
use Rattle.sim_laws.proofs.Lands.{origin_lands}
use Rattle.sim_laws.proofs.HartLists.{hart_at, live_at, get_set}
use Rattle.sim_laws.proofs.Settled.{next_after, hop_after, settled_live}
use Rattle.sim_laws.proofs.OneWord.{kind_at_hop, kind_of_row, kept_not_moved, in_place_not_moved, address_effect, jump_effect, read_fetched, none_read}

-- how many steps of the layout may stand before another one at a point
abbrev rank_of : Bool → Option Point → ℕ
rank_of b None = 0
rank_of b (Some (Start x)) = cond b 1 0
rank_of b (Some (Hop x)) = 2
rank_of b (Some (Mid x)) = 0

abbrev rank : Code → ℕ → ℕ
rank c a = rank_of (is_layout_step c a) (c.point a)

kind_at : (c : Code) (a : ℕ) (q : Option Point) → c.point a ≡ q → is_layout_step c a ≡ is_layout_point c a q
unfolding is_layout_step
kind_at c a q e = ap (is_layout_point c a) e

rank_at : (c : Code) (a : ℕ) (b : Bool) (q : Option Point) → is_layout_step c a ≡ b → c.point a ≡ q → rank c a ≡ rank_of b q
rank_at c a b q l e = λ i. rank_of (l i) (e i)

rank_at_start : (c : Code) (a x : ℕ) → c.point a ≡ Some (Start x) → rank c a < 2
rank_at_start c a x e = subst (λ n. n < 2) (sym (rank_at c a (is_layout_step c a) (Some (Start x)) refl e)) (small (is_layout_step c a))
  where
    small : (b : Bool) → cond b 1 0 < 2
    small true = omega arith
    small false = omega arith

rank_small : (c : Code) (a : ℕ) → rank c a < 3
rank_small c a = small (is_layout_step c a) (c.point a)
  where
    small : (b : Bool) (q : Option Point) → rank_of b q < 3
    small b None = omega arith
    small true (Some (Start x)) = omega arith
    small false (Some (Start x)) = omega arith
    small b (Some (Hop x)) = omega arith
    small b (Some (Mid x)) = omega arith

no : {b : Bool} {A : Type 0} → b ≡ false → b ≡ true → A
no f t = absurd (false≢true (sym f ∙ t))

-- what a step of the layout makes of its hart, by what its word reads as
abbrev pub hart_led : Option Instr → Hart → Hart
hart_led (Some (Auipc rd imm)) h = record h { regs = with_reg h.regs rd (plain (made_by h.pc imm)); pc = after h.pc }
hart_led (Some (Jal rd off)) h = record h { pc = target h.pc off }
hart_led _ h = h

-- it changes the hart's pc and registers alone
led_alone : (o : Option Instr) (h : Hart) → hart_led o h ≡ record h { regs = (hart_led o h).regs; pc = (hart_led o h).pc }
led_alone None h = refl
led_alone (Some (Auipc rd imm)) h = refl
led_alone (Some (Jal rd off)) h = refl
led_alone (Some i) h = refl

-- where a step of the layout leads
record Leads (p : Picture) (c : Code) (h : ℕ) (hart : Hart) (r : State) : Type 0 where
  new : Hart
  is : new ≡ hart_led (read c.word hart.pc) hart
  status : new.status ≡ hart.status
  step : on_fetched (origin c) p h (c.word hart.pc) r ≡ with_hart h new r
  less : rank c new.pc < rank c hart.pc

module _ (p : Picture) (c : Code) (image_kept : image.IsKept p) (code : IsCodeOf p c) (n : Renders c) (h : ℕ) (hart : Hart) (r : State) (at : slice_get r.harts h ≡ Some hart) where
  from_hop : (x : ℕ) → c.point hart.pc ≡ Some (Hop x) → HopRow c hart.pc x → Leads p c h hart r
  from_hop x s m =
      let to = target hart.pc m.aim in
      let whole : origin c to % 4 ≡ 0 = ap (λ y. y % 4) (origin_lands p c (at_start m.start)) ∙ code.hops hart.pc x s in
      let less = rank_at_start c to x m.start in
      let here = rank_at c hart.pc true (Some (Hop x)) (kind_at_hop c hart.pc x s) s in
      record {
        new = record hart { pc = to };
        is = sym (ap (λ o. hart_led o hart) m.word);
        status = refl;
        step = read_fetched (origin c) p h r hart c.word (Jal 0 m.aim) at m.word
            ∙ ap (λ e. after_effect (origin c) p h false e r) (jump_effect (origin c) r.memory hart 0 m.aim) ∙ hop_after (origin c) p h to r hart at whole;
        less = omega (arith, less, here);
      }

  from_moved : (x rd high : ℕ) → c.point hart.pc ≡ Some (Start x) → is_layout_step c hart.pc ≡ true → MovedRow c hart.pc x rd high → Leads p c h hart r
  unfolding hart_after
  from_moved x rd high s l m =
      let v = plain (made_by hart.pc high) in
      let b = read_back c.text x (Auipc rd m.imm) m.text in
      let follows = after_is hart.pc (start_low p c image_kept code hart.pc x b.0 s (text_word p c image_kept code x b.0 b.1)) in
      let there : rank c (after hart.pc) ≡ 0 = ap (rank c) follows ∙ rank_at c (hart.pc + 4) (is_layout_step c (hart.pc + 4)) (Some (Mid x)) refl m.mid in
      let here = rank_at c hart.pc true (Some (Start x)) l s in
      record {
        new = hart_after (next rd v hart.reservation) hart;
        is = sym (ap (λ o. hart_led o hart) m.first);
        status = refl;
        step = read_fetched (origin c) p h r hart c.word (Auipc rd high) at m.first
            ∙ ap (λ e. after_effect (origin c) p h false e r) (address_effect (origin c) r.memory hart rd high) ∙ next_after (origin c) p h false rd v hart.reservation r hart at;
        less = omega (arith, there, here);
      }

  from_start : (x : ℕ) → c.point hart.pc ≡ Some (Start x) → is_layout_step c hart.pc ≡ true → StartRow c hart.pc x → Leads p c h hart r
  from_start x s l (address_moved rd high m) = from_moved x rd high s l m
  from_start x s l (no_word t w) = no (kind_of_row c hart.pc x None false s (none_read c.text x t) refl) l
  from_start x s l (unread w t d u) = no (kind_of_row c hart.pc x None false s (read_is c.text x w None t d) refl) l
  from_start x s l (kept w i t d m u nx) = no (kind_of_row c hart.pc x (Some i) false s (read_is c.text x w (Some i) t d) (kept_not_moved hart.pc x i m)) l
  from_start x s l (address_in_place rd imm e t w nx) = no (kind_of_row c hart.pc x _ false s t (in_place_not_moved hart.pc x rd imm e)) l
  from_start x s l (rows.jump rd off aim t w m nx) = no (kind_of_row c hart.pc x _ false s t refl) l
  from_start x s l (rows.site rd to off aim t e w m nx) = no (kind_of_row c hart.pc x _ false s t refl) l
  from_start x s l (jump_register w rd rs off t d u nx) = no (kind_of_row c hart.pc x _ false s (read_is c.text x w _ t d) refl) l
  from_start x s l (call_second rd rs to off aim t e w m nx) = no (kind_of_row c hart.pc x _ false s t refl) l
  from_start x s l (branch j rs1 rs2 off aim t w m nx) = no (kind_of_row c hart.pc x _ false s t refl) l
  from_start x s l (branch_inverted j rs1 rs2 off aim t w m nx) = no (kind_of_row c hart.pc x _ false s t refl) l

  leads : (q : Option Point) → c.point hart.pc ≡ q → is_layout_step c hart.pc ≡ true → Leads p c h hart r
  leads None s l = no (kind_at c hart.pc None s) l
  leads (Some (Start x)) s l = from_start x s l (n.starts hart.pc x s)
  leads (Some (Hop x)) s l = from_hop x s (n.hops hart.pc x s)
  leads (Some (Mid x)) s l = no (kind_at c hart.pc (Some (Mid x)) s) l

-- ---- a step of the layout
pub record IsLayoutStep (c : Code) (h : ℕ) (r : State) : Type 0 where
  pub going : is_some r.outcome ≡ false
  pub live : is_live (hart_in r.harts h).status ≡ true
  pub at : is_layout_step c (hart_in r.harts h).pc ≡ true

pub layout_of : (c : Code) (h : ℕ) (r : State) → is_layout (stepped c h r) ≡ true → IsLayoutStep c h r
unfolding stepped
layout_of c h r e = by_outcome (is_some r.outcome) (is_live (hart_in r.harts h).status && is_layout_step c (hart_in r.harts h).pc) refl refl e
  where
    by_outcome : (x y : Bool) → is_some r.outcome ≡ x → (is_live (hart_in r.harts h).status && is_layout_step c (hart_in r.harts h).pc) ≡ y → is_layout (cond x Over (cond y Layout Real)) ≡ true → IsLayoutStep c h r
    by_outcome true y f g e = absurd (cc)
    by_outcome false true f g e = let b = and_parts (is_live (hart_in r.harts h).status) (is_layout_step c (hart_in r.harts h).pc) g in record { going = f; live = b.0; at = b.1 }
    by_outcome false false f g e = absurd (cc)

-- what a step of a live hart makes of a run that goes on
pub stepped_to : (fetch : ℕ → Option ℕ) (org : ℕ → ℕ) (p : Picture) (h : ℕ) (s : State) → is_some s.outcome ≡ false → is_live (hart_in s.harts h).status ≡ true
    → step_with fetch org p h s ≡ settled (on_fetched org p h (fetch (hart_in s.harts h).pc) s)
unfolding step_with
stepped_to fetch org p h s e l = rw (e, l) refl

module _ (p : Picture) (c : Code) (image_kept : image.IsKept p) (code : IsCodeOf p c) (n : Renders c) (h : ℕ) where
  -- what a step of the layout makes
  pub led_is : (r : State) → IsLayoutStep c h r → replaced_step p c h r ≡ with_hart h (hart_led (read c.word (hart_in r.harts h).pc) (hart_in r.harts h)) r
  unfolding replaced_step
  led_is r k =
      let hart = hart_in r.harts h in
      let at = live_at r.harts h k.live in
      let l = leads p c image_kept code n h hart r at (c.point hart.pc) refl k.at in
      let there : hart_in (slice_set r.harts h l.new) h ≡ l.new = hart_at (slice_set r.harts h l.new) h l.new (get_set r.harts h hart l.new at) in
      let live : is_live (hart_in (slice_set r.harts h l.new) h).status ≡ true = ap (λ (x : Hart). is_live x.status) there ∙ ap is_live l.status ∙ k.live in
      let to : replaced_step p c h r ≡ with_hart h l.new r =
      stepped_to c.word (origin c) p h r k.going k.live ∙ ap settled l.step ∙ settled_live h (with_hart h l.new r) live in
      to ∙ ap (λ (x : Hart). with_hart h x r) l.is

  -- a step of the layout changes the hart's registers and pc alone
  pub moves_alone : (r : State) → IsLayoutStep c h r → (regs : List Value) × (pc : ℕ) × (replaced_step p c h r ≡ with_hart h (record (hart_in r.harts h) { regs = regs; pc = pc }) r)
  moves_alone r k =
      let hart = hart_in r.harts h in
      let new = hart_led (read c.word hart.pc) hart in
      (new.regs, new.pc, led_is r k ∙ ap (λ (x : Hart). with_hart h x r) (led_alone (read c.word hart.pc) hart))

  -- after a step of the layout the hart stands at a place of a lesser rank
  less_after : (r : State) → IsLayoutStep c h r → rank c (hart_in (replaced_step p c h r).harts h).pc < rank c (hart_in r.harts h).pc
  unfolding replaced_step
  less_after r k =
      let hart = hart_in r.harts h in
      let at = live_at r.harts h k.live in
      let l = leads p c image_kept code n h hart r at (c.point hart.pc) refl k.at in
      let there : hart_in (slice_set r.harts h l.new) h ≡ l.new = hart_at (slice_set r.harts h l.new) h l.new (get_set r.harts h hart l.new at) in
      let live : is_live (hart_in (slice_set r.harts h l.new) h).status ≡ true = ap (λ (x : Hart). is_live x.status) there ∙ ap is_live l.status ∙ k.live in
      let to : replaced_step p c h r ≡ with_hart h l.new r =
      stepped_to c.word (origin c) p h r k.going k.live ∙ ap settled l.step ∙ settled_live h (with_hart h l.new r) live in
      let place : (hart_in (replaced_step p c h r).harts h).pc ≡ l.new.pc = ap (λ (s : State). (hart_in s.harts h).pc) to ∙ ap (λ (x : Hart). x.pc) there in
      subst (λ a. rank c a < rank c hart.pc) (sym place) l.less

  not_layout : (k : Stepped) → is_layout k ≡ false → k ≢ Layout
  not_layout Layout e f = cc
  not_layout Real e f = cc
  not_layout Over e f = cc

  until_is_real : (m : ℕ) (r : State) → rank c (hart_in r.harts h).pc < m → kind_until p c m h r ≢ Layout
  unfolding kind_until
  until_is_real zero r b = absurd (omega (arith, b))
  until_is_real (suc m) r b =
      by_first (is_layout (stepped c h r)) refl
      (λ t. (let less = less_after r (layout_of c h r t) in until_is_real m (replaced_step p c h r) (omega (arith, less, b))))
    where
      by_first : (t : Bool) → is_layout (stepped c h r) ≡ t → (t ≡ true → kind_until p c m h (replaced_step p c h r) ≢ Layout)
          → cond t (kind_until p c m h (replaced_step p c h r)) (stepped c h r) ≢ Layout
      by_first true e f = f refl
      by_first false e f = not_layout (stepped c h r) e

  -- the third step at most is no step of the layout
  pub real_is_real : (r : State) → kind_until p c 3 h r ≢ Layout
  real_is_real r = until_is_real 3 r (rank_small c (hart_in r.harts h).pc)
