-- Both machines make the same transfers, by original addresses.
use Rattle.std.proofs.Common.{◌≡◌, ℕ, ◌+◌, Bool, true, false, cond, refl, sym, ap, ◌∙◌, subst}
use Rattle.std.specs.Prelude.{List, Option, Some, None, ◌&&◌, not, is_some}
use Rattle.std.specs.Option.{option_map_or}
use Rattle.std.proofs.lemmas.Bool.{false≢true, and_parts}
use Rattle.rv_isa.specs.declared.instr.Instr.{Instr}
use Rattle.image.specs.Texts.{word_at}
use Rattle.image.specs.Picture.{Picture}
use Rattle.image.specs.Picture as image
use Rattle.link_tags.specs.declared.value.Value.{Value}
use Rattle.guest_sys.specs.State.{IsOrderly}
use Rattle.hart.specs.declared.hart.Hart.{Hart}
use Rattle.layout.specs.declared.point.Point.TheVariants.{Hop}
use Rattle.layout.specs.Points.{Code, StandsFor, at_start, at_hop, read}
use Rattle.layout.specs.Rows as rows
use Rattle.layout.specs.Rows.{StartRow, no_word, unread, kept, address_in_place, address_moved, jump_register, call_second, branch, branch_inverted, MovedRow, Renders}
use Rattle.machine.specs.Harts.{is_live, hart_in}
use Rattle.machine.specs.States.{State}
use Rattle.machine.specs.Steps.{place_of, can_step, step_with, original_step}
use Rattle.machine.specs.Transfers.{transfers, is_transfer, transfer_on, transfer_with, original_transfer}
use Rattle.machine.proofs.Transferring.{transfer_live}
use Rattle.sim_laws.specs.declared.stepped.Stepped.{Stepped}
use Rattle.sim_laws.specs.declared.stepped.Stepped.TheVariants.{Real, Layout, Over}
use Rattle.sim_laws.specs.Origins.{origin, origin_of, is_layout_step}
use Rattle.sim_laws.specs.Codes.{IsCodeOf}
use Rattle.sim_laws.specs.Related.{PlacesRelated, whole, half, StatesRelated}
use Rattle.sim_laws.specs.Steps.{replaced_step, replaced_transfer, transfer_after, stepped, original_after}
use Rattle.sim_laws.proofs.HartLists.{hart_at}
use Rattle.sim_laws.proofs.Lands.{origin_lands}
use Rattle.sim_laws.proofs.OneWord.{kind_at_hop}
use Rattle.sim_laws.proofs.Forward.{AtBoth, no_harts, both_harts, at_both, live_same, none_at, not_ended, forward}

-- ---- one word
-- words that read alike
read_alike : (words texts : ℕ → Option ℕ) (a x : ℕ) (i j : Instr) → read words a ≡ Some i → read texts x ≡ Some j → transfers i ≡ transfers j → is_transfer (words a) ≡ is_transfer (texts x)
unfolding read
read_alike words texts a x i j e f t = ap (λ o. option_map_or transfers o false) e ∙ t ∙ sym (ap (λ o. option_map_or transfers o false) f)

module _ (c : Code) where
  -- a word at a Start and the original one are both transfers, or neither is
  at_row : (a x : ℕ) → StartRow c a x → is_transfer (c.word a) ≡ is_transfer (c.text x)
  at_row a x (no_word t w) = ap is_transfer w ∙ sym (ap is_transfer t)
  at_row a x (unread w t d u) = ap is_transfer u ∙ sym (ap is_transfer t)
  at_row a x (kept w i t d m u nx) = ap is_transfer u ∙ sym (ap is_transfer t)
  at_row a x (address_in_place rd imm e t w nx) = read_alike c.word c.text a x _ _ w t refl
  at_row a x (address_moved rd high m) = read_alike c.word c.text a x _ _ m.first m.text refl
  at_row a x (rows.jump rd off aim t w m nx) = read_alike c.word c.text a x _ _ w t refl
  at_row a x (rows.site rd to off aim t e w m nx) = read_alike c.word c.text a x _ _ w t refl
  at_row a x (jump_register w rd rs off t d u nx) = ap is_transfer u ∙ sym (ap is_transfer t)
  at_row a x (call_second rd rs to off aim t e w m nx) = read_alike c.word c.text a x _ _ w t refl
  at_row a x (branch j rs1 rs2 off aim t w m nx) = read_alike c.word c.text a x _ _ w t refl
  at_row a x (branch_inverted j rs1 rs2 off aim t w m nx) = read_alike c.word c.text a x _ _ w t refl

  no_layout_hop : (a x : ℕ) → c.point a ≡ Some (Hop x) → is_layout_step c a ≡ false → is_transfer (c.word a) ≡ is_transfer (c.text x)
  no_layout_hop a x s l = absurd (false≢true (sym l ∙ kind_at_hop c a x s))

  at_point : Renders c → (a x : ℕ) → StandsFor c a x → is_layout_step c a ≡ false → is_transfer (c.word a) ≡ is_transfer (c.text x)
  at_point n a x (at_start s) l = at_row a x (n.starts a x s)
  at_point n a x (at_hop s) l = no_layout_hop a x s l

module _ (p : Picture) (c : Code) where
  -- a word where a hart stands, but at a step of the layout, and the original one
  at_place : Renders c → (a x : ℕ) (rs os : List Value) → PlacesRelated p c a rs x os → is_layout_step c a ≡ false → is_transfer (c.word a) ≡ is_transfer (c.text x)
  at_place n a x rs os (whole m b) l = at_point c n a x m l
  at_place n a x rs os (half b rd high m at held rest) l =
      ap (λ y. is_transfer (c.word y)) at ∙ read_alike c.word c.text (b + 4) x _ _ m.second m.text refl

  -- ---- where harts stand
  half_place : (a b x rd high : ℕ) → MovedRow c b x rd high → a ≡ b + 4 → origin c a ≡ x
  unfolding origin
  half_place a b x rd high m at = ap (λ y. origin_of y (c.point y)) at ∙ ap (origin_of (b + 4)) m.mid

  place_by : (a x : ℕ) (rs os : List Value) → PlacesRelated p c a rs x os → origin c a ≡ x
  place_by a x rs os (whole m b) = origin_lands p c m
  place_by a x rs os (half b rd high m at held rest) = half_place a b x rd high m at

  place_at : (h : ℕ) (rs os : List Hart) → AtBoth p c h rs os → is_live (hart_in os h).status ≡ true → origin c (hart_in rs h).pc ≡ (hart_in os h).pc
  place_at h rs os (no_harts e f) l = absurd (false≢true (sym (ap (λ (x : Hart). is_live x.status) (none_at os h f)) ∙ l))
  place_at h rs os (both_harts hr ho e f k) l =
      let at_o = hart_at os h ho f in
      let live : is_live ho.status ≡ true = ap (λ (x : Hart). is_live x.status) (sym at_o) ∙ l in
      let g = k.alike (not_ended ho.status live) in
      ap (λ (x : Hart). origin c x.pc) (hart_at rs h hr e) ∙ place_by hr.pc ho.pc hr.regs ho.regs g.places ∙ sym (ap (λ (x : Hart). x.pc) at_o)

  -- live harts of related states stand at the same original address
  place_same : (h : ℕ) (r o : State) → StatesRelated p c r o → is_live (hart_in o.harts h).status ≡ true → place_of (origin c) h r ≡ place_of (λ a. a) h o
  place_same h r o s l = place_at h r.harts o.harts (at_both p c h r o s) l

  word_at_both : Renders c → IsCodeOf p c → (h : ℕ) (rs os : List Hart) → AtBoth p c h rs os → is_live (hart_in os h).status ≡ true → is_layout_step c (hart_in rs h).pc ≡ false
      → is_transfer (c.word (hart_in rs h).pc) ≡ is_transfer (word_at p.texts (hart_in os h).pc)
  word_at_both n code h rs os (no_harts e f) l kind = absurd (false≢true (sym (ap (λ (x : Hart). is_live x.status) (none_at os h f)) ∙ l))
  word_at_both n code h rs os (both_harts hr ho e f k) l kind =
      let at_r = hart_at rs h hr e in
      let at_o = hart_at os h ho f in
      let live : is_live ho.status ≡ true = ap (λ (x : Hart). is_live x.status) (sym at_o) ∙ l in
      let g = k.alike (not_ended ho.status live) in
      let here : is_layout_step c hr.pc ≡ false = ap (λ (x : Hart). is_layout_step c x.pc) (sym at_r) ∙ kind in
      ap (λ (x : Hart). is_transfer (c.word x.pc)) at_r
      ∙ at_place n hr.pc ho.pc hr.regs ho.regs g.places here
      ∙ ap is_transfer (code.text ho.pc)
      ∙ sym (ap (λ (x : Hart). is_transfer (word_at p.texts x.pc)) at_o)

-- ---- one step
real_kind : (c : Code) (h : ℕ) (r : State) → stepped c h r ≡ Real → is_live (hart_in r.harts h).status ≡ true → is_layout_step c (hart_in r.harts h).pc ≡ false
unfolding stepped
real_kind c h r e l = by_tests (is_some r.outcome) (is_live (hart_in r.harts h).status) (is_layout_step c (hart_in r.harts h).pc) e l
  where
    by_tests : (x y z : Bool) → cond x Over (cond (y && z) Layout Real) ≡ Real → y ≡ true → z ≡ false
    by_tests true y z e l = absurd cc
    by_tests false false z e l = absurd cc
    by_tests false true true e l = absurd cc
    by_tests false true false e l = refl

over_ends : (c : Code) (h : ℕ) (r : State) → stepped c h r ≡ Over → is_some r.outcome ≡ true
unfolding stepped
over_ends c h r e = by_tests (is_some r.outcome) (is_live (hart_in r.harts h).status && is_layout_step c (hart_in r.harts h).pc) e
  where
    by_tests : (x y : Bool) → cond x Over (cond y Layout Real) ≡ Over → x ≡ true
    by_tests true y e = refl
    by_tests false true e = absurd cc
    by_tests false false e = absurd cc

idle_transfer : (fetch : ℕ → Option ℕ) (org : ℕ → ℕ) (p : Picture) (h : ℕ) (s : State) → can_step h s ≡ false → transfer_with fetch org p h s ≡ None
unfolding transfer_with
idle_transfer fetch org p h s e = rw e refl

if_same : (t u : Bool) (a b x y : ℕ) → t ≡ u → a ≡ x → (u ≡ true → b ≡ y) → cond {A = Option (ℕ × ℕ)} t (Some (a, b)) None ≡ cond {A = Option (ℕ × ℕ)} u (Some (x, y)) None
if_same true true a b x y e f g = λ i. Some (f i, g refl i)
if_same false false a b x y e f g = refl
if_same true false a b x y e f g = absurd cc
if_same false true a b x y e f g = absurd cc

live_is : (fetch : ℕ → Option ℕ) (org : ℕ → ℕ) (p : Picture) (h : ℕ) (s : State) → can_step h s ≡ true
    → transfer_with fetch org p h s ≡ transfer_on org h (fetch (hart_in s.harts h).pc) s (step_with fetch org p h s)
unfolding transfer_with
live_is fetch org p h s can = rw can refl

module _ (p : Picture) (c : Code) (image_kept : image.IsKept p) (code : IsCodeOf p c) (n : Renders c) (h : ℕ) (r o : State) (q : IsOrderly r.system) (s : StatesRelated p c r o) where
  can_same : can_step h r ≡ can_step h o
  can_same = λ i. not (is_some (s.outcome i)) && live_same p c h r o s i

  after_real : stepped c h r ≡ Real → StatesRelated p c (replaced_step p c h r) (original_step p h o)
  after_real e = subst (λ (k : Stepped). StatesRelated p c (replaced_step p c h r) (original_after k p h o)) e (forward p c image_kept code n h r o q s)

  live_transfer : stepped c h r ≡ Real → can_step h o ≡ true → transfer_with c.word (origin c) p h r ≡ original_transfer p h o
  unfolding original_transfer replaced_step original_step
  live_transfer e can =
      let live_o = (and_parts (not (is_some o.outcome)) (is_live (hart_in o.harts h).status) can).1 in
      let kind = real_kind c h r e (live_same p c h r o s ∙ live_o) in
      let word = word_at_both p c n code h r.harts o.harts (at_both p c h r o s) live_o kind in
      let next = after_real e in
      let text = word_at p.texts in
      let jumps = is_transfer (text (hart_in o.harts h).pc) in
      let goes_on = not (is_some (original_step p h o).outcome) in
      live_is c.word (origin c) p h r (can_same ∙ can)
      ∙ if_same _ (jumps && goes_on) _ _ _ _ (λ i. word i && not (is_some (next.outcome i)))
      (place_same p c h r o s live_o)
      (λ t. place_same p c h (replaced_step p c h r) (original_step p h o) next (transfer_live text (λ a. a) p h o can (and_parts jumps goes_on t).0))
      ∙ sym (live_is text (λ a. a) p h o can)

  by_can : (b : Bool) → can_step h o ≡ b → stepped c h r ≡ Real → transfer_with c.word (origin c) p h r ≡ original_transfer p h o
  unfolding original_transfer
  by_can true can e = live_transfer e can
  by_can false can e = idle_transfer c.word (origin c) p h r (can_same ∙ can) ∙ sym (idle_transfer (word_at p.texts) (λ a. a) p h o can)

  by_kind : (k : Stepped) → stepped c h r ≡ k → replaced_transfer p c h r ≡ transfer_after k p h o
  unfolding replaced_transfer
  by_kind Real e = rw e (by_can (can_step h o) refl e)
  by_kind Layout e = rw e refl
  by_kind Over e = rw e (idle_transfer c.word (origin c) p h r (ap (λ b. not b && is_live (hart_in r.harts h).status) (over_ends c h r e)))

  -- the law of transfers
  pub transferred : replaced_transfer p c h r ≡ transfer_after (stepped c h r) p h o
  transferred = by_kind (stepped c h r) refl
