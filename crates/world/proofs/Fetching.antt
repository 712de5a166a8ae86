-- What is fetched is a step of layouts alone, or the word that a step is made on.
use Rattle.std.proofs.Common.{◌≡◌, ◌≢◌, ℕ, Bool, true, false, cond, not, List, refl, sym, ap, ◌∙◌, arith}
use Rattle.std.specs.Prelude.{Option, Some, None, is_some}
use Rattle.std.specs.Option.{option_map}
use Rattle.std.proofs.lemmas.Bool.{eq-eqb, ne_eqb, false≢true}
use Rattle.rv_isa.specs.Decoded.{decoded}
use Rattle.rv_isa.specs.declared.instr.Instr.{Instr}
use Rattle.rv_isa.specs.declared.instr.Instr.TheVariants.{Auipc}
use Rattle.image.specs.declared.ranges.TextRange.{TextRange}
use Rattle.image.specs.Texts.{word_at}
use Rattle.image.specs.Picture.{Picture}
use Rattle.image.specs.Picture as image
use Rattle.hart.specs.declared.hart.Hart.{Hart}
use Rattle.machine.specs.Harts.{is_live, hart_in}
use Rattle.machine.specs.States.{State}
use Rattle.layout.specs.declared.point.Point.{Point}
use Rattle.layout.specs.declared.point.Point.TheVariants.{Start, Hop, Mid}
use Rattle.layout.specs.Laid.{Laid}
use Rattle.layout.specs.Points.{Code, Here, live_at, in_range, read}
use Rattle.layout.specs.Rows as rows
use Rattle.layout.specs.Rows.{IsKept, StartRow, no_word, unread, kept, address_in_place, address_moved, jump_register, call_second, branch, branch_inverted, Renders}
use Rattle.layout.proofs.TextRows.{read_is, read_back}
use Rattle.layout.proofs.TextWords.{text_outside}
use Rattle.sim_laws.specs.Origins.{is_moved_address, is_layout_point, is_layout_step}
use Rattle.sim_laws.specs.declared.stepped.Stepped.TheVariants.{Real, Layout}
use Rattle.sim_laws.specs.Steps.{stepped, is_layout}
use Rattle.sim_laws.proofs.OneWord.{kept_not_moved, moved_is_moved, none_read}
use Rattle.world.specs.declared.code.Fetched.{Fetched}
use Rattle.world.specs.declared.code.Fetched.TheVariants as fetched
use Rattle.world.specs.Fetching.{both, word_as, is_address, fetched_at, fetched_of, is_layout_fetch, word_of}
use Rattle.world.specs.Worlds.{code_in}
use Rattle.world.proofs.Following.{never_moved}

pub layout_at : (c : Code) (a : ℕ) (q : Option Point) → c.point a ≡ q → is_layout_step c a ≡ is_layout_point c a q
unfolding is_layout_step
layout_at c a q e = ap (is_layout_point c a) e

fetched_by : (c : Code) (a : ℕ) (b : Bool) (w : Option ℕ) → is_layout_step c a ≡ b → c.word a ≡ w → cond b fetched.Layout (word_as w) ≡ fetched_at c a
unfolding fetched_at
fetched_by c a b w e f = sym (λ i. cond (e i) fetched.Layout (word_as (f i)))

-- ---- text
pub text_step : (p : Picture) (text : List TextRange) (lives : List Laid) (a : ℕ) → in_range p.region a ≡ false → is_layout_step (code_in p text lives) a ≡ false
text_step p text lives a out = layout_at (code_in p text lives) a (Some (Start a)) (rw out refl) ∙ never_moved a (read (word_at p.texts) a)

pub fetched_in_text : (p : Picture) (text : List TextRange) (lives : List Laid) (a : ℕ) → in_range p.region a ≡ false
    → (o : Option ℕ) → o ≡ word_at text a → word_as o ≡ fetched_at (code_in p text lives) a
fetched_in_text p text lives a out o e =
    ap word_as e ∙ fetched_by (code_in p text lives) a false (word_at text a) (text_step p text lives a out) (rw out refl)

-- ---- the region
kept_no_address : (i : Instr) → IsKept i → is_address (Some i) ≡ false
kept_no_address (Auipc rd imm) k = rw (eq-eqb rd 0 k) refl
kept_no_address _ k = refl

module _ (p : Picture) (image_kept : image.IsKept p) (c : Code) (same : (x : ℕ) → c.text x ≡ word_at p.texts x) (a : ℕ) (inside : in_range p.region a ≡ true) where
  -- a word of the original program doesn't stand in the region
  elsewhere : (x : ℕ) (i : Instr) → read c.text x ≡ Some i → a ≢ x
  elsewhere x i t e =
      let b = read_back c.text x i t in
      let out = text_outside p image_kept x b.0 (sym (same x) ∙ b.1) x (omega arith) (omega arith) in
      false≢true (sym out ∙ ap (in_range p.region) (sym e) ∙ inside)

  by_reads : (x : ℕ) (i j : Option Instr) → read c.text x ≡ i → read c.word a ≡ j → is_moved_address a x i ≡ is_address j → is_moved_address a x (read c.text x) ≡ is_address (read c.word a)
  by_reads x i j t w e = ap (is_moved_address a x) t ∙ e ∙ sym (ap is_address w)

  -- the word now tells whether the original one is an AUIPC that was moved
  row_address : (x : ℕ) → StartRow c a x → is_moved_address a x (read c.text x) ≡ is_address (read c.word a)
  row_address x (no_word t w) = by_reads x None None (none_read c.text x t) (none_read c.word a w) refl
  row_address x (unread w t d u) = by_reads x None None (read_is c.text x w None t d) (read_is c.word a w None u d) refl
  row_address x (kept w i t d k u n) =
      by_reads x (Some i) (Some i) (read_is c.text x w (Some i) t d) (read_is c.word a w (Some i) u d) (kept_not_moved a x i k ∙ sym (kept_no_address i k))
  row_address x (address_in_place rd imm e t w n) = absurd (elsewhere x (Auipc rd imm) t e)
  row_address x (address_moved rd high m) =
      by_reads x _ _ m.text m.first (moved_is_moved a x rd m.imm m.is_written (elsewhere x (Auipc rd m.imm) m.text) ∙ sym (ap not (ne_eqb rd 0 m.is_written)))
  row_address x (rows.jump rd off aim t w m n) = by_reads x _ _ t w refl
  row_address x (rows.site rd to off aim t e w m n) = by_reads x _ _ t w refl
  row_address x (jump_register w rd rs off t d u n) = by_reads x _ _ (read_is c.text x w _ t d) (read_is c.word a w _ u d) refl
  row_address x (call_second rd rs to off aim t e w m n) = by_reads x _ _ t w refl
  row_address x (branch k rs1 rs2 off aim t w m n) = by_reads x _ _ t w refl
  row_address x (branch_inverted k rs1 rs2 off aim t w m n) = by_reads x _ _ t w refl

  pub by_point : Renders c → (w : ℕ) (q : Point) → c.word a ≡ Some w → c.point a ≡ Some q → fetched_of (Some (w, q)) ≡ fetched_at c a
  by_point r w (Hop x) e f = fetched_by c a true (Some w) (layout_at c a (Some (Hop x)) f) e
  by_point r w (Mid x) e f = fetched_by c a false (Some w) (layout_at c a (Some (Mid x)) f) e
  by_point r w (Start x) e f =
      fetched_by c a (is_address (decoded w)) (Some w)
      (layout_at c a (Some (Start x)) f ∙ row_address x (r.starts a x f) ∙ ap is_address (read_is c.word a w (decoded w) e refl)) e

pub fetched_in_region : (p : Picture) (text : List TextRange) (lives : List Laid) (a : ℕ) → image.IsKept p → Renders (code_in p text lives) → in_range p.region a ≡ true
    → fetched_of (option_map both (live_at lives a)) ≡ fetched_at (code_in p text lives) a
fetched_in_region p text lives a image_kept r inside = by_here (live_at lives a) refl
  where
    by_here : (o : Option Here) → live_at lives a ≡ o → fetched_of (option_map both o) ≡ fetched_at (code_in p text lives) a
    by_here None e = fetched_by (code_in p text lives) a false None (layout_at (code_in p text lives) a None (rw (inside, e) refl)) (rw (inside, e) refl)
    by_here (Some h) e = by_point p image_kept (code_in p text lives) (λ x. refl) a inside r h.word h.point (rw (inside, e) refl) (rw (inside, e) refl)

-- ---- a step on what was fetched
pub layout_fetched : (c : Code) (a : ℕ) → is_layout_fetch (fetched_at c a) ≡ is_layout_step c a
unfolding fetched_at
layout_fetched c a = by_test (is_layout_step c a) (c.word a)
  where
    by_test : (b : Bool) (w : Option ℕ) → is_layout_fetch (cond b fetched.Layout (word_as w)) ≡ b
    by_test true w = refl
    by_test false None = refl
    by_test false (Some w) = refl

word_fetched : (c : Code) (a : ℕ) → is_layout_step c a ≡ false → word_of (fetched_at c a) ≡ c.word a
unfolding fetched_at
word_fetched c a l = by_test (is_layout_step c a) (c.word a) l
  where
    by_test : (b : Bool) (w : Option ℕ) → b ≡ false → word_of (cond b fetched.Layout (word_as w)) ≡ w
    by_test true w n = absurd (false≢true (sym n))
    by_test false None n = refl
    by_test false (Some w) n = refl

module _ (c : Code) (h : ℕ) (m : State) (hart : Hart) (f : Fetched) (going : is_some m.outcome ≡ false) (live : is_live (hart_in m.harts h).status ≡ true) (at : hart ≡ hart_in m.harts h) (e : f ≡ fetched_at c hart.pc) where
  is_layout_at : is_layout_step c (hart_in m.harts h).pc ≡ is_layout_fetch f
  is_layout_at = sym (ap is_layout_fetch e ∙ layout_fetched c hart.pc ∙ ap (λ (x : Hart). is_layout_step c x.pc) at)

  kind_is : cond (is_layout_fetch f) Layout Real ≡ stepped c h m
  unfolding stepped
  kind_is = sym (rw (going, live) (ap (λ b. cond b Layout Real) is_layout_at))

  pub layout_kind : is_layout_fetch f ≡ true → Layout ≡ stepped c h m
  layout_kind l = sym (ap (λ b. cond b Layout Real) l) ∙ kind_is

  pub real_kind : is_layout_fetch f ≡ false → Real ≡ stepped c h m
  real_kind l = sym (ap (λ b. cond b Layout Real) l) ∙ kind_is

  pub layout_left : (n : State) → is_layout_fetch f ≡ true → m ≡ cond (is_layout (stepped c h m)) m n
  layout_left n l = ap (λ k. cond (is_layout k) m n) (layout_kind l)

  pub real_made : (n r : State) → is_layout_fetch f ≡ false → n ≡ r → n ≡ cond (is_layout (stepped c h m)) m r
  real_made n r l made = made ∙ ap (λ k. cond (is_layout k) m r) (real_kind l)

  pub word_is : (word : Option ℕ) → word ≡ word_of f → is_layout_fetch f ≡ false → word ≡ c.word (hart_in m.harts h).pc
  word_is word w l =
      w ∙ ap word_of e ∙ word_fetched c hart.pc (sym (layout_fetched c hart.pc) ∙ sym (ap is_layout_fetch e) ∙ l) ∙ ap (λ (x : Hart). c.word x.pc) at
