-- A step of layouts alone, and how it is taken back.
use Rattle.std.proofs.Common.{◌≡◌, ℕ, zero, suc, ◌<◌, Bool, true, false, cond, List, [], ◌∷◌, length, get_or, set, refl, sym, ap, ◌∙◌, subst, length-set}
use Rattle.std.specs.Prelude.{Option, Some, None, ◌==◌, option_and_then}
use Rattle.std.specs.Option.{option_map}
use Rattle.std.proofs.lemmas.Bool.{false≢true}
use Rattle.std.proofs.lemmas.List.{set-get_or, get_or-set_same}
use Rattle.rv_isa.specs.Decoded.{decoded}
use Rattle.rv_isa.specs.declared.instr.Instr.{Instr}
use Rattle.rv_isa.specs.declared.instr.Instr.TheVariants.{Auipc, Jal}
use Rattle.hart.specs.declared.hart.Hart.{Hart}
use Rattle.hart.specs.Harts.{reg, with_reg}
use Rattle.layout.specs.Laid.{Laid}
use Rattle.layout.specs.Points.{live_at, here_word, in_range, read}
use Rattle.link_tags.specs.declared.value.Value.{Value}
use Rattle.link_tags.specs.Values.{plain}
use Rattle.machine.specs.Harts.{hart_in, no_hart}
use Rattle.machine.specs.States.{State}
use Rattle.machine.specs.Steps.{with_hart}
use Rattle.machine.proofs.HartLists.{live_made}
use Rattle.sim_laws.specs.declared.stepped.Stepped.{Stepped}
use Rattle.sim_laws.specs.declared.stepped.Stepped.TheVariants as kind
use Rattle.sim_laws.specs.Origins.{is_layout_step}
use Rattle.sim_laws.specs.Steps.{is_layout}
use Rattle.sim_laws.proofs.LayoutSteps.{layout_of, hart_led, led_is}
use Rattle.world.specs.declared.code.Led.{Led}
use Rattle.world.specs.declared.code.Before.{Before}
use Rattle.world.specs.Fetching.{led_by, led}
use Rattle.world.specs.declared.counts.Counts.{Counts}
use Rattle.world.specs.Worlds.{Replaced, code_of, IsSound, IsWorld, kind_of, counted, step_of}
use Rattle.world.specs.Runs.{taken_back}
use Rattle.world.specs.Rings.{with_transfer}
use Rattle.world.proofs.Following.{code_sound}
use Rattle.world.proofs.Noting.{layout_none}
use Rattle.world.proofs.Fetching.{text_step}

pub layout_made : (h : ℕ) (w : Replaced) → is_layout (kind_of h w) ≡ true → h < length w.machine.harts
layout_made h w l = live_made w.machine.harts h (layout_of (code_of w) h w.machine l).live

-- ---- what it makes
pub led_hart : (o : Option Instr) (hart : Hart) → hart_led o hart ≡ led (led_by o hart.pc) hart
led_hart None hart = refl
led_hart (Some (Auipc rd imm)) hart = refl
led_hart (Some (Jal rd off)) hart = refl
led_hart (Some i) hart = refl

-- the word that a step of layouts alone reads is that of a live layout
word_inside : (w : Replaced) (a : ℕ) → in_range w.image.region a ≡ true → read (code_of w).word a ≡ option_and_then decoded (option_map here_word (live_at w.lives a))
unfolding read
word_inside w a e = rw e refl

inside_region : (w : Replaced) (a : ℕ) → is_layout_step (code_of w) a ≡ true → in_range w.image.region a ≡ true
inside_region w a l = by_range (in_range w.image.region a) refl
  where
    by_range : (b : Bool) → in_range w.image.region a ≡ b → b ≡ true
    by_range true e = refl
    by_range false e = absurd (false≢true (sym (text_step w.image w.text w.lives a e) ∙ l))

is_layout_kind : (k : Stepped) → is_layout k ≡ true → k ≡ kind.Layout
is_layout_kind kind.Layout e = refl
is_layout_kind kind.Real e = absurd (false≢true e)
is_layout_kind kind.Over e = absurd (false≢true e)

-- what is written, by the word
abbrev pub led_at : ℕ → Replaced → Led
led_at h w =
    let pc = (hart_in w.machine.harts h).pc in
    led_by (option_and_then decoded (option_map here_word (live_at w.lives pc))) pc

layout_step_is : (h : ℕ) (w : Replaced) → IsSound w.image w.text w.lives w.numbers w.free → is_layout (kind_of h w) ≡ true
    → record w { machine = with_hart h (led (led_at h w) (hart_in w.machine.harts h)) w.machine; counts = counted kind.Layout w.counts } ≡ step_of h w
unfolding step_of
layout_step_is h w s l =
    let k = layout_of (code_of w) h w.machine l in
    let hart = hart_in w.machine.harts h in
    let inside = inside_region w hart.pc k.at in
    let is = led_is w.image (code_of w) s.kept (code_sound w s) s.placed.renders h w.machine k
    ∙ ap (λ (x : Hart). with_hart h x w.machine) (led_hart (read (code_of w).word hart.pc) hart ∙ ap (λ o. led (led_by o hart.pc) hart) (word_inside w hart.pc inside)) in
    sym (λ i. record w {
      machine = is i;
      counts = counted (is_layout_kind (kind_of h w) l i) w.counts;
      rings = with_transfer h (layout_none w.image (code_of w) h w.machine l i) w.rings;
    })

-- the same for a world v that is w, where what is written was worked out by reads
pub layout_made_is : (h : ℕ) (v w : Replaced) → v ≡ w → (hart : Hart) (lives : List Laid) (word : Option ℕ) (l : Led) (m : State) (n : Counts)
    → IsWorld w → is_layout (kind_of h w) ≡ true
    → hart ≡ hart_in v.machine.harts h → lives ≡ v.lives → word ≡ option_map here_word (live_at lives hart.pc) → l ≡ led_by (option_and_then decoded word) hart.pc
    → m ≡ with_hart h (led l (hart_in v.machine.harts h)) v.machine → n ≡ counted kind.Layout v.counts → record v { machine = m; counts = n } ≡ step_of h w
layout_made_is h v w view hart lives word l m n s k at list read is made count =
    let same : l ≡ led_at h v =
    is ∙ ap (λ o. led_by (option_and_then decoded o) hart.pc) read
    ∙ (λ i. led_by (option_and_then decoded (option_map here_word (live_at (list i) (at i).pc))) (at i).pc) in
    (λ i. record v { machine = made i; counts = count i })
    ∙ ap (λ (x : Led). record v { machine = with_hart h (led x (hart_in v.machine.harts h)) v.machine; counts = counted kind.Layout v.counts }) same
    ∙ layout_step_is h v (subst IsWorld (sym view) s) (subst (λ (x : Replaced). is_layout (kind_of h x) ≡ true) (sym view) k)
    ∙ ap (step_of h) view

-- ---- how it is taken back
set_again : {X : Type 0} (xs : List X) (h : ℕ) (x y : X) → set (set xs h x) h y ≡ set xs h y
set_again [] h x y = refl
set_again (z ∷ zs) zero x y = refl
set_again (z ∷ zs) (suc h) x y = ap (λ ys. z ∷ ys) (set_again zs h x y)

with_again : (rs : List Value) (k : ℕ) (u v : Value) → with_reg (with_reg rs k u) k v ≡ with_reg rs k v
with_again rs k u v = by_zero (k == 0)
  where
    by_zero : (b : Bool) → cond b (cond b rs (set rs k u)) (set (cond b rs (set rs k u)) k v) ≡ cond b rs (set rs k v)
    by_zero true = refl
    by_zero false = set_again rs k u v

with_itself : (rs : List Value) (k : ℕ) → with_reg rs k (reg rs k) ≡ rs
with_itself rs k = by_zero (k == 0)
  where
    by_zero : (b : Bool) → cond b rs (set rs k (cond b (plain 0) (get_or rs k (plain 0)))) ≡ rs
    by_zero true = refl
    by_zero false = set-get_or rs k (plain 0)

-- what a hart has where it is led from
abbrev pub held : Led → Hart → Led
held l hart = record { rd = l.rd; value = reg hart.regs l.rd; pc = hart.pc }

led_back : (l : Led) (hart : Hart) → led (held l hart) (led l hart) ≡ hart
led_back l hart = λ i. record hart { regs = (with_again hart.regs l.rd l.value (reg hart.regs l.rd) ∙ with_itself hart.regs l.rd) i }

harts_back : (h : ℕ) (hs : List Hart) (l : Led) → h < length hs
    → set (set hs h (led l (hart_in hs h))) h (led (held l (hart_in hs h)) (hart_in (set hs h (led l (hart_in hs h))) h)) ≡ hs
harts_back h hs l lt =
    let hart = hart_in hs h in
    let new = led l hart in
    ap (λ (x : Hart). set (set hs h new) h (led (held l hart) x)) (get_or-set_same hs h new no_hart lt)
    ∙ set_again hs h new (led (held l hart) new) ∙ ap (λ (x : Hart). set hs h x) (led_back l hart) ∙ set-get_or hs h no_hart

pub taken_is : (h : ℕ) (v w : Replaced) → v ≡ w → (hart : Hart) (l : Led) (value : Value) (m : State) (n : Counts) → h < length v.machine.harts
    → hart ≡ hart_in v.machine.harts h → value ≡ reg hart.regs l.rd
    → m ≡ with_hart h (led l (hart_in v.machine.harts h)) v.machine → n ≡ counted kind.Layout v.counts
    → taken_back h (record { led = record { rd = l.rd; value = value; pc = hart.pc }; layout = v.counts.layout }) (record v { machine = m; counts = n }) ≡ w
taken_is h v w view hart l value m n lt at had made count =
    let was : value ≡ reg (hart_in v.machine.harts h).regs l.rd = had ∙ ap (λ (x : Hart). reg x.regs l.rd) at in
    (λ i. taken_back h (record { led = record { rd = l.rd; value = was i; pc = (at i).pc }; layout = v.counts.layout }) (record v { machine = made i; counts = count i }))
    ∙ ap (λ (hs : List Hart). record v { machine = record v.machine { harts = hs } }) (harts_back h v.machine.harts l lt)
    ∙ view

-- the harts stay as many
pub taken_made : (h k : ℕ) (w v : Replaced) (b : Before) → taken_back h b v ≡ w → k < length w.machine.harts → k < length v.machine.harts
taken_made h k w v b e lt =
    subst (λ n. k < n) (ap (λ (x : Replaced). length x.machine.harts) (sym e) ∙ length-set v.machine.harts h (led b.led (hart_in v.machine.harts h))) lt
