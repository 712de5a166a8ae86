-- Changes of related states at one hart, and the test whether a run stalls.
use Rattle.std.proofs.Common.{◌≡◌, ℕ, zero, suc, ◌%◌, Bool, true, false, cond, List, [], ◌∷◌, map, get_or, refl, sym, ap, ◌∙◌, subst}
use Rattle.std.specs.Prelude.{Option, Some, None, ◌&&◌, not, is_some, slice_get, slice_set}
use Rattle.std.proofs.lemmas.Bool.{eq-eqb}
use Rattle.std.proofs.lemmas.List.{set-get_or}
use Rattle.image.specs.Picture.{Picture, is_second}
use Rattle.link_tags.specs.declared.value.Tag.{Tag}
use Rattle.link_tags.specs.declared.value.Tag.TheVariants.{Link}
use Rattle.link_tags.specs.declared.value.Value.{Value}
use Rattle.link_tags.specs.Values.{original}
use Rattle.hart.specs.declared.hart.Hart.{Hart}
use Rattle.hart.specs.Effects.{next, jump, hart_after, memory_after, answer_of}
use Rattle.guest_sys.specs.declared.state.Waiter.{Waiter}
use Rattle.layout.specs.Points.{Code}
use Rattle.machine.specs.declared.outcome.Outcome.{Outcome}
use Rattle.machine.specs.declared.outcome.Outcome.TheVariants.{Stalled}
use Rattle.machine.specs.Harts.{is_live, has_ended, no_hart, hart_in, unreserved, is_stalled}
use Rattle.machine.specs.States.{State}
use Rattle.machine.specs.Steps.{ended, with_hart, fault_of_jump, jumped_unless, after_effect, by_answer, settled}
use Rattle.machine.proofs.HartLists.{not_stalled}
use Rattle.sim_laws.specs.Related.{Both, HartsRelated, is_waiting, AreWaiting, StatesRelated}
use Rattle.sim_laws.proofs.HartLists.{set_both, set_left, any_same, all_same, hart_at}

-- ---- waiting
-- each hart's status is as it was
abbrev pub KeepStatus : List Hart → List Hart → Type 0
KeepStatus before now = (k : ℕ) → (hart_in now k).status ≡ (hart_in before k).status

pub waiting_kept : (ws : List Waiter) (before now : List Hart) → KeepStatus before now → AreWaiting ws before → AreWaiting ws now
waiting_kept ws before now f a = record {
  wait = λ k d l. f (get_or ws k d).hart ∙ a.wait k d l;
  once = a.once;
  listed = λ h e. a.listed h (ap is_waiting (sym (f h)) ∙ e);
}

pub status_set : (hs : List Hart) (h : ℕ) (x : Hart) → x.status ≡ (hart_in hs h).status → KeepStatus hs (slice_set hs h x)
status_set [] h x f k = refl
status_set (y ∷ ys) zero x f zero = f
status_set (y ∷ ys) zero x f (suc k) = refl
status_set (y ∷ ys) (suc h) x f zero = refl
status_set (y ∷ ys) (suc h) x f (suc k) = status_set ys h x f k

pub status_map : (among : ℕ → Bool) (hs : List Hart) → KeepStatus hs (map (unreserved among) hs)
status_map among [] k = refl
status_map among (y ∷ ys) zero = refl
status_map among (y ∷ ys) (suc k) = status_map among ys k

-- ---- a run that hasn't stalled
not_both : (b : Bool) → (b && false) ≡ false
not_both true = refl
not_both false = refl

-- a live hart keeps a run from a stall
pub settled_live : (h : ℕ) (s : State) → is_live (hart_in s.harts h).status ≡ true → settled s ≡ s
unfolding settled
settled_live h s live = rw (not_stalled s.harts h live, not_both (not (is_some s.outcome))) refl

-- ---- effects that change one hart
pub unaffected : (h : ℕ) (s : State) → record s { harts = slice_set s.harts h (hart_in s.harts h) } ≡ s
unaffected h s = λ i. record s { harts = set-get_or s.harts h no_hart i }

pub next_after : (origin : ℕ → ℕ) (p : Picture) (h : ℕ) (i : Bool) (rd : ℕ) (v : Value) (held : Option ℕ) (s : State) (hart : Hart)
    → slice_get s.harts h ≡ Some hart → after_effect origin p h i (next rd v held) s ≡ with_hart h (hart_after (next rd v held) hart) s
unfolding after_effect by_answer answer_of memory_after
next_after origin p h i rd v held s hart e = ap (λ x. with_hart h (hart_after (next rd v held) x) s) (hart_at s.harts h hart e)

-- by a link nothing ends the run at a whole word that is no second one
pub no_fault : (p : Picture) (indirect : Bool) (pc x : ℕ) → x % 4 ≡ 0 → is_second p.pairs x ≡ false → fault_of_jump p indirect pc x Link ≡ None
no_fault p true pc x e s = rw (eq-eqb (x % 4) 0 e, s) refl
no_fault p false pc x e s = rw (eq-eqb (x % 4) 0 e) refl

direct_fault : (p : Picture) (pc x : ℕ) → x % 4 ≡ 0 → fault_of_jump p false pc x Link ≡ None
direct_fault p pc x e = rw (eq-eqb (x % 4) 0 e) refl

-- a jump is made, unless something ends the run, by the hart as it stands
pub jump_after : (origin : ℕ → ℕ) (p : Picture) (h : ℕ) (i : Bool) (to : ℕ) (by : Tag) (link : Option ℕ) (s : State)
    → after_effect origin p h i (jump to by link) s
    ≡ jumped_unless (fault_of_jump p i (origin (hart_in s.harts h).pc) (original origin (record { number = to; tag = by })) by) h to link s
unfolding after_effect by_answer answer_of memory_after hart_after
jump_after origin p h i to by link s =
    ap (λ (x : State). jumped_unless (fault_of_jump p i (origin (hart_in x.harts h).pc) (original origin (record { number = to; tag = by })) by) h to link x) (unaffected h s)

pub hop_after : (origin : ℕ → ℕ) (p : Picture) (h to : ℕ) (s : State) (hart : Hart)
    → slice_get s.harts h ≡ Some hart → origin to % 4 ≡ 0 → after_effect origin p h false (jump to Link (Some 0)) s ≡ with_hart h (record hart { pc = to }) s
hop_after origin p h to s hart e whole =
    jump_after origin p h false to Link (Some 0) s
    ∙ ap (λ x. jumped_unless x h to (Some 0) s) (direct_fault p (origin (hart_in s.harts h).pc) (origin to) whole)
    ∙ ap (λ (x : Hart). with_hart h (record x { pc = to }) s) (hart_at s.harts h hart e)

module _ (p : Picture) (c : Code) where
  pub stalled_same : (rs os : List Hart) → ((k : ℕ) → Both (HartsRelated p c) (slice_get rs k) (slice_get os k)) → is_stalled rs ≡ is_stalled os
  stalled_same rs os b =
      let live = any_same (λ (h : Hart). is_live h.status) (λ (h : Hart). is_live h.status) (λ x y k. ap is_live k.status) rs os b in
      let all = all_same (λ (h : Hart). has_ended h.status) (λ (h : Hart). has_ended h.status) (λ x y k. ap has_ended k.status) rs os b in
      λ i. not (live i) && not (all i)

  pub ended_related : (x : Outcome) (r o : State) → StatesRelated p c r o → StatesRelated p c (ended x r) (ended x o)
  ended_related x r o s = record { outcome = refl; system = s.system; memory = s.memory; harts = s.harts; waiting = s.waiting }

  ended_if : (t : Bool) (x : Outcome) (r o : State) → StatesRelated p c r o → StatesRelated p c (cond t (ended x r) r) (cond t (ended x o) o)
  ended_if true x r o s = ended_related x r o s
  ended_if false x r o s = s

  pub settled_related : (r o : State) → StatesRelated p c r o → StatesRelated p c (settled r) (settled o)
  unfolding settled
  settled_related r o s =
      let all = stalled_same r.harts o.harts s.harts in
      let same : (not (is_some r.outcome) && is_stalled r.harts) ≡ (not (is_some o.outcome) && is_stalled o.harts) = λ i. not (is_some (s.outcome i)) && all i in
      subst (λ t. StatesRelated p c (cond t (ended Stalled r) r) (cond (not (is_some o.outcome) && is_stalled o.harts) (ended Stalled o) o)) (sym same)
      (ended_if (not (is_some o.outcome) && is_stalled o.harts) Stalled r o s)

  -- hart h alone goes on, on both sides
  pub moved_on : (h : ℕ) (hr ho : Hart) (r o : State) → StatesRelated p c r o → HartsRelated p c hr ho → ho.status ≡ (hart_in o.harts h).status
      → StatesRelated p c (with_hart h hr r) (with_hart h ho o)
  moved_on h hr ho r o s k same = record {
    outcome = s.outcome;
    system = s.system;
    memory = s.memory;
    harts = set_both r.harts o.harts h hr ho k s.harts;
    waiting = waiting_kept o.system.waiting o.harts (slice_set o.harts h ho) (status_set o.harts h ho same) s.waiting;
  }

  -- hart h of the moved machine alone goes on: a layout step
  pub left_on : (h : ℕ) (hr ho : Hart) (r o : State) → StatesRelated p c r o → slice_get o.harts h ≡ Some ho → HartsRelated p c hr ho
      → StatesRelated p c (with_hart h hr r) o
  left_on h hr ho r o s e k = record {
    outcome = s.outcome;
    system = s.system;
    memory = s.memory;
    harts = set_left r.harts o.harts h hr ho k e s.harts;
    waiting = s.waiting;
  }
