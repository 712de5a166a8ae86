-- What a replacement makes of a world, from what was worked out.
use Rattle.std.proofs.Common.{◌≡◌, ℕ, ◌^◌, ◌<◌, Bool, false, List, get_or, refl, sym, ap, ◌∙◌, subst}
use Rattle.std.specs.Prelude.{Option, Some, None, IfSome, All, Result, Ok, Err}
use Rattle.oc_base.specs.declared.range.Range.{Range}
use Rattle.image.specs.declared.ranges.TextRange.{TextRange}
use Rattle.image.specs.Picture.{Picture}
use Rattle.layout.specs.Laid.{Laid}
use Rattle.machine.specs.States.{State}
use Rattle.plans.specs.declared.plan.Moved.{Moved}
use Rattle.patcher.specs.declared.patches.Patches.{Patches}
use Rattle.patcher.specs.Patched.{texts_with, layouts_with, joined}
use Rattle.patcher.proofs.Patching.{fits, patched_text, patched_layouts}
use Rattle.sched_log.specs.declared.facts.Refusal.{Refusal}
use Rattle.sched_log.specs.declared.facts.Refusal.TheVariants as refusal
use Rattle.sim_laws.specs.Changes.{with_links, with_memory}
use Rattle.world.specs.declared.counts.Counts.{Counts}
use Rattle.world.specs.Worlds.{Replaced, code_of, more, IsSound}
use Rattle.world.specs.Replacing.{HasShortWords, IsFit, IsPlacement, IsReplaced, slots_sent, placed_by, done_by, numbered, left_by, refused_as, Refuses, RefusedBy, Attempts}
use Rattle.world.proofs.ShortWords.{short_layout, short_calls}
use Rattle.world.proofs.SoundAgain.{sound_again}

-- ---- what the code keeps
placed_sound : (p : Picture) (text : List TextRange) (lives : List Laid) (numbers : List ℕ) (free : List Range) (plan : List Moved) (new : Option Laid) (q : Patches) (counts : Counts)
    → IsSound p text lives numbers free → IsPlacement p lives free plan new q
    → IsSound p (texts_with q.text text) (joined (layouts_with q.lives lives) new) (numbered new counts numbers) (left_by new free)
placed_sound p text lives numbers free plan new q counts s h =
    let f = fits p new text lives q s.kept s.placed.text s.placed.laid h.aims in
    sound_again p text (texts_with q.text text) lives (layouts_with q.lives lives) numbers free counts new s h.fits
    (patched_text p new text q.text h.aims.of_text f.in_text) (patched_layouts p new lives q.lives h.aims.of_lives f.in_lives)

pub put_sound : (p : Picture) (text : List TextRange) (lives : List Laid) (numbers : List ℕ) (free : List Range) (plan : List Moved) (new : Option Laid) (q : Patches) (counts : Counts)
    (text1 : List TextRange) (lives1 lives0 : List Laid) (numbers1 numbers0 : List ℕ) (free1 free0 : List Range)
    → IsSound p text lives numbers free → IsPlacement p lives free plan new q → lives0 ≡ lives → numbers0 ≡ numbers → free0 ≡ free
    → text1 ≡ texts_with q.text text → lives1 ≡ joined (layouts_with q.lives lives0) new → numbers1 ≡ numbered new counts numbers0 → free1 ≡ left_by new free0
    → IsSound p text1 lives1 numbers1 free1
put_sound p text lives numbers free plan new q counts text1 lives1 lives0 numbers1 numbers0 free1 free0 s h el en ef t1 l1 n1 f1 =
    let f : free1 ≡ left_by new free = f1 ∙ ap (left_by new) ef in
    subst (λ (x : List TextRange). IsSound p x lives1 numbers1 free1) (sym t1)
    (subst (λ (x : List Laid). IsSound p (texts_with q.text text) x numbers1 free1) (sym (l1 ∙ ap (λ ls. joined (layouts_with q.lives ls) new) el))
    (subst (λ (x : List ℕ). IsSound p (texts_with q.text text) (joined (layouts_with q.lives lives) new) x free1) (sym (n1 ∙ ap (numbered new counts) en))
    (subst (λ (x : List Range). IsSound p (texts_with q.text text) (joined (layouts_with q.lives lives) new) (numbered new counts numbers) x) (sym f)
    (placed_sound p text lives numbers free plan new q counts s h))))

-- ---- what a replacement made
abbrev put_by : Option Laid → Patches → Replaced → Replaced
put_by new q w = record w {
  text = texts_with q.text w.text;
  lives = joined (layouts_with q.lives w.lives) new;
  numbers = numbered new w.counts w.numbers;
  free = left_by new w.free;
  machine = with_memory (with_links (slots_sent w.image (code_of w) new w.machine.memory) w.machine.memory) w.machine;
  counts = done_by new w.counts;
}

pub put_is : (u w : Replaced) (new : Option Laid) (q : Patches) → u ≡ w → (text : List TextRange) (lives : List Laid) (numbers : List ℕ) (free : List Range) (machine : State) (counts : Counts)
    → text ≡ texts_with q.text u.text → lives ≡ joined (layouts_with q.lives u.lives) new → numbers ≡ numbered new u.counts u.numbers → free ≡ left_by new u.free
    → machine ≡ with_memory (with_links (slots_sent u.image (code_of u) new u.machine.memory) u.machine.memory) u.machine → counts ≡ done_by new u.counts
    → record u { text = text; lives = lives; numbers = numbers; free = free; machine = machine; counts = counts } ≡ put_by new q w
put_is u w new q e text lives numbers free machine counts et el en ef em ec =
    (λ i. record u { text = et i; lives = el i; numbers = en i; free = ef i; machine = em i; counts = ec i }) ∙ ap (put_by new q) e

pub finish_is : (new : Option Laid) (before between after : Counts) → between ≡ placed_by new before → after ≡ record between { attempts = more between.attempts; done = more between.done }
    → after ≡ done_by new before
finish_is new before between after e f = f ∙ ap (λ (c : Counts). record c { attempts = more c.attempts; done = more c.done }) e ∙ by_new new
  where
    by_new : (o : Option Laid) → record (placed_by o before) { attempts = more (placed_by o before).attempts; done = more (placed_by o before).done } ≡ done_by o before
    by_new None = refl
    by_new (Some l) = refl

pub refused_attempt : (plan : List Moved) (w v : Replaced) (b : Bool) (why : Refusal) (answer : Result Unit Refusal) → b ≡ false → Refuses w.image w.lives w.free plan why
    → RefusedBy why w answer v → Attempts plan w b answer v
refused_attempt plan w v b why answer e h a = rw e (by_answer answer a)
  where
    kept_as : (f : Refusal) → f ≡ why → v ≡ refused_as why w → Refuses w.image w.lives w.free plan f × (v ≡ refused_as f w)
    kept_as f g k = (subst (Refuses w.image w.lives w.free plan) (sym g) h, k ∙ ap (λ (y : Refusal). refused_as y w) (sym g))

    by_answer : (r : Result Unit Refusal) → RefusedBy why w r v → Attempts plan w false r v
    by_answer (Ok u) a = absurd a
    by_answer (Err refusal.NoMemory) a = a
    by_answer (Err (refusal.RegionFull need most)) a = kept_as (refusal.RegionFull need most) a.0 a.1
    by_answer (Err (refusal.BranchReach at target)) a = kept_as (refusal.BranchReach at target) a.0 a.1
    by_answer (Err (refusal.Unreadable g u)) a = kept_as (refusal.Unreadable g u) a.0 a.1

short_new : (p : Picture) (free : List Range) (new : Option Laid) → IfSome new (IsFit p free) → IfSome new HasShortWords
short_new p free None f = tt
short_new p free (Some l) f = f.short

pub is_replaced : (plan : List Moved) (w v : Replaced) (new : Option Laid) (q : Patches) → IsSound w.image w.text w.lives w.numbers w.free → IsPlacement w.image w.lives w.free plan new q
    → All (λ (l : Laid). All (λ n. n < 2 ^ 32) l.words) (layouts_with q.lives w.lives) → v ≡ put_by new q w → IsReplaced plan w v
is_replaced plan w v new q s h short e =
    let f = fits w.image new w.text w.lives q s.kept s.placed.text s.placed.laid h.aims in
    record {
      new = new;
      text = texts_with q.text w.text;
      older = layouts_with q.lives w.lives;
      readable = h.readable;
      is_new = h.is_new;
      reach = h.reach;
      in_text = patched_text w.image new w.text q.text h.aims.of_text f.in_text;
      in_lives = patched_layouts w.image new w.lives q.lives h.aims.of_lives f.in_lives;
      short_words = short_new w.image w.free new h.fits;
      short_calls = short_calls w.image new w.text q.text h.aims.of_text h.short f.in_text;
      short_older = λ i d lt. short_layout (get_or (layouts_with q.lives w.lives) i d) (short i d lt);
      is = e;
    }
