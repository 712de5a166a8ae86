-- What the type of a recorder keeps, from one call to the next.
use Rattle.std.proofs.Common.{◌≡◌, ℕ, zero, suc, ◌+◌, ◌-◌, ◌^◌, ◌<◌, ◌≤◌, Bool, true, false, List, [], ◌∷◌, length, replicate, slice_index_or, slice_set, refl, sym, ap, ◌∙◌, subst, arith, inl, inr}
use Rattle.std.specs.Prelude.{◌⊎◌, Option, Some, None, Result, Ok, Err, IfSome, if◌then◌else◌}
use Rattle.std.proofs.lemmas.Bool.{false≢true}
use Rattle.world.specs.Adopting.{Shown, shown_of}
use Rattle.image.specs.Picture.{Picture}
use Rattle.layout.specs.Laid.{Laid}
use Rattle.oc_base.specs.declared.fault.NoMemory.{NoMemory}
use Rattle.pacing.proofs.Others.{step_with_leaves}
use Rattle.plans.specs.declared.plan.Moved.{Moved}
use Rattle.sched_log.specs.declared.facts.Refusal.{Refusal}
use Rattle.sched_log.specs.declared.facts.Refusal.TheVariants as refusal
use Rattle.sim_laws.specs.Origins.{origin}
use Rattle.sim_laws.specs.Steps.{is_layout, replaced_step}
use Rattle.stop_gate.specs.Gates.{Gated, is_away, left, back_in, aways}
use Rattle.world.specs.declared.counts.Counts.{Counts}
use Rattle.world.specs.Worlds.{Replaced, code_of, kind_of, step_of}
use Rattle.world.specs.Runs.{until_real, real_step_of, real_steps_of}
use Rattle.world.specs.Records.{SnapsAs}
use Rattle.world.specs.Replacing.{Attempts, done_by, refused_as}
use Rattle.world.specs.Retiring.{RetiresAs}
use Rattle.recorder.specs.declared.marks.Marks.{Marks}
use Rattle.recorder.specs.Marking.{AreReached, unmarked}
use Rattle.recorder.specs.Recording.{IsKept, all_here}
use Rattle.recorder.proofs.Reaching.{counted_more, reached_later}

-- ---- what a world was, and what it is later
pub record IsLater (w v : Replaced) : Type 0 where
  pub real : w.counts.real < 2 ^ 64 → (w.counts.real ≤ v.counts.real) × (v.counts.real < 2 ^ 64)
  pub harts : length w.machine.harts ≤ length v.machine.harts
  pub image : v.image ≡ w.image

-- and its code is the same
pub record IsAfter (w v : Replaced) : Type 0 where
  pub later : IsLater w v
  pub text : v.text ≡ w.text
  pub lives : v.lives ≡ w.lives

pub itself : (w : Replaced) → IsAfter w w
itself w = record { later = record { real = λ lt. (omega arith, lt); harts = omega arith; image = refl }; text = refl; lives = refl }

after_both : (w u v : Replaced) → IsAfter w u → IsAfter u v → IsAfter w v
after_both w u v a b = record {
  later = record {
    real = λ lt. (let x = a.later.real lt in let y = b.later.real x.1 in let p = x.0 in let q = y.0 in (omega (arith, p, q), y.1));
    harts = (let p = a.later.harts in let q = b.later.harts in omega (arith, p, q));
    image = b.later.image ∙ a.later.image;
  };
  text = b.text ∙ a.text;
  lives = b.lives ∙ a.lives;
}

pub step_after : (h : ℕ) (w : Replaced) → IsAfter w (step_of h w)
unfolding step_of replaced_step
step_after h w = record {
  later = record {
    real = counted_more (kind_of h w) w.counts;
    harts = (step_with_leaves (code_of w).word (origin (code_of w)) w.image h w.machine).made;
    image = refl;
  };
  text = refl;
  lives = refl;
}

until_after : (n h : ℕ) (w : Replaced) → IsAfter w (until_real n h w)
unfolding until_real
until_after zero h w = itself w
until_after (suc n) h w = by_first (is_layout (kind_of h w)) (after_both w (step_of h w) (until_real n h (step_of h w)) (step_after h w) (until_after n h (step_of h w)))
  where
    by_first : (b : Bool) → IsAfter w (until_real n h (step_of h w)) → IsAfter w (if b then until_real n h (step_of h w) else step_of h w)
    by_first true more = more
    by_first false more = step_after h w

pub real_after : (h : ℕ) (w : Replaced) → IsAfter w (real_step_of h w)
real_after h w = until_after 3 h w

pub reals_after : (n h : ℕ) (w : Replaced) → IsAfter w (real_steps_of n h w)
reals_after zero h w = itself w
reals_after (suc n) h w = after_both w (real_step_of h w) (real_steps_of n h (real_step_of h w)) (real_after h w) (reals_after n h (real_step_of h w))

pub after_as : (w u v : Replaced) → v ≡ u → IsAfter w u → IsAfter w v
after_as w u v is a = subst (IsAfter w) (sym is) a

later_as : (w u v : Replaced) → v ≡ u → IsLater w u → IsLater w v
later_as w u v is a = subst (IsLater w) (sym is) a

-- ---- calls that make no step
pub snap_after : (w v : Replaced) (b : Bool) (answer : Result Unit NoMemory) → SnapsAs w b answer v → IsAfter w v
snap_after w v true (Ok u) is = after_as w w v is (itself w)
snap_after w v true (Err e) is = absurd is
snap_after w v false (Ok u) is = after_as w _ v is.is (record { later = record { real = λ lt. (omega arith, lt); harts = omega arith; image = refl }; text = refl; lives = refl })
snap_after w v false (Err e) is = after_as w w v is (itself w)

pub retirement_later : (w v : Replaced) (b : Bool) (answer : Result ℕ NoMemory) → RetiresAs w b answer v → IsLater w v
retirement_later w v true (Ok n) is = later_as w w v is.1 (itself w).later
retirement_later w v true (Err e) is = absurd is
retirement_later w v false (Ok n) is = later_as w _ v is.is (record { real = λ lt. (omega arith, lt); harts = omega arith; image = refl })
retirement_later w v false (Err e) is = later_as w w v is (itself w).later

refused_later : (w v : Replaced) (why : Refusal) → v ≡ refused_as why w → IsLater w v
refused_later w v why is = later_as w (refused_as why w) v is (record { real = λ lt. (omega arith, lt); harts = omega arith; image = refl })

done_more : (new : Option Laid) (c : Counts) → c.real < 2 ^ 64 → (c.real ≤ (done_by new c).real) × ((done_by new c).real < 2 ^ 64)
done_more None c lt = (omega arith, lt)
done_more (Some l) c lt = (omega arith, lt)

pub attempt_later : (plan : List Moved) (w v : Replaced) (b : Bool) (answer : Result Unit Refusal) → Attempts plan w b answer v → IsLater w v
attempt_later plan w v true (Ok u) is = later_as w w v is (itself w).later
attempt_later plan w v true (Err why) is = absurd is
attempt_later plan w v false (Ok u) is = later_as w _ v is.is (record { real = done_more is.new w.counts; harts = omega arith; image = refl })
attempt_later plan w v false (Err (refusal.RegionFull n m)) is = refused_later w v (refusal.RegionFull n m) is.1
attempt_later plan w v false (Err (refusal.BranchReach at to)) is = refused_later w v (refusal.BranchReach at to) is.1
attempt_later plan w v false (Err (refusal.Unreadable g y)) is = refused_later w v (refusal.Unreadable g y) is.1
attempt_later plan w v false (Err refusal.NoMemory) is = later_as w w v is (itself w).later

-- ---- what is kept
-- of a later world, with other marks, steps and entries
pub kept_as : (w v : Replaced) (m m' : Marks) (g : Gated) (steps steps' : List ℕ) (away entries entries' room room' : ℕ) (image : Picture) → IsLater w v → AreReached v.counts.real m'
    → length steps' ≡ 64 → entries' + away ≤ room' → IsKept w m g steps away entries room image → IsKept v m' g steps' away entries' room' image
kept_as w v m m' g steps steps' away entries entries' room room' image later reached harts fits k = record {
  reached = reached;
  made = λ h away. (let a = k.made h away in let more = later.harts in omega (arith, a, more));
  many = k.many;
  fits = fits;
  harts = harts;
  same = k.same ∙ sym later.image;
}

-- with the marks that it had
pub kept_after : (w v : Replaced) (m : Marks) (g : Gated) (steps steps' : List ℕ) (away entries entries' room room' : ℕ) (image : Picture) → w.counts.real < 2 ^ 64 → IsLater w v
    → length steps' ≡ 64 → entries' + away ≤ room' → IsKept w m g steps away entries room image → IsKept v m g steps' away entries' room' image
kept_after w v m g steps steps' away entries entries' room room' image lt later harts fits k =
    kept_as w v m m g steps steps' away entries entries' room room' image later (reached_later m w.counts.real v.counts.real (later.real lt).0 k.reached) harts fits k

-- at the start
none_set : (n h : ℕ) → slice_index_or (replicate n false) h false ≡ false
none_set zero h = refl
none_set (suc n) zero = refl
none_set (suc n) (suc h) = none_set n h

pub kept_new : (w : Replaced) (m : Marks) (g : Gated) (steps : List ℕ) (entries room : ℕ) (image : Picture) → m ≡ unmarked → g ≡ all_here → aways g ≡ 0 → length steps ≡ 64
    → entries ≡ 0 → image ≡ w.image → IsKept w m g steps 0 entries room image
kept_new w m g steps entries room image none here many harts empty same = record {
  reached = subst (AreReached w.counts.real) (sym none) (record { attempt = omega arith; snap = omega arith });
  made = λ h away. absurd (false≢true (sym (none_set 64 h) ∙ ap (λ (x : Gated). is_away x h) (sym here) ∙ away));
  many = many;
  fits = omega (arith, empty);
  harts = harts;
  same = same;
}

-- with more room
pub kept_room : (w : Replaced) (m : Marks) (g : Gated) (steps : List ℕ) (away entries entries' room room' : ℕ) (image : Picture)
    → entries' ≡ entries → room ≤ room' → IsKept w m g steps away entries room image → IsKept w m g steps away entries' room' image
kept_room w m g steps away entries entries' room room' image same more k =
    let fits = k.fits in kept_as w w m m g steps steps away entries entries' room room' image (itself w).later k.reached k.harts (omega (arith, fits, same, more)) k

-- ---- one leaves, or comes back
set_away : (flags : List Bool) (h k : ℕ) → slice_index_or (slice_set flags h true) k false ≡ true → (k ≡ h) ⊎ (slice_index_or flags k false ≡ true)
set_away [] h k e = absurd (false≢true e)
set_away (b ∷ flags) zero zero e = inl refl
set_away (b ∷ flags) zero (suc k) e = inr e
set_away (b ∷ flags) (suc h) zero e = inr e
set_away (b ∷ flags) (suc h) (suc k) e = more (set_away flags h k e)
  where
    more : ((k ≡ h) ⊎ (slice_index_or flags k false ≡ true)) → (suc k ≡ suc h) ⊎ (slice_index_or flags k false ≡ true)
    more (inl same) = inl (ap suc same)
    more (inr was) = inr was

set_back : (flags : List Bool) (h k : ℕ) → slice_index_or (slice_set flags h false) k false ≡ true → slice_index_or flags k false ≡ true
set_back [] h k e = e
set_back (b ∷ flags) zero zero e = absurd (false≢true e)
set_back (b ∷ flags) zero (suc k) e = e
set_back (b ∷ flags) (suc h) zero e = e
set_back (b ∷ flags) (suc h) (suc k) e = set_back flags h k e

pub kept_left : (w : Replaced) (m : Marks) (g g' : Gated) (steps : List ℕ) (h away entries entries' room room' : ℕ) (image : Picture) → h < length w.machine.harts
    → g' ≡ left h g → aways g' ≡ aways g + 1 → entries' + away + 1 ≤ room' → IsKept w m g steps away entries room image → IsKept w m g' steps (away + 1) entries' room' image
kept_left w m g g' steps h away entries entries' room room' image made is more fits k = record {
  reached = k.reached;
  made = λ j e. by_flag j (set_away g.away h j (ap (λ (x : Gated). is_away x j) (sym is) ∙ e));
  many = (let many = k.many in omega (arith, more, many));
  fits = omega (arith, fits);
  harts = k.harts;
  same = k.same;
}
  where
    by_flag : (j : ℕ) → (j ≡ h) ⊎ (slice_index_or g.away j false ≡ true) → j < length w.machine.harts
    by_flag j (inl e) = subst (λ x. x < length w.machine.harts) (sym e) made
    by_flag j (inr was) = k.made j was

pub kept_back : (w v : Replaced) (m : Marks) (g g' : Gated) (steps steps' : List ℕ) (h away entries entries' room room' : ℕ) (image : Picture) → w.counts.real < 2 ^ 64 → IsLater w v
    → g' ≡ back_in h g → aways g' + 1 ≡ aways g → length steps' ≡ 64 → entries' ≤ entries + 1 → room' ≡ room
    → IsKept w m g steps away entries room image → IsKept v m g' steps' (away - 1) entries' room' image
kept_back w v m g g' steps steps' h away entries entries' room room' image lt later is less harts one same k = record {
  reached = reached_later m w.counts.real v.counts.real (later.real lt).0 k.reached;
  made = λ j e. (let made = k.made j (set_back g.away h j (ap (λ (x : Gated). is_away x j) (sym is) ∙ e)) in let more = later.harts in omega (arith, made, more));
  many = (let many = k.many in omega (arith, less, many));
  fits = (let many = k.many in let fits = k.fits in omega (arith, less, many, fits, one, same));
  harts = harts;
  same = k.same ∙ sym later.image;
}

pub code_after : (w v : Replaced) → IsAfter w v → (s : Shown) → s ≡ shown_of w → s ≡ shown_of v
code_after w v a s c = c ∙ (λ i. record { image = sym a.later.image i; text = sym a.text i; lives = sym a.lives i })

pub if_some_more : {A : Type 0} {P Q : A → Type 0} (o : Option A) → ((a : A) → P a → Q a) → IfSome o P → IfSome o Q
if_some_more (Some a) f p = f a p
if_some_more None f p = tt
