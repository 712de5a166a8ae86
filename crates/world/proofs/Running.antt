-- A run follows the original one.
use Rattle.std.proofs.Common.{◌≡◌, ℕ, zero, suc, Bool, true, false, List, [], ◌∷◌, ◌++◌, refl, sym, ap, ◌∙◌, subst}
use Rattle.std.specs.Prelude.{is_some, if◌then◌else◌}
use Rattle.image.specs.Picture.{Picture}
use Rattle.guest_sys.specs.State.{IsOrderly}
use Rattle.machine.specs.States.{State}
use Rattle.machine.specs.Steps.{original_step, original_run}
use Rattle.plans.specs.declared.plan.Moved.{Moved}
use Rattle.sim_laws.specs.declared.stepped.Stepped.{Stepped}
use Rattle.sim_laws.specs.declared.stepped.Stepped.TheVariants.{Real, Layout, Over}
use Rattle.sim_laws.specs.Steps.{original_after, is_layout}
use Rattle.sim_laws.proofs.Orderly.{replaced_orderly}
use Rattle.world.specs.Worlds.{Replaced, IsWorld, code_of, Related, kind_of, step_of}
use Rattle.world.specs.Replacing.{Replaces, over, done, refused}
use Rattle.world.specs.Retiring.{Retires}
use Rattle.world.specs.Retiring as retirement
use Rattle.world.specs.Runs.{until_real, real_kind_of, Atom, a_step, a_real_step, a_replacement, a_retirement, a_snap, Makes, of_real, harts_of, IsRun, IsStretched, no_more, real, replacing, retiring, snapping, AreHartsOf}
use Rattle.world.proofs.Following.{step_follows, until_follows, real_follows, real_over, never_layout, ended_over}
use Rattle.world.proofs.RelatedAgain.{replaces_sound, replaces_related}
use Rattle.world.proofs.Retirement.{retires_sound, retires_related}
use Rattle.world.proofs.Snapping.{snaps_sound, snaps_related, snaps_orderly, snaps_image, snaps_ended}
use Rattle.world.proofs.Stepping.{until_orderly, until_image, ended_step, ended_real}

run_append : (p : Picture) (xs ys : List ℕ) (o : State) → original_run p (xs ++ ys) o ≡ original_run p ys (original_run p xs o)
run_append p [] ys o = refl
run_append p (x ∷ xs) ys o = run_append p xs ys (original_step p x o)

-- a real step goes first, and any other is left out
by_real : (v : Replaced) (k : Stepped) (p : Picture) (h : ℕ) (o : State) → Related v (original_after k p h o) → Related v (original_run p (of_real k h) o)
by_real v Real p h o r = r
by_real v Layout p h o r = r
by_real v Over p h o r = r

-- ---- one after another
pub made_follows : (a : Atom) (w v : Replaced) (o : State) → IsOrderly w.machine.system → Makes a w v → Related w o → Related v (original_run w.image (harts_of a w) o)
made_follows (a_step h) w v o q m r = by_real v (kind_of h w) w.image h o (step_follows w v h (kind_of h w) q refl m o r)
made_follows (a_real_step h) w v o q m r =
    by_real v (real_kind_of h w) w.image h o (subst (λ (x : Replaced). Related x (original_after (real_kind_of h w) w.image h o)) (sym m) (until_follows 3 h w o q r))
made_follows (a_replacement plan) w v o q m r = replaces_related plan w v o m.0 m.1 r
made_follows a_retirement w v o q m r = retires_related w v o m r
made_follows a_snap w v o q m r = snaps_related w v o m r

replaces_orderly : (plan : List Moved) (w v : Replaced) → Replaces plan w v → IsOrderly w.machine.system → IsOrderly v.machine.system
replaces_orderly plan w v (over b f) q = subst (λ (x : Replaced). IsOrderly x.machine.system) (sym f) q
replaces_orderly plan w v (done b h) q = subst (λ (x : Replaced). IsOrderly x.machine.system) (sym h.is) q
replaces_orderly plan w v (refused why n b h f) q = subst (λ (x : Replaced). IsOrderly x.machine.system) (sym f) q

retires_orderly : (w v : Replaced) → Retires w v → IsOrderly w.machine.system → IsOrderly v.machine.system
retires_orderly w v (retirement.over b f) q = subst (λ (x : Replaced). IsOrderly x.machine.system) (sym f) q
retires_orderly w v (retirement.done n b h) q = subst (λ (x : Replaced). IsOrderly x.machine.system) (sym h.is) q

step_orderly : (h : ℕ) (w : Replaced) → IsOrderly w.machine.system → IsOrderly (step_of h w).machine.system
unfolding step_of
step_orderly h w q = replaced_orderly w.image (code_of w) h w.machine q

pub made_orderly : (a : Atom) (w v : Replaced) → Makes a w v → IsOrderly w.machine.system → IsOrderly v.machine.system
made_orderly (a_step h) w v m q = subst (λ (x : Replaced). IsOrderly x.machine.system) (sym m) (step_orderly h w q)
made_orderly (a_real_step h) w v m q = subst (λ (x : Replaced). IsOrderly x.machine.system) (sym m) (until_orderly 3 h w q)
made_orderly (a_replacement plan) w v m q = replaces_orderly plan w v m.1 q
made_orderly a_retirement w v m q = retires_orderly w v m q
made_orderly a_snap w v m q = snaps_orderly w v m q

replaces_image : (plan : List Moved) (w v : Replaced) → Replaces plan w v → v.image ≡ w.image
replaces_image plan w v (over b f) = ap (λ (x : Replaced). x.image) f
replaces_image plan w v (done b h) = ap (λ (x : Replaced). x.image) h.is
replaces_image plan w v (refused why n b h f) = ap (λ (x : Replaced). x.image) f

retires_image : (w v : Replaced) → Retires w v → v.image ≡ w.image
retires_image w v (retirement.over b f) = ap (λ (x : Replaced). x.image) f
retires_image w v (retirement.done n b h) = ap (λ (x : Replaced). x.image) h.is

step_image : (h : ℕ) (w : Replaced) → (step_of h w).image ≡ w.image
unfolding step_of
step_image h w = refl

pub made_image : (a : Atom) (w v : Replaced) → Makes a w v → v.image ≡ w.image
made_image (a_step h) w v m = ap (λ (x : Replaced). x.image) m ∙ step_image h w
made_image (a_real_step h) w v m = ap (λ (x : Replaced). x.image) m ∙ until_image 3 h w
made_image (a_replacement plan) w v m = replaces_image plan w v m.1
made_image a_retirement w v m = retires_image w v m
made_image a_snap w v m = snaps_image w v m

-- ---- each world keeps what it keeps
step_sound : (h : ℕ) (w : Replaced) → IsWorld w → IsWorld (step_of h w)
unfolding step_of
step_sound h w s = s

pub until_sound : (n h : ℕ) (w : Replaced) → IsWorld w → IsWorld (until_real n h w)
unfolding until_real
until_sound zero h w s = s
until_sound (suc n) h w s = by_first (is_layout (kind_of h w)) (until_sound n h (step_of h w) (step_sound h w s))
  where
    by_first : (b : Bool) → IsWorld (until_real n h (step_of h w)) → IsWorld (if b then until_real n h (step_of h w) else step_of h w)
    by_first true later = later
    by_first false later = step_sound h w s

made_sound : (a : Atom) (w v : Replaced) → Makes a w v → IsWorld w → IsWorld v
made_sound (a_step h) w v m s = subst IsWorld (sym m) (step_sound h w s)
made_sound (a_real_step h) w v m s = subst IsWorld (sym m) (until_sound 3 h w s)
made_sound (a_replacement plan) w v m s = replaces_sound plan w v m.0 m.1 s
made_sound a_retirement w v m s = retires_sound w v m s
made_sound a_snap w v m s = snaps_sound w v m s

pub run_sound : (atoms : List Atom) (hs : List ℕ) (w v : Replaced) → IsRun atoms hs w v → IsWorld w → IsWorld v
run_sound [] hs w v m s = subst IsWorld (sym m.1) s
run_sound (a ∷ atoms) hs w v m s = run_sound atoms m.1 m.0 v m.4 (made_sound a w m.0 m.2 s)

-- ---- runs
pub run_follows : (atoms : List Atom) (hs : List ℕ) (w v : Replaced) (o : State) → IsOrderly w.machine.system → IsRun atoms hs w v → Related w o → Related v (original_run w.image hs o)
run_follows [] hs w v o q m r = subst (λ (x : Replaced). Related x (original_run w.image hs o)) (sym m.1) (subst (λ (gs : List ℕ). Related w (original_run w.image gs o)) (sym m.0) r)
run_follows (a ∷ atoms) hs w v o q m r =
    let u = m.0 in
    let one = made_follows a w u o q m.2 r in
    let rest = run_follows atoms m.1 u v (original_run w.image (harts_of a w) o) (made_orderly a w u m.2 q) m.4 one in
    let same = subst (λ (p : Picture). Related v (original_run p m.1 (original_run w.image (harts_of a w) o))) (made_image a w u m.2) rest in
    subst (λ (s : State). Related v s) (sym (ap (λ gs. original_run w.image gs o) m.3 ∙ run_append w.image (harts_of a w) m.1 o)) same

-- ---- every schedule of the original machine has runs that follow it
pub stretched_follows : (hs gs : List ℕ) (atoms : List Atom) (w v : Replaced) (o : State) → IsOrderly w.machine.system → IsStretched hs atoms → IsRun atoms gs w v → Related w o
    → Related v (original_run w.image hs o)
stretched_follows hs gs atoms w v o q no_more m r = subst (λ (x : Replaced). Related x o) (sym m.1) r
stretched_follows hs gs atoms w v o q (real {hs = ks} {atoms = rest} h t) m r =
    let u = m.0 in
    let later = stretched_follows ks m.1 rest u v (original_step w.image h o) (made_orderly (a_real_step h) w u m.2 q) t m.4 (real_follows w u h q m.2 o r) in
    subst (λ (p : Picture). Related v (original_run p ks (original_step w.image h o))) (made_image (a_real_step h) w u m.2) later
stretched_follows hs gs atoms w v o q (replacing {atoms = rest} plan t) m r =
    let u = m.0 in
    let later = stretched_follows hs m.1 rest u v o (made_orderly (a_replacement plan) w u m.2 q) t m.4 (replaces_related plan w u o m.2.0 m.2.1 r) in
    subst (λ (p : Picture). Related v (original_run p hs o)) (made_image (a_replacement plan) w u m.2) later
stretched_follows hs gs atoms w v o q (retiring {atoms = rest} t) m r =
    let u = m.0 in
    let later = stretched_follows hs m.1 rest u v o (made_orderly a_retirement w u m.2 q) t m.4 (retires_related w u o m.2 r) in
    subst (λ (p : Picture). Related v (original_run p hs o)) (made_image a_retirement w u m.2) later
stretched_follows hs gs atoms w v o q (snapping {atoms = rest} t) m r =
    let u = m.0 in
    let later = stretched_follows hs m.1 rest u v o (made_orderly a_snap w u m.2 q) t m.4 (snaps_related w u o m.2 r) in
    subst (λ (p : Picture). Related v (original_run p hs o)) (made_image a_snap w u m.2) later

-- ---- a run that has ended stays so
replaces_ended : (plan : List Moved) (w v : Replaced) → Replaces plan w v → is_some w.machine.outcome ≡ true → v ≡ w
replaces_ended plan w v (over b f) e = f
replaces_ended plan w v (done b h) e = absurd (cc)
replaces_ended plan w v (refused why n b h f) e = absurd (cc)

retires_ended : (w v : Replaced) → Retires w v → is_some w.machine.outcome ≡ true → v ≡ w
retires_ended w v (retirement.over b f) e = f
retires_ended w v (retirement.done n b h) e = absurd (cc)

made_ended : (a : Atom) (w v : Replaced) → Makes a w v → is_some w.machine.outcome ≡ true → v ≡ w
made_ended (a_step h) w v m e = m ∙ ended_step h w e
made_ended (a_real_step h) w v m e = m ∙ ended_real h w e
made_ended (a_replacement plan) w v m e = replaces_ended plan w v m.1 e
made_ended a_retirement w v m e = retires_ended w v m e
made_ended a_snap w v m e = snaps_ended w v m e

none_real : (a : Atom) (w : Replaced) → IsWorld w → is_some w.machine.outcome ≡ true → harts_of a w ≡ []
none_real (a_step h) w s e = ap (λ k. of_real k h) (ended_over (code_of w) h w.machine e)
none_real (a_real_step h) w s e = ap (λ k. of_real k h) ((real_over w h (real_kind_of h w) s refl).1 e)
none_real (a_replacement plan) w s e = refl
none_real a_retirement w s e = refl
none_real a_snap w s e = refl

pub run_ended : (atoms : List Atom) (gs : List ℕ) (w v : Replaced) → IsRun atoms gs w v → IsWorld w → is_some w.machine.outcome ≡ true → (gs ≡ []) × (v ≡ w)
run_ended [] gs w v m s e = m
run_ended (a ∷ atoms) gs w v m s e =
    let same = made_ended a w m.0 m.2 e in
    let later = run_ended atoms m.1 m.0 v m.4 (made_sound a w m.0 m.2 s) (ap (λ (x : Replaced). is_some x.machine.outcome) same ∙ e) in (
      m.3 ∙ (ap (λ (xs : List ℕ). xs ++ m.1) (none_real a w s e) ∙ later.0),
      later.1 ∙ same,
    )

-- ---- whose real steps these are
append_nil : (xs : List ℕ) → xs ++ [] ≡ xs
append_nil [] = refl
append_nil (x ∷ xs) = ap (λ (ys : List ℕ). x ∷ ys) (append_nil xs)

nothing_left : (hs gs : List ℕ) (b : Bool) → hs ≡ gs → AreHartsOf hs gs b
nothing_left hs gs b e = record { left = []; split = e ∙ sym (append_nil gs); all = λ f. refl }

all_left : (hs gs : List ℕ) (b : Bool) → gs ≡ [] → b ≡ true → AreHartsOf hs gs b
all_left hs gs b e t = record { left = hs; split = ap (λ (xs : List ℕ). xs ++ hs) (sym e); all = λ f. absurd (cc) }

one_more : (h : ℕ) (hs gs later : List ℕ) (b : Bool) → gs ≡ h ∷ later → AreHartsOf hs later b → AreHartsOf (h ∷ hs) gs b
one_more h hs gs later b e r = record { left = r.left; split = ap (λ (xs : List ℕ). h ∷ xs) r.split ∙ ap (λ (xs : List ℕ). xs ++ r.left) (sym e); all = r.all }

pub stretched_harts : (hs gs : List ℕ) (atoms : List Atom) (w v : Replaced) → IsStretched hs atoms → IsRun atoms gs w v → IsWorld w → AreHartsOf hs gs (is_some v.machine.outcome)
stretched_harts hs gs atoms w v no_more m s = nothing_left [] gs (is_some v.machine.outcome) (sym m.0)
stretched_harts hs gs atoms w v (replacing {atoms = rest} plan t) m s =
    subst (λ (xs : List ℕ). AreHartsOf hs xs (is_some v.machine.outcome)) (sym m.3) (stretched_harts hs m.1 rest m.0 v t m.4 (made_sound (a_replacement plan) w m.0 m.2 s))
stretched_harts hs gs atoms w v (retiring {atoms = rest} t) m s =
    subst (λ (xs : List ℕ). AreHartsOf hs xs (is_some v.machine.outcome)) (sym m.3) (stretched_harts hs m.1 rest m.0 v t m.4 (made_sound a_retirement w m.0 m.2 s))
stretched_harts hs gs atoms w v (snapping {atoms = rest} t) m s =
    subst (λ (xs : List ℕ). AreHartsOf hs xs (is_some v.machine.outcome)) (sym m.3) (stretched_harts hs m.1 rest m.0 v t m.4 (made_sound a_snap w m.0 m.2 s))
stretched_harts hs gs atoms w v (real {hs = ks} {atoms = rest} h t) m s =
    by_kind (real_kind_of h w) refl (stretched_harts ks m.1 rest m.0 v t m.4 (made_sound (a_real_step h) w m.0 m.2 s))
  where
    by_kind : (k : Stepped) → real_kind_of h w ≡ k → AreHartsOf ks m.1 (is_some v.machine.outcome) → AreHartsOf (h ∷ ks) gs (is_some v.machine.outcome)
    by_kind Real e later = one_more h ks gs m.1 (is_some v.machine.outcome) (m.3 ∙ ap (λ k. of_real k h ++ m.1) e) later
    by_kind Layout e later = absurd (never_layout w h (real_kind_of h w) s refl e)
    by_kind Over e later =
        let ended = (real_over w h (real_kind_of h w) s refl).0 e in
        let still = run_ended (a_real_step h ∷ rest) gs w v m s ended in
        all_left (h ∷ ks) gs (is_some v.machine.outcome) still.0 (ap (λ (x : Replaced). is_some x.machine.outcome) still.1 ∙ ended)
