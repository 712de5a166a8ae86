-- What a real step and the steps of layouts before it count.
use Rattle.std.proofs.Common.{◌≡◌, ◌≢◌, ℕ, zero, suc, ◌+◌, ◌-◌, ◌^◌, ◌≤◌, cond, refl, sym, ap, ◌∙◌, subst, arith}
use Rattle.std.proofs.Math.Nat.{min-le_left}
use Rattle.sim_laws.specs.declared.stepped.Stepped.{Stepped}
use Rattle.sim_laws.specs.declared.stepped.Stepped.TheVariants.{Real, Layout, Over}
use Rattle.sim_laws.specs.Steps.{is_layout, kind_until}
use Rattle.world.specs.declared.counts.Counts.{Counts}
use Rattle.world.specs.Worlds.{Replaced, IsWorld, code_of, more, counted, kind_of, step_of}
use Rattle.world.specs.Runs.{until_real, real_step_of, real_kind_of}
use Rattle.world.proofs.Following.{never_layout}

more_most : (n : ℕ) → more n ≤ n + 1
more_most n = min-le_left (n + 1) (2 ^ 64 - 1)

by_kind : (n : ℕ) (k later : Stepped) (c : Counts) (u v : Replaced) → v.counts ≡ counted k c
    → (later ≢ Layout → (u.counts.layout + 1 ≤ v.counts.layout + n) × (later ≡ Real → u.counts.real ≡ more v.counts.real)) → cond (is_layout k) later k ≢ Layout
    → ((cond (is_layout k) u v).counts.layout + 1 ≤ c.layout + suc n) × (cond (is_layout k) later k ≡ Real → (cond (is_layout k) u v).counts.real ≡ more c.real)
by_kind n Real later c u v e ih real =
    let same : v.counts.layout ≡ c.layout = ap (λ (x : Counts). x.layout) e in
    (omega (arith, same), λ f. ap (λ (x : Counts). x.real) e)
by_kind n Layout later c u v e ih real =
    let q = ih real in
    let less : u.counts.layout + 1 ≤ v.counts.layout + n = q.0 in
    let most : v.counts.layout ≤ c.layout + 1 = subst (λ (x : ℕ). x ≤ c.layout + 1) (sym (ap (λ (x : Counts). x.layout) e)) (more_most c.layout) in
    (omega (arith, less, most), λ f. q.1 f ∙ ap (λ (x : Counts). more x.real) e)
by_kind n Over later c u v e ih real =
    let same : v.counts.layout ≡ c.layout = ap (λ (x : Counts). x.layout) e in
    (omega (arith, same), λ f. absurd (cc))

until_counts : (n h : ℕ) (w : Replaced) → kind_until w.image (code_of w) n h w.machine ≢ Layout
    → ((until_real n h w).counts.layout + 1 ≤ w.counts.layout + n) × (kind_until w.image (code_of w) n h w.machine ≡ Real → (until_real n h w).counts.real ≡ more w.counts.real)
unfolding until_real kind_until step_of
until_counts zero h w real = absurd (real refl)
until_counts (suc n) h w real =
    by_kind n (kind_of h w) (kind_until w.image (code_of w) n h (step_of h w).machine) w.counts (until_real n h (step_of h w)) (step_of h w) refl (until_counts n h (step_of h w)) real

-- exactly one real step
pub one_real : (w new : Replaced) (h : ℕ) (k : Stepped) → IsWorld w → k ≡ real_kind_of h w → new ≡ real_step_of h w → k ≡ Real → new.counts.real ≡ more w.counts.real
one_real w new h k s e f g =
    ap (λ (x : Replaced). x.counts.real) f ∙ (until_counts 3 h w (never_layout w h (real_kind_of h w) s refl)).1 (sym e ∙ g)

-- and at most two of layouts
pub two_before : (w new : Replaced) (h : ℕ) → IsWorld w → new ≡ real_step_of h w → new.counts.layout ≤ w.counts.layout + 2
two_before w new h s f =
    let most = (until_counts 3 h w (never_layout w h (real_kind_of h w) s refl)).0 in
    let same = ap (λ (x : Replaced). x.counts.layout) f in
    omega (arith, most, same)

pub none_before : (w new : Replaced) → new ≡ w → new.counts.layout ≤ w.counts.layout + 2
none_before w new e = let same = ap (λ (x : Replaced). x.counts.layout) e in omega (arith, same)
