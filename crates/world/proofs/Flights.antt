-- How flights join, and what a world keeps that takes one in.
use Rattle.std.proofs.Common.{◌≡◌, ◌≢◌, ℕ, zero, suc, ◌+◌, ◌-◌, ◌^◌, ◌<◌, ◌≤◌, min, false, List, [], ◌∷◌, ◌++◌, length, replicate, set, refl, sym, ap, ◌∙◌, arith, inl, inr}
use Rattle.std.specs.Prelude.{◌⊎◌, Some, is_some, slice_get}
use Rattle.std.proofs.lemmas.Bool.{cases_lt, false≢true}
use Rattle.std.proofs.lemmas.List.{set-get_or, get_or-set_same}
use Rattle.std.proofs.Math.Nat.{min-eq_left, min-eq_right}
use Rattle.branch_ring.specs.Rings.{Notes}
use Rattle.hart.specs.declared.hart.Hart.{Hart}
use Rattle.machine.specs.Harts.{is_live, no_hart, hart_in}
use Rattle.machine.specs.States.{State}
use Rattle.machine.specs.Steps.{with_hart}
use Rattle.sim_laws.proofs.HartLists.{get_other}
use Rattle.machine.proofs.HartLists.{live_made}
use Rattle.sim_laws.specs.declared.stepped.Stepped.{Stepped}
use Rattle.sim_laws.specs.declared.stepped.Stepped.TheVariants.{Real, Layout, Over}
use Rattle.world.specs.Adopting.{Flight, adopted, more_by, with_transfers, no_flight, joined, Goes, StandsBut}
use Rattle.world.specs.Rings.{with_transfer}
use Rattle.world.specs.Runs.{a_real_step, of_real, IsRun, real_step_of, real_kind_of, real_steps_of}
use Rattle.world.specs.Worlds.{Replaced, IsWorld}
use Rattle.world.proofs.Following.{real_over, never_layout}
use Rattle.world.proofs.Running.{until_sound}
use Rattle.world.proofs.Stepping.{steps_more, ended_steps}

-- ---- the parts
-- a hart at the end of a flight
abbrev pub flown : Flight → Hart → Hart
flown f k = record k { regs = f.regs; pc = f.pc }

pub more_by_is : (n c : ℕ) → c < 2 ^ 64 → min (c + n) (2 ^ 64 - 1) ≡ more_by n c
more_by_is zero c lt = min-eq_left (omega (arith, lt)) ∙ omega arith
more_by_is (suc n) c lt = refl

more_joined : (m n c : ℕ) → more_by n (more_by m c) ≡ more_by (m + n) c
more_joined zero n c = let e : n ≡ zero + n = omega arith in ap (λ k. more_by k c) e
more_joined (suc m) zero c = let e : suc m ≡ suc m + zero = omega arith in ap (λ k. more_by k c) e
more_joined (suc m) (suc n) c =
    let e : suc (m + suc n) ≡ suc m + suc n = omega arith in by_room (cases_lt (c + suc m) (2 ^ 64 - 1)) ∙ ap (λ k. more_by k c) e
  where
    by_room : ((c + suc m < 2 ^ 64 - 1) ⊎ (2 ^ 64 - 1 ≤ c + suc m)) → min (min (c + suc m) (2 ^ 64 - 1) + suc n) (2 ^ 64 - 1) ≡ min (c + suc (m + suc n)) (2 ^ 64 - 1)
    by_room (inl lt) =
        let e : c + suc m + suc n ≡ c + suc (m + suc n) = omega arith in
        ap (λ k. min (k + suc n) (2 ^ 64 - 1)) (min-eq_left (omega (arith, lt))) ∙ ap (λ k. min k (2 ^ 64 - 1)) e
    by_room (inr le) =
        ap (λ k. min (k + suc n) (2 ^ 64 - 1)) (min-eq_right le)
        ∙ min-eq_right (omega arith) ∙ sym (min-eq_right (omega (arith, le)))

harts_joined : (h : ℕ) (hs : List Hart) (f g : Flight) → set (set hs h (flown f (hart_in hs h))) h (flown g (hart_in (set hs h (flown f (hart_in hs h))) h)) ≡ set hs h (flown g (hart_in hs h))
harts_joined h [] f g = refl
harts_joined zero (k ∷ ks) f g = refl
harts_joined (suc h) (k ∷ ks) f g = ap (λ (xs : List Hart). k ∷ xs) (harts_joined h ks f g)

rings_joined : (h : ℕ) (ts us : List (ℕ × ℕ)) (rings : List Notes) → with_transfers h us (with_transfers h ts rings) ≡ with_transfers h (ts ++ us) rings
rings_joined h [] us rings = refl
rings_joined h (t ∷ ts) us rings = rings_joined h ts us (with_transfer h (Some t) rings)

-- a world v that is w, with its parts put in one by one
pub taken_in : (h : ℕ) (f : Flight) (v w : Replaced) → v ≡ w → (m : State) (real layout : ℕ) (rings : List Notes)
    → m ≡ with_hart h (flown f (hart_in v.machine.harts h)) v.machine → real ≡ more_by f.real v.counts.real → layout ≡ more_by f.layout v.counts.layout
    → rings ≡ with_transfers h f.transfers v.rings → record v { machine = m; counts = record v.counts { real = real; layout = layout }; rings = rings } ≡ adopted h f w
unfolding adopted
taken_in h f v w view m real layout rings made r l noted =
    (λ i. record v { machine = made i; counts = record v.counts { real = r i; layout = l i }; rings = noted i }) ∙ ap (adopted h f) view

-- ---- flights
pub adopts_nothing : (h : ℕ) (w : Replaced) → adopted h (no_flight (hart_in w.machine.harts h)) w ≡ w
unfolding adopted
adopts_nothing h w = λ i. record w { machine = record w.machine { harts = set-get_or w.machine.harts h no_hart i } }

pub adopts_joined : (h : ℕ) (f g : Flight) (w : Replaced) → adopted h g (adopted h f w) ≡ adopted h (joined f g) w
unfolding adopted
adopts_joined h f g w =
    (λ i. record w {
      machine = record w.machine { harts = harts_joined h w.machine.harts f g i };
      counts = record w.counts { real = more_joined f.real g.real w.counts.real i; layout = more_joined f.layout g.layout w.counts.layout i };
      rings = rings_joined h f.transfers g.transfers w.rings i;
    })

pub adopted_hart : (h : ℕ) (f : Flight) (w : Replaced) → h < length w.machine.harts → hart_in (adopted h f w).machine.harts h ≡ record (hart_in w.machine.harts h) { regs = f.regs; pc = f.pc }
unfolding adopted
adopted_hart h f w lt = get_or-set_same w.machine.harts h (flown f (hart_in w.machine.harts h)) no_hart lt

pub adopted_others : (h k : ℕ) (f : Flight) (w : Replaced) → k ≢ h → slice_get (adopted h f w).machine.harts k ≡ slice_get w.machine.harts k
unfolding adopted
adopted_others h k f w n = get_other w.machine.harts h k (flown f (hart_in w.machine.harts h)) n

pub adopted_rest : (h : ℕ) (f : Flight) (w : Replaced) → StandsBut w (adopted h f w)
unfolding adopted
adopted_rest h f w = record {
  image = refl;
  text = refl;
  lives = refl;
  numbers = refl;
  free = refl;
  memory = refl;
  system = refl;
  outcome = refl;
  refusals = refl;
  snapshot = refl;
}

pub adopted_world : (h : ℕ) (f : Flight) (w : Replaced) → IsWorld w → IsWorld (adopted h f w)
unfolding adopted
adopted_world h f w s = s

adopted_outcome : (h : ℕ) (f : Flight) (w : Replaced) → is_some (adopted h f w).machine.outcome ≡ is_some w.machine.outcome
unfolding adopted
adopted_outcome h f w = refl

pub adopted_goes : (h : ℕ) (f : Flight) (w : Replaced) → Goes h w → Goes h (adopted h f w)
adopted_goes h f w g = record {
  going = adopted_outcome h f w ∙ g.going;
  live = ap (λ (k : Hart). is_live k.status) (adopted_hart h f w (live_made w.machine.harts h g.live)) ∙ g.live;
}

pub one_more : (n h : ℕ) (w : Replaced) (f g : Flight) → real_steps_of n h w ≡ adopted h f w → real_step_of h (adopted h f w) ≡ adopted h g (adopted h f w)
    → real_steps_of (n + 1) h w ≡ adopted h (joined f g) w
one_more n h w f g e one = sym (steps_more n h w (adopted h f w) (adopted h g (adopted h f w)) (sym e) (sym one)) ∙ adopts_joined h f g w

-- ---- runs
real_kind : (n h : ℕ) (w : Replaced) (k : Stepped) → IsWorld w → is_some (real_steps_of (suc n) h w).machine.outcome ≡ false → real_kind_of h w ≡ k → k ≡ Real
real_kind n h w Real s e is = refl
real_kind n h w Layout s e is = absurd (never_layout w h (real_kind_of h w) s refl is)
real_kind n h w Over s e is =
    let ended = (real_over w h (real_kind_of h w) s refl).0 is in
    absurd (false≢true (sym e ∙ ap (λ (x : Replaced). is_some x.machine.outcome) (ended_steps (suc n) h w ended) ∙ ended))

pub runs_real : (n h : ℕ) (w : Replaced) → IsWorld w → is_some (real_steps_of n h w).machine.outcome ≡ false → IsRun (replicate n (a_real_step h)) (replicate n h) w (real_steps_of n h w)
runs_real zero h w s e = (refl, refl)
runs_real (suc n) h w s e = (
  real_step_of h w,
  replicate n h,
  refl,
  ap (λ k. of_real k h ++ replicate n h) (sym (real_kind n h w (real_kind_of h w) s e refl)),
  runs_real n h (real_step_of h w) (until_sound 3 h w s) e,
)
