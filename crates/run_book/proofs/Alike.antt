-- What is tested of a world is so of each state for which it stands.
use Rattle.std.proofs.Common.{◌≡◌, ◌≤◌, ℕ, zero, suc, true, List, [], ◌∷◌, length, refl, ap, arith}
use Rattle.std.specs.Prelude.{slice_get, not, ◌&&◌, is_some}
use Rattle.image.specs.Picture.{Picture}
use Rattle.layout.specs.Points.{Code}
use Rattle.hart.specs.declared.hart.Hart.{Hart}
use Rattle.machine.specs.Harts.{is_live, hart_in}
use Rattle.machine.specs.States.{State}
use Rattle.machine.specs.Steps.{can_step}
use Rattle.sim_laws.specs.Related.{Both, HartsRelated}
use Rattle.sim_laws.proofs.HartLists.{found_both, no_left, no_right}
use Rattle.world.specs.Worlds.{Replaced, Related, code_of}

live_alike : (p : Picture) (c : Code) (xs ys : List Hart) → ((k : ℕ) → Both (HartsRelated p c) (slice_get xs k) (slice_get ys k)) → (h : ℕ)
    → is_live (hart_in xs h).status ≡ is_live (hart_in ys h).status
live_alike p c [] [] b h = refl
live_alike p c [] (y ∷ ys) b h = absurd (no_left (b 0))
live_alike p c (x ∷ xs) [] b h = absurd (no_right (b 0))
live_alike p c (x ∷ xs) (y ∷ ys) b zero = ap is_live (found_both (b 0)).status
live_alike p c (x ∷ xs) (y ∷ ys) b (suc h) = live_alike p c xs ys (λ k. b (suc k)) h

many_alike : (p : Picture) (c : Code) (xs ys : List Hart) → ((k : ℕ) → Both (HartsRelated p c) (slice_get xs k) (slice_get ys k)) → length xs ≡ length ys
many_alike p c [] [] b = refl
many_alike p c [] (y ∷ ys) b = absurd (no_left (b 0))
many_alike p c (x ∷ xs) [] b = absurd (no_right (b 0))
many_alike p c (x ∷ xs) (y ∷ ys) b = ap suc (many_alike p c xs ys (λ k. b (suc k)))

pub same_live : (w : Replaced) (o : State) (h : ℕ) → Related w o → is_live (hart_in w.machine.harts h).status ≡ is_live (hart_in o.harts h).status
same_live w o h r = live_alike w.image (code_of w) w.machine.harts o.harts r.states.harts h

pub same_many : (w : Replaced) (o : State) → Related w o → length w.machine.harts ≡ length o.harts
same_many w o r = many_alike w.image (code_of w) w.machine.harts o.harts r.states.harts

pub same_over : (w : Replaced) (o : State) → Related w o → is_some w.machine.outcome ≡ is_some o.outcome
same_over w o r = ap (λ x. is_some x) r.states.outcome

pub same_step : (w : Replaced) (o : State) (h : ℕ) → Related w o → can_step h w.machine ≡ can_step h o
same_step w o h r = λ i. not (same_over w o r i) && same_live w o h r i

-- a live hart is one that was made
pub some_harts : (harts : List Hart) (h : ℕ) → is_live (hart_in harts h).status ≡ true → 1 ≤ length harts
some_harts [] h live = absurd (cc)
some_harts (x ∷ xs) h live = omega arith
