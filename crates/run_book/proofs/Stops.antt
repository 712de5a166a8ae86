-- A run of which a stop was wanted, or was had.
use Rattle.std.proofs.Common.{◌≡◌, ℕ, Bool, true, false, List, refl, ap, subst, sym}
use Rattle.std.specs.Prelude.{Result, Ok, Err, OnOk}
use Rattle.oc_base.specs.declared.fault.NoMemory.{NoMemory}
use Rattle.pacing.specs.Clocks.{clock_of}
use Rattle.pacing.specs.Pacing.{owes_snap}
use Rattle.recorder.specs.Recording.{Recorded}
use Rattle.stop_gate.specs.Gates.{Gated, wanting}
use Rattle.sched_log.specs.declared.event.Event.{Event}
use Rattle.run_book.specs.Terms.{Terms, AreFair, state_in}
use Rattle.run_book.specs.Told.{told}
use Rattle.run_book.specs.Sections.{IsRunOf, IsAmid, IsAtRest}
use Rattle.run_book.proofs.Books.{regated}
use Rattle.run_book.proofs.Logs.{waits_rests}

module _ (t : Terms) (b : Bool) (w v : Recorded) (is : v ≡ record w { gate = wanting b w.gate }) where
  pub wished_run : IsRunOf t w → IsRunOf t v
  wished_run run = subst (IsRunOf t) (sym is) (regated t w (record w { gate = wanting b w.gate }) refl refl refl run.limited run)

  pub wished_amid : (spare : ℕ) → IsAmid t spare w.gate (told w) → IsAmid t spare v.gate (told v)
  wished_amid spare a = subst (λ (x : Recorded). IsAmid t spare x.gate (told x)) (sym is) (record {
    opened = a.opened;
    served = a.served;
    bounded = a.bounded;
    live = a.live;
    chosen = record { next = a.chosen.next; one = a.chosen.one };
  })

pub waits : (t : Terms) (w v : Recorded) → v ≡ record w { gate = wanting true w.gate } → (spare : ℕ) → owes_snap t.every (state_in t (told w)) (clock_of (told w)) ≡ false
    → IsAmid t spare w.gate (told w) → IsAtRest t v.gate (told v)
waits t w v is spare not_owed a = subst (λ (x : Recorded). IsAtRest t x.gate (told x)) (sym is) (waits_rests t spare w.gate (told w) not_owed a)

pub on_ok : {P : Type 0} {Q : Type 0} (r : Result Unit NoMemory) → OnOk r P → (P → Q) → OnOk r Q
on_ok (Ok x) p f = f p
on_ok (Err e) p f = tt

-- an attempt that was made while no hart is away, and no stop is wanted any more
pub attempt_rested : (w u v : Recorded) (g : Gated) (log : List Event) (r : Result Unit NoMemory) → u ≡ record w { gate = wanting false w.gate } → g ≡ v.gate → log ≡ told v
    → OnOk r ((t : Terms) (spare : ℕ) → u.gate.wanted ≡ false → AreFair t → IsRunOf t u → IsAmid t spare u.gate (told u) → IsAtRest t v.gate (told v))
    → OnOk r ((t : Terms) (spare : ℕ) → AreFair t → IsRunOf t w → owes_snap t.every (state_in t (told w)) (clock_of (told w)) ≡ false → IsAmid t spare w.gate (told w) → IsAtRest t g log)
attempt_rested w u v g log r is gate same rests = on_ok r rests
    (λ made t spare fair run owes amid. subst (λ (k : Gated). IsAtRest t k log) (sym gate) (subst (IsAtRest t v.gate) (sym same)
    (made t spare (ap (λ (x : Recorded). x.gate.wanted) is) fair (wished_run t false w u is run) (wished_amid t false w u is spare amid))))
