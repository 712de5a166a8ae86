-- What an entry keeps of the turns.
use Rattle.std.proofs.Common.{◌≡◌, ℕ, ◌%◌, Bool, true, false, List, [], ◌∷◌, ◌++◌, replicate, refl, sym, ap, ◌∙◌, subst}
use Rattle.std.specs.Prelude.{◌==◌, Option, Some, None, IfSome, All, if◌then◌else◌}
use Rattle.std.proofs.lemmas.Bool.{eq-eqb}
use Rattle.std.proofs.lemmas.List.{append_assoc, append-nil}
use Rattle.std.proofs.lemmas.List.Elements.{All-head, All-tail}
use Rattle.image.specs.Picture.{Picture}
use Rattle.sched_log.specs.declared.event.Event.{Event}
use Rattle.sched_log.specs.declared.event.Event.TheVariants.{Steps, Real, Till, Snap, Replace, Given, Retire}
use Rattle.machine.specs.Harts.{is_live, hart_in}
use Rattle.machine.specs.States.{State}
use Rattle.machine.specs.Steps.{original_run}
use Rattle.pacing.specs.Logs.{steps_in, steps_of, state_at}
use Rattle.pacing.specs.Serving.{visits, Turn, turned, turn_from, last_turn, NoneBefore, IsNext, Served}
use Rattle.pacing.specs.Keeping.{StillLive}
use Rattle.pacing.specs.Waiters.{ListsNoLive}
use Rattle.pacing.proofs.Growing.{grown_turn}
use Rattle.pacing.proofs.Runs.{listed_by_run, live_by_visit}

not_live : (b : Bool) → (b ≡ true → ⊥) → b ≡ false
not_live true f = absurd (f refl)
not_live false f = refl

-- where no earlier hart of the worker is live now, none was after its last visit
pub next_in_turn : (workers worker h : ℕ) (t : Option Turn) (now : State) → StillLive workers worker t now
    → IfSome t (λ u. NoneBefore workers worker u.hart h now) → IsNext workers worker t h
next_in_turn workers worker h None now still none = tt
next_in_turn workers worker h (Some u) now still none = λ k of_worker before.
    not_live (is_live (hart_in u.state.harts k).status)
    (λ live. (let both : true ≡ false = sym (still k of_worker live) ∙ none k of_worker before in cc))

module _ (p : Picture) (workers worker h n : ℕ) (s : State) (listed : ListsNoLive s) where
  -- by whether the visit is the worker's
  turned_still : (b : Bool) → (h % workers == worker) ≡ b → (t : Option Turn) → StillLive workers worker t s
      → StillLive workers worker (if b then Some (record { hart = h; state = original_run p (replicate n h) s }) else t) (original_run p (replicate n h) s)
  turned_still true own t still = λ k of_worker live. live
  turned_still false other None still = tt
  turned_still false other (Some u) still = λ k of_worker live.
      live_by_visit p h n k s listed
      (λ same. (let own : (h % workers == worker) ≡ true = eq-eqb (h % workers) worker (ap (λ j. j % workers) same ∙ of_worker) in let both : true ≡ false = sym own ∙ other in cc))
      (still k of_worker live)

-- an entry leaves it so, whatever it is
entry_still : (p : Picture) (workers worker : ℕ) (e : Event) (s : State) (t : Option Turn) → ListsNoLive s → StillLive workers worker t s
    → StillLive workers worker (turned workers worker (original_run p (steps_in e) s) e t) (original_run p (steps_in e) s)
entry_still p workers worker (Real h n) s t listed still = turned_still p workers worker h n s listed (h % workers == worker) refl t still
entry_still p workers worker (Steps h n) s t listed still = still
entry_still p workers worker (Till n) s t listed still = still
entry_still p workers worker Snap s t listed still = still
entry_still p workers worker Replace s t listed still = still
entry_still p workers worker (Given plan) s t listed still = still
entry_still p workers worker Retire s t listed still = still

pub still_live : (p : Picture) (start : State) (workers worker : ℕ) (log : List Event) (e : Event) → ListsNoLive start
    → StillLive workers worker (last_turn p workers worker start log) (state_at p start log)
    → StillLive workers worker (last_turn p workers worker start (log ++ e ∷ [])) (state_at p start (log ++ e ∷ []))
still_live p start workers worker log e listed still =
    grown_turn p workers worker start log e (StillLive workers worker)
    (entry_still p workers worker e (state_at p start log) (last_turn p workers worker start log) (listed_by_run p (steps_of log) start listed) still)

pub none_yet : (p : Picture) (start : State) (workers worker : ℕ) → StillLive workers worker (last_turn p workers worker start []) start
unfolding turn_from
none_yet p start workers worker = tt

-- ---- whose visit the last one is
pub own_turn : (p : Picture) (start : State) (workers worker : ℕ) (log : List Event) (h n : ℕ) → h % workers ≡ worker
    → last_turn p workers worker start (log ++ Real h n ∷ []) ≡ Some (record { hart = h; state = state_at p start (log ++ Real h n ∷ []) })
own_turn p start workers worker log h n own =
    grown_turn p workers worker start log (Real h n) (λ t s. t ≡ Some (record { hart = h; state = s })) (rw (eq-eqb (h % workers) worker own) refl)

other_entry : (workers worker : ℕ) (e : Event) (after : State) (t : Option Turn) → visits workers worker e ≡ false → turned workers worker after e t ≡ t
other_entry workers worker (Real h n) after t other = rw other refl
other_entry workers worker (Steps h n) after t other = refl
other_entry workers worker (Till n) after t other = refl
other_entry workers worker Snap after t other = refl
other_entry workers worker Replace after t other = refl
other_entry workers worker (Given plan) after t other = refl
other_entry workers worker Retire after t other = refl

pub other_turn : (p : Picture) (start : State) (workers worker : ℕ) (log : List Event) (e : Event) → visits workers worker e ≡ false
    → last_turn p workers worker start (log ++ e ∷ []) ≡ last_turn p workers worker start log
other_turn p start workers worker log e other =
    grown_turn p workers worker start log e (λ t s. t ≡ last_turn p workers worker start log) (other_entry workers worker e _ (last_turn p workers worker start log) other)

pub other_turns : (p : Picture) (start : State) (workers worker : ℕ) (log es : List Event) → All (λ e. visits workers worker e ≡ false) es
    → last_turn p workers worker start (log ++ es) ≡ last_turn p workers worker start log
other_turns p start workers worker log [] others = ap (last_turn p workers worker start) (append-nil log)
other_turns p start workers worker log (e ∷ es) others =
    ap (last_turn p workers worker start) (sym (append_assoc log (e ∷ []) es))
    ∙ other_turns p start workers worker (log ++ e ∷ []) es (All-tail (λ f. visits workers worker f ≡ false) e es others)
    ∙ other_turn p start workers worker log e (All-head (λ f. visits workers worker f ≡ false) e es others)

-- two visits of one worker with none of its own between them
pub served_in_turn : (p : Picture) (start : State) (workers : ℕ) (log before between rest : List Event) (g m h n : ℕ) → Served p start workers log
    → log ≡ before ++ Real g m ∷ (between ++ Real h n ∷ rest) → g % workers ≡ h % workers → All (λ e. visits workers (h % workers) e ≡ false) between
    → NoneBefore workers (h % workers) g h (state_at p start (before ++ Real g m ∷ []))
served_in_turn p start workers log before between rest g m h n served split own others =
    let worker = h % workers in
    let first = before ++ Real g m ∷ [] in
    let parts : log ≡ (first ++ between) ++ Real h n ∷ rest =
    split ∙ sym (append_assoc before (Real g m ∷ []) (between ++ Real h n ∷ rest)) ∙ sym (append_assoc first between (Real h n ∷ rest)) in
    subst (λ (t : Option Turn). IsNext workers worker t h) (other_turns p start workers worker first between others ∙ own_turn p start workers worker before g m own)
    (served (first ++ between) (Real h n) rest parts).next
