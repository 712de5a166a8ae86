-- Where no two of the values compared differ, the hart stands where it stood and its notes agree.
use Rattle.std.proofs.Common.{◌≡◌, ℕ, ◌+◌, ◌<◌, Bool, true, false, List, [], ◌∷◌, ◌++◌, length, replicate, refl, sym, ap, ◌∙◌, subst, arith}
use Rattle.std.specs.Prelude.{Option, Some, None, IfNone, ◌&&◌, is_some, filter}
use Rattle.std.proofs.lemmas.Bool.{and_parts}
use Rattle.link_tags.specs.declared.value.Tag.{Tag}
use Rattle.link_tags.specs.declared.value.Tag.TheVariants.{Plain, Link}
use Rattle.link_tags.specs.declared.value.Value.{Value}
use Rattle.hart.specs.declared.hart.Hart.{Hart}
use Rattle.machine.specs.Harts.{is_live, hart_in}
use Rattle.machine.proofs.HartLists.{live_made}
use Rattle.sim_laws.specs.Origins.{origin}
use Rattle.world.specs.Runs.{a_real_step, IsRun, real_steps_of}
use Rattle.world.specs.Worlds.{Replaced, IsWorld, code_of}
use Rattle.world.specs.Adopting.{Flight, adopted, Shown, Goes}
use Rattle.ahead.specs.declared.note.Note.{Note}
use Rattle.ahead.specs.Notes.{yes_no, tag_number, first_apart, compared_notes}
use Rattle.ahead.specs.Flown.{Flown, Place, is_layout_note, transfers_to, flight_to, flight_of, IsAt, Agree, IsFlight, compared_values, compared, MayComeHome}
use Rattle.world.proofs.Flights.{runs_real}
use Rattle.ahead.specs.declared.home.Stranger.{Stranger}
use Rattle.ahead.proofs.FirstApart.{told, none_told}
use Rattle.ahead.proofs.Agreeing.{first_same, same_first, both_same, bool_back}
use Rattle.ahead.proofs.Joining.{stays}

tag_back : (t u : Tag) → tag_number t ≡ tag_number u → t ≡ u
tag_back Plain Plain e = refl
tag_back Link Link e = refl
tag_back Plain Link e = absurd (omega arith)
tag_back Link Plain e = absurd (omega arith)

pub values_same : (vs ws : List Value) → first_apart (compared_values vs ws) ≡ None → vs ≡ ws
values_same [] [] e = refl
values_same (v ∷ vs) (w ∷ ws) e =
    let t = first_same v.number w.number ((tag_number v.tag, tag_number w.tag) ∷ compared_values vs ws) e in
    let u = first_same (tag_number v.tag) (tag_number w.tag) (compared_values vs ws) t.1 in
    (λ i. record { number = t.0 i; tag = tag_back v.tag w.tag u.0 i } ∷ values_same vs ws u.1 i)
values_same [] (w ∷ ws) e = absurd (cc)
values_same (v ∷ vs) [] e = absurd (cc)

-- ---- what comes home
-- after whether the hart is away and live, and after the numbers of the code and of its events
abbrev pub on_regs : Replaced → Flown → List (ℕ × ℕ)
on_regs w a = compared_values (hart_in w.machine.harts a.hart).regs a.from.regs ++ compared_notes w.image (code_of w) a.notes

abbrev pub on_pc : Replaced → Flown → List (ℕ × ℕ)
on_pc w a = ((hart_in w.machine.harts a.hart).pc, a.from.pc) ∷ on_regs w a

record Home (w : Replaced) (a : Flown) : Type 0 where
  live : is_live (hart_in w.machine.harts a.hart).status ≡ true
  pc : (hart_in w.machine.harts a.hart).pc ≡ a.from.pc
  regs : (hart_in w.machine.harts a.hart).regs ≡ a.from.regs
  agree : Agree w a.notes

home : (w : Replaced) (a : Flown) → MayComeHome w a → Home w a
unfolding compared
home w a e =
    let status = is_live (hart_in w.machine.harts a.hart).status in
    let live = first_same (yes_no (true && status)) 1 ((a.code, a.code) ∷ (a.steps, a.steps) ∷ on_pc w a) e in
    let code = first_same a.code a.code ((a.steps, a.steps) ∷ on_pc w a) live.1 in
    let steps = first_same a.steps a.steps (on_pc w a) code.1 in
    let pc = first_same (hart_in w.machine.harts a.hart).pc a.from.pc (on_regs w a) steps.1 in
    let rest = both_same (compared_values (hart_in w.machine.harts a.hart).regs a.from.regs) (compared_notes w.image (code_of w) a.notes) pc.1 in
    record {
      live = bool_back status true live.0;
      pc = pc.0;
      regs = values_same (hart_in w.machine.harts a.hart).regs a.from.regs rest.0;
      agree = rest.1;
    }

module _ (w : Replaced) (a : Flown) (sound : IsWorld w) (going : is_some w.machine.outcome ≡ false) (flight : IsFlight a) (may : MayComeHome w a) where
  pub home_made : a.hart < length w.machine.harts
  home_made = live_made w.machine.harts a.hart (home w a may).live

  pub home_leads : real_steps_of a.made a.hart w ≡ adopted a.hart (flight_of (code_of w) a) w
  home_leads =
      let h = home w a may in
      flight.leads.leads w sound (record { goes = record { going = going; live = h.live }; regs = h.regs; pc = h.pc }) h.agree

  -- by the values that the world is told
  pub told_leads : (layouts : ℕ) (transfers : List (ℕ × ℕ)) → layouts ≡ length (filter is_layout_note a.notes) → transfers ≡ transfers_to (origin (code_of w) a.now.pc) a.notes
      → real_steps_of a.made a.hart w ≡ adopted a.hart (record { regs = a.now.regs; pc = a.now.pc; real = a.made; layout = layouts; transfers = transfers }) w
  told_leads layouts transfers l t =
      home_leads ∙ ap (λ (f : Flight). adopted a.hart f w) (λ i. record { regs = a.now.regs; pc = a.now.pc; real = a.made; layout = sym l i; transfers = sym t i })

  still_going : is_some (real_steps_of a.made a.hart w).machine.outcome ≡ false
  unfolding adopted
  still_going = ap (λ (x : Replaced). is_some x.machine.outcome) home_leads ∙ going

  pub home_runs : IsRun (replicate a.made (a_real_step a.hart)) (replicate a.made a.hart) w (real_steps_of a.made a.hart w)
  home_runs = runs_real a.made a.hart w sound still_going

-- ---- by what the call has at hand: a is the value b that comes home
module _ {a : Flown} (w : Replaced) (b : Flown) (flight : IsFlight a) (is : a ≡ b) (sound : IsWorld w) (going : is_some w.machine.outcome ≡ false) (may : MayComeHome w b) where
  may_too : MayComeHome w a
  may_too = subst (λ (x : Flown). MayComeHome w x) (sym is) may

  pub bring_made : a.hart < length w.machine.harts
  bring_made = home_made w a sound going flight may_too

  pub bring_leads : (real layouts last : ℕ) (notes : List Note) (transfers : List (ℕ × ℕ)) → real ≡ a.made → notes ≡ a.notes → last ≡ origin (code_of w) a.now.pc
      → layouts ≡ length (filter is_layout_note notes) → transfers ≡ transfers_to last notes
      → real_steps_of real a.hart w ≡ adopted a.hart (record { regs = a.now.regs; pc = a.now.pc; real = real; layout = layouts; transfers = transfers }) w
  bring_leads real layouts last notes transfers r n z l t =
      let told = told_leads w a sound going flight may_too layouts transfers (l ∙ ap (λ (xs : List Note). length (filter is_layout_note xs)) n) (t ∙ (λ i. transfers_to (z i) (n i))) in
      subst (λ (x : ℕ). real_steps_of x a.hart w ≡ adopted a.hart (record { regs = a.now.regs; pc = a.now.pc; real = x; layout = layouts; transfers = transfers }) w) (sym r) told

  pub bring_runs : (new : Replaced) (real : ℕ) → real ≡ a.made → new ≡ real_steps_of real a.hart w → IsRun (replicate b.made (a_real_step b.hart)) (replicate b.made b.hart) w new
  bring_runs new real r e =
      let runs = home_runs w a sound going flight may_too in
      let at : real_steps_of a.made a.hart w ≡ new = sym (e ∙ ap (λ (x : ℕ). real_steps_of x a.hart w) r) in
      subst (λ (x : Flown). IsRun (replicate x.made (a_real_step x.hart)) (replicate x.made x.hart) w new) is
      (subst (λ (x : Replaced). IsRun (replicate a.made (a_real_step a.hart)) (replicate a.made a.hart) w x) at runs)

-- ---- where it leaves
pub leave_flight : (hart code steps : ℕ) (from : Place) (notes : List Note) (shared : Shown) → notes ≡ []
    → IsFlight (record { hart = hart; code = code; steps = steps; from = from; now = from; made = 0; notes = notes; shared = shared })
leave_flight hart code steps from notes shared e =
    subst (λ (xs : List Note). IsFlight (record { hart = hart; code = code; steps = steps; from = from; now = from; made = 0; notes = xs; shared = shared })) (sym e)
    (record { most = omega arith; seen = refl; leads = stays hart from })

-- ---- what is compared, by whether the hart is there
pub not_there : (b : Bool) (code steps : ℕ) (w : Replaced) (a : Flown) → (b && is_live (hart_in w.machine.harts a.hart).status) ≡ false
    → Some (record { kept = 0; brought = 1 }) ≡ told (compared b code steps w a)
unfolding compared
not_there b code steps w a e = rw e refl

pub is_there : (b : Bool) (code steps : ℕ) (w : Replaced) (a : Flown) → (b && is_live (hart_in w.machine.harts a.hart).status) ≡ true
    → told ((code, a.code) ∷ (steps, a.steps) ∷ on_pc w a) ≡ told (compared b code steps w a)
unfolding compared
is_there b code steps w a e = rw e refl

may_come : (b : Bool) (code steps : ℕ) (w : Replaced) (a : Flown) → first_apart (compared b code steps w a) ≡ None → MayComeHome w a
unfolding compared
may_come b code steps w a e =
    let status = is_live (hart_in w.machine.harts a.hart).status in
    let live = first_same (yes_no (b && status)) 1 ((code, a.code) ∷ (steps, a.steps) ∷ on_pc w a) e in
    let on_code = first_same code a.code ((steps, a.steps) ∷ on_pc w a) live.1 in
    let on_steps = first_same steps a.steps (on_pc w a) on_code.1 in
    let is_true = (and_parts b status (bool_back (b && status) true live.0)).1 in
    same_first (yes_no (true && status)) 1 ((a.code, a.code) ∷ (a.steps, a.steps) ∷ on_pc w a) (ap yes_no is_true)
    (same_first a.code a.code ((a.steps, a.steps) ∷ on_pc w a) refl (same_first a.steps a.steps (on_pc w a) refl on_steps.1))

pub none_home : (o : Option Stranger) (b : Bool) (code steps : ℕ) (w : Replaced) (a : Flown) → o ≡ told (compared b code steps w a) → IfNone o (MayComeHome w a)
none_home None b code steps w a e = may_come b code steps w a (none_told None (compared b code steps w a) e refl)
none_home (Some s) b code steps w a e = tt
