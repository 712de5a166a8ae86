-- A hart that comes home, and the run of the log with its steps.
use Rattle.std.proofs.Common.{◌≡◌, ℕ, zero, suc, ◌^◌, ◌<◌, ◌≤◌, Bool, true, false, List, [], ◌∷◌, ◌++◌, length, replicate, slice_index_or, slice_set, append_assoc, refl, sym, ap, ◌∙◌, subst, arith}
use Rattle.std.specs.Prelude.{◌&&◌, not, Option, Some, None, is_some}
use Rattle.std.proofs.lemmas.Bool.Decides.{nat_tests}
use Rattle.world.specs.Adopting.{Flight, adopted}
use Rattle.ahead.specs.Flown.{Flown, compared, compared_values, MayComeHome, stranger_of}
use Rattle.ahead.specs.declared.home.Stranger.{Stranger}
use Rattle.std.specs.Option.{option_map}
use Rattle.ahead.specs.Notes.{yes_no, first_apart, compared_notes}
use Rattle.machine.specs.Harts.{is_live, hart_in}
use Rattle.machine.specs.Steps.{can_step}
use Rattle.machine.proofs.HartLists.{live_made}
use Rattle.machine.proofs.Still.{can_live}
use Rattle.recorder.specs.Journals.{unfolded}
use Rattle.recorder.specs.Leaving.{compared_home, with_back, with_home}
use Rattle.recorder.specs.Numbers.{raised, steps_by}
use Rattle.recorder.specs.Recording.{Recorded, IsRunOfLog}
use Rattle.recorder.proofs.Repeating.{times_unfold}
use Rattle.stop_gate.specs.Gates.{is_away}
use Rattle.world.specs.Runs.{Atom, a_real_step, harts_of, IsRun}
use Rattle.world.specs.Worlds.{Replaced, code_of}
use Rattle.world.proofs.Flights.{more_by_is, adopted_hart}

-- ---- what is compared first
first_same : (x y : ℕ) (ps : List (ℕ × ℕ)) → first_apart ((x, y) ∷ ps) ≡ None → x ≡ y
first_same x y ps e = grind (arith, nat_tests)

first_rest : (x y : ℕ) (ps : List (ℕ × ℕ)) → first_apart ((x, y) ∷ ps) ≡ None → first_apart ps ≡ None
first_rest x y ps e = grind (arith, nat_tests)

away_if : (is_away live : Bool) → yes_no (is_away && live) ≡ 1 → is_away ≡ true
away_if true live e = refl
away_if false live e = cc

live_if : (is_away live : Bool) → yes_no (is_away && live) ≡ 1 → live ≡ true
live_if true true e = refl
live_if true false e = cc
live_if false live e = cc

-- a hart that is no stranger is away and live, and the code and its own steps have the numbers that it brings
record IsHome (is_away live : Bool) (code steps : ℕ) (a : Flown) : Type 0 where
  pub was_away : is_away ≡ true
  pub was_live : live ≡ true
  pub same_code : code ≡ a.code
  pub no_more : steps ≡ a.steps

is_home : (is_away : Bool) (code steps : ℕ) (w : Replaced) (a : Flown) → first_apart (compared is_away code steps w a) ≡ None
    → IsHome is_away (is_live (hart_in w.machine.harts a.hart).status) code steps a
unfolding compared
is_home is_away code steps w a e =
    let k = hart_in w.machine.harts a.hart in
    let values = compared_values k.regs a.from.regs ++ compared_notes w.image (code_of w) a.notes in
    let second = (code, a.code) ∷ (steps, a.steps) ∷ (k.pc, a.from.pc) ∷ values in
    let third = (steps, a.steps) ∷ (k.pc, a.from.pc) ∷ values in
    let f = first_rest (yes_no (is_away && is_live k.status)) 1 second e in
    let g = first_rest code a.code third f in
    record {
      was_away = away_if is_away (is_live k.status) (first_same (yes_no (is_away && is_live k.status)) 1 second e);
      was_live = live_if is_away (is_live k.status) (first_same (yes_no (is_away && is_live k.status)) 1 second e);
      same_code = first_same code a.code third f;
      no_more = first_same steps a.steps ((k.pc, a.from.pc) ∷ values) g;
    }

pub comes_home : (r : Recorded) (a : Flown) → first_apart (compared_home r a) ≡ None → (is_away r.gate a.hart ≡ true) × MayComeHome r.at a
comes_home r a e =
    let h = is_home (is_away r.gate a.hart) r.code (steps_by a.hart r.steps) r.at a e in (
      h.was_away,
      subst (λ b. first_apart (compared b a.code a.steps r.at a) ≡ None) h.was_away
          (subst (λ c. first_apart (compared (is_away r.gate a.hart) c a.steps r.at a) ≡ None) h.same_code
          (subst (λ n. first_apart (compared (is_away r.gate a.hart) r.code n r.at a) ≡ None) h.no_more e)),
    )

-- its hart can make a step
both_so : (has_ended live : Bool) → has_ended ≡ false → live ≡ true → (not has_ended && live) ≡ true
both_so has_ended live going e = rw (going, e) refl

pub home_steps : (r : Recorded) (a : Flown) → is_some r.at.machine.outcome ≡ false → first_apart (compared_home r a) ≡ None → can_step a.hart r.at.machine ≡ true
home_steps r a going e =
    both_so (is_some r.at.machine.outcome) (is_live (hart_in r.at.machine.harts a.hart).status) going
    (is_home (is_away r.gate a.hart) r.code (steps_by a.hart r.steps) r.at a e).was_live

-- the same of a record that is equal
pub home_away : (i r : Recorded) (a : Flown) (h : ℕ) → i ≡ r → h ≡ a.hart → first_apart (compared_home r a) ≡ None → (is_away i.gate h ≡ true) × MayComeHome i.at a
home_away i r a h same hart e =
    let home = comes_home r a e in (
      ap (is_away i.gate) hart ∙ ap (λ (x : Recorded). is_away x.gate a.hart) same ∙ home.0,
      subst (λ (x : Recorded). MayComeHome x.at a) (sym same) home.1,
    )

-- the stranger that is told
pub tells : (x : Option (ℕ × ℕ)) (s : Stranger) → Some s ≡ option_map stranger_of x → x ≡ Some (s.kept, s.brought)
tells None s e = cc
tells (Some p) s e = let same : s ≡ stranger_of p = cc in ap (λ (t : Stranger). Some (t.kept, t.brought)) (sym same)

pub tells_none : (x : Option (ℕ × ℕ)) (o : Option Stranger) → o ≡ None → o ≡ option_map stranger_of x → x ≡ None
tells_none None o none e = refl
tells_none (Some p) o none e = cc

-- ---- the gate
pub away_within : (flags : List Bool) (h : ℕ) → slice_index_or flags h false ≡ true → h < length flags
away_within [] h e = absurd (cc)
away_within (b ∷ flags) zero e = omega arith
away_within (b ∷ flags) (suc h) e = let r = away_within flags h e in omega (arith, r)

pub past_last : (flags : List Bool) (h : ℕ) → length flags ≤ h → slice_index_or flags h false ≡ false
past_last [] h le = refl
past_last (b ∷ flags) zero le = absurd (omega (arith, le))
past_last (b ∷ flags) (suc h) le = past_last flags h (omega (arith, le))

unset_same : (flags : List Bool) (h : ℕ) → slice_index_or flags h false ≡ false → slice_set flags h false ≡ flags
unset_same [] h e = refl
unset_same (b ∷ flags) zero e = ap (λ x. x ∷ flags) (sym e)
unset_same (b ∷ flags) (suc h) e = ap (λ x. b ∷ x) (unset_same flags h e)

-- one that isn't away changes nothing by coming back
pub back_same : (r : Recorded) (h : ℕ) → is_away r.gate h ≡ false → r ≡ with_back h r
back_same r h e = λ i. record r { gate = record { away = sym (unset_same r.gate.away h e) i; wanted = r.gate.wanted } }

-- ---- runs
run_both : (atoms more : List Atom) (hs ks : List ℕ) (u w v : Replaced) → IsRun atoms hs u w → IsRun more ks w v → IsRun (atoms ++ more) (hs ++ ks) u v
run_both [] more hs ks u w v r s = subst (λ x. IsRun more x u v) (sym (ap (λ x. x ++ ks) r.0)) (subst (λ x. IsRun more ks x v) r.1 s)
run_both (b ∷ atoms) more hs ks u w v r s = (r.0, r.1 ++ ks, r.2, ap (λ x. x ++ ks) r.3 ∙ append_assoc (harts_of b u) r.1 ks, run_both atoms more r.1 ks r.0 w v r.4 s)

pub home_unfolds : (r v : Recorded) (a : Flown) → v ≡ with_home a r → unfolded v.journal.entries ≡ unfolded r.journal.entries ++ replicate a.made (a_real_step a.hart)
home_unfolds r v a is = ap (λ (x : Recorded). unfolded x.journal.entries) is ∙ times_unfold a.made _ r.journal

pub home_runs : (r v : Recorded) (a : Flown) → v ≡ with_home a r → IsRun (replicate a.made (a_real_step a.hart)) (replicate a.made a.hart) r.at v.at
    → (start : Replaced) (hs : List ℕ) → IsRunOfLog start hs r → IsRunOfLog start (hs ++ replicate a.made a.hart) v
home_runs r v a is made start hs run =
    subst (λ x. IsRun x (hs ++ replicate a.made a.hart) start v.at) (sym (home_unfolds r v a is))
    (run_both (unfolded r.journal.entries) (replicate a.made (a_real_step a.hart)) hs (replicate a.made a.hart) start r.at v.at run made)

-- what is adopted ends no run
pub adopted_goes : (h : ℕ) (f : Flight) (w v : Replaced) → v ≡ adopted h f w → v.machine.outcome ≡ w.machine.outcome
unfolding adopted
adopted_goes h f w v is = ap (λ (x : Replaced). x.machine.outcome) is

-- and leaves its hart live
pub adopted_steps : (h : ℕ) (f : Flight) (w v : Replaced) → v ≡ adopted h f w → can_step h w.machine ≡ true → can_step h v.machine ≡ true
unfolding adopted
adopted_steps h f w v is can =
    let live = can_live (not (is_some w.machine.outcome)) (is_live (hart_in w.machine.harts h).status) can in
    ap (λ (x : Replaced). can_step h x.machine) is
    ∙ (λ i. not (is_some w.machine.outcome) && is_live (adopted_hart h f w (live_made w.machine.harts h live) i).status)
    ∙ can

-- its real steps are counted
pub adopted_real : (h : ℕ) (f : Flight) (w v : Replaced) → v ≡ adopted h f w → w.counts.real < 2 ^ 64 → v.counts.real ≡ raised f.real w.counts.real
unfolding adopted
adopted_real h f w v is lt = ap (λ (x : Replaced). x.counts.real) is ∙ sym (more_by_is f.real w.counts.real lt)
