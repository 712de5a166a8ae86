-- Real steps, one after the other, by their notes.
use Rattle.std.proofs.Common.{◌≡◌, ℕ, suc, ◌+◌, Bool, List, [], ◌∷◌, ◌++◌, length, length-append, append_assoc, refl, sym, ap, ◌∙◌, subst, arith}
use Rattle.std.specs.Prelude.{Option, Some, None, not, ◌&&◌, filter, if◌then◌else◌}
use Rattle.std.proofs.lemmas.List.Elements.{filter-append}
use Rattle.hart.specs.declared.hart.Hart.{Hart}
use Rattle.layout.specs.Points.{Code}
use Rattle.machine.specs.Harts.{hart_in}
use Rattle.sim_laws.specs.Origins.{origin}
use Rattle.world.specs.Runs.{real_steps_of, real_step_of}
use Rattle.world.specs.Worlds.{Replaced, IsWorld, code_of}
use Rattle.world.specs.Adopting.{Flight, adopted, joined, no_flight, Goes}
use Rattle.ahead.specs.declared.note.Note.{Note}
use Rattle.ahead.specs.Notes.{compared_note, compared_notes, first_apart}
use Rattle.ahead.specs.Flown.{Place, is_layout_note, is_transfer_note, original_place, first_place, transfers_to, flight_to, IsAt, Agree, Leads}
use Rattle.world.proofs.Flights.{adopts_nothing, one_more}
use Rattle.ahead.proofs.Agreeing.{both_same, notes_both, place_agrees}
use Rattle.ahead.specs.Making.{Reaches}
use Rattle.ahead.proofs.OneReal.{world_stays, agree_stays, code_stays, at_end}

-- ---- no step
pub stays : (h : ℕ) (from : Place) → Leads h 0 from from []
stays h from = record {
  leads = λ w s at agree. sym (ap (λ (f : Flight). adopted h f w) (λ i. record { regs = sym at.regs i; pc = sym at.pc i; real = 0; layout = 0; transfers = [] }) ∙ adopts_nothing h w);
}

-- ---- one
pub one_leads : (h : ℕ) (from to : Place) (ns : List Note) → Reaches 3 h from to ns → Leads h 1 from to ns
one_leads h from to ns r = record { leads = r }

-- ---- one more
first_more : (ls : List Note) (n : Note) (ms : List Note) (z x : ℕ) → x ≡ original_place n → first_place ls x ≡ first_place (ls ++ n ∷ ms) z
first_more [] n ms z x e = e
first_more (l ∷ ls) n ms z x e = refl

transfers_more : (ls : List Note) (n : Note) (ms : List Note) (z x : ℕ) → x ≡ original_place n → transfers_to x ls ++ transfers_to z (n ∷ ms) ≡ transfers_to z (ls ++ n ∷ ms)
transfers_more [] n ms z x e = refl
transfers_more (l ∷ ls) n ms z x e =
    let first : ℕ → List (ℕ × ℕ) = λ (q : ℕ). if is_transfer_note l then (original_place l, q) ∷ [] else [] in
    append_assoc (first (first_place ls x)) (transfers_to x ls) (transfers_to z (n ∷ ms))
    ∙ (λ i. first (first_more ls n ms z x e i) ++ transfers_more ls n ms z x e i)

joined_is : (c : Code) (real : ℕ) (mid to : Place) (ns : List Note) (n : Note) (ms : List Note) → origin c mid.pc ≡ original_place n
    → joined (flight_to c mid real ns) (flight_to c to 1 (n ∷ ms)) ≡ flight_to c to (real + 1) (ns ++ n ∷ ms)
joined_is c real mid to ns n ms e =
    let layouts : length (filter is_layout_note ns) + length (filter is_layout_note (n ∷ ms)) ≡ length (filter is_layout_note (ns ++ n ∷ ms)) =
    sym (ap length (filter-append is_layout_note ns (n ∷ ms)) ∙ length-append (filter is_layout_note ns) (filter is_layout_note (n ∷ ms))) in
    (λ i. record { regs = to.regs; pc = to.pc; real = real + 1; layout = layouts i; transfers = transfers_more ns n ms (origin c to.pc) (origin c mid.pc) e i })

module _ (h real : ℕ) (from mid to : Place) (ns : List Note) (n : Note) (ms : List Note) (at_mid : n.at ≡ mid.pc) (before : Leads h real from mid ns) (one : Leads h 1 mid to (n ∷ ms)) where
  leads_to : (w : Replaced) → IsWorld w → IsAt h from w → Agree w (ns ++ n ∷ ms) → real_steps_of (real + 1) h w ≡ adopted h (flight_to (code_of w) to (real + 1) (ns ++ n ∷ ms)) w
  leads_to w s at agree =
      let parts = notes_both w.image (code_of w) ns (n ∷ ms) agree in
      let f = flight_to (code_of w) mid real ns in
      let g = flight_to (code_of w) to 1 (n ∷ ms) in
      let there : IsAt h mid (adopted h f w) = at_end h f w mid at.goes refl refl in
      let last = one.leads (adopted h f w) (world_stays h f w s) there (agree_stays h f w (n ∷ ms) parts.1) ∙ code_stays h f f w to 1 (n ∷ ms) in
      let place = ap (origin (code_of w)) (sym at_mid) ∙ place_agrees w.image (code_of w) n (both_same (compared_note w.image (code_of w) n) (compared_notes w.image (code_of w) ms) parts.1).0 in
      one_more real h w f g (before.leads w s at parts.0) last
      ∙ ap (λ (x : Flight). adopted h x w) (joined_is (code_of w) real mid to ns n ms place)

  pub joined_leads : Leads h (real + 1) from to (ns ++ n ∷ ms)
  joined_leads = record { leads = leads_to }
