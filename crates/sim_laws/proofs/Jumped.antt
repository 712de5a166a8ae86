-- Related jumps end the run alike, or both go on alike.
use Rattle.std.proofs.Common.{◌≡◌, ◌≢◌, ℕ, ◌%◌, Bool, true, false, cond, refl, sym, ap, ◌∙◌, subst}
use Rattle.std.specs.Prelude.{Option, Some, None, ◌==◌, not, slice_get}
use Rattle.std.specs.List.{list_any}
use Rattle.std.proofs.lemmas.Bool.{eqb-true}
use Rattle.image.specs.Texts.{covers}
use Rattle.image.specs.Picture as image
use Rattle.image.specs.Picture.{Picture, is_second}
use Rattle.link_tags.specs.declared.value.Tag.{Tag}
use Rattle.link_tags.specs.declared.value.Tag.TheVariants.{Plain, Link}
use Rattle.link_tags.specs.Values.{original, link}
use Rattle.hart.specs.declared.hart.Hart.{Hart}
use Rattle.hart.specs.Harts.{jumped, after}
use Rattle.hart.specs.Effects.{jump}
use Rattle.layout.specs.Points.{Code, at_start}
use Rattle.layout.specs.Rows.{Renders}
use Rattle.machine.specs.declared.outcome.Outcome.{Outcome}
use Rattle.machine.specs.declared.outcome.Outcome.TheVariants.{Stalled}
use Rattle.machine.specs.Harts.{hart_in}
use Rattle.machine.specs.States.{State}
use Rattle.machine.specs.Steps.{fault_of_jump, jumped_unless, after_effect}
use Rattle.sim_laws.specs.Origins.{origin}
use Rattle.sim_laws.specs.Codes.{IsCodeOf}
use Rattle.sim_laws.specs.Related.{Lands, both_links, RegsRelated, HartsRelated, StatesRelated}
use Rattle.sim_laws.proofs.Lands.{origin_lands}
use Rattle.sim_laws.proofs.EffectPairs.{JumpsRelated, by_number, by_link, direct, by_call, Follows}
use Rattle.sim_laws.proofs.HartLists.{hart_at, found_at}
use Rattle.sim_laws.proofs.GoingOn.{length-with_reg, covered_outside, covered_fits, stands_outside, regs_written, lands_alike}
use Rattle.sim_laws.proofs.Settled.{jump_after, moved_on, ended_related}

-- what holds where three tests in turn find nothing
tests : (a b d : Bool) (x y z : Outcome) → cond (not a) (Some x) (cond (not b) (Some y) (cond d (Some z) None)) ≡ None → (a ≡ true) × (b ≡ true) × (d ≡ false)
tests true true false x y z e = (refl, refl, refl)
tests true true true x y z e = absurd (cc)
tests true false d x y z e = absurd (cc)
tests false b d x y z e = absurd (cc)

whole_if : (a : ℕ) → (a % 4 == 0) ≡ true → a % 4 ≡ 0
whole_if a e = eqb-true (a % 4) 0 e

module _ (p : Picture) (c : Code) where
  -- hart h before its instruction, on both sides
  pub record IsAt (h : ℕ) (hr ho : Hart) (r o : State) : Type 0 where
    pub states : StatesRelated p c r o
    pub replaced : slice_get r.harts h ≡ Some hr
    pub original : slice_get o.harts h ≡ Some ho
    pub place : origin c hr.pc ≡ ho.pc
    pub regs : RegsRelated p c hr.regs ho.regs

  pub harts_of : {h : ℕ} {hr ho : Hart} {r o : State} → IsAt h hr ho r o → HartsRelated p c hr ho
  harts_of {h = h} {hr = hr} {ho = ho} {r = r} {o = o} k = found_at r.harts o.harts h hr ho k.replaced k.original k.states.harts

  pub places_of : {h : ℕ} {hr ho : Hart} {r o : State} → IsAt h hr ho r o → origin c (hart_in r.harts h).pc ≡ (hart_in o.harts h).pc
  places_of {h = h} {hr = hr} {ho = ho} {r = r} {o = o} k = ap (λ (x : Hart). origin c x.pc) (hart_at r.harts h hr k.replaced) ∙ k.place ∙ sym (ap (λ (x : Hart). x.pc) (hart_at o.harts h ho k.original))

  pub both_as : (x y z w : State) → x ≡ z → y ≡ w → StatesRelated p c z w → StatesRelated p c x y
  both_as x y z w e f s = subst (λ a. StatesRelated p c a y) (sym e) (subst (λ b. StatesRelated p c z b) (sym f) s)

  -- ---- a jump that is made
  pub jumped_hart : (hr ho : Hart) (to u : ℕ) (linked : Option ℕ) → HartsRelated p c hr ho → RegsRelated p c hr.regs ho.regs → Lands p c to u
      → ((rd : ℕ) → linked ≡ Some rd → rd ≢ 0 → Follows p c hr ho) → HartsRelated p c (jumped hr to linked) (jumped ho u linked)
  jumped_hart hr ho to u None k g l f = record {
    replaced_length = k.replaced_length;
    original_length = k.original_length;
    status = k.status;
    reservation = k.reservation;
    clear = k.clear;
    alike = λ _. lands_alike p c {r = jumped hr to None} {o = jumped ho u None} l g;
  }
  jumped_hart hr ho to u (Some rd) k g l f =
      let regs = regs_written p c hr.regs ho.regs rd (link (after hr.pc)) (link (after ho.pc)) k.replaced_length k.original_length g (λ n. both_links refl refl (f rd refl n)) in
      record {
        replaced_length = length-with_reg hr.regs rd (link (after hr.pc)) ∙ k.replaced_length;
        original_length = length-with_reg ho.regs rd (link (after ho.pc)) ∙ k.original_length;
        status = k.status;
        reservation = k.reservation;
        clear = k.clear;
        alike = λ _. lands_alike p c {r = jumped hr to (Some rd)} {o = jumped ho u (Some rd)} l regs;
      }

  jumped_status : (x : Hart) (to : ℕ) (linked : Option ℕ) → (jumped x to linked).status ≡ x.status
  jumped_status x to None = refl
  jumped_status x to (Some rd) = refl

  by_fault : (h : ℕ) (hr ho : Hart) (r o : State) (to u : ℕ) (linked : Option ℕ) (fault : Option Outcome) → IsAt h hr ho r o → (fault ≡ None → Lands p c to u)
      → ((rd : ℕ) → linked ≡ Some rd → rd ≢ 0 → Follows p c hr ho) → StatesRelated p c (jumped_unless fault h to linked r) (jumped_unless fault h u linked o)
  by_fault h hr ho r o to u linked None k l f =
      rw (hart_at r.harts h hr k.replaced)
      (moved_on p c h (jumped hr to linked) (jumped (hart_in o.harts h) u linked) r o k.states
      (subst (λ x. HartsRelated p c (jumped hr to linked) (jumped x u linked)) (sym (hart_at o.harts h ho k.original)) (jumped_hart hr ho to u linked (harts_of k) k.regs (l refl) f))
      (jumped_status (hart_in o.harts h) u linked))
  by_fault h hr ho r o to u linked (Some x) k l f = ended_related p c x r o k.states

  -- ---- faults
  -- two jumps end the run alike, or both land
  record AreMadeAlike (i : Bool) (to : ℕ) (by : Tag) (j : Bool) (u : ℕ) (kind : Tag) (a x : ℕ) : Type 0 where
    faults : fault_of_jump p i a (original (origin c) (record { number = to; tag = by })) by ≡ fault_of_jump p j x (original (λ q. q) (record { number = u; tag = kind })) kind
    lands : fault_of_jump p j x (original (λ q. q) (record { number = u; tag = kind })) kind ≡ None → Lands p c to u

  made_alike : image.IsKept p → IsCodeOf p c → Renders c → {i j : Bool} {to u : ℕ} {by kind : Tag} (a x : ℕ) → a ≡ x → JumpsRelated p c i to by j u kind → AreMadeAlike i to by j u kind a x
  made_alike is_kept is n a x e (by_number {u = u}) = record {
    faults = ap (λ z. fault_of_jump p true z u Plain) e;
    lands = λ none.
        let t = tests (u % 4 == 0) (list_any (covers u) p.texts) (is_second p.pairs u) _ _ _ none in
        let out = covered_outside p c is_kept u t.1 in
        record { stands = at_start (is.point u out); whole = whole_if u t.0; fits = covered_fits p c is_kept u t.1; outside = out; unpaired = t.2 };
  }
  made_alike is_kept is n a x e (by_link {to = to} {u = u} s fits) = record {
    faults = ap (λ z. fault_of_jump p true z (origin c to) Link) e ∙ ap (λ z. fault_of_jump p true x z Link) (origin_lands p c s);
    lands = λ none.
        let t = tests (u % 4 == 0) true (is_second p.pairs u) _ Stalled _ none in
        record { stands = s; whole = whole_if u t.0; fits = fits; outside = stands_outside p c is_kept is n s; unpaired = t.2 };
  }
  made_alike is_kept is n a x e (direct {to = to} {u = u} s fits single) = record {
    faults = ap (λ z. fault_of_jump p false z (origin c to) Link) e ∙ ap (λ z. fault_of_jump p false x z Link) (origin_lands p c s);
    lands = λ none.
        let t = tests (u % 4 == 0) true false _ Stalled Stalled none in
        record { stands = s; whole = whole_if u t.0; fits = fits; outside = stands_outside p c is_kept is n s; unpaired = single };
  }
  made_alike is_kept is n a x e (by_call {to = to} {u = u} s single covered) = record {
    faults = ap (λ z. fault_of_jump p false z (origin c to) Link) e ∙ ap (λ z. fault_of_jump p false x z Link) (origin_lands p c s) ∙ rw (covered, single) refl;
    lands = λ none.
        let t = tests (u % 4 == 0) (list_any (covers u) p.texts) (is_second p.pairs u) _ _ _ none in
        record { stands = s; whole = whole_if u t.0; fits = covered_fits p c is_kept u covered; outside = covered_outside p c is_kept u covered; unpaired = single };
  }

  -- related jumps on related states
  pub jumps_applied : image.IsKept p → IsCodeOf p c → Renders c → {h : ℕ} {hr ho : Hart} {r o : State} → IsAt h hr ho r o
      → {i j : Bool} {to u : ℕ} {by kind : Tag} {linked : Option ℕ} → JumpsRelated p c i to by j u kind
      → ((rd : ℕ) → linked ≡ Some rd → rd ≢ 0 → Follows p c hr ho)
      → StatesRelated p c (after_effect (origin c) p h i (jump to by linked) r) (after_effect (λ a. a) p h j (jump u kind linked) o)
  jumps_applied is_kept is n {h = h} {hr = hr} {ho = ho} {r = r} {o = o} k {i = i} {j = j} {to = to} {u = u} {by = by} {kind = kind} {linked = linked} m f =
      let alike = made_alike is_kept is n _ _ (places_of k) m in
      both_as _ _ _ _
      (jump_after (origin c) p h i to by linked r ∙ ap (λ z. jumped_unless z h to linked r) alike.faults)
      (jump_after (λ a. a) p h j u kind linked o)
      (by_fault h hr ho r o to u linked _ k alike.lands f)
