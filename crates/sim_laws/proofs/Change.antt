-- The laws of code changes.
use Rattle.std.proofs.Common.{◌≡◌, ℕ, ◌-◌, ◌*◌, ◌/◌, true, false, List, [], ◌∷◌, get_or, refl, sym, ap, ◌∙◌, subst, arith}
use Rattle.std.specs.Prelude.{Option, Some, slice_get, All}
use Rattle.std.specs.List.{AllByRecursion}
use Rattle.std.proofs.lemmas.List.Elements.{recursion_from_All}
use Rattle.finite.specs.Maps.{contains, fill}
use Rattle.image.specs.Picture.{Picture}
use Rattle.image.specs.Picture as image
use Rattle.link_tags.specs.declared.value.Tag.TheVariants.{Link}
use Rattle.link_tags.specs.declared.value.Value.{Value}
use Rattle.guest_mem.specs.Memory.{number_at, is_link_at, bytes_of}
use Rattle.guest_mem.specs.Access.{with_link}
use Rattle.hart.specs.declared.hart.Hart.{Hart}
use Rattle.hart.specs.Harts.{reg}
use Rattle.layout.specs.Points.{Code, StandsFor}
use Rattle.machine.specs.Harts.{has_ended}
use Rattle.machine.specs.States.{State}
use Rattle.sim_laws.specs.Codes.{IsCodeOf}
use Rattle.sim_laws.specs.Related.{Both, neither, found, Lands, ValuesRelated, both_plain, both_links, MemoriesRelated, PlacesRelated, whole, half, HartsRelated, StatesRelated}
use Rattle.sim_laws.specs.Changes.{at_pc, in_register, in_memory, KeepsPointers, with_links, IsSent, with_memory}
use Rattle.sim_laws.proofs.Lands.{origin_lands}
use Rattle.sim_laws.proofs.MemoryLaws.{link_set}

-- what is found on the left is found there
both_at : {A B : Type 0} {R S : A → B → Type 0} {x : Option A} {y : Option B} → Both R x y → ((a : A) (b : B) → x ≡ Some a → R a b → S a b) → Both S x y
both_at neither f = neither
both_at (found r) f = found (f _ _ refl r)

module _ (p : Picture) (c d : Code) where
  lands_kept : (a x : ℕ) → (StandsFor c a x → StandsFor d a x) → Lands p c a x → Lands p d a x
  lands_kept a x f l = record { stands = f l.stands; whole = l.whole; fits = l.fits; outside = l.outside; unpaired = l.unpaired }

  value_kept : (v w : Value) → (v.tag ≡ Link → (x : ℕ) → StandsFor c v.number x → StandsFor d v.number x) → ValuesRelated p c v w → ValuesRelated p d v w
  value_kept v w f (both_plain t u e) = both_plain t u e
  value_kept v w f (both_links t u l) = both_links t u (lands_kept v.number w.number (f t w.number) l)

  module _ (r o : State) (k : KeepsPointers c d r) where
    register_kept : (h j : ℕ) (hr : Hart) (w : Value) → slice_get r.harts h ≡ Some hr → has_ended hr.status ≡ false → ValuesRelated p c (reg hr.regs j) w → ValuesRelated p d (reg hr.regs j) w
    register_kept h j hr w at l = value_kept (reg hr.regs j) w (λ t x. k.stands (reg hr.regs j).number x (in_register h j hr at l t refl))

    places_kept : (h : ℕ) (hr : Hart) (x : ℕ) (os : List Value) → slice_get r.harts h ≡ Some hr → has_ended hr.status ≡ false → PlacesRelated p c hr.pc hr.regs x os → PlacesRelated p d hr.pc hr.regs x os
    places_kept h hr x os at l (whole s b) = whole (k.stands hr.pc x (at_pc h hr at l refl) s) (λ j. register_kept h j hr (reg os j) at l (b j))
    places_kept h hr x os at l (half b rd high m e v u) = half b rd high (k.moved b x rd high (at_pc h hr at l e) m) e v (λ j n. register_kept h j hr (reg os j) at l (u j n))

    hart_kept : (h : ℕ) (hr ho : Hart) → slice_get r.harts h ≡ Some hr → HartsRelated p c hr ho → HartsRelated p d hr ho
    hart_kept h hr ho at g = record {
      replaced_length = g.replaced_length;
      original_length = g.original_length;
      status = g.status;
      reservation = g.reservation;
      clear = g.clear;
      alike = λ e. (let a = g.alike e in let l : has_ended hr.status ≡ false = ap has_ended g.status ∙ e in record {
        whole = a.whole;
        fits = a.fits;
        outside = a.outside;
        pair = a.pair;
        places = places_kept h hr ho.pc ho.regs at l a.places;
        rests = λ f. (let q = a.rests f in record { stands = k.stands hr.pc ho.pc (at_pc h hr at l refl) q.stands; unpaired = q.unpaired });
      });
    }

    memory_kept : MemoriesRelated p c r.memory o.memory → MemoriesRelated p d r.memory o.memory
    memory_kept g = record {
      readable = g.readable;
      writable = g.writable;
      links = g.links;
      bytes = g.bytes;
      numbers = λ w e. lands_kept (number_at r.memory (8 * w)) (number_at o.memory (8 * w))
          (k.stands (number_at r.memory (8 * w)) (number_at o.memory (8 * w)) (in_memory w (ap (λ ls. contains ls w) g.links ∙ e) refl)) (g.numbers w e);
    }

    -- where each live pointer goes on to stand for what it stood for, the states stay related
    pub kept_by_change : StatesRelated p c r o → StatesRelated p d r o
    kept_by_change s = record {
      outcome = s.outcome;
      system = s.system;
      memory = memory_kept s.memory;
      harts = λ h. both_at (s.harts h) (λ hr ho. hart_kept h hr ho);
      waiting = s.waiting;
    }

-- links in memory get other numbers that stand for the same originals
module _ (p : Picture) (c : Code) (kept : image.IsKept p) (code : IsCodeOf p c) (o : State) where
  -- the same by the numbers of the original memory, which stays
  abbrev IsSentBy : ℕ × ℕ → Type 0
  IsSentBy l = (is_link_at o.memory l.0 ≡ true) × StandsFor c l.1 (number_at o.memory (8 * (l.0 / 8)))

  sent_by : (r : State) (l : ℕ × ℕ) → StatesRelated p c r o → IsSent c r.memory l → IsSentBy l
  sent_by r l s h =
      let linked : is_link_at o.memory l.0 ≡ true = ap (λ ls. contains ls (l.0 / 8)) (sym s.memory.links) ∙ h.0 in
      (linked, subst (λ x. StandsFor c l.1 x) (origin_lands p c (s.memory.numbers (l.0 / 8) linked).stands) h.1)

  all_sent_by : (r : State) (ls : List (ℕ × ℕ)) → StatesRelated p c r o → AllByRecursion (IsSent c r.memory) ls → AllByRecursion IsSentBy ls
  all_sent_by r [] s h = tt
  all_sent_by r (l ∷ ls) s h = (sent_by r l s h.0, all_sent_by r ls s h.1)

  slot_set : (r : State) (l : ℕ × ℕ) → IsSentBy l → StatesRelated p c r o → StatesRelated p c (with_memory (with_link r.memory l.0 l.1) r) o
  slot_set r l h s =
      let g = s.memory in
      let w : ℕ = l.0 / 8 in
      let k = g.numbers w h.0 in
      let lands : Lands p c l.1 (number_at o.memory (8 * w)) = record { stands = h.1; whole = k.whole; fits = k.fits; outside = k.outside; unpaired = k.unpaired } in
      let same : 8 * w / 8 ≡ w = omega arith in
      record {
        outcome = s.outcome;
        system = s.system;
        memory = subst (λ x. MemoriesRelated p c (record r.memory { bytes = fill r.memory.bytes (8 * x) 8 (λ q. get_or (bytes_of l.1) (q - 8 * x) 0) }) o.memory) same
            (link_set p c kept code {m = r.memory} {n = o.memory} w l.1 h.0 lands g);
        harts = s.harts;
        waiting = s.waiting;
      }

  slots_set_by : (ls : List (ℕ × ℕ)) (r : State) → AllByRecursion IsSentBy ls → StatesRelated p c r o → StatesRelated p c (with_memory (with_links ls r.memory) r) o
  slots_set_by [] r h s = s
  slots_set_by (l ∷ ls) r h s = slots_set_by ls (with_memory (with_link r.memory l.0 l.1) r) h.1 (slot_set r l h.0 s)

  pub slots_set : (ls : List (ℕ × ℕ)) (r : State) → All (IsSent c r.memory) ls → StatesRelated p c r o → StatesRelated p c (with_memory (with_links ls r.memory) r) o
  slots_set ls r h s = slots_set_by ls r (all_sent_by r ls s (recursion_from_All (IsSent c r.memory) ls h)) s
