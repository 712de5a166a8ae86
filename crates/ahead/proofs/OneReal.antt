-- A real step, and the steps of layouts alone before it, by their notes.
use Rattle.std.proofs.Common.{◌≡◌, ℕ, suc, ◌+◌, ◌<◌, Bool, true, false, cond, List, [], ◌∷◌, ◌++◌, length, refl, sym, ap, ◌∙◌, subst, arith}
use Rattle.std.specs.Prelude.{Option, Some, None, not, ◌&&◌, filter}
use Rattle.std.specs.Option.{option_and_then, option_map_or}
use Rattle.rv_isa.specs.Decoded.{decoded}
use Rattle.rv_isa.specs.declared.instr.Instr.{Instr}
use Rattle.image.specs.Picture.{Picture}
use Rattle.hart.specs.declared.hart.Hart.{Hart}
use Rattle.hart.specs.Harts.{with_reg}
use Rattle.layout.specs.Points.{Code}
use Rattle.machine.specs.Harts.{is_live, hart_in}
use Rattle.machine.specs.Transfers.{transfers}
use Rattle.machine.proofs.HartLists.{live_made}
use Rattle.sim_laws.specs.declared.stepped.Stepped.TheVariants.{Real, Layout}
use Rattle.sim_laws.specs.Origins.{origin, is_layout_step}
use Rattle.sim_laws.specs.Steps.{is_layout}
use Rattle.world.specs.declared.code.Led.{Led}
use Rattle.world.specs.Fetching.{led_by, led}
use Rattle.world.specs.Runs.{until_real}
use Rattle.world.specs.Worlds.{Replaced, IsWorld, code_of, kind_of, step_of}
use Rattle.world.proofs.Following.{code_sound}
use Rattle.world.specs.Adopting.{Flight, adopted, joined, layout_flight, real_flight, private_step, led_in, Goes}
use Rattle.ahead.specs.declared.note.Note.{Note}
use Rattle.ahead.specs.declared.note.Sort.{Sort}
use Rattle.ahead.specs.declared.note.Sort.TheVariants.{Transfer, Other}
use Rattle.ahead.specs.declared.note.Sort.TheVariants.{Layout as Layouts}
use Rattle.ahead.specs.Notes.{compared_note, compared_notes, first_apart}
use Rattle.ahead.specs.Flown.{Place, place_of, is_layout_sort, is_layout_note, original_place, first_place, transfers_to, flight_to, IsAt, Agree}
use Rattle.ahead.specs.Making.{gone, is_layout_at, sort_of, Reaches}
use Rattle.world.proofs.Flights.{adopts_joined, adopted_hart, adopted_goes}
use Rattle.world.proofs.Private.{real_flies, layout_flies}
use Rattle.ahead.proofs.Agreeing.{both_same, Agrees, agrees}
use Rattle.ahead.proofs.Alike.{placed, gone_alike}
use Rattle.ahead.proofs.Whole.{origin_whole}
use Rattle.ahead.proofs.Passing.{harts, passes}
use Rattle.ahead.proofs.LayoutNotes.{layout_told}

-- ---- what the world stays
pub world_stays : (h : ℕ) (f : Flight) (w : Replaced) → IsWorld w → IsWorld (adopted h f w)
unfolding adopted
world_stays h f w s = s

pub agree_stays : (h : ℕ) (f : Flight) (w : Replaced) (ns : List Note) → Agree w ns → Agree (adopted h f w) ns
unfolding adopted
agree_stays h f w ns a = a

pub code_stays : (h : ℕ) (f g : Flight) (w : Replaced) (to : Place) (real : ℕ) (ns : List Note)
    → adopted h (flight_to (code_of (adopted h f w)) to real ns) (adopted h f w) ≡ adopted h (flight_to (code_of w) to real ns) (adopted h f w)
unfolding adopted
code_stays h f g w to real ns = refl

pub at_end : (h : ℕ) (f : Flight) (w : Replaced) (to : Place) → Goes h w → f.regs ≡ to.regs → f.pc ≡ to.pc → IsAt h to (adopted h f w)
at_end h f w to g r q =
    let e = adopted_hart h f w (live_made w.machine.harts h g.live) in
    record {
      goes = adopted_goes h f w g;
      regs = ap (λ (k : Hart). k.regs) e ∙ r;
      pc = ap (λ (k : Hart). k.pc) e ∙ q;
    }

-- ---- by what the step is
stops_at : (m h : ℕ) (w : Replaced) → kind_of h w ≡ Real → until_real (suc m) h w ≡ step_of h w
unfolding until_real
stops_at m h w e = ap (λ k. cond (is_layout k) (until_real m h (step_of h w)) (step_of h w)) e

goes_past : (m h : ℕ) (w : Replaced) → kind_of h w ≡ Layout → until_real (suc m) h w ≡ until_real m h (step_of h w)
unfolding until_real
goes_past m h w e = ap (λ k. cond (is_layout k) (until_real m h (step_of h w)) (step_of h w)) e

pub hart_at : (h : ℕ) (k : Hart) (w : Replaced) → IsAt h (place_of k) w → hart_in w.machine.harts h ≡ placed k (hart_in w.machine.harts h)
hart_at h k w at = λ i. record (hart_in w.machine.harts h) { regs = at.regs i; pc = at.pc i }

-- ---- the flight of a real step
no_layouts : (b : Bool) (n : Note) → n.sort ≡ cond b Transfer Other → is_layout_note n ≡ false
no_layouts true n e = ap is_layout_sort e
no_layouts false n e = ap is_layout_sort e

one_transfer : (b : Bool) (n : Note) (q : ℕ × ℕ) (last : ℕ) → n.sort ≡ cond b Transfer Other → q ≡ (original_place n, last) → cond b (q ∷ []) [] ≡ transfers_to last (n ∷ [])
one_transfer true n q last e is = rw e (ap (λ (t : ℕ × ℕ). t ∷ []) is)
one_transfer false n q last e is = rw e refl

real_flight_is : (c : Code) (i : Instr) (n : Note) (pc : ℕ) (new : Hart) (to : Place) → new.regs ≡ to.regs → new.pc ≡ to.pc → n.sort ≡ sort_of i
    → origin c pc ≡ original_place n → real_flight (origin c) i pc new ≡ flight_to c to 1 (n ∷ [])
real_flight_is c i n pc new to er ep d o =
    let t = one_transfer (transfers i) n (origin c pc, origin c new.pc) (origin c to.pc) d (λ j. (o j, origin c (ep j))) in
    let l = no_layouts (transfers i) n d in
    let e : 0 ≡ length (filter is_layout_note (n ∷ [])) = rw l refl in
    (λ j. record { regs = er j; pc = ep j; real = 1; layout = e j; transfers = t j })

module _ (m h : ℕ) (n : Note) (i : Instr) (org : ℕ → ℕ) (p : Picture) (k new : Hart) (at_pc : n.at ≡ k.pc) (low : n.word < 4294967296) (d : decoded n.word ≡ Some i)
    (sort : n.sort ≡ sort_of i) (l : is_layout_at n.at n.word n.point ≡ false) (goes : gone org p i k ≡ Some (new, n.aim)) where
  module _ (w : Replaced) (s : IsWorld w) (at : IsAt h (place_of k) w) (agree : Agree w (n ∷ [])) where
    agreed : Agrees w.image (code_of w) n
    agreed = agrees w.image (code_of w) n low (both_same (compared_note w.image (code_of w) n) [] agree).0

    pc_is : (hart_in w.machine.harts h).pc ≡ n.at
    pc_is = at.pc ∙ sym at_pc

    here_gone : private_step (origin (code_of w)) w.image i (hart_in w.machine.harts h) ≡ Some (placed new (hart_in w.machine.harts h))
    here_gone =
        ap (private_step (origin (code_of w)) w.image i) (hart_at h k w at)
        ∙ sym (passes (origin (code_of w)) (origin_whole w.image (code_of w) s.kept (code_sound w s) s.placed.renders) w.image (placed k (hart_in w.machine.harts h)) i)
        ∙ ap harts (gone_alike org p w.image (code_of w) k (hart_in w.machine.harts h) new n.aim agreed.aim i goes)

    no_layout : is_layout_step (code_of w) (hart_in w.machine.harts h).pc ≡ false
    no_layout = ap (is_layout_step (code_of w)) pc_is ∙ layout_told (code_of w) n.at s.placed.renders n.word n.point agreed.word agreed.point ∙ l

    steps_so : until_real (suc m) h w ≡ adopted h (flight_to (code_of w) (place_of new) 1 (n ∷ [])) w
    steps_so =
        let f = real_flies h n.word i (placed new (hart_in w.machine.harts h)) w at.goes no_layout (ap (code_of w).word pc_is ∙ agreed.word) d here_gone in
        stops_at m h w f.0 ∙ f.1
        ∙ ap (λ (g : Flight). adopted h g w)
        (real_flight_is (code_of w) i n (hart_in w.machine.harts h).pc (placed new (hart_in w.machine.harts h)) (place_of new) refl refl sort (ap (origin (code_of w)) pc_is ∙ agreed.origin))

  pub real_reaches : Reaches (suc m) h (place_of k) (place_of new) (n ∷ [])
  real_reaches w s at agree = steps_so w s at agree

-- ---- a step of layouts alone before it
layout_flight_is : (c : Code) (new : Hart) (n : Note) (ns : List Note) (to : Place) → n.sort ≡ Layouts → joined (layout_flight new) (flight_to c to 1 ns) ≡ flight_to c to 1 (n ∷ ns)
layout_flight_is c new n ns to l =
    let t : transfers_to (origin c to.pc) ns ≡ transfers_to (origin c to.pc) (n ∷ ns) = rw l refl in
    let one : 1 + length (filter is_layout_note ns) ≡ suc (length (filter is_layout_note ns)) = omega arith in
    let e : 1 + length (filter is_layout_note ns) ≡ length (filter is_layout_note (n ∷ ns)) = rw l one in
    (λ j. record { regs = to.regs; pc = to.pc; real = 1; layout = e j; transfers = t j })

module _ (m h : ℕ) (n : Note) (ns : List Note) (k : Hart) (to : Place) (at_pc : n.at ≡ k.pc) (low : n.word < 4294967296) (sort : n.sort ≡ Layouts) (l : is_layout_at n.at n.word n.point ≡ true)
    (more : Reaches m h (place_of (led (led_by (decoded n.word) k.pc) k)) to ns) where
  module _ (w : Replaced) (s : IsWorld w) (at : IsAt h (place_of k) w) (agree : Agree w (n ∷ ns)) where
    both : (first_apart (compared_note w.image (code_of w) n) ≡ None) × Agree w ns
    both = both_same (compared_note w.image (code_of w) n) (compared_notes w.image (code_of w) ns) agree

    agreed_first : Agrees w.image (code_of w) n
    agreed_first = agrees w.image (code_of w) n low both.0

    first_pc : (hart_in w.machine.harts h).pc ≡ n.at
    first_pc = at.pc ∙ sym at_pc

    is_layout_here : is_layout_step (code_of w) (hart_in w.machine.harts h).pc ≡ true
    is_layout_here = ap (is_layout_step (code_of w)) first_pc ∙ layout_told (code_of w) n.at s.placed.renders n.word n.point agreed_first.word agreed_first.point ∙ l

    led_so : led_by (option_and_then decoded ((code_of w).word (hart_in w.machine.harts h).pc)) (hart_in w.machine.harts h).pc ≡ led_by (decoded n.word) k.pc
    led_so =
        let word : (code_of w).word (hart_in w.machine.harts h).pc ≡ Some n.word = ap (code_of w).word first_pc ∙ agreed_first.word in
        λ j. led_by (option_and_then decoded (word j)) (at.pc j)

    past : until_real (suc m) h w ≡ adopted h (flight_to (code_of w) to 1 (n ∷ ns)) w
    past =
        let f = layout_flies h w s at.goes is_layout_here in
        let lf = layout_flight (led_in (code_of w) (hart_in w.machine.harts h)) in
        let mid = led (led_by (decoded n.word) k.pc) k in
        let regs : lf.regs ≡ mid.regs = λ j. with_reg (at.regs j) (led_so j).rd (led_so j).value in
        let pc : lf.pc ≡ mid.pc = λ j. (led_so j).pc in
        let there = at_end h lf w (place_of mid) at.goes regs pc in
        goes_past m h w f.0 ∙ ap (until_real m h) f.1
        ∙ more (adopted h lf w) (world_stays h lf w s) there (agree_stays h lf w ns both.1)
        ∙ code_stays h lf lf w to 1 ns
        ∙ adopts_joined h lf (flight_to (code_of w) to 1 ns) w
        ∙ ap (λ (g : Flight). adopted h g w) (layout_flight_is (code_of w) (led_in (code_of w) (hart_in w.machine.harts h)) n ns to sort)

  pub layout_reaches : Reaches (suc m) h (place_of k) to (n ∷ ns)
  layout_reaches w s at agree = past w s at agree
