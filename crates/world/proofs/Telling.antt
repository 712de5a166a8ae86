-- What is told of a world, part by part.
use Rattle.std.proofs.Common.{◌≡◌, ℕ, List, map, sym, ap, ◌∙◌}
use Rattle.std.specs.List.{count_by}
use Rattle.oc_base.specs.declared.range.Range.{Range}
use Rattle.image.specs.declared.ranges.Aim.{Aim}
use Rattle.guest_mem.specs.Access.{links_of}
use Rattle.hart.specs.declared.hart.Hart.{Hart}
use Rattle.layout.specs.Laid.{Laid}
use Rattle.sched_log.specs.declared.facts.Refused.{Refused}
use Rattle.sched_log.specs.declared.facts.LayoutFact.{LayoutFact}
use Rattle.sched_log.specs.declared.facts.HartFact.{HartFact}
use Rattle.sim_laws.specs.Origins.{origin, origin_of}
use Rattle.world.specs.Worlds.{Replaced, code_of, point_at}
use Rattle.world.specs.Told.{retired_in, changed_in, leads_in, hart_by, hart_fact, layout_facts, facts_of}

harts_as : (u : Replaced) (r : Range) (lives : List Laid) → r ≡ u.image.region → lives ≡ u.lives
    → map (λ (h : Hart). hart_by (origin_of h.pc (point_at r lives h.pc)) h.pc h.status) u.machine.harts ≡ map (hart_fact (code_of u)) u.machine.harts
unfolding origin
harts_as u r lives e f = λ i. map (λ (h : Hart). hart_by (origin_of h.pc (point_at (e i) (f i) h.pc)) h.pc h.status) u.machine.harts

pub facts_as : (u w : Replaced) → u ≡ w → (retired : ℕ) (refusals : List Refused) (sites slots : ℕ) (layouts : List LayoutFact) (harts : List HartFact)
    (r : Range) (links : List (ℕ × ℕ)) (slot_list : List Aim) (numbers : List ℕ) (lives lives1 : List Laid)
    → r ≡ u.image.region → links ≡ links_of u.machine.memory → slot_list ≡ u.image.slots → numbers ≡ u.numbers → lives ≡ u.lives → lives1 ≡ u.lives
    → retired ≡ retired_in w → refusals ≡ u.refusals → sites ≡ changed_in u.image u.text → slots ≡ count_by (leads_in r links) slot_list → layouts ≡ layout_facts numbers lives
    → harts ≡ map (λ (h : Hart). hart_by (origin_of h.pc (point_at r lives1 h.pc)) h.pc h.status) u.machine.harts
    → record {
      real = u.counts.real;
      layout = u.counts.layout;
      snaps = u.counts.snaps;
      attempts = u.counts.attempts;
      done = u.counts.done;
      retired = retired;
      refusals = refusals;
      sites = sites;
      slots = slots;
      layouts = layouts;
      harts = harts;
    } ≡ facts_of w
unfolding facts_of
facts_as u w e retired refusals sites slots layouts harts r links slot_list numbers lives lives1 a b c d f g ret h j k l m =
    let retired_is = ret ∙ sym (ap retired_in e) in
    let slots_are = k ∙ (λ i. count_by (leads_in (a i) (b i)) (c i)) in
    let layouts_are = l ∙ (λ i. layout_facts (d i) (f i)) in
    let harts_are = m ∙ harts_as u r lives1 a g in
    (λ i. record {
      real = u.counts.real;
      layout = u.counts.layout;
      snaps = u.counts.snaps;
      attempts = u.counts.attempts;
      done = u.counts.done;
      retired = retired_is i;
      refusals = h i;
      sites = j i;
      slots = slots_are i;
      layouts = layouts_are i;
      harts = harts_are i;
    }) ∙ ap facts_of e
