-- What a run is like whose book is closed.
use Rattle.std.proofs.Common.{◌≡◌, ◌≤◌, ◌<◌, ◌+◌, ◌*◌, length, arith}
use Rattle.pacing.specs.Clocks.{reals}
use Rattle.pacing.specs.Limits.{visit_limit, entry_limit, visit_entries}
use Rattle.pacing.specs.Pacing.{Paced}
use Rattle.pacing.proofs.Bounded.{limit_ends, bound_ends}
use Rattle.pacing.proofs.Kept.{paced}
use Rattle.recorder.specs.Recording.{Recorded}
use Rattle.stop_gate.specs.Gates.{aways}
use Rattle.run_book.specs.Terms.{Terms, start_in, state_in}
use Rattle.run_book.specs.Sections.{IsRunOf, IsAtRest}
use Rattle.run_book.specs.Told.{told}
use Rattle.run_book.proofs.Alike.{same_many}

module _ (t : Terms) (r : Recorded) (run : IsRunOf t r) where
  as_many : length r.at.machine.harts ≡ length (state_in t (told r)).harts
  as_many = same_many r.at (state_in t (told r)) run.related

  pub few_steps : reals (told r) < t.limit + visit_limit * length r.at.machine.harts
  few_steps =
      let many = as_many in
      let few = limit_ends t.image (start_in t) t.limit (aways r.gate) (told r) run.limited in
      omega (arith, many, few)

  pub few_entries : IsAtRest t r.gate (told r) → length (told r) ≤ entry_limit + 1 + visit_entries * length r.at.machine.harts
  few_entries rest =
      let many = as_many in
      let few = bound_ends t.image (start_in t) (aways r.gate) 0 (told r) rest.bounded in
      omega (arith, many, few)

  pub rests_paced : IsAtRest t r.gate (told r) → Paced t.image (start_in t) t.every (told r)
  rests_paced rest = paced t.image (start_in t) t.every (aways r.gate) r.gate.wanted (told r) rest.settled
