-- A run before its first visit.
use Rattle.std.proofs.Common.{◌≡◌, ℕ, zero, suc, ◌<◌, false, [], ◌++◌, replicate, refl, sym, ap, ◌∙◌, subst, arith}
use Rattle.std.specs.Prelude.{slice_get, slice_index_or, Option, Some, None}
use Rattle.image.specs.Picture.{IsKept}
use Rattle.world.specs.Worlds.{Replaced, started}
use Rattle.world.proofs.Starting.{started_related}
use Rattle.pacing.specs.Clocks.{clock_from}
use Rattle.pacing.specs.Serving.{turn_from}
use Rattle.pacing.specs.Bounds.{IsLimited}
use Rattle.pacing.proofs.Bounded.{limit_begins}
use Rattle.stop_gate.proofs.Counts.{no_aways}
use Rattle.recorder.specs.Marking.{unmarked}
use Rattle.recorder.specs.Recording.{Recorded, all_here}
use Rattle.run_book.specs.declared.running.Running.{Running}
use Rattle.run_book.specs.Terms.{Terms, AreFair, start_in}
use Rattle.run_book.specs.Sections.{IsRunOf, IsAtRest, AreLast}
use Rattle.run_book.specs.Told.{told}
use Rattle.run_book.specs.Booked.{IsBook}
use Rattle.run_book.proofs.Logs.{begins_rested}

-- a recorder that was asked for nothing yet
abbrev pub begun_at : Replaced → Recorded
begun_at w = record { at = w; journal = record { entries = []; is_open = false }; marks = unmarked; gate = all_here; code = 0; steps = replicate 64 0 }

abbrev begun : Terms → Recorded
begun t = begun_at (started t.image t.ring t.input)

none_away : (n h : ℕ) → slice_index_or (replicate n false) h false ≡ false
none_away zero h = refl
none_away (suc n) zero = refl
none_away (suc n) (suc h) = none_away n h

begun_run : (t : Terms) → AreFair t → t.begins ≡ [] → IsKept t.image → IsRunOf t (begun t)
unfolding clock_from
begun_run t fair whole kept = record {
  made = refl;
  begins = ([], sym (ap (λ es. es ++ []) whole));
  related = started_related t.image t.ring t.input kept;
  image = refl;
  marked = record { real_is = refl; attempted_at = refl; snapped_at = refl; pending = refl };
  closed = refl;
  limited = subst (λ n. IsLimited t.image (start_in t) t.limit n []) (sym (no_aways (begun t).gate (none_away 64))) (limit_begins t.image (start_in t) t.limit fair.some_limit);
}

get_none : (n k : ℕ) → k < n → slice_get (replicate n (let x : Option ℕ = None in x)) k ≡ Some None
get_none zero k lt = absurd (omega (arith, lt))
get_none (suc n) zero lt = refl
get_none (suc n) (suc k) lt = get_none n k (omega (arith, lt))

none_last : (t : Terms) → AreLast t (replicate t.workers None) []
unfolding turn_from
none_last t worker lt = get_none t.workers worker lt

pub opened_book : (t : Terms) (r : Running) → AreFair t → t.begins ≡ [] → IsKept t.image → r.recorder ≡ begun t → r.workers ≡ t.workers → r.every ≡ t.every → r.limit ≡ t.limit
    → r.last.items ≡ replicate r.workers None → IsBook t 0 r
opened_book t r fair whole kept at workers every limit last = record {
  terms = record { fair = fair; workers = workers; every = every; limit = limit };
  run = subst (IsRunOf t) (sym at) (begun_run t fair whole kept);
  sum = sym (ap (λ (x : Recorded). x.at.counts.real) at);
  rests = λ _. subst (λ (x : Recorded). IsAtRest t x.gate (told x)) (sym at) (begins_rested t (begun t).gate (none_away 64) fair.some_steps);
  last = λ _. subst (λ xs. AreLast t xs (told r.recorder)) (sym (last ∙ ap (λ n. replicate n None) workers)) (subst (λ (x : Recorded). AreLast t (replicate t.workers None) (told x)) (sym at) (none_last t));
}
