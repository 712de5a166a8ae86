-- What each part of a section keeps of a run.
use Rattle.std.proofs.Common.{◌≡◌, ℕ, zero, suc, ◌+◌, ◌<◌, ◌≤◌, ◌^◌, Bool, true, false, List, [], ◌∷◌, ◌++◌, length, refl, sym, ap, ◌∙◌, subst, arith}
use Rattle.std.specs.Prelude.{◌==◌, ◌||◌, ◌&&◌, ◌%◌, not, is_some, slice_get, slice_set, Option, Some, Vec}
use Rattle.std.specs.Option.{option_map}
use Rattle.std.specs.declared.alloc.Global.{Global}
use Rattle.std.proofs.lemmas.List.{length-map}
use Rattle.std.proofs.lemmas.Nat.{mod_below}
use Rattle.sched_log.specs.declared.event.Event.{Event}
use Rattle.sched_log.specs.declared.event.Event.TheVariants.{Real}
use Rattle.machine.specs.Harts.{is_live, hart_in}
use Rattle.machine.specs.Steps.{can_step}
use Rattle.machine.proofs.HartLists.{live_made}
use Rattle.pacing.specs.Limits.{visit_limit, entry_limit}
use Rattle.pacing.specs.Bounds.{IsLimited}
use Rattle.pacing.specs.Clocks.{clock_of}
use Rattle.pacing.specs.Pacing.{owes_snap}
use Rattle.pacing.specs.Serving.{Turn, IsNext}
use Rattle.pacing.proofs.Bounded.{limit_leaves, limit_lands, limit_gives_up, limit_ends}
use Rattle.recorder.specs.Recording.{Recorded}
use Rattle.stop_gate.specs.Gates.{Gated, is_away, left, back_in, aways, AwayBelow}
use Rattle.stop_gate.proofs.Counts.{coming_back_takes}
use Rattle.run_book.specs.declared.running.Running.{Running}
use Rattle.run_book.specs.Terms.{Terms, start_in, state_in}
use Rattle.run_book.specs.Told.{as_told, told}
use Rattle.run_book.specs.Visits.{IsPart}
use Rattle.run_book.specs.Sections.{IsRunOf, turn_of, IsAmid, IsAtRest, AreLast, GoesOn, IsChosen}
use Rattle.run_book.specs.Booked.{IsBook, IsVisited, NoneOut, MayServe}
use Rattle.run_book.proofs.Alike.{same_over, same_many}
use Rattle.run_book.proofs.Aways.{room_for_one}
use Rattle.run_book.proofs.Logs.{rest_amid, leaves_rested, lands_amid, nothing_lands, visit_amid, limit_visited}
use Rattle.run_book.proofs.Books.{regated, visit_run, visit_keeps, visit_last, is_next}

module _ (t : Terms) (total : ℕ) (r : Running) where
  -- an attempt was made, or waits, or none was due
  pub caught_up_book : (v : Recorded) → IsBook t total r → r.spent ≡ false → IsRunOf t v → v.at.counts.real ≡ r.recorder.at.counts.real
      → (owes_snap t.every (state_in t (told r.recorder)) (clock_of (told r.recorder)) ≡ false → IsAmid t 0 r.recorder.gate (told r.recorder) → IsAtRest t v.gate (told v))
      → (AreLast t r.last.items (told r.recorder) → AreLast t r.last.items (told v)) → IsBook t total (record r { recorder = v })
  caught_up_book v b whole run real rests last = record {
    terms = record { fair = b.terms.fair; workers = b.terms.workers; every = b.terms.every; limit = b.terms.limit };
    run = run;
    sum = b.sum ∙ sym real;
    rests = λ _. (let r_now = b.rests whole in rests r_now.settled.no_snap_owed (rest_amid t r.recorder.gate (told r.recorder) r_now));
    last = λ _. last (b.last whole);
  }

  -- memory ran out
  pub spent_book : (v : Recorded) → IsBook t total r → IsRunOf t v → v.at.counts.real ≡ r.recorder.at.counts.real → IsBook t total (record r { recorder = v; spent = true })
  spent_book v b run real = record {
    terms = record { fair = b.terms.fair; workers = b.terms.workers; every = b.terms.every; limit = b.terms.limit };
    run = run;
    sum = b.sum ∙ sym real;
    rests = λ whole. absurd (cc);
    last = λ whole. absurd (cc);
  }

  -- what was due after a visit was done
  pub settled_book : (v : Recorded) → IsVisited t total r → IsRunOf t v → v.at.counts.real ≡ r.recorder.at.counts.real
      → (IsAmid t 3 r.recorder.gate (told r.recorder) → IsAtRest t v.gate (told v)) → (AreLast t r.last.items (told r.recorder) → AreLast t r.last.items (told v)) → IsBook t total (record r { recorder = v })
  settled_book v b run real rests last = record {
    terms = record { fair = b.terms.fair; workers = b.terms.workers; every = b.terms.every; limit = b.terms.limit };
    run = run;
    sum = b.sum ∙ sym real;
    rests = λ whole. rests (b.amid whole);
    last = λ whole. last (b.last whole);
  }

  pub unsettled_book : (v : Recorded) → IsVisited t total r → IsRunOf t v → v.at.counts.real ≡ r.recorder.at.counts.real → IsBook t total (record r { recorder = v; spent = true })
  unsettled_book v b run real = record {
    terms = record { fair = b.terms.fair; workers = b.terms.workers; every = b.terms.every; limit = b.terms.limit };
    run = run;
    sum = b.sum ∙ sym real;
    rests = λ whole. absurd (cc);
    last = λ whole. absurd (cc);
  }

  -- the numbers of jobs are no part of what is kept
  pub handed_book : (number : ℕ) (has_job : Bool) → IsBook t total r → IsBook t total (record r { number = number; has_job = has_job })
  handed_book number has_job b = record {
    terms = record { fair = b.terms.fair; workers = b.terms.workers; every = b.terms.every; limit = b.terms.limit };
    run = b.run;
    sum = b.sum;
    rests = b.rests;
    last = b.last;
  }

is_whole : (x : Bool) → not x ≡ false → x ≡ true
is_whole true e = refl
is_whole false e = absurd (cc)

both : (a b : Bool) → a ≡ false → b ≡ true → (not a && b) ≡ true
both a b e f = grind (arith, e, f)

-- ---- a hart that a worker may serve
module _ (t : Terms) (total : ℕ) (r : Running) (h worker : ℕ) (b : IsBook t total r) (goes : r.spent ≡ false) (on : GoesOn r.limit r.recorder) (calm : r.recorder.gate.wanted ≡ false)
    (none : NoneOut r.workers worker r.recorder.gate) (may : MayServe worker h r) (within : AwayBelow (length r.recorder.at.machine.harts) r.recorder.gate) where
  abbrev pub w : Recorded
  w = r.recorder

  abbrev pub served : Option ℕ
  served = option_map (λ (u : Turn). u.hart) (turn_of t worker (told w))

  below : worker < t.workers
  below = subst (λ k. worker < k) b.terms.workers may.is_worker

  is_served : slice_get r.last.items worker ≡ Some served
  is_served = b.last goes worker below

  chosen : IsChosen t.workers worker served h w.at.machine
  chosen = subst (λ k. IsChosen k worker served h w.at.machine) b.terms.workers (may.chosen served is_served)

  on_now : GoesOn t.limit w
  on_now = subst (λ k. GoesOn k w) b.terms.limit on

  next : IsNext t.workers (h % t.workers) (turn_of t (h % t.workers) (told w)) h
  next = is_next t w h worker r.last.items served b.run chosen below ((b.rests goes).live) (b.last goes) is_served

  none_now : (k : ℕ) → k % t.workers ≡ h % t.workers → is_away w.gate k ≡ false
  none_now k same = none k (ap (λ n. k % n) b.terms.workers ∙ same ∙ chosen.own)

  pub here : is_away w.gate h ≡ false
  here = none_now h refl

  room : aways w.gate + 1 ≤ length (state_in t (told w)).harts
  room = subst (λ n. aways w.gate + 1 ≤ n) (same_many w.at (state_in t (told w)) b.run.related)
      (room_for_one w.gate (length w.at.machine.harts) h within (live_made w.at.machine.harts h chosen.live) here)

  before_limit : (clock_of (told w)).real < t.limit
  before_limit = subst (λ k. k < t.limit) (sym b.run.marked.real_is) on_now.steps

  few : length (told w) < entry_limit
  few = subst (λ k. k < entry_limit) (sym (length-map w.journal.entries as_told)) on_now.entries

  over : is_some (state_in t (told w)).outcome ≡ false
  over = sym (same_over w.at (state_in t (told w)) b.run.related) ∙ on_now.outcome

  can_now : can_step h w.at.machine ≡ true
  can_now = both (is_some w.at.machine.outcome) (is_live (hart_in w.at.machine.harts h).status) on_now.outcome chosen.live

  -- it leaves
  pub left_book : (v : Recorded) → v ≡ record w { gate = left h w.gate } → aways v.gate ≡ aways w.gate + 1 → IsBook t total (record r { recorder = v })
  left_book v is more =
      let count : aways (left h w.gate) ≡ aways w.gate + 1 = sym (ap (λ (x : Recorded). aways x.gate) is) ∙ more in
      let u : Recorded = record w { gate = left h w.gate } in
      record {
        terms = record { fair = b.terms.fair; workers = b.terms.workers; every = b.terms.every; limit = b.terms.limit };
        run = subst (IsRunOf t) (sym is) (regated t w u refl refl refl
            (subst (λ n. IsLimited t.image (start_in t) t.limit n (told w)) (sym count) (limit_leaves t.image (start_in t) t.limit (aways w.gate) (told w) before_limit room)) b.run);
        sum = b.sum ∙ sym (ap (λ (x : Recorded). x.at.counts.real) is);
        rests = λ _. subst (λ (x : Recorded). IsAtRest t x.gate (told x)) (sym is) (leaves_rested t w.gate (told w) h calm count over room few none_now next (b.rests goes));
        last = λ _. subst (λ (x : Recorded). AreLast t r.last.items (told x)) (sym is) (b.last goes);
      }

  -- its visit is made under the lock, of n steps
  module _ (v : Recorded) (n : ℕ) (whole : Bool) (last : Vec (Option ℕ) Global) (gate : v.gate ≡ w.gate) (part : w.journal.is_open ≡ false → w.at.counts.real + 64 < 2 ^ 64 → IsPart false n h w v)
      (most : n ≤ visit_limit) (full : whole ≡ true → (n == visit_limit || not (can_step h v.at.machine)) ≡ true) (is_last : last.items ≡ slice_set r.last.items worker (Some h)) where
    made : IsPart false n h w v
    made = let low = b.terms.fair.low_limit in let lt = on_now.steps in part b.run.closed (omega (arith, low, lt))

    as_many : (log : List Event) → IsLimited t.image (start_in t) t.limit (aways w.gate) log → IsLimited t.image (start_in t) t.limit (aways v.gate) log
    as_many log l = subst (λ (g : Gated). IsLimited t.image (start_in t) t.limit (aways g) log) (sym gate) l

    idle : IsLimited t.image (start_in t) t.limit (aways v.gate) (told w)
    idle = as_many (told w) b.run.limited

    busy : IsLimited t.image (start_in t) t.limit (aways v.gate) (told w ++ Real h n ∷ [])
    busy = as_many (told w ++ Real h n ∷ []) (limit_visited t (aways w.gate) (told w) h n most before_limit room)

    pub visited_book : IsVisited t (total + n) (record r { recorder = v; last = last; spent = not whole })
    visited_book = record {
      terms = record { fair = b.terms.fair; workers = b.terms.workers; every = b.terms.every; limit = b.terms.limit };
      run = visit_run t w v h n b.run made most idle busy;
      sum = ap (λ k. k + n) b.sum ∙ sym made.real;
      amid = λ not_spent. visit_keeps t w v h n b.run made most idle busy (full (is_whole whole not_spent)) can_now next
          (λ visit serves. subst (λ (g : Gated). IsAmid t 3 g (told w ++ Real h n ∷ [])) (sym gate) (visit_amid t w.gate (told w) h n calm over room few none_now visit serves (b.rests goes)));
      last = λ not_spent. subst (λ xs. AreLast t xs (told v)) (sym is_last)
          (subst (λ k. AreLast t (slice_set r.last.items k (Some h)) (told v)) chosen.own
          (visit_last t w v h n b.run made most idle busy (full (is_whole whole not_spent)) can_now r.last.items (subst (λ k. k < t.workers) (sym chosen.own) below) (b.last goes)));
    }

-- ---- hart h comes home
module _ (t : Terms) (total : ℕ) (r : Running) (h : ℕ) (b : IsBook t total r) (goes : r.spent ≡ false) (away : is_away r.recorder.gate h ≡ true) where
  abbrev pub from : Recorded
  from = r.recorder

  fewer : aways from.gate ≡ aways (back_in h from.gate) + 1
  fewer = sym (coming_back_takes from.gate h away)

  limited : IsLimited t.image (start_in t) t.limit (aways (back_in h from.gate) + 1) (told from)
  limited = subst (λ n. IsLimited t.image (start_in t) t.limit n (told from)) fewer b.run.limited

  -- as a stranger
  pub strange_book : (v : Recorded) (strangers : ℕ) → v ≡ record from { gate = back_in h from.gate } → IsVisited t (total + 0) (record r { recorder = v; strangers = strangers })
  strange_book v strangers is =
      let u : Recorded = record from { gate = back_in h from.gate } in
      record {
        terms = record { fair = b.terms.fair; workers = b.terms.workers; every = b.terms.every; limit = b.terms.limit };
        run = subst (IsRunOf t) (sym is) (regated t from u refl refl refl (limit_gives_up t.image (start_in t) t.limit (aways u.gate) (told from) limited) b.run);
        sum = (let same = b.sum ∙ sym (ap (λ (x : Recorded). x.at.counts.real) is) in omega (arith, same));
        amid = λ _. subst (λ (x : Recorded). IsAmid t 3 x.gate (told x)) (sym is) (nothing_lands t from.gate (told from) h away (b.rests goes));
        last = λ _. subst (λ (x : Recorded). AreLast t r.last.items (told x)) (sym is) (b.last goes);
      }

  -- with its visit, of n steps in all
  module _ (v : Recorded) (n : ℕ) (whole : Bool) (last : Vec (Option ℕ) Global) (gate : v.gate ≡ back_in h from.gate) (part : IsPart false n h from v)
      (most : n ≤ visit_limit) (full : whole ≡ true → (n == visit_limit || not (can_step h v.at.machine)) ≡ true) (can : can_step h from.at.machine ≡ true)
      (is_last : last.items ≡ slice_set r.last.items (h % r.workers) (Some h)) (has_worker : h % r.workers < r.workers) where
    as_few : (log : List Event) → IsLimited t.image (start_in t) t.limit (aways (back_in h from.gate)) log → IsLimited t.image (start_in t) t.limit (aways v.gate) log
    as_few log l = subst (λ (g : Gated). IsLimited t.image (start_in t) t.limit (aways g) log) (sym gate) l

    idle_home : IsLimited t.image (start_in t) t.limit (aways v.gate) (told from)
    idle_home = as_few (told from) (limit_gives_up t.image (start_in t) t.limit (aways (back_in h from.gate)) (told from) limited)

    busy_home : IsLimited t.image (start_in t) t.limit (aways v.gate) (told from ++ Real h n ∷ [])
    busy_home = as_few (told from ++ Real h n ∷ []) (limit_lands t.image (start_in t) t.limit (aways (back_in h from.gate)) (told from) h n most limited)

    pub landed_book : IsVisited t (total + n) (record r { recorder = v; last = last; spent = not whole })
    landed_book = record {
      terms = record { fair = b.terms.fair; workers = b.terms.workers; every = b.terms.every; limit = b.terms.limit };
      run = visit_run t from v h n b.run part most idle_home busy_home;
      sum = ap (λ k. k + n) b.sum ∙ sym part.real;
      amid = λ not_spent. visit_keeps t from v h n b.run part most idle_home busy_home (full (is_whole whole not_spent)) can ((b.rests goes).chosen.next h away)
          (λ visit serves. subst (λ (g : Gated). IsAmid t 3 g (told from ++ Real h n ∷ [])) (sym gate) (lands_amid t from.gate (told from) h n away visit serves (b.rests goes)));
      last = λ not_spent. subst (λ xs. AreLast t xs (told v)) (sym is_last)
          (subst (λ k. AreLast t (slice_set r.last.items (h % k) (Some h)) (told v)) (sym b.terms.workers)
          (visit_last t from v h n b.run part most idle_home busy_home (full (is_whole whole not_spent)) can r.last.items (subst (λ k. h % k < k) b.terms.workers has_worker) (b.last goes)));
    }

-- ---- numbers that are in range
pub some_workers : (t : Terms) (total : ℕ) (r : Running) → IsBook t total r → 0 < r.workers
some_workers t total r b = subst (λ n. 0 < n) (sym b.terms.workers) b.terms.fair.some_workers

pub has_worker : (t : Terms) (total : ℕ) (r : Running) → IsBook t total r → (h : ℕ) → h % r.workers < r.workers
has_worker t total r b h = mod_below h r.workers (some_workers t total r b)

pub room_home : (t : Terms) (total : ℕ) (r : Running) → IsBook t total r → length r.recorder.at.machine.harts < 2 ^ 32 → r.recorder.at.counts.real + 64 < 2 ^ 64
room_home t total r b few =
    let many = same_many r.recorder.at (state_in t (told r.recorder)) b.run.related in
    let low = b.terms.fair.low_limit in
    let limit = limit_ends t.image (start_in t) t.limit (aways r.recorder.gate) (told r.recorder) b.run.limited in
    let real = b.run.marked.real_is in
    omega (arith, few, many, low, limit, real)

within : (xs : List (Option ℕ)) (k : ℕ) (x : Option ℕ) → slice_get xs k ≡ Some x → k < length xs
within [] k x e = absurd (cc)
within (y ∷ ys) zero x e = omega arith
within (y ∷ ys) (suc k) x e = let rest = within ys k x e in omega (arith, rest)

enough : (n : ℕ) (xs : List (Option ℕ)) → ((k : ℕ) → k < n → (x : Option ℕ) × slice_get xs k ≡ Some x) → n ≤ length xs
enough zero xs each = omega arith
enough (suc n) xs each =
    let last = each n (omega arith) in
    let lt = within xs n last.0 last.1 in
    omega (arith, lt)

pub many_last : (t : Terms) (total : ℕ) (r : Running) → IsBook t total r → r.spent ≡ false → r.workers ≤ length r.last.items
many_last t total r b whole = subst (λ n. n ≤ length r.last.items) (sym b.terms.workers) (enough t.workers r.last.items (λ k lt. (_, b.last whole k lt)))
