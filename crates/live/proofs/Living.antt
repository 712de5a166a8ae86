-- What a run of threads gives is what the words ask for.
use Rattle.std.proofs.Common.{◌≡◌, inl, inr, ◌≤◌, ℕ, ◌+◌, ◌*◌, arith, Bool, false, List, [], length, Some, Result, Ok, Err, IfOk, refl, ap, sym, subst, ◌∙◌}
use Rattle.std.proofs.lemmas.List.{length-map}
use Rattle.std.specs.Prelude.{is_some}
use Rattle.std.specs.Option.{option_map}
use Rattle.image.specs.Picture.{Picture, IsKept}
use Rattle.guest_sys.specs.Limits.{hart_limit}
use Rattle.machine.specs.Start.{start_of}
use Rattle.machine.specs.States.{State}
use Rattle.machine.specs.declared.outcome.Outcome.{Outcome}
use Rattle.machine.specs.declared.outcome.Outcome.TheVariants.{Limit}
use Rattle.sched_log.specs.Limits.{count_limit}
use Rattle.sched_log.specs.Printed.{printed, ReadsAs}
use Rattle.sched_log.specs.declared.event.Event.{Event}
use Rattle.pacing.specs.Clocks.{reals}
use Rattle.pacing.specs.Limits.{entry_limit}
use Rattle.pacing.specs.Logs.{steps_of, state_at}
use Rattle.pacing.specs.Pacing.{Paced}
use Rattle.recorder.specs.Recording.{Recorded}
use Rattle.world.specs.Worlds.{Replaced, started}
use Rattle.run_book.specs.Booked.{Ends}
use Rattle.run_book.specs.Sections.{IsRunOf}
use Rattle.run_book.specs.Terms.{Terms, AreFair, start_in, state_in}
use Rattle.run_book.proofs.Alike.{same_many}
use Rattle.run_book.specs.Told.{as_told, told, MakesAll}
use Rattle.run_book.specs.declared.ended.Ended.{Ended}
use Rattle.run_book.specs.declared.ended.Ended.TheVariants as ended
use Rattle.delivered.specs.Deliveries.{delivery_of}
use Rattle.delivered.specs.Events.{Plays}
use Rattle.delivered.specs.Headline.{Headline}
use Rattle.live_threads.specs.Ran.{HasRun}
use Rattle.live_threads.specs.declared.run.Ran.{Ran}
use Rattle.live_words.specs.Words.{AreInRange}
use Rattle.live_words.specs.declared.words.Words.{Words}
use Rattle.oc_base.specs.declared.fault.NoMemory.{NoMemory}
use Rattle.live.specs.declared.life.Life.{Life}
use Rattle.live.specs.Lives.{ReachesLimit, HasLived}
use Rattle.live.specs.Records.{script_limit, IsRecord}

-- the laws that this rests on
pub record Laws : Type 0 where
  pub plays : (es : List Event) (w v : Replaced) → MakesAll es w v → Plays es (steps_of es) w v
  pub back : (p : Picture) (start : State) (every : ℕ) (log : List Event) → IsKept p → Paced p start every log → length (state_at p start log).harts ≤ hart_limit → reals log ≤ count_limit → ReadsAs p log (printed log)
  pub text : (p : Picture) (start : State) (every : ℕ) (log : List Event) → Paced p start every log → length (state_at p start log).harts ≤ hart_limit → length (printed log) ≤ 11 * length log + 4
  pub headline : (image : Picture) (events : List Event) (ring : ℕ) (input : List ℕ) (harts : List ℕ) (world : Replaced) (unended : Outcome) (shown : Bool) → IsKept image → Plays events harts (started image ring input) world
      → Headline image events ring (start_of image input) harts (started image ring input) world unended (delivery_of unended shown world)
  pub one_run : (image : Picture) (events : List Event) (ring : ℕ) (input : List ℕ) (hs gs : List ℕ) (u v : Replaced) → IsKept image → Plays events hs (started image ring input) u → Plays events gs (started image ring input) v → u ≡ v

-- the terms of a run on the words
abbrev pub terms_by : Picture → (input : List ℕ) → Words → Terms
terms_by image input said = record { image = image; input = input; ring = said.ring; workers = said.workers; every = said.every; limit = said.limit; begins = [] }

pub fair : (image : Picture) (input : List ℕ) (said : Words) → AreInRange said → AreFair (terms_by image input said)
fair image input said are = record {
  some_workers = are.workers.0;
  few_workers = are.workers.1;
  some_steps = are.every.0;
  few_steps = are.every.1;
  some_limit = are.limit.0;
  low_limit = are.limit.1;
}

-- what a run delivers with its log
abbrev pub life_with : Words → Recorded → (shares : ℕ) → Life
life_with said r shares = record {
  delivery = delivery_of (Limit said.limit) said.report r.at;
  log = told r;
  shares = shares;
  file = option_map (λ name. record { name = name; text = printed (told r) }) said.log_name;
}

pub life_is : (said : Words) (r : Recorded) (shares : ℕ) (life : Life) → life.delivery ≡ delivery_of (Limit said.limit) said.report r.at → life.log ≡ told r → life.shares ≡ shares
    → life.file ≡ option_map (λ name. record { name = name; text = printed life.log }) said.log_name → life ≡ life_with said r shares
life_is said r shares life delivery log count named =
    let file_is : life.file ≡ option_map (λ name. record { name = name; text = printed (told r) }) said.log_name = named ∙ ap (λ l. option_map (λ name. record { name = name; text = printed l }) said.log_name) log in
    λ i. record { delivery = delivery i; log = log i; shares = count i; file = file_is i }

no_some : (o : Outcome) → is_some (Some o) ≡ false → ⊥
no_some o is = cc

module _ (laws : Laws) (image : Picture) (input : List ℕ) (said : Words) (kept : IsKept image) (are : AreInRange said) where
  abbrev t : Terms
  t = terms_by image input said

  -- what the recorder counts is what its log has
  reals_are : (r : Recorded) → IsRunOf t r → reals (told r) ≡ r.at.counts.real
  reals_are r run = run.marked.real_is

  entries_are : (r : Recorded) → length (told r) ≡ length r.journal.entries
  entries_are r = length-map r.journal.entries as_told

  limit_reached : (r : Recorded) (e : Ended) → IsRunOf t r → Ends t.limit r e → is_some r.at.machine.outcome ≡ false → ReachesLimit t.limit (told r)
  limit_reached r (ended.Outcome o) run ends none = absurd (no_some o (ap is_some (sym ends) ∙ none))
  limit_reached r ended.Limit run (is, inl steps) none = inl (subst (λ n. t.limit ≤ n) (sym (reals_are r run)) steps)
  limit_reached r ended.Limit run (is, inr entries) none = inr (subst (λ n. entry_limit ≤ n) (sym (entries_are r)) entries)

  module _ (ran : Ran) (has : HasRun t ran) (few : length ran.recorder.at.machine.harts ≤ hart_limit) where
    abbrev log : List Event
    log = told ran.recorder

    abbrev start : Replaced
    start = started t.image t.ring t.input

    few_harts : length (state_at t.image (start_in t) log).harts ≤ hart_limit
    few_harts = subst (λ n. n ≤ hart_limit) (same_many ran.recorder.at (state_in t log) has.run.related) few

    plays_it : Plays log (steps_of log) start ran.recorder.at
    plays_it = laws.plays log start ran.recorder.at has.run.made

    few_steps : reals log ≤ count_limit
    few_steps = let steps = has.steps in let limit = are.limit.1 in omega (arith, steps, limit, few)

    short : length (printed log) ≤ script_limit
    short =
        let text = laws.text t.image (start_in t) t.every log has.paced few_harts in
        let entries = has.entries in
        omega (arith, text, entries, few)

    is_record : IsRecord t log ran.recorder.at (printed log)
    is_record =
        let back = laws.back t.image (start_in t) t.every log kept has.paced few_harts few_steps in
        record {
          is = refl;
          back = back;
          within = short;
          again = λ u played.
              let plays : Plays log played.0 start u = subst (λ es. Plays es played.0 start u) back.same played.1 in
              laws.one_run t.image log t.ring t.input played.0 (steps_of log) u ran.recorder.at kept plays plays_it;
        }

    has_lived : HasLived t said (life_with said ran.recorder ran.shares)
    has_lived = record {
      world = ran.recorder.at;
      plays = plays_it;
      delivers = refl;
      headline = laws.headline t.image log t.ring t.input (steps_of log) ran.recorder.at (Limit t.limit) said.report kept plays_it;
      paced = has.paced;
      served = has.served;
      limited = limit_reached ran.recorder ran.ended has.run has.ends;
      below = record { steps = has.steps; entries = has.entries };
      shares = has.shares_sum ∙ sym (reals_are ran.recorder has.run);
      kept = is_record;
      filed = refl;
    }

    lived : (life : Life) → life.delivery ≡ delivery_of (Limit said.limit) said.report ran.recorder.at → life.log ≡ told ran.recorder → life.shares ≡ ran.shares
        → life.file ≡ option_map (λ name. record { name = name; text = printed life.log }) said.log_name → HasLived t said life
    lived life delivery log_is count named = subst (HasLived t said) (sym (life_is said ran.recorder ran.shares life delivery log_is count named)) has_lived

    -- where there was room for it
    pub lived_if : (result : Result Life NoMemory) → IfOk result (λ l. l.delivery ≡ delivery_of (Limit said.limit) said.report ran.recorder.at) → IfOk result (λ l. l.log ≡ told ran.recorder) → IfOk result (λ l. l.shares ≡ ran.shares)
        → IfOk result (λ l. l.file ≡ option_map (λ name. record { name = name; text = printed l.log }) said.log_name) → IfOk result (HasLived t said)
    lived_if (Ok life) delivery log_is count named = lived life delivery log_is count named
    lived_if (Err full) delivery log_is count named = tt
