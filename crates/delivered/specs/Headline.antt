-- What a run delivers is what the original machine delivers. Source: this project; the outline is OCOLOS (Zhang et al., MICRO 2022).
use Rattle.std.specs.Prelude.{◌≡◌, ◌≢◌, ℕ, List, ◌∷◌, ◌++◌, Contains, false, is_some}
use Rattle.image.specs.Picture.{Picture}
use Rattle.branch_ring.specs.Profiles.{IsProfile, all_pairs}
use Rattle.machine.specs.declared.outcome.Outcome.{Outcome}
use Rattle.machine.specs.States.{State}
use Rattle.machine.specs.Steps.{original_run}
use Rattle.placer.specs.Planned.{IsPlanFor}
use Rattle.plans.specs.declared.plan.Moved.{Moved}
use Rattle.sched_log.specs.declared.event.Event.{Event}
use Rattle.sched_log.specs.declared.event.Event.TheVariants as event
use Rattle.sched_log.specs.declared.facts.Refusal.{Refusal}
use Rattle.sched_log.specs.declared.facts.Refusal.TheVariants.{NoMemory}
use Rattle.report.specs.declared.writing.Delivery.{Delivery}
use Rattle.world.specs.Records.{Records, rings_of}
use Rattle.world.specs.Replacing.{Refuses, refused_as}
use Rattle.world.specs.Retiring.{LeadsToCode}
use Rattle.world.specs.Told.{facts_of}
use Rattle.world.specs.Worlds.{Replaced, Related, code_of, more}
use Rattle.delivered.specs.Events.{Obeys, Plays}
use Rattle.delivered.specs.Deliveries.{closed, outcome_of}

-- the outcome and both outputs are those of a state of the original machine, with this outcome where it has none
pub record ShowsAs (unended : Outcome) (d : Delivery) (o : State) : Type 0 where
  pub outcome : d.outcome ≡ outcome_of unended o.outcome
  pub out : d.out ≡ o.system.out
  pub err : d.err ≡ closed o.system.err

-- An event in its place among those of a run: the world u before it, the world v after it, and the harts of the real steps before it,
-- in it and after it.
pub record InPlace (start : Replaced) (hs : List ℕ) (world : Replaced) (before : List Event) (e : Event) (after : List Event) : Type 0 where
  pub u : Replaced
  pub v : Replaced
  pub earlier : List ℕ
  pub now : List ℕ
  pub later : List ℕ
  pub harts : hs ≡ earlier ++ now ++ later
  pub comes : Plays before earlier start u
  pub obeys : Obeys e now u v
  pub goes_on : Plays after later v world

-- the plan by which an event moves the code of a world, if it does
abbrev pub MovesBy : Event → Replaced → List Moved → Type 0
MovesBy event.Replace w plan = IsPlanFor w.image w.snapshot plan
MovesBy (event.Given given) w plan = plan ≡ given
MovesBy _ w plan = ⊥

-- Where there is a reason to refuse this plan, nothing but the counts and the list of refusals is changed, and the report of the
-- run has this refusal.
abbrev pub ChangesNothing : (world u v : Replaced) → List Moved → Type 0
ChangesNothing world u v plan =
    (why : Refusal) → why ≢ NoMemory → is_some u.machine.outcome ≡ false → Refuses u.image u.lives u.free plan why
    → (v ≡ refused_as why u) × Contains (facts_of world).refusals (record { attempt = more u.counts.attempts; refusal = why })

module _ (image : Picture) (events : List Event) (ring : ℕ) (o : State) (harts : List ℕ) (start world : Replaced) where
  -- A snapshot is the profile of the original run up to its place, of the last transfers of each hart; after the end there is none.
  pub record SnapsOriginally (before after : List Event) : Type 0 where
    pub place : InPlace start harts world before event.Snap after
    pub profile : is_some place.u.machine.outcome ≡ false → IsProfile (all_pairs (rings_of image ring place.earlier o)) place.v.snapshot

  -- a refused attempt to move code changes nothing and is in the report
  pub record RefusesSafely (before : List Event) (e : Event) (after : List Event) : Type 0 where
    pub place : InPlace start harts world before e after
    pub safe : (plan : List Moved) → MovesBy e place.u plan → ChangesNothing world place.u place.v plan

  -- The headline, sentence by sentence, for a run of these events in which the harts of the real steps are these.
  pub record Headline (unended : Outcome) (d : Delivery) : Type 0 where
    -- the world at the end stands for the state to which the original machine comes by the real steps alone
    pub related : Related world (original_run image harts o)
    -- outcome, with traps and reports of the monitor, and both outputs are that state's
    pub shows : ShowsAs unended d (original_run image harts o)
    -- no live code pointer leads to code that was given up
    pub leads : LeadsToCode (code_of world) world.machine
    -- a refused attempt to move code changes nothing and is in the report
    pub refusals : (before : List Event) (e : Event) (after : List Event) → events ≡ before ++ e ∷ after → RefusesSafely before e after
    -- every snapshot is the original run's
    pub snapshots : (before after : List Event) → events ≡ before ++ event.Snap ∷ after → SnapsOriginally before after
    -- and the last transfers of each hart at the end are
    pub records : Records ring world o harts
