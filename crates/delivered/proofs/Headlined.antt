-- What a run of events from the start delivers is what the original machine delivers.
use Rattle.std.proofs.Common.{◌≡◌, ℕ, Bool, false, is_some, List, [], ◌∷◌, ◌++◌, append_assoc, refl, sym, ap, subst, ◌∙◌}
use Rattle.std.specs.Prelude.{Contains}
use Rattle.std.proofs.lemmas.Bool.{false≢true}
use Rattle.std.proofs.lemmas.List.{append-nil}
use Rattle.image.specs.Picture.{Picture, IsKept}
use Rattle.branch_ring.specs.Profiles.{IsProfile, all_pairs}
use Rattle.plans.specs.declared.plan.Moved.{Moved}
use Rattle.machine.specs.declared.outcome.Outcome.{Outcome}
use Rattle.machine.specs.States.{State}
use Rattle.machine.specs.Start.{start_of}
use Rattle.machine.specs.Steps.{original_run}
use Rattle.machine.proofs.Stays.{run_append}
use Rattle.sched_log.specs.declared.event.Event.{Event}
use Rattle.sched_log.specs.declared.event.Event.TheVariants.{Steps, Real, Till, Snap, Replace, Retire}
use Rattle.sched_log.specs.declared.event.Event.TheVariants as event
use Rattle.report.specs.declared.writing.Delivery.{Delivery}
use Rattle.world.specs.Worlds.{Replaced, Related, started, more}
use Rattle.world.specs.Records.{Records, rings_of, Snaps}
use Rattle.world.specs.Records as records
use Rattle.world.specs.Replacing.{Replaces, refused, refused_as}
use Rattle.world.specs.Told.{facts_of}
use Rattle.world.proofs.Retirement.{related_leads}
use Rattle.delivered.specs.Deliveries.{closed, outcome_of, delivery_of}
use Rattle.delivered.specs.Events.{Obeys, Plays}
use Rattle.delivered.specs.Headline.{ShowsAs, MovesBy, ChangesNothing, SnapsOriginally, RefusesSafely, Headline}
use Rattle.delivered.proofs.Standing.{Stands, Laws, OneResult}
use Rattle.delivered.proofs.Unmoved.{event_image, plays_image}
use Rattle.delivered.proofs.Following.{event_follows, plays_follow}
use Rattle.delivered.proofs.Places.{obeyed_run, in_place, plays_keep, refusal_kept}

-- related states show the same
pub shows : (unended : Outcome) (shown : Bool) (w : Replaced) (o : State) (d : Delivery) → d ≡ delivery_of unended shown w → Related w o → ShowsAs unended d o
shows unended shown w o d is at = record {
  outcome = ap (λ (x : Delivery). x.outcome) is ∙ ap (outcome_of unended) at.states.outcome;
  out = ap (λ (x : Delivery). x.out) is ∙ ap (λ s. s.out) at.states.system;
  err = ap (λ (x : Delivery). x.err) is ∙ ap (λ s. closed s.err) at.states.system;
}

module _ (laws : Laws) (one : OneResult) where
  -- the rings after events
  plays_record : (es : List Event) (hs gs : List ℕ) (ring : ℕ) (w v : Replaced) (o : State) → Stands w (original_run w.image gs o) → Records ring w o gs → Plays es hs w v → Records ring v o (gs ++ hs)
  plays_record [] hs gs ring w v o at kept p = rw (p.0, p.1) (subst (Records ring w o) (sym (append-nil gs)) kept)
  plays_record (e ∷ es) hs gs ring w v o at kept p =
      let run = obeyed_run e p.1 w p.0 p.3 in
      let first : Records ring p.0 o (gs ++ p.1) = laws.records run.0 p.1 gs ring w p.0 o at.orderly run.1 at.related kept in
      let next : Stands p.0 (original_run w.image (gs ++ p.1) o) = subst (Stands p.0) (sym (run_append w.image gs p.1 o)) (event_follows laws e p.1 w p.0 (original_run w.image gs o) p.3 at) in
      let here : Stands p.0 (original_run p.0.image (gs ++ p.1) o) = subst (λ i. Stands p.0 (original_run i (gs ++ p.1) o)) (sym (event_image e p.1 w p.0 p.3)) next in
      let rest : Records ring v o ((gs ++ p.1) ++ p.2) = plays_record es p.2 (gs ++ p.1) ring p.0 v o here first p.5 in
      subst (Records ring v o) (append_assoc gs p.1 p.2 ∙ ap (λ t. gs ++ t) (sym p.4)) rest

  -- what the run of some events from the start comes to
  module _ (image : Picture) (events : List Event) (ring : ℕ) (input : List ℕ) (kept : IsKept image) (harts : List ℕ) (world : Replaced)
      (plays : Plays events harts (started image ring input) world) where
    abbrev start : Replaced
    start = started image ring input

    abbrev first : State
    first = start_of image input

    stands_then : (before : List Event) (hs : List ℕ) (w : Replaced) → Plays before hs start w → Stands w (original_run image hs first)
    stands_then before hs w p = plays_follow laws before hs start w first p (laws.start image ring input kept)

    records_then : (before : List Event) (hs : List ℕ) (w : Replaced) → Plays before hs start w → Records ring w first hs
    records_then before hs w p = plays_record before hs [] ring start w first (laws.start image ring input kept) (laws.first_records image ring input) p

    image_then : (before : List Event) (hs : List ℕ) (w : Replaced) → Plays before hs start w → w.image ≡ image
    image_then before hs w p = plays_image before hs start w p

    -- a snapshot
    profile_of : (before : List Event) (earlier : List ℕ) (u v : Replaced) → Plays before earlier start u → Snaps u v → is_some u.machine.outcome ≡ false → IsProfile (all_pairs (rings_of image ring earlier first)) v.snapshot
    profile_of before earlier u v p (records.over ended is) goes = absurd (false≢true (sym goes ∙ ended))
    profile_of before earlier u v p (records.done room is) goes =
        let rings : u.rings ≡ rings_of image ring earlier first = records_then before earlier u p ∙ ap (λ i. rings_of i ring earlier first) (image_then before earlier u p) in
        subst (λ (x : Replaced). IsProfile (all_pairs (rings_of image ring earlier first)) x.snapshot) (sym is.is)
        (subst (λ rs. IsProfile (all_pairs rs) is.profile) rings is.counts)

    snaps_originally : (before after : List Event) → events ≡ before ++ Snap ∷ after → SnapsOriginally image events ring first harts start world before after
    snaps_originally before after is =
        let place = in_place start world harts events before Snap after is plays in
        record {
          place = place;
          profile = profile_of before place.earlier place.u place.v place.comes (subst (Snaps place.u) (sym place.obeys.4.1) place.obeys.2);
        }

    -- a refused attempt
    changes_nothing : (before after : List Event) (earlier later : List ℕ) (u v : Replaced) (plan : List Moved) → Plays before earlier start u → Replaces plan u v → Plays after later v world → ChangesNothing world u v plan
    unfolding facts_of
    changes_nothing before after earlier later u v plan p is rest = λ why room goes reason.
        let same : v ≡ refused_as why u = one.replaced plan u v (refused_as why u) (original_run image earlier first) (stands_then before earlier u p) is (refused why room goes reason refl) in
        (same, plays_keep after later v world rest _ (subst (λ (x : Replaced). Contains x.refusals (record { attempt = more u.counts.attempts; refusal = why })) (sym same) (refusal_kept why u)))

    by_event : (before : List Event) (e : Event) (after : List Event) (earlier now later : List ℕ) (u v : Replaced) → Plays before earlier start u → Obeys e now u v → Plays after later v world
        → (plan : List Moved) → MovesBy e u plan → ChangesNothing world u v plan
    by_event before Replace after earlier now later u v p r rest plan by =
        let same : r.0 ≡ plan = one.plan u.image u.snapshot r.0 plan r.1 by in
        let is : Replaces plan u v = subst (λ x. Replaces plan u x) (sym r.2.4.1) (subst (λ q. Replaces q u r.2.0) same r.2.2.1) in
        changes_nothing before after earlier later u v plan p is rest
    by_event before (event.Given given) after earlier now later u v p r rest plan by =
        let is : Replaces plan u v = subst (λ x. Replaces plan u x) (sym r.4.1) (subst (λ q. Replaces q u r.0) (sym by) r.2.1) in
        changes_nothing before after earlier later u v plan p is rest
    by_event before (Steps h n) after earlier now later u v p r rest plan by = absurd by
    by_event before (Real h n) after earlier now later u v p r rest plan by = absurd by
    by_event before (Till n) after earlier now later u v p r rest plan by = absurd by
    by_event before Snap after earlier now later u v p r rest plan by = absurd by
    by_event before Retire after earlier now later u v p r rest plan by = absurd by

    refuses_safely : (before : List Event) (e : Event) (after : List Event) → events ≡ before ++ e ∷ after → RefusesSafely image events ring first harts start world before e after
    refuses_safely before e after is =
        let place = in_place start world harts events before e after is plays in
        record {
          place = place;
          safe = by_event before e after place.earlier place.now place.later place.u place.v place.comes place.obeys place.goes_on;
        }

    pub headline_of : (unended : Outcome) (shown : Bool) (d : Delivery) → d ≡ delivery_of unended shown world → Headline image events ring first harts start world unended d
    headline_of unended shown d e =
        let follows : Stands world (original_run image harts first) = stands_then events harts world plays in
        record {
          related = follows.related;
          shows = shows unended shown world (original_run image harts first) d e follows.related;
          leads = related_leads world (original_run image harts first) follows.related;
          refusals = refuses_safely;
          snapshots = snaps_originally;
          records = records_then events harts world plays;
        }
