-- What is asked for is what the original machine delivers.
use Rattle.std.proofs.Common.{◌≡◌, ℕ, List, Result, Ok, Err, refl, sym}
use Rattle.oc_base.specs.Outside.{Disk}
use Rattle.top_call.specs.Call.{DecidesBy}
use Rattle.top_call.specs.Reading.{given_by}
use Rattle.image.specs.Picture.{Picture}
use Rattle.machine.specs.States.{State}
use Rattle.machine.specs.Start.{start_of}
use Rattle.machine.specs.Steps.{original_run}
use Rattle.machine.specs.declared.outcome.Outcome.TheVariants.{Unfinished}
use Rattle.sched_log.specs.Script.{events_of}
use Rattle.report.specs.declared.answer.Ended.{Ended}
use Rattle.report.specs.declared.answer.Ended.TheVariants.{Program, Script}
use Rattle.report.specs.declared.writing.Delivery.{Delivery}
use Rattle.world.specs.Worlds.{Replaced, started}
use Rattle.play.specs.Schedule.{final_state, schedule}
use Rattle.report.specs.Cause.{refusal_of}
use Rattle.play.specs.Decision.{Asked, Given, given_with, reading_of, IsPlayed, Delivers, bad_program, bad_script, ran, play, Decides}
use Rattle.play.specs.Originals.{IsOriginals, RunsOriginally}
use Rattle.delivered.specs.Building.{IsBuilt}
use Rattle.delivered.specs.Deliveries.{delivery_of}
use Rattle.delivered.proofs.Standing.{Stands, Laws, OneResult}
use Rattle.delivered.proofs.Headlined.{shows, headline_of}
use Rattle.play.proofs.Originally.{plays_plainly}

-- what is delivered is no refusal
no_refusal : (d : Delivery) (e : Ended) → Err e ≡ Ok d → ⊥
no_refusal d e is = cc

abbrev shown_as : Delivery → Result Delivery Ended
shown_as d = Ok d

same_delivery : (d e : Delivery) → shown_as d ≡ shown_as e → e ≡ d
same_delivery d e is = cc

module _ (laws : Laws) (one : OneResult) where
  originals : (given : Given) (image : Picture) (w : Replaced) (d : Delivery) → IsBuilt given.program given.region image → IsPlayed image given.script given.input given.ring w → d ≡ delivery_of Unfinished given.shown w → IsOriginals given d
  unfolding final_state
  originals given image w d built is e =
      let events = events_of image given.script in
      let start : Replaced = started image given.ring given.input in
      let o : State = start_of image given.input in
      let at : Stands start o = laws.start image given.ring given.input built.kept in
      record {
        image = image;
        built = built;
        harts = is.played.0;
        world = w;
        plays = is.played.1;
        delivers = e;
        headline = headline_of laws one image events given.ring given.input built.kept is.played.0 w is.played.1 Unfinished given.shown d e;
        unmoved = λ none.
            let plain = plays_plainly laws events is.played.0 start w o none is.played.1 refl at in
            (plain.lives, plain.related.related, shows Unfinished given.shown w (original_run image (schedule image events o) o) d e plain.related.related);
      }

  from_delivered : (given : Given) (r : Result Delivery Ended) (d : Delivery) → Delivers given r → r ≡ Ok d → IsOriginals given d
  from_delivered given _ d (bad_program fault is) same = absurd (no_refusal d (Program fault) same)
  from_delivered given _ d (bad_script image fault built is) same = absurd (no_refusal d (Script fault) same)
  from_delivered given _ d (ran image world built is) same = originals given image world d built is (same_delivery (delivery_of Unfinished given.shown world) d same)

  from_given : (words : List (List ℕ)) (disk : Disk) (input : List ℕ) (d : Delivery) (asked : Result Asked Ended) → given_by refusal_of (reading_of words) disk input ≡ asked → DecidesBy play asked (Ok d) → RunsOriginally words disk input d
  from_given words disk input d (Ok asked) read is = record {
    asked = asked;
    read = read;
    program = is.program;
    script = is.script;
    bytes = is.bytes;
    originals = from_delivered (given_with asked.said is.program is.script asked.input) (Ok d) d is.delivers refl;
  }
  from_given words disk input d (Err ended) read is = absurd (no_refusal d ended (sym is))

  pub runs_originally : (words : List (List ℕ)) (disk : Disk) (input : List ℕ) (d : Delivery) → Decides words disk input (Ok d) → RunsOriginally words disk input d
  runs_originally words disk input d is = from_given words disk input d (given_by refusal_of (reading_of words) disk input) refl is
