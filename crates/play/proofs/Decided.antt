-- How a decision follows from its steps.
use Rattle.std.proofs.Common.{◌≡◌, ◌⊎◌, inl, inr, ℕ, Bool, List, Option, Some, None, Result, Ok, Err, ap, sym, subst, refl}
use Rattle.top_call.specs.Call.{Decided, UnlessFull}
use Rattle.top_call.specs.Outside.{Outside}
use Rattle.top_call.specs.Reading.{FileRead, InputRead}
use Rattle.top_call.specs.declared.reading.Unread.{Unread}
use Rattle.top_call.proofs.Called.{full_before}
use Rattle.image.specs.Picture.{Picture}
use Rattle.machine.specs.declared.outcome.Outcome.TheVariants.{Unfinished}
use Rattle.play_words.specs.declared.words.Guest.{Guest}
use Rattle.play_words.specs.declared.words.Guest.TheVariants.{Files, Generated}
use Rattle.play_words.specs.declared.words.Words.{Words}
use Rattle.report.specs.Cause.{refusal_of}
use Rattle.report.specs.declared.answer.Ended.{Ended}
use Rattle.report.specs.declared.answer.Ended.TheVariants.{Ran, Usage, ReadFault, TooLong, Program, Script, WriteFault, NoMemory}
use Rattle.report.specs.declared.writing.Delivery.{Delivery}
use Rattle.play.specs.Decision.{program_limit, script_limit, Subject, of_files, a_guest, Asked, HasBytes, as_read, as_generated, Given, given_with, reading_by, reading_for, RunsTo, Delivers, bad_program, bad_script, ran, Answers, play}
use Rattle.play.specs.Generated.{IsGuest, guest_script}
use Rattle.sched_log.specs.Ranges.{AreInRange}
use Rattle.sched_log.specs.Script.{fault_of, events_of}
use Rattle.sched_log.specs.declared.event.Event.{Event}
use Rattle.world.specs.Worlds.{Replaced, started}
use Rattle.delivered.specs.Building.{IsBuilt, Refuses}
use Rattle.delivered.specs.Deliveries.{delivery_of}
use Rattle.delivered.specs.Events.{Played}

-- the words say nothing
pub words_refused : (w : Option Words) (a : Outside) → w ≡ None → Decided play (reading_for w) a a (Err Usage)
words_refused w a none = subst (λ x. Decided play (reading_for x) a a (Err Usage)) (sym none) (refl, inl refl)

-- or there is no room for them
pub words_full : (w : Option Words) (a : Outside) → Decided play (reading_for w) a a (Err NoMemory)
words_full w a = full_before play (reading_for w) a

abbrev refused : Ended → Result Delivery Ended
refused e = Err e

as_refused : (e : Ended) (why : Unread) → e ≡ refusal_of why → refused e ≡ refused (refusal_of why)
as_refused e why is = ap refused is

-- the words say which reading it is
pub by_words : (w : Option Words) (said : Words) (guest : Guest) (a b : Outside) (r : Result Delivery Ended) → w ≡ Some said → said.guest ≡ guest → Decided play (reading_by guest said) a b r → Decided play (reading_for w) a b r
by_words w said guest a b r form is decided =
    subst (λ x. Decided play (reading_for x) a b r) (sym form) (subst (λ g. Decided play (reading_by g said) a b r) (sym is) decided)

abbrev asked-with : Words → Subject → (input : List ℕ) → Asked
asked-with said subject input = record { subject = subject; input = input; said = said }

-- bytes that are run deliver what the run delivers
answers : (said : Words) (subject : Subject) (program script input : List ℕ) (r : Result Delivery Ended) → HasBytes subject program script
    → UnlessFull NoMemory (Delivers (given_with said program script input)) r → UnlessFull NoMemory (Answers (asked-with said subject input)) r
answers said subject program script input r bytes (inl is) = inl (record { program = program; script = script; bytes = bytes; delivers = is })
answers said subject program script input r bytes (inr full) = inr full

module _ (said : Words) (program-name script-name : List ℕ) (a b : Outside) where
  -- the program's file was refused
  pub program_refused : (why : Unread) (e : Ended) → FileRead program-name program_limit a b (Err why) → e ≡ refusal_of why → Decided play (reading_by (Files program-name script-name) said) a b (Err e)
  program_refused why e read is = inl (why, read, as_refused e why is)

  module _ (program : List ℕ) (read : FileRead program-name program_limit a b (Ok program)) (c : Outside) where
    -- the script's
    pub script_refused : (why : Unread) (e : Ended) → FileRead script-name script_limit b c (Err why) → e ≡ refusal_of why → Decided play (reading_by (Files program-name script-name) said) a c (Err e)
    script_refused why e next is = inr (program, b, read, inl (why, next, as_refused e why is))

    module _ (script : List ℕ) (next : FileRead script-name script_limit b c (Ok script)) (d : Outside) where
      -- the input
      pub input_refused : (why : Unread) (e : Ended) → InputRead c d (Err why) → e ≡ refusal_of why → Decided play (reading_by (Files program-name script-name) said) a d (Err e)
      input_refused why e last is = inr (program, b, read, inr (script, c, next, inl (why, last, as_refused e why is)))

      -- nothing was refused
      pub all_given : (input : List ℕ) (r : Result Delivery Ended) → InputRead c d (Ok input) → UnlessFull NoMemory (Delivers (given_with said program script input)) r → Decided play (reading_by (Files program-name script-name) said) a d r
      all_given input r last is = inr (program, b, read, inr (script, c, next, inr (input, d, last, (refl, answers said (of_files program script) program script input r (as_read program script) is))))

module _ (said : Words) (count : ℕ) (a b : Outside) where
  -- the input of a generated guest was refused
  pub guest_input_refused : (why : Unread) (e : Ended) → InputRead a b (Err why) → e ≡ refusal_of why → Decided play (reading_by (Generated count) said) a b (Err e)
  guest_input_refused why e read is = inl (why, read, as_refused e why is)

  -- or there was no room for the guest
  pub guest_full : (input : List ℕ) → InputRead a b (Ok input) → Decided play (reading_by (Generated count) said) a b (Err NoMemory)
  guest_full input read = inr (input, b, read, (refl, inr refl))

  pub guest_given : (program script input : List ℕ) (r : Result Delivery Ended) → IsGuest count program → script ≡ guest_script count → InputRead a b (Ok input)
      → UnlessFull NoMemory (Delivers (given_with said program script input)) r → Decided play (reading_by (Generated count) said) a b r
  guest_given program script input r guest text read is =
      let bytes : HasBytes (a_guest count) program script = subst (HasBytes (a_guest count) program) (sym text) (as_generated count program guest) in
      inr (input, b, read, (refl, answers said (a_guest count) program script input r bytes is))

-- a program that is refused delivers this refusal
pub refused_program : (given : Given) (e : Ended) → Refuses given.program given.region e ⊎ (e ≡ NoMemory) → UnlessFull NoMemory (Delivers given) (Err e)
refused_program given e (inr is) = inr (ap refused is)
refused_program given (Program fault) (inl is) = inl (bad_program fault is)
refused_program given (Ran outcome) (inl is) = absurd is
refused_program given Usage (inl is) = absurd is
refused_program given (ReadFault name) (inl is) = absurd is
refused_program given (TooLong name) (inl is) = absurd is
refused_program given (Script fault) (inl is) = absurd is
refused_program given WriteFault (inl is) = absurd is
refused_program given NoMemory (inl is) = absurd is

-- and one with an image what the run of the image does
runs_to : (given : Given) (image : Picture) (r : Result Delivery Ended) → IsBuilt given.program given.region image → RunsTo image given.script given.input given.ring given.shown r → Delivers given r
runs_to given image (Ok delivery) built (world, is, shows) = subst (λ d. Delivers given (Ok d)) (sym shows) (ran image world built is)
runs_to given image (Err (Script fault)) built is = bad_script image fault built is
runs_to given image (Err (Ran outcome)) built is = absurd is
runs_to given image (Err Usage) built is = absurd is
runs_to given image (Err (ReadFault name)) built is = absurd is
runs_to given image (Err (TooLong name)) built is = absurd is
runs_to given image (Err (Program fault)) built is = absurd is
runs_to given image (Err WriteFault) built is = absurd is
runs_to given image (Err NoMemory) built is = absurd is

pub run_program : (given : Given) (image : Picture) (r : Result Delivery Ended) → IsBuilt given.program given.region image → UnlessFull NoMemory (RunsTo image given.script given.input given.ring given.shown) r → UnlessFull NoMemory (Delivers given) r
run_program given image r built (inl is) = inl (runs_to given image r built is)
run_program given image r built (inr is) = inr is

-- a run whose script has no fault
pub is_run : (image : Picture) (text input : List ℕ) (ring : ℕ) (shown : Bool) (events : List Event) (world : Replaced) (d : Delivery) → fault_of image text ≡ None → events ≡ events_of image text → AreInRange image events
    → Played events (started image ring input) world → d ≡ delivery_of Unfinished shown world → UnlessFull NoMemory (RunsTo image text input ring shown) (Ok d)
is_run image text input ring shown events world d none is range played made = inl (
  world,
  record {
    fine = none;
    range = subst (AreInRange image) is range;
    played = subst (λ es. Played es (started image ring input) world) is played;
  },
  made,
)
