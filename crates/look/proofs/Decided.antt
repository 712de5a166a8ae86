-- How a decision follows from its steps.
use Rattle.std.proofs.Common.{◌≡◌, ◌⊎◌, inl, inr, ℕ, List, Option, Some, None, Result, Ok, Err, ap, sym, subst, refl}
use Rattle.top_call.specs.Call.{Decided, UnlessFull}
use Rattle.top_call.specs.Outside.{Outside}
use Rattle.top_call.specs.Reading.{FileRead, InputRead}
use Rattle.top_call.specs.declared.reading.Unread.{Unread}
use Rattle.top_call.proofs.Called.{full_before}
use Rattle.image.specs.Picture.{Picture}
use Rattle.delivered.specs.Building.{IsBuilt}
use Rattle.look_words.specs.declared.words.ScriptedRun.{ScriptedRun}
use Rattle.look_words.specs.declared.words.Subject.{Subject}
use Rattle.look_words.specs.declared.words.Subject.TheVariants as subject
use Rattle.look_words.specs.declared.words.Words.{Words}
use Rattle.look.specs.declared.decision.Refusal.{Refusal}
use Rattle.look.specs.declared.decision.Refusal.TheVariants.{Usage, ReadFault, TooLong, Program, Script, NoFunction, NoMemory}
use Rattle.look.specs.declared.decision.Seen.{Seen}
use Rattle.sched_log.specs.Ranges.{AreInRange}
use Rattle.sched_log.specs.Script.{fault_of, events_of}
use Rattle.sched_log.specs.declared.event.Event.{Event}
use Rattle.world.specs.Worlds.{Replaced, started}
use Rattle.delivered.specs.Events.{Played}
use Rattle.look.specs.Decision.{seen_of, ShowsRun, program_limit, script_limit, the_program, a_run, Asked, asked_for, reading_by, reading_for, names_in, Shows, Delivers, bad_program, shown, refusal_of, Refuses, look}

-- the words say nothing
pub words_refused : (w : Option Words) (a : Outside) → w ≡ None → Decided look (reading_for w) a a (Err Usage)
words_refused w a none = subst (λ x. Decided look (reading_for x) a a (Err Usage)) (sym none) (refl, inl refl)

-- or there is no room for them
pub words_full : (w : Option Words) (a : Outside) → Decided look (reading_for w) a a (Err NoMemory)
words_full w a = full_before look (reading_for w) a

-- the words say which reading it is
pub by_words : (w : Option Words) (said : Words) (s : Subject) (a b : Outside) (r : Result Seen Refusal) → w ≡ Some said → said.subject ≡ s → Decided look (reading_by s said) a b r → Decided look (reading_for w) a b r
by_words w said s a b r form is decided =
    subst (λ x. Decided look (reading_for x) a b r) (sym form) (subst (λ s. Decided look (reading_by s said) a b r) (sym is) decided)

abbrev refused : Refusal → Result Seen Refusal
refused r = Err r

module _ (said : Words) (function : Option (List ℕ)) (a b : Outside) where
  -- the program's file was refused
  pub program_refused : (why : Unread) (r : Refusal) → FileRead said.program program_limit a b (Err why) → r ≡ refusal_of why → Decided look (reading_by (subject.Program function) said) a b (Err r)
  program_refused why r read is = inl (why, read, ap refused is)

  -- and where it was not, what its bytes show
  pub program_shown : (program : List ℕ) (d : Result Seen Refusal) → FileRead said.program program_limit a b (Ok program)
      → UnlessFull NoMemory (Delivers (asked_for said program (the_program function))) d → Decided look (reading_by (subject.Program function) said) a b d
  program_shown program d read is = inr (program, b, read, (refl, is))

module _ (said : Words) (run : ScriptedRun) (a b : Outside) where
  -- the program's file was refused
  pub first_refused : (why : Unread) (r : Refusal) → FileRead said.program program_limit a b (Err why) → r ≡ refusal_of why → Decided look (reading_by (subject.Run run) said) a b (Err r)
  first_refused why r read is = inl (why, read, ap refused is)

  module _ (program : List ℕ) (read : FileRead said.program program_limit a b (Ok program)) (c : Outside) where
    -- the script's
    pub script_refused : (why : Unread) (r : Refusal) → FileRead run.script script_limit b c (Err why) → r ≡ refusal_of why → Decided look (reading_by (subject.Run run) said) a c (Err r)
    script_refused why r next is = inr (program, b, read, inl (why, next, ap refused is))

    module _ (script : List ℕ) (next : FileRead run.script script_limit b c (Ok script)) (d : Outside) where
      -- the input
      pub input_refused : (why : Unread) (r : Refusal) → InputRead c d (Err why) → r ≡ refusal_of why → Decided look (reading_by (subject.Run run) said) a d (Err r)
      input_refused why r last is = inr (program, b, read, inr (script, c, next, inl (why, last, ap refused is)))

      -- nothing was refused
      pub run_shown : (input : List ℕ) (r : Result Seen Refusal) → InputRead c d (Ok input) → UnlessFull NoMemory (Delivers (asked_for said program (a_run run script input))) r → Decided look (reading_by (subject.Run run) said) a d r
      run_shown input r last is = inr (program, b, read, inr (script, c, next, inr (input, d, last, (refl, is))))

-- a program that is refused delivers this refusal
pub refused_program : (asked : Asked) (r : Refusal) → Refuses asked.program asked.region r ⊎ (r ≡ NoMemory) → UnlessFull NoMemory (Delivers asked) (Err r)
refused_program asked r (inr is) = inr (ap refused is)
refused_program asked (Program fault) (inl is) = inl (bad_program fault is)
refused_program asked Usage (inl is) = absurd is
refused_program asked (ReadFault name) (inl is) = absurd is
refused_program asked (TooLong name) (inl is) = absurd is
refused_program asked (Script fault words) (inl is) = absurd is
refused_program asked (NoFunction name) (inl is) = absurd is
refused_program asked NoMemory (inl is) = absurd is

-- and one with an image what the image shows
pub shown_image : (asked : Asked) (image : Picture) (names : List (List ℕ)) (d : Result Seen Refusal) → IsBuilt asked.program asked.region image → names ≡ names_in asked.program image
    → UnlessFull NoMemory (Shows image names asked.wanted) d → UnlessFull NoMemory (Delivers asked) d
shown_image asked image names d built is (inl shows) = inl (shown image d built (subst (λ ns. Shows image ns asked.wanted d) is shows))
shown_image asked image names d built is (inr full) = inr full

-- a run whose script has no fault
pub run_seen : (image : Picture) (names : List (List ℕ)) (run : ScriptedRun) (script input : List ℕ) (events : List Event) (world : Replaced) (seen : Seen) → fault_of image script ≡ None → events ≡ events_of image script
    → AreInRange image events → Played events (started image run.ring input) world → seen ≡ seen_of run.picture world names → UnlessFull NoMemory (ShowsRun image names run script input) (Ok seen)
run_seen image names run script input events world seen none is range played made = inl (
  world,
  record {
    fine = none;
    range = subst (AreInRange image) is range;
    played = subst (λ es. Played es (started image run.ring input) world) is played;
  },
  made,
)
