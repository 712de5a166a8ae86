-- What `live` promises follows from what it decided and wrote.
use Rattle.std.proofs.Common.{◌≡◌, ◌≢◌, ◌⊎◌, inl, inr, ℕ, zero, suc, List, [], ◌∷◌, take, length, Option, Some, None, Result, Ok, Err, refl, ap, sym, subst, ◌∙◌, arith}
use Rattle.std.proofs.lemmas.List.{take_all}
use Rattle.std.specs.Option.{ForSome}
use Rattle.std.specs.Prelude.{is_some}
use Rattle.oc_base.specs.Outside.{Disk, Rose, gained, GainedPart, TakeFailed}
use Rattle.oc_base.proofs.Told.{gained-gained}
use Rattle.top_call.specs.Call.{Decided, DecidesBy, Delivered, Written}
use Rattle.top_call.specs.Outside.{Outside, Told}
use Rattle.top_call.specs.Reading.{input_name, given_by, FileRead, InputRead}
use Rattle.top_call.specs.Writing.{WriteFailed}
use Rattle.top_call.specs.declared.reading.Unread.{Unread}
use Rattle.top_call.specs.declared.reading.Unread.TheVariants as unread
use Rattle.top_call.proofs.Called.{Told_of, told_whole, told_fault, told_full, Along, Frame, frame, asked_part, decided_only, told_of, settles, all_fail_once, asked_it, asked_for, last_asked}
use Rattle.machine.specs.Start.{start_of}
use Rattle.machine.specs.Steps.{original_run}
use Rattle.machine.specs.declared.outcome.Outcome.{Outcome}
use Rattle.machine.specs.declared.outcome.Outcome.TheVariants.{Unfinished, Limit}
use Rattle.pacing.specs.Clocks.{reals, clock_from}
use Rattle.pacing.specs.Logs.{steps_of}
use Rattle.report.specs.Answer.{status_of, line_of}
use Rattle.report.specs.Cause.{refusal_of, err_of, answer_by}
use Rattle.report.specs.declared.answer.Answer.{Answer}
use Rattle.report.specs.declared.answer.Ended.{Ended}
use Rattle.report.specs.declared.answer.Ended.TheVariants.{Ran, Usage, ReadFault, TooLong, Program, Script, WriteFault, NoMemory}
use Rattle.report.specs.declared.writing.Delivery.{Delivery}
use Rattle.delivered.specs.Deliveries.{outcome_of}
use Rattle.live_words.specs.Words.{words_of}
use Rattle.live_words.specs.declared.words.Words.{Words}
use Rattle.live.specs.declared.life.Life.{Life}
use Rattle.live.specs.declared.lived.Lived.{Lived}
use Rattle.live.specs.Decision.{program_limit, Asked, reading_for, reading_of, named, names_of, read_names, read_of, IsLife, Lives, bad_program, ran, live, AsksFor}
use Rattle.live.specs.Ending.{writes_of, answer_of, unwritten_of, unlived, lived_ending}
use Rattle.live.specs.Lives.{ReachesLimit}
use Rattle.live.specs.Promise.{Filed, IsOf, AnswersRun, IsLifeOf, AtLimit, Cause, OnlyFile, record_name, IsRefusal, Unreported, Promise}
use Rattle.live.proofs.Outcomes.{IsOwn, own_run}
use Rattle.live.proofs.Written.{record_names, SpareFiles, LifeWritten, life_written, LifeBroken, life_broken, names_are, spares_only, filed_spares, same_only, OnlyErr, line_written, line_broken}

-- ---- what was decided

no_life : (life : Life) (e : Ended) → Ok life ≡ Err e → ⊥
no_life life e is = cc

abbrev given_life : Life → Result Life Ended
given_life life = Ok life

same_life : (k l : Life) → given_life k ≡ given_life l → l ≡ k
same_life k l is = cc

abbrev refused : Ended → Result Life Ended
refused e = Err e

same_refusal : (d e : Ended) → refused d ≡ refused e → e ≡ d
same_refusal d e is = cc

-- A run was decided: on the words' terms, after the program's file and all of the input.
pub record LifeAt (w : Option Words) (a b : Outside) (life : Life) : Type 0 where
  pub asked : Asked
  pub said : w ≡ Some asked.said
  pub is : IsLife asked life
  pub names : b.asked ≡ gained a.asked (asked.said.program ∷ [])
  pub left : ForSome b.left (λ left. left ≡ [])

-- where a refusal comes from, told or not
abbrev RefusedAt : (w : Option Words) (a b : Outside) → Ended → Type 0
RefusedAt w a b Usage = (w ≡ None) × (b.asked ≡ a.asked) × (b.left ≡ a.left)
RefusedAt w a b (ReadFault name) = TakeFailed name b.asked a.takes b.takes ⊎ ((name ≡ input_name) × Rose a.reads b.reads)
RefusedAt w a b (Ran outcome) = ⊥
RefusedAt w a b (Script fault) = ⊥
RefusedAt w a b WriteFault = ⊥
RefusedAt w a b _ = Unit {0}

file_at : (w : Option Words) (name : List ℕ) (limit : ℕ) (a b : Outside) (why : Unread) → FileRead name limit a b (Err why) → RefusedAt w a b (refusal_of why)
file_at w name limit a b (unread.Failed given) read = inl (record {
  rose = read.cause.1;
  last = last_asked a.asked b.asked [] given (subst (λ n. b.asked ≡ gained a.asked (n ∷ [])) (sym read.cause.0) (asked_for a.asked b.asked name (unread.Failed given) (λ is. cc) read.asked));
})
file_at w name limit a b (unread.TooLong given) read = tt
file_at w name limit a b unread.NoMemory read = tt

input_at : (w : Option Words) (a between b : Outside) (why : Unread) → between.reads ≡ a.reads → InputRead between b (Err why) → RefusedAt w a b (refusal_of why)
input_at w a between b (unread.Failed given) same read = inr (read.cause.0, subst (λ count. Rose count b.reads) same read.cause.1)
input_at w a between b (unread.TooLong given) same read = tt
input_at w a between b unread.NoMemory same read = tt

lives_at : (w : Option Words) (asked : Asked) (a b : Outside) (d : Result Life Ended) (e : Ended) → d ≡ Err e → Lives asked d → RefusedAt w a b e
lives_at w asked a b _ e same (bad_program fault is) = subst (RefusedAt w a b) (sym (same_refusal (Program fault) e same)) tt
lives_at w asked a b _ e same (ran life is) = absurd (no_life life e same)

pub refused_at : (w : Option Words) (a b : Outside) (e : Ended) → Decided live (reading_for w) a b (Err e) → RefusedAt w a b e
refused_at None a b e (same, inl is) = subst (RefusedAt None a b) (same_refusal e Usage is) (refl, ap (λ (x : Outside). x.asked) same, ap (λ (x : Outside). x.left) same)
refused_at None a b e (same, inr is) = subst (RefusedAt None a b) (same_refusal e NoMemory is) tt
refused_at (Some said) a b e (inl (why, x, is)) = subst (RefusedAt (Some said) a b) (same_refusal e (refusal_of why) is) (file_at (Some said) said.program program_limit a b why x)
refused_at (Some said) a b e (inr (program, c, x, inl (why, i, is))) =
    subst (RefusedAt (Some said) a b) (same_refusal e (refusal_of why) is) (input_at (Some said) a c b why (ap (λ (x : Outside). x.reads) x.rest) i)
refused_at (Some said) a b e (inr (program, c, x, inr (input, f, i, (same, inl is)))) = lives_at (Some said) (record { program = program; input = input; said = said }) a b (Err e) e refl is
refused_at (Some said) a b e (inr (program, c, x, inr (input, f, i, (same, inr is)))) = subst (RefusedAt (Some said) a b) (same_refusal e NoMemory is) tt

is_life : (asked : Asked) (d : Result Life Ended) (life : Life) → d ≡ Ok life → Lives asked d → IsLife asked life
is_life asked _ life same (bad_program fault is) = absurd (no_life life (Program fault) (sym same))
is_life asked _ life same (ran other is) = subst (IsLife asked) (sym (same_life other life same)) is

pub life_at : (w : Option Words) (a b : Outside) (life : Life) → Decided live (reading_for w) a b (Ok life) → LifeAt w a b life
life_at None a b life (same, inl is) = absurd (no_life life Usage is)
life_at None a b life (same, inr is) = absurd (no_life life NoMemory is)
life_at (Some said) a b life (inl (why, x, is)) = absurd (no_life life (refusal_of why) is)
life_at (Some said) a b life (inr (program, c, x, inl (why, i, is))) = absurd (no_life life (refusal_of why) is)
life_at (Some said) a b life (inr (program, c, x, inr (input, f, i, (same, inr is)))) = absurd (no_life life NoMemory is)
life_at (Some said) a b life (inr (program, c, x, inr (input, f, i, (same, inl is)))) = record {
  asked = record { program = program; input = input; said = said };
  said = refl;
  is = is_life (record { program = program; input = input; said = said }) (Ok life) life refl is;
  names = ap (λ (x : Outside). x.asked) same ∙ ap (λ (x : Outside). x.asked) i.rest ∙ asked_it a.asked c.asked said.program program x.asked;
  left = subst (λ told. ForSome told (λ left. left ≡ [])) (sym (ap (λ (x : Outside). x.left) same)) i.cause.1;
}

-- ---- the names that the files were asked for

along : (w : Option Words) → Along live (read_names w) (reading_for w)
along None = refl
along (Some said) = ([], refl, λ program input. refl)

-- a part of it is one of all names
part_in : (w : Option Words) (was now : Option (List (List ℕ))) (count : ℕ) → now ≡ gained was (take count (read_names w)) → GainedPart was now (named w)
part_in None was now count e = record { count = count; part = e }
part_in (Some said) was now zero e = record { count = 0; part = e }
part_in (Some said) was now (suc count) e = record { count = 1; part = e ∙ ap (gained was) (take_all (suc count) (said.program ∷ []) (omega arith)) }

part_of_all : (was now : Option (List (List ℕ))) (names : List (List ℕ)) → now ≡ gained was names → GainedPart was now names
part_of_all was now names e = record { count = length names; part = e ∙ ap (gained was) (sym (take_all (length names) names (omega arith))) }

-- ---- what was answered

-- the answer is one of these
pub data EndedAs (words : List (List ℕ)) (before after : Outside) (lived : Lived) : Type 0 where
  is_run : (life : Life) (read : Outside) → Decided live (reading_of words) before read (Ok life) → LifeWritten life.delivery.out (err_of life.delivery) life.file read after → lived ≡ answer_of (Ok life) → EndedAs words before after lived
  is_broken : (life : Life) (read : Outside) → Decided live (reading_of words) before read (Ok life) → LifeBroken life.file read after → lived ≡ unwritten_of (Ok life) → EndedAs words before after lived
  is_refused : (ended : Ended) (read : Outside) → Decided live (reading_of words) before read (Err ended) → OnlyErr read after → lived ≡ unlived (answer_by ended []) → EndedAs words before after lived
  is_unsaid : (ended : Ended) (read : Outside) → Decided live (reading_of words) before read (Err ended) → OnlyErr read after → Rose read.errs after.errs → lived ≡ unlived (answer_by WriteFault []) → EndedAs words before after lived

module _ (words : List (List ℕ)) (before read after : Outside) (lived : Lived) where
  unsaid : (ended : Ended) → Decided live (reading_of words) before read (Err ended) → WriteFailed (writes_of (Err ended)) read after → lived ≡ unlived (answer_by WriteFault []) → EndedAs words before after lived
  unsaid ended decided broken is = let why = line_broken (line_of ended) read after broken in is_unsaid ended read decided why.0 why.1 is

  refused_ends : (ended : Ended) → Decided live (reading_of words) before read (Err ended) → WriteFailed (writes_of (Err ended)) read after → lived ≡ unwritten_of (Err ended) → EndedAs words before after lived
  refused_ends NoMemory decided broken is = is_refused NoMemory read decided (line_broken (line_of NoMemory) read after broken).0 is
  refused_ends (Ran outcome) decided broken is = unsaid (Ran outcome) decided broken is
  refused_ends Usage decided broken is = unsaid Usage decided broken is
  refused_ends (ReadFault name) decided broken is = unsaid (ReadFault name) decided broken is
  refused_ends (TooLong name) decided broken is = unsaid (TooLong name) decided broken is
  refused_ends (Program fault) decided broken is = unsaid (Program fault) decided broken is
  refused_ends (Script fault) decided broken is = unsaid (Script fault) decided broken is
  refused_ends WriteFault decided broken is = unsaid WriteFault decided broken is

  ended_by : (d : Result Life Ended) → Decided live (reading_of words) before read d → Written lived_ending d read after lived → EndedAs words before after lived
  ended_by (Ok life) decided (inl (whole, is)) = is_run life read decided (life_written life.delivery.out (err_of life.delivery) life.file read after whole) is
  ended_by (Ok life) decided (inr (broken, is)) = is_broken life read decided (life_broken life.delivery.out (err_of life.delivery) life.file read after broken) is
  ended_by (Err ended) decided (inl (whole, is)) = is_refused ended read decided (line_written (line_of ended) read after whole) is
  ended_by (Err ended) decided (inr (broken, is)) = refused_ends ended decided broken is

ended_is : (lived k : Lived) → lived ≡ k → lived.answer.ended ≡ k.answer.ended
ended_is lived k is = ap (λ (x : Lived). x.answer.ended) is

-- ---- the outcome of a run is the guest's, or the limit

module _ (asked : Asked) (life : Life) (is : IsLife asked life) where
  -- the world's outcome is one of the original machine
  own_world : IsOwn is.lived.world.machine.outcome
  unfolding start_of
  own_world =
      let own : IsOwn (original_run is.image (steps_of life.log) (start_of is.image asked.input)).outcome = own_run is.image (steps_of life.log) (start_of is.image asked.input) tt in
      subst IsOwn (sym is.lived.headline.related.states.outcome) own

  outcome_is : life.delivery.outcome ≡ outcome_of (Limit asked.said.limit) is.lived.world.machine.outcome
  outcome_is = ap (λ (x : Delivery). x.outcome) is.lived.delivers

same_end : (o k : Outcome) → Ran o ≡ Ran k → o ≡ k
same_end o k is = cc

same_most : (m n : ℕ) → Limit m ≡ Limit n → n ≡ m
same_most m n is = cc

no_unfinished : (limit : ℕ) (o : Option Outcome) → IsOwn o → outcome_of (Limit limit) o ≡ Unfinished → ⊥
no_unfinished limit None own is = cc
no_unfinished limit (Some o) own is = subst (λ x. IsOwn (Some x)) is own

pub record Limited (limit most : ℕ) (o : Option Outcome) : Type 0 where
  pub most_is : most ≡ limit
  pub none : o ≡ None

limited_is : (limit most : ℕ) (o : Option Outcome) → IsOwn o → outcome_of (Limit limit) o ≡ Limit most → Limited limit most o
limited_is limit most None own is = record { most_is = same_most limit most is; none = refl }
limited_is limit most (Some o) own is = absurd (subst (λ x. IsOwn (Some x)) is own)

-- ---- each clause

module _ (words : List (List ℕ)) (before after : Outside) where
  abbrev life_of : (life : Life) (read : Outside) → LifeAt (words_of words) before read life → IsLifeOf words life
  life_of life read at = record { asked = at.asked; said = at.said; is = at.is }

  is_of : (life : Life) (lived : Lived) → lived ≡ answer_of (Ok life) → IsOf life lived
  is_of life lived is = record {
    outcome = ended_is lived (answer_of (Ok life)) is;
    report = ap (λ (x : Lived). x.answer.report) is;
    log = ap (λ (x : Lived). x.log) is;
    shares = ap (λ (x : Lived). x.shares) is;
  }

  -- the record's names come after the program's
  all_names : (life : Life) (read : Outside) → LifeAt (words_of words) before read life → after.asked ≡ gained read.asked (record_names life.file) → after.asked ≡ gained before.asked (names_of words)
  all_names life read at asked =
      asked ∙ ap (λ told. gained told (record_names life.file)) at.names ∙ gained-gained before.asked (at.asked.said.program ∷ []) (record_names life.file)
      ∙ ap (λ names. gained before.asked (at.asked.said.program ∷ names)) (ap record_names at.is.lived.filed ∙ names_are at.asked.said.log_name _)
      ∙ ap (λ w. gained before.asked (named w)) (sym at.said)

  kept_frame : (d : Result Life Ended) (read : Outside) → Decided live (reading_of words) before read d → Frame before read
  kept_frame d read decided = frame before read (decided_only live (reading_of words) before read d decided)

  -- the cause of a refusal, after its line
  refused_cause : (lived : Lived) (ended : Ended) (read : Outside) → RefusedAt (words_of words) before read ended → OnlyErr read after → Cause words before after lived ended
  refused_cause lived Usage read at leaves = (at.0, ap (λ (x : Outside). x.asked) leaves ∙ at.1, ap (λ (x : Outside). x.left) leaves ∙ at.2)
  refused_cause lived (ReadFault name) read (inl at) leaves =
      inl (subst (λ told. TakeFailed name told before.takes after.takes) (sym (ap (λ (x : Outside). x.asked) leaves)) (subst (TakeFailed name read.asked before.takes) (sym (ap (λ (x : Outside). x.takes) leaves)) at))
  refused_cause lived (ReadFault name) read (inr at) leaves = inr (at.0, subst (Rose before.reads) (sym (ap (λ (x : Outside). x.reads) leaves)) at.1)
  refused_cause lived (Ran outcome) read at leaves = absurd at
  refused_cause lived WriteFault read at leaves = absurd at
  refused_cause lived (Script fault) read at leaves = absurd at
  refused_cause lived (TooLong name) read at leaves = tt
  refused_cause lived (Program fault) read at leaves = tt
  refused_cause lived NoMemory read at leaves = tt

  rose_since : (read : Outside) → Frame before read → Rose read.outs after.outs ⊎ (Rose read.puts after.puts ⊎ Rose read.errs after.errs) → Rose before.outs after.outs ⊎ (Rose before.puts after.puts ⊎ Rose before.errs after.errs)
  rose_since read kept (inl is) = inl (subst (λ count. Rose count after.outs) kept.outs is)
  rose_since read kept (inr (inl is)) = inr (inl (subst (λ count. Rose count after.puts) kept.puts is))
  rose_since read kept (inr (inr is)) = inr (inr (subst (λ count. Rose count after.errs) kept.errs is))

  cause_of : (lived : Lived) → EndedAs words before after lived → Cause words before after lived lived.answer.ended
  cause_of lived (is_run life read decided written is) =
      let at = life_at (words_of words) before read life decided in
      subst (Cause words before after lived) (sym (ended_is lived (answer_of (Ok life)) is))
      ((life, life_of life read at, is_of life lived is), all_names life read at written.asked, subst (λ told. ForSome told (λ left. left ≡ [])) (sym written.left) at.left)
  cause_of lived (is_broken life read decided broken is) =
      let at = life_at (words_of words) before read life decided in
      subst (Cause words before after lived) (sym (ended_is lived (unwritten_of (Ok life)) is))
      (rose_since read (kept_frame (Ok life) read decided) broken.rose, inl (life, life_of life read at, ap (λ (x : Lived). x.log) is, ap (λ (x : Lived). x.shares) is))
  cause_of lived (is_refused ended read decided leaves is) =
      subst (Cause words before after lived) (sym (ended_is lived (unlived (answer_by ended [])) is)) (refused_cause lived ended read (refused_at (words_of words) before read ended decided) leaves)
  cause_of lived (is_unsaid ended read decided leaves rose is) =
      subst (Cause words before after lived) (sym (ended_is lived (unlived (answer_by WriteFault [])) is))
      (rose_since read (kept_frame (Err ended) read decided) (inr (inr rose)), inr (ap (λ (x : Lived). x.log) is))

  -- a refusal is no run
  not_ran : (ended : Ended) (outcome : Outcome) (read : Outside) → RefusedAt (words_of words) before read ended → ended ≡ Ran outcome → ⊥
  not_ran ended outcome read at is = subst (RefusedAt (words_of words) before read) is at

  no_write_ran : (outcome : Outcome) → WriteFault ≡ Ran outcome → ⊥
  no_write_ran outcome is = cc

  -- so a run that is answered was decided and written
  pub record RanAs (lived : Lived) (outcome : Outcome) : Type 0 where
    pub life : Life
    pub read : Outside
    pub decided : Decided live (reading_of words) before read (Ok life)
    pub written : LifeWritten life.delivery.out (err_of life.delivery) life.file read after
    pub is : lived ≡ answer_of (Ok life)
    pub outcome_is : life.delivery.outcome ≡ outcome

  ran_as : (lived : Lived) → EndedAs words before after lived → (outcome : Outcome) → lived.answer.ended ≡ Ran outcome → RanAs lived outcome
  ran_as lived (is_run life read decided written is) outcome answered = record {
    life = life;
    read = read;
    decided = decided;
    written = written;
    is = is;
    outcome_is = same_end life.delivery.outcome outcome (sym (ended_is lived (answer_of (Ok life)) is) ∙ answered);
  }
  ran_as lived (is_broken life read decided broken is) outcome answered = absurd (no_write_ran outcome (sym (ended_is lived (unwritten_of (Ok life)) is) ∙ answered))
  ran_as lived (is_refused ended read decided leaves is) outcome answered =
      absurd (not_ran ended outcome read (refused_at (words_of words) before read ended decided) (sym (ended_is lived (unlived (answer_by ended [])) is) ∙ answered))
  ran_as lived (is_unsaid ended read decided leaves rose is) outcome answered = absurd (no_write_ran outcome (sym (ended_is lived (unlived (answer_by WriteFault [])) is) ∙ answered))

  never_of : (lived : Lived) → EndedAs words before after lived → lived.answer.ended ≢ Ran Unfinished
  never_of lived ended answered =
      let m = ran_as lived ended Unfinished answered in
      let at = life_at (words_of words) before m.read m.life m.decided in
      no_unfinished at.asked.said.limit at.is.lived.world.machine.outcome (own_world at.asked m.life at.is) (sym (outcome_is at.asked m.life at.is) ∙ m.outcome_is)

  limit_of : (lived : Lived) → EndedAs words before after lived → (most : ℕ) → lived.answer.ended ≡ Ran (Limit most) → AtLimit words most lived.log
  limit_of lived ended most answered =
      let m = ran_as lived ended (Limit most) answered in
      let at = life_at (words_of words) before m.read m.life m.decided in
      let is = limited_is at.asked.said.limit most at.is.lived.world.machine.outcome (own_world at.asked m.life at.is) (sym (outcome_is at.asked m.life at.is) ∙ m.outcome_is) in
      let log : lived.log ≡ m.life.log = ap (λ (x : Lived). x.log) m.is in
      record {
        life = m.life;
        run = life_of m.life m.read at;
        log_is = log;
        most_is = is.most_is;
        none = is.none;
        reached = subst (λ n. ReachesLimit n lived.log) (sym is.most_is) (subst (ReachesLimit at.asked.said.limit) (sym log) (at.is.lived.limited (ap (λ (o : Option Outcome). is_some o) is.none)));
      }

  asks_for : (disk : Disk) (input : List ℕ) (life : Life) (asked : Result Asked Ended) → given_by refusal_of (reading_of words) disk input ≡ asked → DecidesBy live asked (Ok life) → AsksFor words disk input life
  asks_for disk input life (Ok asked) read is = record { asked = asked; read = read; is = is_life asked (Ok life) life refl is }
  asks_for disk input life (Err ended) read is = absurd (no_life life ended is)

  asks_run : (disk : Disk) (input : List ℕ) (read : Outside) (life : Life) → Told_of live (reading_of words) disk input before read (Ok life) → AsksFor words disk input life
  asks_run disk input read life (told_whole is) = asks_for disk input life (given_by refusal_of (reading_of words) disk input) refl is
  asks_run disk input read life (told_fault name is rose) = absurd (no_life life (ReadFault name) is)
  asks_run disk input read life (told_full is) = absurd (no_life life NoMemory is)

  headline_of : (lived : Lived) → EndedAs words before after lived → (outcome : Outcome) → lived.answer.ended ≡ Ran outcome → Told before (λ disk input. AnswersRun words disk input before after lived)
  headline_of lived ended outcome answered = λ disk tells input tells'.
      let m = ran_as lived ended outcome answered in
      let at = life_at (words_of words) before m.read m.life m.decided in
      let kept = kept_frame (Ok m.life) m.read m.decided in
      record {
        life = m.life;
        asked = asks_run disk input m.read m.life (told_of live (reading_of words) disk input before m.read (Ok m.life) tells tells' m.decided);
        answer = is_of m.life lived m.is;
        out = m.written.out_is ∙ ap (λ told. gained told m.life.delivery.out) kept.out;
        recorded = subst (λ x. Filed m.life.file x after.disk) kept.disk m.written.filed;
        err = m.written.err_is ∙ ap (λ told. gained told (err_of m.life.delivery)) kept.err;
        left = subst (λ told. ForSome told (λ left. left ≡ [])) (sym m.written.left) at.left;
      }

  -- ---- devices
  read_part : (d : Result Life Ended) (read : Outside) → Decided live (reading_of words) before read d → after.asked ≡ read.asked → GainedPart before.asked after.asked (names_of words)
  read_part d read decided same =
      let part = asked_part live (read_names (words_of words)) (reading_of words) before read d (along (words_of words)) decided in
      part_in (words_of words) before.asked after.asked part.count (same ∙ part.part)

  broken_part : (life : Life) (read : Outside) → Decided live (reading_of words) before read (Ok life) → (after.asked ≡ gained read.asked (record_names life.file)) ⊎ (after.asked ≡ read.asked) → GainedPart before.asked after.asked (names_of words)
  broken_part life read decided (inl asked) = part_of_all before.asked after.asked (names_of words) (all_names life read (life_at (words_of words) before read life decided) asked)
  broken_part life read decided (inr same) = read_part (Ok life) read decided same

  asked_of : (lived : Lived) → EndedAs words before after lived → GainedPart before.asked after.asked (names_of words)
  asked_of lived (is_run life read decided written is) = broken_part life read decided (inl written.asked)
  asked_of lived (is_broken life read decided broken is) = broken_part life read decided broken.asked
  asked_of lived (is_refused ended read decided leaves is) = read_part (Err ended) read decided (ap (λ (x : Outside). x.asked) leaves)
  asked_of lived (is_unsaid ended read decided leaves rose is) = read_part (Err ended) read decided (ap (λ (x : Outside). x.asked) leaves)

  life_spares : (life : Life) (read : Outside) → Decided live (reading_of words) before read (Ok life) → SpareFiles life.file read.disk after.disk → OnlyFile (record_name (words_of words)) before.disk after.disk
  life_spares life read decided spared =
      let at = life_at (words_of words) before read life decided in
      let kept = kept_frame (Ok life) read decided in
      subst (λ w. OnlyFile (record_name w) before.disk after.disk) (sym at.said)
      (spares_only at.asked.said.log_name _ before.disk after.disk (subst (λ r. SpareFiles r before.disk after.disk) at.is.lived.filed (subst (λ x. SpareFiles life.file x after.disk) kept.disk spared)))

  disk_of : (lived : Lived) → EndedAs words before after lived → OnlyFile (record_name (words_of words)) before.disk after.disk
  disk_of lived (is_run life read decided written is) = life_spares life read decided (filed_spares life.file read.disk after.disk written.filed)
  disk_of lived (is_broken life read decided broken is) = life_spares life read decided broken.spared
  disk_of lived (is_refused ended read decided leaves is) =
      same_only (record_name (words_of words)) before.disk after.disk (ap (λ (x : Outside). x.disk) leaves ∙ (kept_frame (Err ended) read decided).disk)
  disk_of lived (is_unsaid ended read decided leaves rose is) =
      same_only (record_name (words_of words)) before.disk after.disk (ap (λ (x : Outside). x.disk) leaves ∙ (kept_frame (Err ended) read decided).disk)

  untouched : (lived : Lived) → EndedAs words before after lived → IsRefusal lived.answer.ended → (after.disk ≡ before.disk) × (after.out ≡ before.out) × (after.puts ≡ before.puts)
  untouched lived (is_run life read decided written is) refusal = absurd (subst IsRefusal (ended_is lived (answer_of (Ok life)) is) refusal)
  untouched lived (is_broken life read decided broken is) refusal = absurd (subst IsRefusal (ended_is lived (unwritten_of (Ok life)) is) refusal)
  untouched lived (is_unsaid ended read decided leaves rose is) refusal = absurd (subst IsRefusal (ended_is lived (unlived (answer_by WriteFault [])) is) refusal)
  untouched lived (is_refused ended read decided leaves is) refusal =
      let kept = kept_frame (Err ended) read decided in
      (ap (λ (x : Outside). x.disk) leaves ∙ kept.disk, ap (λ (x : Outside). x.out) leaves ∙ kept.out, ap (λ (x : Outside). x.puts) leaves ∙ kept.puts)

  -- a refusal asks for what is read alone
  refused_part : (ended : Ended) (r : Outside) → Decided live (reading_of words) before r (Err ended) → OnlyErr r after → GainedPart before.asked after.asked (read_of words)
  refused_part ended r decided leaves =
      subst (λ told. GainedPart before.asked told (read_of words)) (sym (ap (λ (x : Outside). x.asked) leaves)) (asked_part live (read_of words) (reading_of words) before r (Err ended) (along (words_of words)) decided)

  read_alone : (lived : Lived) → EndedAs words before after lived → IsRefusal lived.answer.ended → GainedPart before.asked after.asked (read_of words)
  read_alone lived (is_run life r decided written is) refusal = absurd (subst IsRefusal (ended_is lived (answer_of (Ok life)) is) refusal)
  read_alone lived (is_broken life r decided broken is) refusal = absurd (subst IsRefusal (ended_is lived (unwritten_of (Ok life)) is) refusal)
  read_alone lived (is_unsaid ended r decided leaves rose is) refusal = absurd (subst IsRefusal (ended_is lived (unlived (answer_by WriteFault [])) is) refusal)
  read_alone lived (is_refused ended r decided leaves is) refusal = refused_part ended r decided leaves

  -- ---- the log and the count
  unlogged_of : (lived : Lived) → EndedAs words before after lived → IsRefusal lived.answer.ended → lived.log ≡ []
  unlogged_of lived (is_run life read decided written is) refusal = absurd (subst IsRefusal (ended_is lived (answer_of (Ok life)) is) refusal)
  unlogged_of lived (is_broken life read decided broken is) refusal = absurd (subst IsRefusal (ended_is lived (unwritten_of (Ok life)) is) refusal)
  unlogged_of lived (is_unsaid ended read decided leaves rose is) refusal = ap (λ (x : Lived). x.log) is
  unlogged_of lived (is_refused ended read decided leaves is) refusal = ap (λ (x : Lived). x.log) is

  life_shares : (life : Life) (read : Outside) (lived : Lived) → Decided live (reading_of words) before read (Ok life) → lived.log ≡ life.log → lived.shares ≡ life.shares → lived.shares ≡ reals lived.log
  life_shares life read lived decided log count = count ∙ (life_at (words_of words) before read life decided).is.lived.shares ∙ ap reals (sym log)

  no_shares : (lived : Lived) → lived.log ≡ [] → lived.shares ≡ 0 → lived.shares ≡ reals lived.log
  unfolding clock_from
  no_shares lived log count = count ∙ ap reals (sym log)

  shares_of : (lived : Lived) → EndedAs words before after lived → lived.shares ≡ reals lived.log
  shares_of lived (is_run life read decided written is) = life_shares life read lived decided (ap (λ (x : Lived). x.log) is) (ap (λ (x : Lived). x.shares) is)
  shares_of lived (is_broken life read decided broken is) = life_shares life read lived decided (ap (λ (x : Lived). x.log) is) (ap (λ (x : Lived). x.shares) is)
  shares_of lived (is_refused ended read decided leaves is) = no_shares lived (ap (λ (x : Lived). x.log) is) (ap (λ (x : Lived). x.shares) is)
  shares_of lived (is_unsaid ended read decided leaves rose is) = no_shares lived (ap (λ (x : Lived). x.log) is) (ap (λ (x : Lived). x.shares) is)

-- ---- status and report
status_as : (lived : Lived) (ended : Ended) (report : List ℕ) → lived.answer ≡ answer_by ended report → lived.answer.status ≡ status_of lived.answer.ended
status_as lived ended report is = ap (λ (x : Answer). x.status) is ∙ ap (λ (x : Answer). status_of x.ended) (sym is)

status_of_end : (words : List (List ℕ)) (before after : Outside) (lived : Lived) → EndedAs words before after lived → lived.answer.status ≡ status_of lived.answer.ended
status_of_end words before after lived (is_run life read decided written is) = status_as lived (Ran life.delivery.outcome) life.delivery.report (ap (λ (x : Lived). x.answer) is)
status_of_end words before after lived (is_broken life read decided broken is) = status_as lived WriteFault [] (ap (λ (x : Lived). x.answer) is)
status_of_end words before after lived (is_refused ended read decided leaves is) = status_as lived ended [] (ap (λ (x : Lived). x.answer) is)
status_of_end words before after lived (is_unsaid ended read decided leaves rose is) = status_as lived WriteFault [] (ap (λ (x : Lived). x.answer) is)

-- an answer that is no run has no report
no_report : (ended : Ended) → Unreported ended []
no_report (Ran outcome) = tt
no_report Usage = refl
no_report (ReadFault name) = refl
no_report (TooLong name) = refl
no_report (Program fault) = refl
no_report (Script fault) = refl
no_report WriteFault = refl
no_report NoMemory = refl

unreported_as : (lived : Lived) (ended : Ended) → lived.answer ≡ answer_by ended [] → Unreported lived.answer.ended lived.answer.report
unreported_as lived ended is = subst (λ (x : Answer). Unreported x.ended x.report) (sym is) (no_report ended)

unreported : (words : List (List ℕ)) (before after : Outside) (lived : Lived) → EndedAs words before after lived → Unreported lived.answer.ended lived.answer.report
unreported words before after lived (is_run life read decided written is) = subst (λ (x : Lived). Unreported x.answer.ended x.answer.report) (sym is) tt
unreported words before after lived (is_broken life read decided broken is) = unreported_as lived WriteFault (ap (λ (x : Lived). x.answer) is)
unreported words before after lived (is_refused ended read decided leaves is) = unreported_as lived ended (ap (λ (x : Lived). x.answer) is)
unreported words before after lived (is_unsaid ended read decided leaves rose is) = unreported_as lived WriteFault (ap (λ (x : Lived). x.answer) is)

pub promised : (words : List (List ℕ)) (before after : Outside) (lived : Lived) → Delivered live (reading_of words) before after lived → Promise words before after lived
promised words before after lived m =
    let ended : EndedAs words before after lived = ended_by words before m.read after lived m.decision m.decided m.written in
    let once = all_fail_once live (reading_of words) before after lived m in
    record {
      headline = headline_of words before after lived ended;
      settled = settles live (reading_of words) before after lived m;
      causes = cause_of words before after lived ended;
      limit = limit_of words before after lived ended;
      written = m;
      devices = record {
        asked = asked_of words before after lived ended;
        read = read_alone words before after lived ended;
        disk = disk_of words before after lived ended;
        unwritten = untouched words before after lived ended;
        input = once.left;
        takes = once.takes;
        puts = once.puts;
        reads = once.reads;
        outs = once.outs;
        errs = once.errs;
      };
      status = status_of_end words before after lived ended;
      report = unreported words before after lived ended;
      never = never_of words before after lived ended;
      unlogged = unlogged_of words before after lived ended;
      shares = shares_of words before after lived ended;
    }
