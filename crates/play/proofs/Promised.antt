-- What `play` promises follows from what it decided and wrote.
use Rattle.std.proofs.Common.{◌≡◌, ◌⊎◌, inl, inr, ℕ, List, [], ◌∷◌, Option, Some, None, Result, Ok, Err, refl, ap, sym, subst, ◌∙◌}
use Rattle.std.specs.Option.{ForSome}
use Rattle.oc_base.specs.Outside.{Disk, Rose, gained, GainedPart, TakeFailed}
use Rattle.oc_base.proofs.Told.{gained-gained}
use Rattle.top_call.specs.Call.{Decided, Delivered, Written}
use Rattle.top_call.specs.Outside.{Outside, Told}
use Rattle.top_call.specs.Reading.{input_name, FileRead, InputRead}
use Rattle.top_call.specs.Writing.{to_out, to_err, Broken, AllWritten, WriteFailed}
use Rattle.top_call.specs.declared.reading.Unread.{Unread}
use Rattle.top_call.specs.declared.reading.Unread.TheVariants as unread
use Rattle.top_call.proofs.Called.{Told_of, told_whole, told_fault, told_full, Along, Frame, frame, asked_part, decided_only, told_of, settles, all_fail_once, asked_it, asked_for, last_asked, gained_none}
use Rattle.machine.specs.declared.outcome.Outcome.{Outcome}
use Rattle.play_words.specs.Words.{words_of, files_of, named, names_of}
use Rattle.play_words.specs.declared.words.Guest.{Guest}
use Rattle.play_words.specs.declared.words.Guest.TheVariants.{Files, Generated}
use Rattle.play_words.specs.declared.words.Words.{Words}
use Rattle.report.specs.Answer.{status_of, line_of}
use Rattle.report.specs.Cause.{refusal_of, err_of, writes_of, answer_by, answer_of, unwritten_of, run_ending}
use Rattle.report.specs.declared.answer.Answer.{Answer}
use Rattle.report.specs.declared.answer.Ended.{Ended}
use Rattle.report.specs.declared.answer.Ended.TheVariants.{Ran, Usage, ReadFault, TooLong, Program, Script, WriteFault, NoMemory}
use Rattle.report.specs.declared.writing.Delivery.{Delivery}
use Rattle.play.specs.Decision.{program_limit, script_limit, Asked, Given, given_with, reading_by, reading_for, reading_of, Delivers, bad_program, bad_script, ran, Answers, play, Decides}
use Rattle.play.specs.Originals.{RunsOriginally}
use Rattle.play.specs.Promise.{AnswersRun, Cause, Unreported, Promise}

-- ---- what was decided

abbrev refused : Ended → Result Delivery Ended
refused e = Err e

no_delivery : (d : Delivery) (e : Ended) → Ok d ≡ refused e → ⊥
no_delivery d e is = cc

no_write_ran : (outcome : Outcome) → WriteFault ≡ Ran outcome → ⊥
no_write_ran outcome is = cc

-- where a decision comes from, told or not
abbrev DecidedAt : (w : Option Words) (a b : Outside) → Result Delivery Ended → Type 0
DecidedAt w a b (Ok delivery) = (b.asked ≡ gained a.asked (named w)) × ForSome b.left (λ left. left ≡ [])
DecidedAt w a b (Err Usage) = (w ≡ None) × (b.asked ≡ a.asked) × (b.left ≡ a.left)
DecidedAt w a b (Err (ReadFault name)) = TakeFailed name b.asked a.takes b.takes ⊎ ((name ≡ input_name) × Rose a.reads b.reads)
DecidedAt w a b (Err (Ran outcome)) = ⊥
DecidedAt w a b (Err WriteFault) = ⊥
DecidedAt w a b (Err _) = Unit {0}

-- a file was refused, by files whose count was as at first
file_at : (w : Option Words) (name : List ℕ) (limit : ℕ) (a between b : Outside) (why : Unread) → between.takes ≡ a.takes → FileRead name limit between b (Err why) → DecidedAt w a b (Err (refusal_of why))
file_at w name limit a between b (unread.Failed given) same read = inl (record {
  rose = subst (λ count. Rose count b.takes) same read.cause.1;
  last = last_asked between.asked b.asked [] given (subst (λ n. b.asked ≡ gained between.asked (n ∷ [])) (sym read.cause.0) (asked_for between.asked b.asked name (unread.Failed given) (λ is. cc) read.asked));
})
file_at w name limit a between b (unread.TooLong given) same read = tt
file_at w name limit a between b unread.NoMemory same read = tt

input_at : (w : Option Words) (a between b : Outside) (why : Unread) → between.reads ≡ a.reads → InputRead between b (Err why) → DecidedAt w a b (Err (refusal_of why))
input_at w a between b (unread.Failed given) same read = inr (read.cause.0, subst (λ count. Rose count b.reads) same read.cause.1)
input_at w a between b (unread.TooLong given) same read = tt
input_at w a between b unread.NoMemory same read = tt

delivers_at : (w : Option Words) (given : Given) (a b : Outside) (d : Result Delivery Ended) → b.asked ≡ gained a.asked (named w) → ForSome b.left (λ left. left ≡ []) → Delivers given d → DecidedAt w a b d
delivers_at w given a b _ asked ends (bad_program fault is) = tt
delivers_at w given a b _ asked ends (bad_script image fault built is) = tt
delivers_at w given a b _ asked ends (ran image world built is) = (asked, ends)

answers_at : (w : Option Words) (asked : Asked) (a b : Outside) (d : Result Delivery Ended) → b.asked ≡ gained a.asked (named w) → ForSome b.left (λ left. left ≡ []) → Answers asked d → DecidedAt w a b d
answers_at w asked a b d names ends is = delivers_at w (given_with asked.said is.program is.script asked.input) a b d names ends is.delivers

-- both names
both : (a b c : Outside) (p s : List ℕ) → b.asked ≡ gained a.asked (p ∷ []) → c.asked ≡ gained b.asked (s ∷ []) → c.asked ≡ gained a.asked (p ∷ s ∷ [])
both a b c p s first second = second ∙ ap (λ told. gained told (s ∷ [])) first ∙ gained-gained a.asked (p ∷ []) (s ∷ [])

files_at : (said : Words) (p s : List ℕ) (a b : Outside) (d : Result Delivery Ended) → named (Some said) ≡ p ∷ s ∷ [] → Decided play (reading_by (Files p s) said) a b d → DecidedAt (Some said) a b d
files_at said p s a b d names (inl (why, x, is)) = subst (DecidedAt (Some said) a b) (sym is) (file_at (Some said) p program_limit a a b why refl x)
files_at said p s a b d names (inr (program, c, x, inl (why, y, is))) = subst (DecidedAt (Some said) a b) (sym is) (file_at (Some said) s script_limit a c b why x.cause.1 y)
files_at said p s a b d names (inr (program, c, x, inr (script, e, y, inl (why, i, is)))) =
    subst (DecidedAt (Some said) a b) (sym is) (input_at (Some said) a e b why (ap (λ (x : Outside). x.reads) y.rest ∙ ap (λ (x : Outside). x.reads) x.rest) i)
files_at said p s a b d names (inr (program, c, x, inr (script, e, y, inr (input, f, i, (same, inl is))))) =
    answers_at (Some said) _ a b d
    (ap (λ (x : Outside). x.asked) same ∙ ap (λ (x : Outside). x.asked) i.rest ∙ both a c e p s (asked_it a.asked c.asked p program x.asked) (asked_it c.asked e.asked s script y.asked) ∙ ap (gained a.asked) (sym names))
    (subst (λ told. ForSome told (λ left. left ≡ [])) (sym (ap (λ (x : Outside). x.left) same)) i.cause.1) is
files_at said p s a b d names (inr (program, c, x, inr (script, e, y, inr (input, f, i, (same, inr is))))) = subst (DecidedAt (Some said) a b) (sym is) tt

guest_at : (said : Words) (count : ℕ) (a b : Outside) (d : Result Delivery Ended) → named (Some said) ≡ [] → Decided play (reading_by (Generated count) said) a b d → DecidedAt (Some said) a b d
guest_at said count a b d names (inl (why, i, is)) = subst (DecidedAt (Some said) a b) (sym is) (input_at (Some said) a a b why refl i)
guest_at said count a b d names (inr (input, f, i, (same, inl is))) =
    answers_at (Some said) _ a b d
    (ap (λ (x : Outside). x.asked) same ∙ ap (λ (x : Outside). x.asked) i.rest ∙ sym (gained_none a.asked) ∙ ap (gained a.asked) (sym names))
    (subst (λ told. ForSome told (λ left. left ≡ [])) (sym (ap (λ (x : Outside). x.left) same)) i.cause.1) is
guest_at said count a b d names (inr (input, f, i, (same, inr is))) = subst (DecidedAt (Some said) a b) (sym is) tt

said_at : (said : Words) (guest : Guest) (a b : Outside) (d : Result Delivery Ended) → said.guest ≡ guest → Decided play (reading_by guest said) a b d → DecidedAt (Some said) a b d
said_at said (Files p s) a b d is decided = files_at said p s a b d (ap files_of is) decided
said_at said (Generated count) a b d is decided = guest_at said count a b d (ap files_of is) decided

pub decided_at : (w : Option Words) (a b : Outside) (d : Result Delivery Ended) → Decided play (reading_for w) a b d → DecidedAt w a b d
decided_at None a b d (same, inl is) = subst (DecidedAt None a b) (sym is) (refl, ap (λ (x : Outside). x.asked) same, ap (λ (x : Outside). x.left) same)
decided_at None a b d (same, inr is) = subst (DecidedAt None a b) (sym is) tt
decided_at (Some said) a b d decided = said_at said said.guest a b d refl decided

-- the names of the words are what is asked for
along_by : (guest : Guest) (said : Words) → Along play (files_of guest) (reading_by guest said)
along_by (Files p s) said = (s ∷ [], refl, λ program. ([], refl, λ script input. refl))
along_by (Generated count) said = λ input. refl

along : (w : Option Words) → Along play (named w) (reading_for w)
along None = refl
along (Some said) = along_by said.guest said

-- ---- what was written

-- Writing to outputs leaves the other devices.
pub record LeavesOthers (a b : Outside) : Type 0 where
  pub disk : b.disk ≡ a.disk
  pub asked : b.asked ≡ a.asked
  pub left : b.left ≡ a.left
  pub takes : b.takes ≡ a.takes
  pub puts : b.puts ≡ a.puts
  pub reads : b.reads ≡ a.reads

others_left : (a b : Outside) → b ≡ record a { out = b.out; err = b.err; outs = b.outs; errs = b.errs } → LeavesOthers a b
others_left a b is = record {
  disk = ap (λ (x : Outside). x.disk) is;
  asked = ap (λ (x : Outside). x.asked) is;
  left = ap (λ (x : Outside). x.left) is;
  takes = ap (λ (x : Outside). x.takes) is;
  puts = ap (λ (x : Outside). x.puts) is;
  reads = ap (λ (x : Outside). x.reads) is;
}

others_then : (a b c : Outside) → LeavesOthers a b → LeavesOthers b c → LeavesOthers a c
others_then a b c first second = record {
  disk = second.disk ∙ first.disk;
  asked = second.asked ∙ first.asked;
  left = second.left ∙ first.left;
  takes = second.takes ∙ first.takes;
  puts = second.puts ∙ first.puts;
  reads = second.reads ∙ first.reads;
}

others_same : (a b : Outside) → b ≡ a → LeavesOthers a b
others_same a b is = subst (LeavesOthers a) (sym is) (record { disk = refl; asked = refl; left = refl; takes = refl; puts = refl; reads = refl })

out_whole : (bytes : List ℕ) (a b : Outside) → b ≡ record a { out = gained a.out bytes } → LeavesOthers a b
out_whole bytes a b is = others_left a b (is ∙ ap (λ (x : Outside). record a { out = x.out; err = x.err; outs = x.outs; errs = x.errs }) (sym is))

err_whole : (bytes : List ℕ) (a b : Outside) → b ≡ record a { err = gained a.err bytes } → LeavesOthers a b
err_whole bytes a b is = others_left a b (is ∙ ap (λ (x : Outside). record a { out = x.out; err = x.err; outs = x.outs; errs = x.errs }) (sym is))

out_broken : (bytes : List ℕ) (a b : Outside) → Broken (to_out bytes) a b → LeavesOthers a b
out_broken bytes a b is = others_left a b (is.2 ∙ ap (λ (x : Outside). record a { out = b.out; err = x.err; outs = b.outs; errs = x.errs }) (sym is.2))

err_broken : (bytes : List ℕ) (a b : Outside) → Broken (to_err bytes) a b → LeavesOthers a b
err_broken bytes a b is = others_left a b (is.2 ∙ ap (λ (x : Outside). record a { out = x.out; err = b.err; outs = x.outs; errs = b.errs }) (sym is.2))

whole_leaves : (d : Result Delivery Ended) (a b : Outside) → AllWritten (writes_of d) a b → LeavesOthers a b
whole_leaves (Ok delivery) a b (c, first, (e, second, same)) =
    others_then a c b (out_whole delivery.out a c first) (others_then c e b (err_whole (err_of delivery) c e second) (others_same e b same))
whole_leaves (Err ended) a b (c, first, same) = others_then a c b (err_whole (line_of ended) a c first) (others_same c b same)

broken_leaves : (d : Result Delivery Ended) (a b : Outside) → WriteFailed (writes_of d) a b → LeavesOthers a b
broken_leaves (Ok delivery) a b (inl first) = out_broken delivery.out a b first
broken_leaves (Ok delivery) a b (inr (c, first, inl second)) = others_then a c b (out_whole delivery.out a c first) (err_broken (err_of delivery) c b second)
broken_leaves (Ok delivery) a b (inr (c, first, inr (e, second, none))) = absurd none
broken_leaves (Err ended) a b (inl first) = err_broken (line_of ended) a b first
broken_leaves (Err ended) a b (inr (c, first, none)) = absurd none

written_leaves : (d : Result Delivery Ended) (a b : Outside) (answer : Answer) → Written run_ending d a b answer → LeavesOthers a b
written_leaves d a b answer (inl whole) = whole_leaves d a b whole.0
written_leaves d a b answer (inr broken) = broken_leaves d a b broken.0

-- a device whose count rose
broken_rose : (d : Result Delivery Ended) (before a b : Outside) → Frame before a → WriteFailed (writes_of d) a b → Rose before.outs b.outs ⊎ Rose before.errs b.errs
broken_rose (Ok delivery) before a b kept (inl first) = inl (subst (λ count. Rose count b.outs) kept.outs first.0)
broken_rose (Ok delivery) before a b kept (inr (c, first, inl second)) = inr (subst (λ count. Rose count b.errs) (ap (λ (x : Outside). x.errs) first ∙ kept.errs) second.0)
broken_rose (Ok delivery) before a b kept (inr (c, first, inr (e, second, none))) = absurd none
broken_rose (Err ended) before a b kept (inl first) = inr (subst (λ count. Rose count b.errs) kept.errs first.0)
broken_rose (Err ended) before a b kept (inr (c, first, none)) = absurd none

-- what a run wrote
run_out : (delivery : Delivery) (before a b : Outside) → Frame before a → AllWritten (writes_of (Ok delivery)) a b → b.out ≡ gained before.out delivery.out
run_out delivery before a b kept (c, first, (e, second, same)) =
    ap (λ (x : Outside). x.out) (same ∙ second) ∙ ap (λ (x : Outside). x.out) first ∙ ap (λ told. gained told delivery.out) kept.out

run_err : (delivery : Delivery) (before a b : Outside) → Frame before a → AllWritten (writes_of (Ok delivery)) a b → b.err ≡ gained before.err (err_of delivery)
run_err delivery before a b kept (c, first, (e, second, same)) =
    ap (λ (x : Outside). x.err) (same ∙ second) ∙ ap (λ (x : Outside). gained x.err (err_of delivery)) first ∙ ap (λ told. gained told (err_of delivery)) kept.err

-- ---- what was answered

-- the answer is one of these
pub data EndedAs (words : List (List ℕ)) (before after : Outside) (answer : Answer) : Type 0 where
  is_run : (delivery : Delivery) (read : Outside) → Decided play (reading_of words) before read (Ok delivery) → AllWritten (writes_of (Ok delivery)) read after → answer ≡ answer_of (Ok delivery) → EndedAs words before after answer
  is_refused : (ended : Ended) (read : Outside) → Decided play (reading_of words) before read (Err ended) → LeavesOthers read after → answer ≡ answer_by ended [] → EndedAs words before after answer
  is_unwritten : Rose before.outs after.outs ⊎ Rose before.errs after.errs → answer ≡ answer_by WriteFault [] → EndedAs words before after answer

module _ (words : List (List ℕ)) (before read after : Outside) (answer : Answer) where
  unwritten : (d : Result Delivery Ended) → Decided play (reading_of words) before read d → WriteFailed (writes_of d) read after → answer ≡ answer_by WriteFault [] → EndedAs words before after answer
  unwritten d decided broken is = is_unwritten (broken_rose d before read after (frame before read (decided_only play (reading_of words) before read d decided)) broken) is

  refused_ends : (ended : Ended) → Decided play (reading_of words) before read (Err ended) → WriteFailed (writes_of (Err ended)) read after → answer ≡ unwritten_of (Err ended) → EndedAs words before after answer
  refused_ends NoMemory decided broken is = is_refused NoMemory read decided (broken_leaves (Err NoMemory) read after broken) is
  refused_ends (Ran outcome) decided broken is = unwritten (Err (Ran outcome)) decided broken is
  refused_ends Usage decided broken is = unwritten (Err Usage) decided broken is
  refused_ends (ReadFault name) decided broken is = unwritten (Err (ReadFault name)) decided broken is
  refused_ends (TooLong name) decided broken is = unwritten (Err (TooLong name)) decided broken is
  refused_ends (Program fault) decided broken is = unwritten (Err (Program fault)) decided broken is
  refused_ends (Script fault) decided broken is = unwritten (Err (Script fault)) decided broken is
  refused_ends WriteFault decided broken is = unwritten (Err WriteFault) decided broken is

  ended_by : (d : Result Delivery Ended) → Decided play (reading_of words) before read d → Written run_ending d read after answer → EndedAs words before after answer
  ended_by (Ok delivery) decided (inl (whole, is)) = is_run delivery read decided whole is
  ended_by (Ok delivery) decided (inr (broken, is)) = unwritten (Ok delivery) decided broken is
  ended_by (Err ended) decided (inl (whole, is)) = is_refused ended read decided (whole_leaves (Err ended) read after whole) is
  ended_by (Err ended) decided (inr (broken, is)) = refused_ends ended decided broken is

ended_is : (answer : Answer) (ended : Ended) (report : List ℕ) → answer ≡ answer_by ended report → answer.ended ≡ ended
ended_is answer ended report is = ap (λ (x : Answer). x.ended) is

module _ (words : List (List ℕ)) (before after : Outside) where
  -- the cause of a refusal, after its line
  refused_cause : (ended : Ended) (read : Outside) → DecidedAt (words_of words) before read (Err ended) → LeavesOthers read after → Cause words before after ended
  refused_cause Usage read at leaves = (at.0, leaves.asked ∙ at.1, leaves.left ∙ at.2)
  refused_cause (ReadFault name) read (inl at) leaves =
      inl (subst (λ told. TakeFailed name told before.takes after.takes) (sym leaves.asked) (subst (TakeFailed name read.asked before.takes) (sym leaves.takes) at))
  refused_cause (ReadFault name) read (inr at) leaves = inr (at.0, subst (Rose before.reads) (sym leaves.reads) at.1)
  refused_cause (Ran outcome) read at leaves = absurd at
  refused_cause WriteFault read at leaves = absurd at
  refused_cause (TooLong name) read at leaves = tt
  refused_cause (Program fault) read at leaves = tt
  refused_cause (Script fault) read at leaves = tt
  refused_cause NoMemory read at leaves = tt

  cause_of : (answer : Answer) → EndedAs words before after answer → Cause words before after answer.ended
  cause_of answer (is_run delivery read decided whole is) =
      let at = decided_at (words_of words) before read (Ok delivery) decided in
      let leaves = whole_leaves (Ok delivery) read after whole in
      subst (Cause words before after) (sym (ended_is answer (Ran delivery.outcome) delivery.report is))
      (leaves.asked ∙ at.0, subst (λ told. ForSome told (λ left. left ≡ [])) (sym leaves.left) at.1)
  cause_of answer (is_refused ended read decided leaves is) =
      subst (Cause words before after) (sym (ended_is answer ended [] is)) (refused_cause ended read (decided_at (words_of words) before read (Err ended) decided) leaves)
  cause_of answer (is_unwritten rose is) = subst (Cause words before after) (sym (ended_is answer WriteFault [] is)) rose

  asks_run : (disk : Disk) (input : List ℕ) (read : Outside) (delivery : Delivery) → Told_of play (reading_of words) disk input before read (Ok delivery) → Decides words disk input (Ok delivery)
  asks_run disk input read delivery (told_whole is) = is
  asks_run disk input read delivery (told_fault name is rose) = absurd (no_delivery delivery (ReadFault name) is)
  asks_run disk input read delivery (told_full is) = absurd (no_delivery delivery NoMemory is)

  -- a refusal is no run
  not_ran : (ended : Ended) (outcome : Outcome) (read : Outside) → DecidedAt (words_of words) before read (Err ended) → ended ≡ Ran outcome → ⊥
  not_ran ended outcome read at is = subst (λ e. DecidedAt (words_of words) before read (Err e)) is at

  module _ (originally : (disk : Disk) (input : List ℕ) (d : Delivery) → Decides words disk input (Ok d) → RunsOriginally words disk input d) where
    headline_of : (answer : Answer) → EndedAs words before after answer → (outcome : Outcome) → answer.ended ≡ Ran outcome → Told before (λ disk input. AnswersRun words disk input before after answer)
    headline_of answer (is_run delivery read decided whole is) outcome answered = λ disk tells input tells'.
        let kept = frame before read (decided_only play (reading_of words) before read (Ok delivery) decided) in
        let asked = asks_run disk input read delivery (told_of play (reading_of words) disk input before read (Ok delivery) tells tells' decided) in
        record {
          delivery = delivery;
          asked = asked;
          original = originally disk input delivery asked;
          outcome = ended_is answer (Ran delivery.outcome) delivery.report is;
          report = ap (λ (x : Answer). x.report) is;
          out = run_out delivery before read after kept whole;
          err = run_err delivery before read after kept whole;
          left = subst (λ told. ForSome told (λ left. left ≡ [])) (sym (whole_leaves (Ok delivery) read after whole).left) (decided_at (words_of words) before read (Ok delivery) decided).1;
        }
    headline_of answer (is_refused ended read decided leaves is) outcome answered =
        absurd (not_ran ended outcome read (decided_at (words_of words) before read (Err ended) decided) (sym (ended_is answer ended [] is) ∙ answered))
    headline_of answer (is_unwritten rose is) outcome answered = absurd (no_write_ran outcome (sym (ended_is answer WriteFault [] is) ∙ answered))

status_as : (answer : Answer) (ended : Ended) (report : List ℕ) → answer ≡ answer_by ended report → answer.status ≡ status_of answer.ended
status_as answer ended report is = ap (λ (x : Answer). x.status) is ∙ ap (λ (x : Answer). status_of x.ended) (sym is)

status_of_end : (words : List (List ℕ)) (before after : Outside) (answer : Answer) → EndedAs words before after answer → answer.status ≡ status_of answer.ended
status_of_end words before after answer (is_run delivery read decided whole is) = status_as answer (Ran delivery.outcome) delivery.report is
status_of_end words before after answer (is_refused ended read decided leaves is) = status_as answer ended [] is
status_of_end words before after answer (is_unwritten rose is) = status_as answer WriteFault [] is

-- an answer that is no run has no report
no_report : (ended : Ended) → Unreported ended []
no_report (Ran outcome) = tt
no_report Usage = refl
no_report (ReadFault name) = refl
no_report (TooLong name) = refl
no_report (Program fault) = refl
no_report (Script fault) = refl
no_report WriteFault = refl
no_report NoMemory = refl

unreported_as : (answer : Answer) (ended : Ended) → answer ≡ answer_by ended [] → Unreported answer.ended answer.report
unreported_as answer ended is = subst (λ (x : Answer). Unreported x.ended x.report) (sym is) (no_report ended)

unreported : (words : List (List ℕ)) (before after : Outside) (answer : Answer) → EndedAs words before after answer → Unreported answer.ended answer.report
unreported words before after answer (is_run delivery read decided whole is) = subst (λ (x : Answer). Unreported x.ended x.report) (sym is) tt
unreported words before after answer (is_refused ended read decided leaves is) = unreported_as answer ended is
unreported words before after answer (is_unwritten rose is) = unreported_as answer WriteFault is

pub promised : (words : List (List ℕ)) (before after : Outside) (answer : Answer)
    → ((disk : Disk) (input : List ℕ) (d : Delivery) → Decides words disk input (Ok d) → RunsOriginally words disk input d)
    → ((disk : Disk) (input : List ℕ) (d e : Result Delivery Ended) → Decides words disk input d → Decides words disk input e → d ≡ e)
    → Delivered play (reading_of words) before after answer → Promise words before after answer
promised words before after answer originally one m =
    let ended : EndedAs words before after answer = ended_by words before m.read after answer m.decision m.decided m.written in
    let once = all_fail_once play (reading_of words) before after answer m in
    let kept = frame before m.read (decided_only play (reading_of words) before m.read m.decision m.decided) in
    let leaves = written_leaves m.decision m.read after answer m.written in
    let part = asked_part play (names_of words) (reading_of words) before m.read m.decision (along (words_of words)) m.decided in
    record {
      headline = headline_of words before after originally answer ended;
      original = originally;
      settled = settles play (reading_of words) before after answer m;
      one = one;
      causes = cause_of words before after answer ended;
      written = m;
      devices = record {
        asked = subst (λ told. GainedPart before.asked told (names_of words)) (sym leaves.asked) part;
        disk = leaves.disk ∙ kept.disk;
        puts = leaves.puts ∙ kept.puts;
        input = once.left;
        takes = once.takes;
        reads = once.reads;
        outs = once.outs;
        errs = once.errs;
      };
      status = status_of_end words before after answer ended;
      report = unreported words before after answer ended;
    }
