-- What `look` promises follows from what it decided and wrote.
use Rattle.std.proofs.Common.{◌≡◌, ◌≢◌, ◌⊎◌, inl, inr, ℕ, zero, suc, List, [], ◌∷◌, ◌++◌, take, length, Option, Some, None, Result, Ok, Err, refl, ap, sym, subst, ◌∙◌, arith}
use Rattle.std.proofs.lemmas.List.{take_all}
use Rattle.std.specs.Option.{option_to_list}
use Rattle.oc_base.specs.Outside.{Disk, Rose, gained, GainedPart, Gains, HasNow, SameElsewhere, TakeFailed}
use Rattle.oc_base.proofs.Told.{gained-gained}
use Rattle.oc_base.specs.declared.fault.Failed.{Failed as DeviceFailed}
use Rattle.top_call.specs.Call.{Decided, Delivered, Written}
use Rattle.top_call.specs.Outside.{Outside, Told}
use Rattle.top_call.specs.Reading.{input_name, FileRead, InputRead}
use Rattle.top_call.specs.Writing.{to_out, to_err, to_file, Whole, Broken, AllWritten, WriteFailed, Wrote, WroteAll}
use Rattle.top_call.specs.declared.reading.Unread.{Unread}
use Rattle.top_call.specs.declared.reading.Unread.TheVariants as unread
use Rattle.top_call.proofs.Called.{Told_of, told_whole, told_fault, told_full, Along, Frame, frame, two_writes, err_written, asked_part, decided_only, told_of, settles, all_fail_once, asked_it, asked_for as asked_file, last_asked, gained_none}
use Rattle.image.specs.Picture.{Picture}
use Rattle.look_words.specs.Words.{words_of, inputs_by, output_by, inputs_in, named, inputs_of, names_of}
use Rattle.look_words.specs.declared.words.ScriptedRun.{ScriptedRun}
use Rattle.look_words.specs.declared.words.Subject.{Subject}
use Rattle.look_words.specs.declared.words.Subject.TheVariants as subject
use Rattle.look_words.specs.declared.words.Words.{Words}
use Rattle.look.specs.declared.answer.Answer.{Answer}
use Rattle.look.specs.declared.answer.Looked.{Looked}
use Rattle.look.specs.declared.answer.Looked.TheVariants as looked
use Rattle.look.specs.declared.decision.Drawn.{Drawn}
use Rattle.look.specs.declared.decision.Refusal.{Refusal}
use Rattle.look.specs.declared.decision.Refusal.TheVariants.{Usage, ReadFault, TooLong, Program, Script, NoFunction, NoMemory}
use Rattle.look.specs.declared.decision.Seen.{Seen}
use Rattle.look.specs.Answer.{status_of, looked_of, line_of}
use Rattle.look.specs.Decision.{program_limit, script_limit, the_program, a_run, asked_for, seen_of, ShowsProgram, ShowsRun, Delivers, bad_program, shown, refusal_of, put, writes_of, answer_by, ending, look, reading_by, reading_for, reading_of, Decides}
use Rattle.look.specs.Promise.{Holds, Shown, Cause, Promise}
use Rattle.look.proofs.OneDecision.{no_function, faulty}

-- ---- what was decided

-- the name of a picture, if there is one
abbrev picture_name : Option Drawn → List (List ℕ)
picture_name None = []
picture_name (Some picture) = picture.name ∷ []

-- a picture has the name that the words give
abbrev IsNamed : Option Words → Seen → Type 0
IsNamed None seen = ⊥
IsNamed (Some said) seen = picture_name seen.picture ≡ output_by said.subject

-- where a decision comes from, and what the files were asked for
abbrev DecidedAt : (w : Option Words) (a b : Outside) → Result Seen Refusal → Type 0
DecidedAt w a b (Ok seen) = (b.asked ≡ gained a.asked (inputs_in w)) × IsNamed w seen
DecidedAt w a b (Err Usage) = (w ≡ None) × (b.asked ≡ a.asked)
DecidedAt w a b (Err (ReadFault name)) = TakeFailed name b.asked a.takes b.takes ⊎ ((name ≡ input_name) × Rose a.reads b.reads)
DecidedAt w a b (Err (Program fault)) = b.asked ≡ gained a.asked (inputs_in w)
DecidedAt w a b (Err (Script fault words)) = b.asked ≡ gained a.asked (inputs_in w)
DecidedAt w a b (Err (NoFunction name)) = b.asked ≡ gained a.asked (inputs_in w)
DecidedAt w a b (Err _) = Unit {0}

-- a file was refused, by files whose count was as at first
file_at : (w : Option Words) (name : List ℕ) (limit : ℕ) (a between b : Outside) (why : Unread) → between.takes ≡ a.takes → FileRead name limit between b (Err why) → DecidedAt w a b (Err (refusal_of why))
file_at w name limit a between b (unread.Failed given) same read = inl (record {
  rose = subst (λ count. Rose count b.takes) same read.cause.1;
  last = last_asked between.asked b.asked [] given (subst (λ n. b.asked ≡ gained between.asked (n ∷ [])) (sym read.cause.0) (asked_file between.asked b.asked name (unread.Failed given) (λ is. cc) read.asked));
})
file_at w name limit a between b (unread.TooLong given) same read = tt
file_at w name limit a between b unread.NoMemory same read = tt

input_at : (w : Option Words) (a between b : Outside) (why : Unread) → between.reads ≡ a.reads → InputRead between b (Err why) → DecidedAt w a b (Err (refusal_of why))
input_at w a between b (unread.Failed given) same read = inr (read.cause.0, subst (λ count. Rose count b.reads) same read.cause.1)
input_at w a between b (unread.TooLong given) same read = tt
input_at w a between b unread.NoMemory same read = tt

-- what is seen of a program has no picture
unpictured : (p : Picture) (names : List (List ℕ)) (f : Option (List ℕ)) (seen : Seen) → ShowsProgram p names f (Ok seen) → picture_name seen.picture ≡ []
unpictured p names None seen is = ap picture_name is.1
unpictured p names (Some word) seen (n, chosen, text, none) = ap picture_name none

no_error : (p : Picture) (names : List (List ℕ)) (w : Option Words) (f : Option (List ℕ)) (a b : Outside) (r : Refusal) → b.asked ≡ gained a.asked (inputs_in w) → ShowsProgram p names f (Err r) → DecidedAt w a b (Err r)
no_error p names w None a b r asked is = absurd is
no_error p names w (Some word) a b r asked is = subst (λ r. DecidedAt w a b (Err r)) (sym (no_function p names word r is).0) asked

shows_program : (p : Picture) (names : List (List ℕ)) (said : Words) (f : Option (List ℕ)) (a b : Outside) (d : Result Seen Refusal) → said.subject ≡ subject.Program f → b.asked ≡ gained a.asked (inputs_in (Some said)) → ShowsProgram p names f d → DecidedAt (Some said) a b d
shows_program p names said f a b (Ok seen) form asked is = (asked, unpictured p names f seen is ∙ ap output_by (sym form))
shows_program p names said f a b (Err r) form asked is = no_error p names (Some said) f a b r asked is

-- a picture of a run has the name that is given
drawn_name : (picture : Option (List ℕ)) (run : Seen) (w : _) (names : List (List ℕ)) → run ≡ seen_of picture w names → picture_name run.picture ≡ option_to_list picture
drawn_name None run w names is = ap (λ (s : Seen). picture_name s.picture) is
drawn_name (Some name) run w names is = ap (λ (s : Seen). picture_name s.picture) is

shows_run : (p : Picture) (names : List (List ℕ)) (said : Words) (run : ScriptedRun) (script input : List ℕ) (a b : Outside) (d : Result Seen Refusal) → said.subject ≡ subject.Run run → b.asked ≡ gained a.asked (inputs_in (Some said)) → ShowsRun p names run script input d → DecidedAt (Some said) a b d
shows_run p names said run script input a b (Ok seen) form asked (world, played, is) = (asked, drawn_name run.picture seen world names is ∙ ap output_by (sym form))
shows_run p names said run script input a b (Err r) form asked is =
    let f = faulty p names run script input r is in subst (λ r. DecidedAt (Some said) a b (Err r)) (sym f.is) asked

delivers_program : (said : Words) (program : List ℕ) (f : Option (List ℕ)) (a b : Outside) (d : Result Seen Refusal) → said.subject ≡ subject.Program f → b.asked ≡ gained a.asked (inputs_in (Some said)) → Delivers (asked_for said program (the_program f)) d → DecidedAt (Some said) a b d
delivers_program said program f a b _ form asked (bad_program fault is) = asked
delivers_program said program f a b _ form asked (shown image d built shows) = shows_program image _ said f a b d form asked shows

delivers_run : (said : Words) (program : List ℕ) (run : ScriptedRun) (script input : List ℕ) (a b : Outside) (d : Result Seen Refusal) → said.subject ≡ subject.Run run → b.asked ≡ gained a.asked (inputs_in (Some said))
    → Delivers (asked_for said program (a_run run script input)) d → DecidedAt (Some said) a b d
delivers_run said program run script input a b _ form asked (bad_program fault is) = asked
delivers_run said program run script input a b _ form asked (shown image d built shows) = shows_run image _ said run script input a b d form asked shows

-- both names
both : (a b c : Outside) (p s : List ℕ) → b.asked ≡ gained a.asked (p ∷ []) → c.asked ≡ gained b.asked (s ∷ []) → c.asked ≡ gained a.asked (p ∷ s ∷ [])
both a b c p s first second = second ∙ ap (λ told. gained told (s ∷ [])) first ∙ gained-gained a.asked (p ∷ []) (s ∷ [])

program_at : (said : Words) (f : Option (List ℕ)) (a b : Outside) (d : Result Seen Refusal) → said.subject ≡ subject.Program f → Decided look (reading_by (subject.Program f) said) a b d → DecidedAt (Some said) a b d
program_at said f a b d form (inl (why, x, is)) = subst (DecidedAt (Some said) a b) (sym is) (file_at (Some said) said.program program_limit a a b why refl x)
program_at said f a b d form (inr (program, c, x, (same, inl is))) =
    delivers_program said program f a b d form
    (ap (λ (x : Outside). x.asked) same ∙ asked_it a.asked c.asked said.program program x.asked ∙ ap (λ s. gained a.asked (inputs_by said.program s)) (sym form)) is
program_at said f a b d form (inr (program, c, x, (same, inr is))) = subst (DecidedAt (Some said) a b) (sym is) tt

run_at : (said : Words) (run : ScriptedRun) (a b : Outside) (d : Result Seen Refusal) → said.subject ≡ subject.Run run → Decided look (reading_by (subject.Run run) said) a b d → DecidedAt (Some said) a b d
run_at said run a b d form (inl (why, x, is)) = subst (DecidedAt (Some said) a b) (sym is) (file_at (Some said) said.program program_limit a a b why refl x)
run_at said run a b d form (inr (program, c, x, inl (why, y, is))) = subst (DecidedAt (Some said) a b) (sym is) (file_at (Some said) run.script script_limit a c b why x.cause.1 y)
run_at said run a b d form (inr (program, c, x, inr (script, e, y, inl (why, i, is)))) =
    subst (DecidedAt (Some said) a b) (sym is) (input_at (Some said) a e b why (ap (λ (x : Outside). x.reads) y.rest ∙ ap (λ (x : Outside). x.reads) x.rest) i)
run_at said run a b d form (inr (program, c, x, inr (script, e, y, inr (input, f, i, (same, inl is))))) =
    delivers_run said program run script input a b d form
    (ap (λ (x : Outside). x.asked) same ∙ ap (λ (x : Outside). x.asked) i.rest
    ∙ both a c e said.program run.script (asked_it a.asked c.asked said.program program x.asked) (asked_it c.asked e.asked run.script script y.asked) ∙ ap (λ s. gained a.asked (inputs_by said.program s)) (sym form)) is
run_at said run a b d form (inr (program, c, x, inr (script, e, y, inr (input, f, i, (same, inr is))))) = subst (DecidedAt (Some said) a b) (sym is) tt

said_at : (said : Words) (s : Subject) (a b : Outside) (d : Result Seen Refusal) → said.subject ≡ s → Decided look (reading_by s said) a b d → DecidedAt (Some said) a b d
said_at said (subject.Program f) a b d form decided = program_at said f a b d form decided
said_at said (subject.Run run) a b d form decided = run_at said run a b d form decided

decided_at : (w : Option Words) (a b : Outside) (d : Result Seen Refusal) → Decided look (reading_for w) a b d → DecidedAt w a b d
decided_at None a b d (same, inl is) = subst (DecidedAt None a b) (sym is) (refl, ap (λ (x : Outside). x.asked) same)
decided_at None a b d (same, inr is) = subst (DecidedAt None a b) (sym is) tt
decided_at (Some said) a b d decided = said_at said said.subject a b d refl decided

-- the names of the words are what is asked for
along_by : (s : Subject) (said : Words) → Along look (inputs_by said.program s) (reading_by s said)
along_by (subject.Program f) said = ([], refl, λ bytes. refl)
along_by (subject.Run run) said = (run.script ∷ [], refl, λ program. ([], refl, λ script input. refl))

along : (w : Option Words) → Along look (inputs_in w) (reading_for w)
along None = refl
along (Some said) = along_by said.subject said

-- a part of what is read is one of all names
front_part : (count : ℕ) (xs ys : List (List ℕ)) → (k : ℕ) × (take k (xs ++ ys) ≡ take count xs)
front_part zero xs ys = (0, refl)
front_part (suc count) [] ys = (0, refl)
front_part (suc count) (x ∷ xs) ys = let more = front_part count xs ys in (suc more.0, ap (λ zs. x ∷ zs) more.1)

part_in : (w : Option Words) (was now : Option (List (List ℕ))) → GainedPart was now (inputs_in w) → GainedPart was now (named w)
part_in None was now part = part
part_in (Some said) was now part =
    let front = front_part part.count (inputs_by said.program said.subject) (output_by said.subject) in
    record { count = front.0; part = part.part ∙ ap (gained was) (sym front.1) }

part_of_all : (was now : Option (List (List ℕ))) (names : List (List ℕ)) → now ≡ gained was names → GainedPart was now names
part_of_all was now names e = record { count = length names; part = e ∙ ap (gained was) (sym (take_all (length names) names (omega arith))) }

-- ---- what was written

-- a picture came to its file, if there is one
record Pictured (picture : Option Drawn) (a b : Outside) : Type 0 where
  out : b.out ≡ a.out
  err : b.err ≡ a.err
  asked : b.asked ≡ gained a.asked (picture_name picture)
  holds : Holds picture a b

pictured : (picture : Option Drawn) (a b : Outside) → AllWritten (put picture) a b → Pictured picture a b
pictured None a b same = record {
  out = ap (λ (x : Outside). x.out) same;
  err = ap (λ (x : Outside). x.err) same;
  asked = ap (λ (x : Outside). x.asked) same ∙ sym (gained_none a.asked);
  holds = ap (λ (x : Outside). x.disk) same;
}
pictured (Some picture) a b (then, file, same) = record {
  out = ap (λ (x : Outside). x.out) same ∙ ap (λ (x : Outside). x.out) file.rest;
  err = ap (λ (x : Outside). x.err) same ∙ ap (λ (x : Outside). x.err) file.rest;
  asked = ap (λ (x : Outside). x.asked) same ∙ file.asked;
  holds = subst (λ (x : Outside). Holds (Some picture) a x) (sym same) (file.holds, file.others);
}

-- why what is seen was not written, and what the files were asked for
record Unwritten (picture : Option Drawn) (a b : Outside) : Type 0 where
  rose : Rose a.puts b.puts ⊎ (Rose a.outs b.outs ⊎ Rose a.errs b.errs)
  asked : (b.asked ≡ gained a.asked (picture_name picture)) ⊎ (b.asked ≡ a.asked)

unpainted : (text : List ℕ) (picture : Option Drawn) (a then b : Outside) → Whole (to_out text) a then → WriteFailed (put picture) then b → Unwritten picture a b
unpainted text None a then b whole none = absurd none
unpainted text (Some picture) a then b whole (inr (x, file, none)) = absurd none
unpainted text (Some picture) a then b whole (inl broken) = record {
  rose = inl (subst (λ count. Rose count b.puts) (ap (λ (x : Outside). x.puts) whole) broken.failed);
  asked = subst (λ told. (b.asked ≡ gained told (picture.name ∷ [])) ⊎ (b.asked ≡ told)) (ap (λ (x : Outside). x.asked) whole) broken.asked;
}

not_put : (seen : Seen) (a b : Outside) → WriteFailed (writes_of (Ok seen)) a b → Unwritten seen.picture a b
not_put seen a b (inl broken) = record { rose = inr (inl broken.0); asked = inr (ap (λ (x : Outside). x.asked) broken.2) }
not_put seen a b (inr (then, whole, more)) = unpainted seen.text seen.picture a then b whole more

-- why a refusal's line was not
line_broken : (line : List ℕ) (a b : Outside) → WriteFailed (to_err line ∷ []) a b → Broken (to_err line) a b
line_broken line a b (inl broken) = broken
line_broken line a b (inr (then, whole, none)) = absurd none

-- ---- step by step

pub gave_up : (a b : Outside) (result : Result Unit DeviceFailed) → Wrote (to_err (line_of NoMemory)) a b result → Written ending (Err NoMemory) a b (answer_by looked.NoMemory)
gave_up a b (Ok done) wrote = inl ((b, wrote, refl), refl)
gave_up a b (Err why) wrote = inr (inl wrote, refl)

unwritten : (r : Refusal) (a b : Outside) → r ≢ NoMemory → Broken (to_err (line_of r)) a b → Written ending (Err r) a b (answer_by looked.WriteFault)
unwritten Usage a b other broken = inr (inl broken, refl)
unwritten (ReadFault name) a b other broken = inr (inl broken, refl)
unwritten (TooLong name) a b other broken = inr (inl broken, refl)
unwritten (Program fault) a b other broken = inr (inl broken, refl)
unwritten (Script fault words) a b other broken = inr (inl broken, refl)
unwritten (NoFunction name) a b other broken = inr (inl broken, refl)
unwritten NoMemory a b other broken = absurd (other refl)

pub refusal_unwritten : (r : Refusal) (line : List ℕ) (a b : Outside) (answer : Answer) → line ≡ line_of r → r ≢ NoMemory → answer ≡ answer_by looked.WriteFault → Broken (to_err line) a b → Written ending (Err r) a b answer
refusal_unwritten r line a b answer is other answered broken =
    subst (Written ending (Err r) a b) (sym answered) (unwritten r a b other (subst (λ l. Broken (to_err l) a b) is broken))

pub refusal_written : (r : Refusal) (line : List ℕ) (a b : Outside) (what : Looked) (answer : Answer) → line ≡ line_of r → what ≡ looked_of (Err r) → answer ≡ answer_by what → Whole (to_err line) a b → Written ending (Err r) a b answer
refusal_written r line a b what answer is so answered whole = inl ((b, subst (λ l. Whole (to_err l) a b) is whole, refl), answered ∙ ap answer_by so)

pub text_then_picture : (text : List ℕ) (picture : Option Drawn) (p : Drawn) (a b c : Outside) (result : Result Unit DeviceFailed) → picture ≡ Some p → Whole (to_out text) a b → Wrote (to_file p.name p.bytes) b c result → WroteAll (to_out text ∷ put picture) a c result
text_then_picture text picture p a b c result is first more = subst (λ x. WroteAll (to_out text ∷ put x) a c result) (sym is) (two_writes (to_out text) (to_file p.name p.bytes) a b c result first more)

pub text_alone : (text : List ℕ) (picture : Option Drawn) (a b : Outside) → picture ≡ None → Whole (to_out text) a b → AllWritten (to_out text ∷ put picture) a b
text_alone text picture a b is first = subst (λ x. AllWritten (to_out text ∷ put x) a b) (sym is) (b, first, refl)

-- ---- what was answered

data EndedAs (words : List (List ℕ)) (before after : Outside) (answer : Answer) : Type 0 where
  is_done : (seen : Seen) (read : Outside) → Decided look (reading_of words) before read (Ok seen) → AllWritten (writes_of (Ok seen)) read after → answer ≡ answer_by looked.Done → EndedAs words before after answer
  is_refused : (r : Refusal) (read : Outside) → r ≢ NoMemory → Decided look (reading_of words) before read (Err r) → AllWritten (writes_of (Err r)) read after → answer ≡ answer_by (looked_of (Err r)) → EndedAs words before after answer
  is_unwritten : (d : Result Seen Refusal) (read : Outside) → Decided look (reading_of words) before read d → WriteFailed (writes_of d) read after → answer ≡ answer_by looked.WriteFault → EndedAs words before after answer
  is_full : (read : Outside) → Decided look (reading_of words) before read (Err NoMemory) → AllWritten (writes_of (Err NoMemory)) read after ⊎ WriteFailed (writes_of (Err NoMemory)) read after → answer ≡ answer_by looked.NoMemory → EndedAs words before after answer

what_is : (answer : Answer) (what : Looked) → answer ≡ answer_by what → answer.what ≡ what
what_is answer what is = ap (λ (x : Answer). x.what) is

module _ (words : List (List ℕ)) (before read after : Outside) (answer : Answer) where
  refused_by : (r : Refusal) → Decided look (reading_of words) before read (Err r) → Written ending (Err r) read after answer → EndedAs words before after answer
  refused_by NoMemory decided (inl (written, is)) = is_full read decided (inl written) is
  refused_by NoMemory decided (inr (broken, is)) = is_full read decided (inr broken) is
  refused_by Usage decided (inl (written, is)) = is_refused Usage read (λ e. cc) decided written is
  refused_by Usage decided (inr (broken, is)) = is_unwritten (Err Usage) read decided broken is
  refused_by (ReadFault name) decided (inl (written, is)) = is_refused (ReadFault name) read (λ e. cc) decided written is
  refused_by (ReadFault name) decided (inr (broken, is)) = is_unwritten (Err (ReadFault name)) read decided broken is
  refused_by (TooLong name) decided (inl (written, is)) = is_refused (TooLong name) read (λ e. cc) decided written is
  refused_by (TooLong name) decided (inr (broken, is)) = is_unwritten (Err (TooLong name)) read decided broken is
  refused_by (Program fault) decided (inl (written, is)) = is_refused (Program fault) read (λ e. cc) decided written is
  refused_by (Program fault) decided (inr (broken, is)) = is_unwritten (Err (Program fault)) read decided broken is
  refused_by (Script fault text) decided (inl (written, is)) = is_refused (Script fault text) read (λ e. cc) decided written is
  refused_by (Script fault text) decided (inr (broken, is)) = is_unwritten (Err (Script fault text)) read decided broken is
  refused_by (NoFunction name) decided (inl (written, is)) = is_refused (NoFunction name) read (λ e. cc) decided written is
  refused_by (NoFunction name) decided (inr (broken, is)) = is_unwritten (Err (NoFunction name)) read decided broken is

  ended_by : (d : Result Seen Refusal) → Decided look (reading_of words) before read d → Written ending d read after answer → EndedAs words before after answer
  ended_by (Ok seen) decided (inl (written, is)) = is_done seen read decided written is
  ended_by (Ok seen) decided (inr (broken, is)) = is_unwritten (Ok seen) read decided broken is
  ended_by (Err r) decided written = refused_by r decided written

no_sight : (seen : Seen) (r : Refusal) → Ok seen ≡ Err r → ⊥
no_sight seen r is = cc

not_done : (r : Refusal) → looked_of (Err r) ≡ looked.Done → ⊥
not_done Usage e = cc
not_done (ReadFault name) e = cc
not_done (TooLong name) e = cc
not_done (Program fault) e = cc
not_done (Script fault words) e = cc
not_done (NoFunction name) e = cc
not_done NoMemory e = cc

module _ (words : List (List ℕ)) (before after : Outside) where
  kept_by : (d : Result Seen Refusal) (read : Outside) → Decided look (reading_of words) before read d → Frame before read
  kept_by d read decided = frame before read (decided_only look (reading_of words) before read d decided)

  -- what the files were asked for, where writing left them
  still_part : (d : Result Seen Refusal) (read : Outside) → Decided look (reading_of words) before read d → after.asked ≡ read.asked → GainedPart before.asked after.asked (inputs_of words)
  still_part d read decided same =
      subst (λ told. GainedPart before.asked told (inputs_of words)) (sym same) (asked_part look (inputs_of words) (reading_of words) before read d (along (words_of words)) decided)

  named_part : GainedPart before.asked after.asked (inputs_of words) → GainedPart before.asked after.asked (names_of words)
  named_part part = part_in (words_of words) before.asked after.asked part

  -- and where a picture was put
  all_names : (w : Option Words) (seen : Seen) (read : Outside) → DecidedAt w before read (Ok seen) → after.asked ≡ gained read.asked (picture_name seen.picture) → after.asked ≡ gained before.asked (named w)
  all_names None seen read at asked = absurd at.1
  all_names (Some said) seen read at asked =
      asked ∙ ap (λ told. gained told (picture_name seen.picture)) at.0 ∙ gained-gained before.asked (inputs_by said.program said.subject) (picture_name seen.picture)
      ∙ ap (λ names. gained before.asked (inputs_by said.program said.subject ++ names)) at.1

  seen_names : (seen : Seen) (read : Outside) → Decided look (reading_of words) before read (Ok seen) → after.asked ≡ gained read.asked (picture_name seen.picture) → after.asked ≡ gained before.asked (names_of words)
  seen_names seen read decided asked = all_names (words_of words) seen read (decided_at (words_of words) before read (Ok seen) decided) asked

  unwritten_names : (seen : Seen) (read : Outside) → Decided look (reading_of words) before read (Ok seen) → (after.asked ≡ gained read.asked (picture_name seen.picture)) ⊎ (after.asked ≡ read.asked) → GainedPart before.asked after.asked (names_of words)
  unwritten_names seen read decided (inl asked) = part_of_all before.asked after.asked (names_of words) (seen_names seen read decided asked)
  unwritten_names seen read decided (inr same) = named_part (still_part (Ok seen) read decided same)

  unwritten_cause : (d : Result Seen Refusal) (read : Outside) → Decided look (reading_of words) before read d → WriteFailed (writes_of d) read after → Cause words before after looked.WriteFault
  unwritten_cause (Ok seen) read decided broken =
      let why = not_put seen read after broken in
      (rose (kept_by (Ok seen) read decided) why.rose, unwritten_names seen read decided why.asked)
    where
      rose : Frame before read → Rose read.puts after.puts ⊎ (Rose read.outs after.outs ⊎ Rose read.errs after.errs) → Rose before.puts after.puts ⊎ (Rose before.outs after.outs ⊎ Rose before.errs after.errs)
      rose kept (inl is) = inl (subst (λ count. Rose count after.puts) kept.puts is)
      rose kept (inr (inl is)) = inr (inl (subst (λ count. Rose count after.outs) kept.outs is))
      rose kept (inr (inr is)) = inr (inr (subst (λ count. Rose count after.errs) kept.errs is))
  unwritten_cause (Err r) read decided failed =
      let broken = line_broken (line_of r) read after failed in
      let kept = kept_by (Err r) read decided in
      (inr (inr (subst (λ count. Rose count after.errs) kept.errs broken.0)), named_part (still_part (Err r) read decided (ap (λ (x : Outside). x.asked) broken.2)))

  full_line : (read : Outside) → Frame before read → AllWritten (writes_of (Err NoMemory)) read after ⊎ WriteFailed (writes_of (Err NoMemory)) read after → Gains before.err after.err (Rose before.errs after.errs) (line_of NoMemory)
  full_line read kept (inl written) = inl (ap (λ (x : Outside). x.err) (err_written (line_of NoMemory) read after written) ∙ ap (λ told. gained told (line_of NoMemory)) kept.err)
  full_line read kept (inr failed) =
      let broken = line_broken (line_of NoMemory) read after failed in
      inr (subst (λ count. Rose count after.errs) kept.errs broken.0, subst (λ told. GainedPart told after.err (line_of NoMemory)) kept.err broken.1)

  full_same : (read : Outside) → AllWritten (writes_of (Err NoMemory)) read after ⊎ WriteFailed (writes_of (Err NoMemory)) read after → (after.asked ≡ read.asked) × (after.disk ≡ read.disk) × (after.out ≡ read.out)
  full_same read (inl written) = let is = err_written (line_of NoMemory) read after written in (ap (λ (x : Outside). x.asked) is, ap (λ (x : Outside). x.disk) is, ap (λ (x : Outside). x.out) is)
  full_same read (inr failed) = let is = (line_broken (line_of NoMemory) read after failed).2 in (ap (λ (x : Outside). x.asked) is, ap (λ (x : Outside). x.disk) is, ap (λ (x : Outside). x.out) is)

  refused_cause : (r : Refusal) (read : Outside) → r ≢ NoMemory → Decided look (reading_of words) before read (Err r) → DecidedAt (words_of words) before read (Err r) → after ≡ record read { err = gained read.err (line_of r) } → Cause words before after (looked_of (Err r))
  refused_cause Usage read other decided at is = (at.0, ap (λ (x : Outside). x.asked) is ∙ at.1)
  refused_cause (ReadFault name) read other decided (inl at) is =
      let asked : after.asked ≡ read.asked = ap (λ (x : Outside). x.asked) is in
      let takes : after.takes ≡ read.takes = ap (λ (x : Outside). x.takes) is in (
        (name, inl (subst (λ told. TakeFailed name told before.takes after.takes) (sym asked) (subst (TakeFailed name read.asked before.takes) (sym takes) at))),
        still_part (Err (ReadFault name)) read decided asked,
      )
  refused_cause (ReadFault name) read other decided (inr at) is = (
    (name, inr (at.0, subst (Rose before.reads) (sym (ap (λ (x : Outside). x.reads) is)) at.1)),
    still_part (Err (ReadFault name)) read decided (ap (λ (x : Outside). x.asked) is),
  )
  refused_cause (TooLong name) read other decided at is = still_part (Err (TooLong name)) read decided (ap (λ (x : Outside). x.asked) is)
  refused_cause (Program fault) read other decided at is = ap (λ (x : Outside). x.asked) is ∙ at
  refused_cause (Script fault text) read other decided at is = ap (λ (x : Outside). x.asked) is ∙ at
  refused_cause (NoFunction name) read other decided at is = ap (λ (x : Outside). x.asked) is ∙ at
  refused_cause NoMemory read other decided at is = absurd (other refl)

  cause_of : (answer : Answer) → EndedAs words before after answer → Cause words before after answer.what
  cause_of answer (is_done seen read decided (then, whole, more) is) =
      subst (Cause words before after) (sym (what_is answer looked.Done is))
      (seen_names seen read decided ((pictured seen.picture then after more).asked ∙ ap (λ (x : Outside). gained x.asked (picture_name seen.picture)) whole))
  cause_of answer (is_refused r read other decided written is) =
      subst (Cause words before after) (sym (what_is answer (looked_of (Err r)) is))
      (refused_cause r read other decided (decided_at (words_of words) before read (Err r) decided) (err_written (line_of r) read after written))
  cause_of answer (is_unwritten d read decided broken is) =
      subst (Cause words before after) (sym (what_is answer looked.WriteFault is)) (unwritten_cause d read decided broken)
  cause_of answer (is_full read decided line is) =
      subst (Cause words before after) (sym (what_is answer looked.NoMemory is))
      (full_line read (kept_by (Err NoMemory) read decided) line, still_part (Err NoMemory) read decided (full_same read line).0)

  -- where nothing was written or could not be
  untouched : (answer : Answer) → EndedAs words before after answer → answer.what ≢ looked.Done → answer.what ≢ looked.WriteFault → (after.disk ≡ before.disk) × (after.out ≡ before.out)
  untouched answer (is_done seen read decided written is) undone fine = absurd (undone (what_is answer looked.Done is))
  untouched answer (is_unwritten d read decided written is) undone fine = absurd (fine (what_is answer looked.WriteFault is))
  untouched answer (is_refused r read other decided written is) undone fine =
      let kept = kept_by (Err r) read decided in
      let same = err_written (line_of r) read after written in
      (ap (λ (x : Outside). x.disk) same ∙ kept.disk, ap (λ (x : Outside). x.out) same ∙ kept.out)
  untouched answer (is_full read decided line is) undone fine =
      let kept = kept_by (Err NoMemory) read decided in
      let same = full_same read line in
      (same.1 ∙ kept.disk, same.2 ∙ kept.out)

  asks_seen : (disk : Disk) (input : List ℕ) (read : Outside) (seen : Seen) → Told_of look (reading_of words) disk input before read (Ok seen) → Decides words disk input (Ok seen)
  asks_seen disk input read seen (told_whole is) = is
  asks_seen disk input read seen (told_fault name is rose) = absurd (no_sight seen (ReadFault name) is)
  asks_seen disk input read seen (told_full is) = absurd (no_sight seen NoMemory is)

  -- the picture's file, by what the files had at first
  holds_from : (picture : Option Drawn) (then : Outside) → then.disk ≡ before.disk → Holds picture then after → Holds picture before after
  holds_from None then same is = is ∙ same
  holds_from (Some picture) then same is =
      subst (λ disk. HasNow disk after.disk picture.name picture.bytes × SameElsewhere disk after.disk picture.name) same is

  headline_of : (answer : Answer) → EndedAs words before after answer → answer.what ≡ looked.Done → Told before (λ disk input. Shown words disk input before after)
  headline_of answer (is_done seen read decided (then, whole, more) is) ran = λ disk tells input tells'.
      let kept = kept_by (Ok seen) read decided in
      let put = pictured seen.picture then after more in
      record {
        seen = seen;
        asked = asks_seen disk input read seen (told_of look (reading_of words) disk input before read (Ok seen) tells tells' decided);
        out = put.out ∙ ap (λ (x : Outside). x.out) whole ∙ ap (λ told. gained told seen.text) kept.out;
        err = put.err ∙ ap (λ (x : Outside). x.err) whole ∙ kept.err;
        files = holds_from seen.picture then (ap (λ (x : Outside). x.disk) whole ∙ kept.disk) put.holds;
      }
  headline_of answer (is_refused r read other decided written is) ran = absurd (not_done r (sym (what_is answer (looked_of (Err r)) is) ∙ ran))
  headline_of answer (is_unwritten d read decided broken is) ran = let e : looked.WriteFault ≡ looked.Done = sym (what_is answer looked.WriteFault is) ∙ ran in cc
  headline_of answer (is_full read decided line is) ran = let e : looked.NoMemory ≡ looked.Done = sym (what_is answer looked.NoMemory is) ∙ ran in cc

status_as : (answer : Answer) (what : Looked) → answer ≡ answer_by what → answer.status ≡ status_of answer.what
status_as answer what is = ap (λ (x : Answer). x.status) is ∙ ap (λ (x : Answer). status_of x.what) (sym is)

status_of_end : (words : List (List ℕ)) (before after : Outside) (answer : Answer) → EndedAs words before after answer → answer.status ≡ status_of answer.what
status_of_end words before after answer (is_done seen read decided written is) = status_as answer looked.Done is
status_of_end words before after answer (is_refused r read other decided written is) = status_as answer (looked_of (Err r)) is
status_of_end words before after answer (is_unwritten d read decided broken is) = status_as answer looked.WriteFault is
status_of_end words before after answer (is_full read decided line is) = status_as answer looked.NoMemory is

pub promised : (words : List (List ℕ)) (before after : Outside) (answer : Answer)
    → ((disk : Disk) (input : List ℕ) (d e : Result Seen Refusal) → Decides words disk input d → Decides words disk input e → d ≡ e)
    → Delivered look (reading_of words) before after answer → Promise words before after answer
promised words before after answer one m =
    let ended : EndedAs words before after answer = ended_by words before m.read after answer m.decision m.decided m.written in
    let once = all_fail_once look (reading_of words) before after answer m in
    record {
      headline = headline_of words before after answer ended;
      settled = settles look (reading_of words) before after answer m;
      one = one;
      causes = cause_of words before after answer ended;
      written = m;
      devices = record {
        disk = λ undone fine. (untouched words before after answer ended undone fine).0;
        out = λ undone fine. (untouched words before after answer ended undone fine).1;
        input = once.left;
        takes = once.takes;
        puts = once.puts;
        reads = once.reads;
        outs = once.outs;
        errs = once.errs;
      };
      status = status_of_end words before after answer ended;
    }
