-- What `make` promises follows from what it decided and wrote.
use Rattle.std.proofs.Common.{◌≡◌, ◌≢◌, ◌⊎◌, inl, inr, ℕ, zero, suc, List, [], ◌∷◌, ◌++◌, take, length, Option, Some, None, Result, Ok, Err, IfOk, OnErr, refl, ap, sym, subst, ◌∙◌, arith}
use Rattle.std.proofs.lemmas.List.{take_all}
use Rattle.std.specs.Option.{ForSome}
use Rattle.oc_base.specs.Outside.{Disk, Rose, gained, Asks, GainedPart, Gains, HasNow, SameElsewhere}
use Rattle.oc_base.proofs.Told.{gained-gained}
use Rattle.oc_base.specs.declared.fault.Failed.{Failed as DeviceFailed}
use Rattle.top_call.specs.Call.{Decided, Delivered, Written}
use Rattle.top_call.specs.Outside.{Outside}
use Rattle.top_call.specs.Reading.{FileRead}
use Rattle.top_call.specs.Writing.{to_out, to_err, to_file, FileWritten, Whole, Broken, AllWritten, WriteFailed, Wrote, WroteAll}
use Rattle.top_call.specs.declared.reading.Unread.{Unread}
use Rattle.top_call.specs.declared.reading.Unread.TheVariants as unread
use Rattle.top_call.proofs.Called.{Told_of, told_whole, told_fault, told_full, Along, Frame, frame, two_writes, err_written, asked_part, decided_only, told_of, settles, all_fail_once, asked_it, asked_for, last_asked, gained_none, gained_nothing}
use Rattle.rv_asm.specs.declared.fault.AsmFault.TheVariants as asm
use Rattle.guest_gen.specs.declared.answer.Made.{Made}
use Rattle.guest_gen.specs.declared.answer.MadeWhat.{MadeWhat}
use Rattle.guest_gen.specs.declared.answer.MadeWhat.TheVariants as made
use Rattle.guest_gen.specs.declared.decision.NewFile.{NewFile}
use Rattle.guest_gen.specs.declared.decision.Refusal.{Refusal}
use Rattle.guest_gen.specs.declared.decision.Refusal.TheVariants.{Usage, ReadFault, TooLong, Fault, NoMemory}
use Rattle.guest_gen.specs.declared.words.Form.{Form}
use Rattle.guest_gen.specs.declared.words.Form.TheVariants.{Assemble, Generate}
use Rattle.guest_gen.specs.Answer.{status_of, what_of, line_of}
use Rattle.guest_gen.specs.Decision.{text_limit, Assembles, refusal_of, ending, make, reading_for, reading_of, said, writes_of, made_by, unwritten_of, Decides, read, named, read_of, names_of}
use Rattle.guest_gen.specs.Promise.{told, MakesFile, Cause, Promise}
use Rattle.guest_gen.specs.Words.{form_of, inputs_of, output_of}
use Rattle.guest_gen.proofs.OneDecision.{one_decision}

-- ---- what was decided

no_file : (file : NewFile) (r : Refusal) → Ok file ≡ Err r → ⊥
no_file file r is = cc

abbrev refused : Refusal → Result NewFile Refusal
refused r = Err r

same_refusal : (r s : Refusal) → refused r ≡ refused s → r ≡ s
same_refusal r s is = cc

-- nothing is said of a text's program
abbrev IsQuiet : Form → NewFile → Type 0
IsQuiet (Assemble input output) file = file.line ≡ None
IsQuiet (Generate n output) file = Unit {0}

-- The file is of the words' form, and the files were asked for what the form reads.
pub record Formed (f : Option Form) (a b : Outside) (file : NewFile) : Type 0 where
  pub form : Form
  pub is : f ≡ Some form
  pub named : file.name ≡ output_of form
  pub asked : b.asked ≡ gained a.asked (inputs_of form)
  pub quiet : IsQuiet form file

pub formed : (f : Option Form) (a b : Outside) (file : NewFile) → Decided make (reading_for f) a b (Ok file) → Formed f a b file
formed None a b file (same, inl is) = absurd (no_file file Usage is)
formed None a b file (same, inr is) = absurd (no_file file NoMemory is)
formed (Some (Generate n o)) a b file (same, inl is) = record {
  form = Generate n o;
  is = refl;
  named = is.named;
  asked = ap (λ (x : Outside). x.asked) same ∙ sym (gained_none a.asked);
  quiet = tt;
}
formed (Some (Generate n o)) a b file (same, inr is) = absurd (no_file file NoMemory is)
formed (Some (Assemble i o)) a b file (inl (why, text, is)) = absurd (no_file file (make.refusal why) is)
formed (Some (Assemble i o)) a b file (inr (text, then, given, (same, inl is))) = record {
  form = Assemble i o;
  is = refl;
  named = is.named;
  asked = ap (λ (x : Outside). x.asked) same ∙ asked_it a.asked then.asked i text given.asked;
  quiet = is.quiet;
}
formed (Some (Assemble i o)) a b file (inr (text, then, given, (same, inr is))) = absurd (no_file file NoMemory is)

-- where a refusal comes from
abbrev RefusedAt : (f : Option Form) (a b : Outside) → Refusal → Type 0
RefusedAt f a b Usage = (f ≡ None) × (b.asked ≡ a.asked)
RefusedAt f a b (ReadFault name) = (o : List ℕ) × (f ≡ Some (Assemble name o)) × Rose a.takes b.takes × (b.asked ≡ gained a.asked (name ∷ []))
RefusedAt f a b (TooLong name) = b.asked ≡ gained a.asked (read f)
RefusedAt f a b (Fault line kind) = b.asked ≡ gained a.asked (read f)
RefusedAt f a b NoMemory = GainedPart a.asked b.asked (read f)

full_asked : (before now : Option (List (List ℕ))) (name : List ℕ) → Asks {T = List ℕ} unread.NoMemory before now name (Err unread.NoMemory) → GainedPart before now (name ∷ [])
full_asked before now name (inl is) = record { count = 1; part = is }
full_asked before now name (inr is) = gained_nothing before now (name ∷ []) is.0

text_refused_at : (i o : List ℕ) (a b : Outside) (why : Unread) → FileRead i text_limit a b (Err why) → RefusedAt (Some (Assemble i o)) a b (refusal_of why)
text_refused_at i o a b (unread.Failed given) text =
    subst (λ name. RefusedAt (Some (Assemble i o)) a b (ReadFault name)) (sym text.cause.0)
    (o, refl, text.cause.1, asked_for a.asked b.asked i (unread.Failed given) (λ is. cc) text.asked)
text_refused_at i o a b (unread.TooLong given) text = asked_for a.asked b.asked i (unread.TooLong given) (λ is. cc) text.asked
text_refused_at i o a b unread.NoMemory text = full_asked a.asked b.asked i text.asked

assembled_at : (i o text : List ℕ) (a b : Outside) (r : Refusal) → Assembles text o (Err r) → b.asked ≡ gained a.asked (i ∷ []) → RefusedAt (Some (Assemble i o)) a b r
assembled_at i o text a b (Fault line kind) is asked = asked
assembled_at i o text a b Usage is asked = absurd is
assembled_at i o text a b (ReadFault name) is asked = absurd is
assembled_at i o text a b (TooLong name) is asked = absurd is
assembled_at i o text a b NoMemory is asked = absurd is

pub refused_at : (f : Option Form) (a b : Outside) (r : Refusal) → Decided make (reading_for f) a b (Err r) → RefusedAt f a b r
refused_at None a b r (same, inl is) = subst (RefusedAt None a b) (sym (same_refusal r Usage is)) (refl, ap (λ (x : Outside). x.asked) same)
refused_at None a b r (same, inr is) = subst (RefusedAt None a b) (sym (same_refusal r NoMemory is)) (gained_nothing a.asked b.asked [] (ap (λ (x : Outside). x.asked) same))
refused_at (Some (Generate n o)) a b r (same, inl is) = absurd is
refused_at (Some (Generate n o)) a b r (same, inr is) = subst (RefusedAt (Some (Generate n o)) a b) (sym (same_refusal r NoMemory is)) (gained_nothing a.asked b.asked [] (ap (λ (x : Outside). x.asked) same))
refused_at (Some (Assemble i o)) a b r (inl (why, text, is)) = subst (RefusedAt (Some (Assemble i o)) a b) (sym (same_refusal r (refusal_of why) is)) (text_refused_at i o a b why text)
refused_at (Some (Assemble i o)) a b r (inr (text, then, given, (same, inl is))) =
    assembled_at i o text a b r is (ap (λ (x : Outside). x.asked) same ∙ asked_it a.asked then.asked i text given.asked)
refused_at (Some (Assemble i o)) a b r (inr (text, then, given, (same, inr is))) =
    subst (RefusedAt (Some (Assemble i o)) a b) (sym (same_refusal r NoMemory is)) (record { count = 1; part = ap (λ (x : Outside). x.asked) same ∙ asked_it a.asked then.asked i text given.asked })

-- what is read is what is asked for
along : (f : Option Form) → Along make (read f) (reading_for f)
along None = refl
along (Some (Generate n o)) = refl
along (Some (Assemble i o)) = ([], refl, λ bytes. refl)

-- a part of what is read is one of all names
part_in : (f : Option Form) (was now : Option (List (List ℕ))) (count : ℕ) → now ≡ gained was (take count (read f)) → GainedPart was now (named f)
part_in None was now count e = record { count = count; part = e }
part_in (Some (Generate n o)) was now count e = record { count = 0; part = e ∙ ap (gained was) (take_all count [] (omega arith)) }
part_in (Some (Assemble i o)) was now zero e = record { count = 0; part = e }
part_in (Some (Assemble i o)) was now (suc count) e = record { count = 1; part = e ∙ ap (gained was) (take_all (suc count) (i ∷ []) (omega arith)) }

part_of_all : (was now : Option (List (List ℕ))) (names : List (List ℕ)) → now ≡ gained was names → GainedPart was now names
part_of_all was now names e = record { count = length names; part = e ∙ ap (gained was) (sym (take_all (length names) names (omega arith))) }

-- ---- what was written

-- a line came to `out`, if there is one
pub record Said (line : Option (List ℕ)) (a b : Outside) : Type 0 where
  pub disk : b.disk ≡ a.disk
  pub asked : b.asked ≡ a.asked
  pub out : b.out ≡ told a.out line
  pub err : b.err ≡ a.err

line_said : (line : Option (List ℕ)) (a b : Outside) → AllWritten (said line) a b → Said line a b
line_said None a b same = record {
  disk = ap (λ (x : Outside). x.disk) same;
  asked = ap (λ (x : Outside). x.asked) same;
  out = ap (λ (x : Outside). x.out) same;
  err = ap (λ (x : Outside). x.err) same;
}
line_said (Some line) a b (then, whole, same) = record {
  disk = ap (λ (x : Outside). x.disk) (same ∙ whole);
  asked = ap (λ (x : Outside). x.asked) (same ∙ whole);
  out = ap (λ (x : Outside). x.out) (same ∙ whole);
  err = ap (λ (x : Outside). x.err) (same ∙ whole);
}

-- why a file and its line were not written, and what the files were asked for
pub record Unwritten (name : List ℕ) (a b : Outside) : Type 0 where
  pub rose : Rose a.puts b.puts ⊎ (Rose a.outs b.outs ⊎ Rose a.errs b.errs)
  pub asked : (b.asked ≡ gained a.asked (name ∷ [])) ⊎ (b.asked ≡ a.asked)

unsaid : (name bytes : List ℕ) (line : Option (List ℕ)) (a then b : Outside) → FileWritten name bytes a then → WriteFailed (said line) then b → Unwritten name a b
unsaid name bytes None a then b file none = absurd none
unsaid name bytes (Some line) a then b file (inr (x, whole, none)) = absurd none
unsaid name bytes (Some line) a then b file (inl broken) = record {
  rose = inr (inl (subst (λ count. Rose count b.outs) (ap (λ (x : Outside). x.outs) file.rest) broken.0));
  asked = inl (ap (λ (x : Outside). x.asked) broken.2 ∙ file.asked);
}

not_put : (file : NewFile) (a b : Outside) → WriteFailed (writes_of (Ok file)) a b → Unwritten file.name a b
not_put file a b (inl broken) = record { rose = inl broken.failed; asked = broken.asked }
not_put file a b (inr (then, whole, more)) = unsaid file.name file.bytes file.line a then b whole more

-- why a refusal's line was not
line_broken : (line : List ℕ) (a b : Outside) → WriteFailed (to_err line ∷ []) a b → Broken (to_err line) a b
line_broken line a b (inl broken) = broken
line_broken line a b (inr (then, whole, none)) = absurd none

-- ---- step by step

pub gave_up : (a b : Outside) (result : Result Unit DeviceFailed) → Wrote (to_err (line_of NoMemory)) a b result → Written ending (Err NoMemory) a b (made_by made.NoMemory)
gave_up a b (Ok done) wrote = inl ((b, wrote, refl), refl)
gave_up a b (Err why) wrote = inr (inl wrote, refl)

unwritten : (r : Refusal) (a b : Outside) → r ≢ NoMemory → Broken (to_err (line_of r)) a b → Written ending (Err r) a b (made_by made.WriteFault)
unwritten Usage a b other broken = inr (inl broken, refl)
unwritten (ReadFault name) a b other broken = inr (inl broken, refl)
unwritten (TooLong name) a b other broken = inr (inl broken, refl)
unwritten (Fault line kind) a b other broken = inr (inl broken, refl)
unwritten NoMemory a b other broken = absurd (other refl)

pub refusal_unwritten : (r : Refusal) (line : List ℕ) (a b : Outside) → line ≡ line_of r → r ≢ NoMemory → Broken (to_err line) a b → Written ending (Err r) a b (made_by made.WriteFault)
refusal_unwritten r line a b is other broken = unwritten r a b other (subst (λ l. Broken (to_err l) a b) is broken)

pub refusal_written : (r : Refusal) (line : List ℕ) (a b : Outside) (what : MadeWhat) → line ≡ line_of r → what ≡ what_of (Err r) → Whole (to_err line) a b → Written ending (Err r) a b (made_by what)
refusal_written r line a b what is answer whole = inl ((b, subst (λ l. Whole (to_err l) a b) is whole, refl), ap made_by answer)

pub file_then_line : (name bytes l : List ℕ) (line : Option (List ℕ)) (a b c : Outside) (result : Result Unit DeviceFailed) → line ≡ Some l → FileWritten name bytes a b → Wrote (to_out l) b c result → WroteAll (to_file name bytes ∷ said line) a c result
file_then_line name bytes l line a b c result is first more = subst (λ x. WroteAll (to_file name bytes ∷ said x) a c result) (sym is) (two_writes (to_file name bytes) (to_out l) a b c result first more)

pub file_alone : (name bytes : List ℕ) (line : Option (List ℕ)) (a b : Outside) → line ≡ None → FileWritten name bytes a b → AllWritten (to_file name bytes ∷ said line) a b
file_alone name bytes line a b is first = subst (λ x. AllWritten (to_file name bytes ∷ said x) a b) (sym is) (b, first, refl)

-- A text never changes `out`.
quiet_in : (form : Form) (file : NewFile) → ((n : ℕ) (output : List ℕ) → form ≢ Generate n output) → IsQuiet form file → file.line ≡ None
quiet_in (Assemble i o) file other quiet = quiet
quiet_in (Generate n o) file other quiet = absurd (other n o refl)

pub out_kept : {X : Type 0} (words : List (List ℕ)) (a b : Outside) (was now : X) (d : Result NewFile Refusal) → Decided make (reading_of words) a b d → IfOk d (λ file. file.line ≡ None → now ≡ was) → OnErr d (now ≡ was) → ((n : ℕ) (output : List ℕ) → form_of words ≢ Some (Generate n output)) → now ≡ was
out_kept words a b was now (Ok file) decided quiet silent other =
    let one = formed (form_of words) a b file decided in
    quiet (quiet_in one.form file (λ n output e. other n output (one.is ∙ ap Some e)) one.quiet)
out_kept words a b was now (Err r) decided quiet silent other = silent

-- ---- what was answered

pub data EndedAs (words : List (List ℕ)) (before after : Outside) (what : MadeWhat) : Type 0 where
  is_done : (file : NewFile) (read : Outside) → Decided make (reading_of words) before read (Ok file) → AllWritten (writes_of (Ok file)) read after → what ≡ made.Done → EndedAs words before after what
  is_refused : (r : Refusal) (read : Outside) → r ≢ NoMemory → Decided make (reading_of words) before read (Err r) → AllWritten (writes_of (Err r)) read after → what ≡ what_of (Err r) → EndedAs words before after what
  is_unwritten : (d : Result NewFile Refusal) (read : Outside) → Decided make (reading_of words) before read d → WriteFailed (writes_of d) read after → what ≡ made.WriteFault → EndedAs words before after what
  is_full : (read : Outside) → Decided make (reading_of words) before read (Err NoMemory) → AllWritten (writes_of (Err NoMemory)) read after ⊎ WriteFailed (writes_of (Err NoMemory)) read after → what ≡ made.NoMemory → EndedAs words before after what

what_is : (answer : Made) (what : MadeWhat) → answer ≡ made_by what → answer.what ≡ what
what_is answer what is = ap (λ (x : Made). x.what) is

ended_by : (words : List (List ℕ)) (before read after : Outside) (answer : Made) (d : Result NewFile Refusal) → Decided make (reading_of words) before read d → Written ending d read after answer → EndedAs words before after answer.what
ended_by words before read after answer (Ok file) decided (inl (written, is)) = is_done file read decided written (what_is answer made.Done is)
ended_by words before read after answer (Ok file) decided (inr (broken, is)) = is_unwritten (Ok file) read decided broken (what_is answer made.WriteFault is)
ended_by words before read after answer (Err NoMemory) decided (inl (written, is)) = is_full read decided (inl written) (what_is answer made.NoMemory is)
ended_by words before read after answer (Err NoMemory) decided (inr (broken, is)) = is_full read decided (inr broken) (what_is answer made.NoMemory is)
ended_by words before read after answer (Err Usage) decided (inl (written, is)) = is_refused Usage read (λ e. cc) decided written (what_is answer made.Usage is)
ended_by words before read after answer (Err Usage) decided (inr (broken, is)) = is_unwritten (Err Usage) read decided broken (what_is answer made.WriteFault is)
ended_by words before read after answer (Err (ReadFault name)) decided (inl (written, is)) = is_refused (ReadFault name) read (λ e. cc) decided written (what_is answer made.ReadFault is)
ended_by words before read after answer (Err (ReadFault name)) decided (inr (broken, is)) = is_unwritten (Err (ReadFault name)) read decided broken (what_is answer made.WriteFault is)
ended_by words before read after answer (Err (TooLong name)) decided (inl (written, is)) = is_refused (TooLong name) read (λ e. cc) decided written (what_is answer made.TooLong is)
ended_by words before read after answer (Err (TooLong name)) decided (inr (broken, is)) = is_unwritten (Err (TooLong name)) read decided broken (what_is answer made.WriteFault is)
ended_by words before read after answer (Err (Fault line kind)) decided (inl (written, is)) = is_refused (Fault line kind) read (λ e. cc) decided written (what_is answer (made.Asm (asm.Line line kind)) is)
ended_by words before read after answer (Err (Fault line kind)) decided (inr (broken, is)) = is_unwritten (Err (Fault line kind)) read decided broken (what_is answer made.WriteFault is)

module _ (words : List (List ℕ)) (before after : Outside) where
  -- the names of a file that was written, or wasn't
  file_names : (file : NewFile) (read : Outside) → Decided make (reading_of words) before read (Ok file) → after.asked ≡ gained read.asked (file.name ∷ []) → after.asked ≡ gained before.asked (names_of words)
  file_names file read decided asked =
      let one = formed (form_of words) before read file decided in
      asked ∙ ap (λ told. gained told (file.name ∷ [])) one.asked ∙ gained-gained before.asked (inputs_of one.form) (file.name ∷ [])
      ∙ ap (λ name. gained before.asked (inputs_of one.form ++ name ∷ [])) one.named ∙ ap (λ f. gained before.asked (named f)) (sym one.is)

  read_part : (d : Result NewFile Refusal) (read : Outside) → Decided make (reading_of words) before read d → GainedPart before.asked read.asked (read_of words)
  read_part d read decided = asked_part make (read_of words) (reading_of words) before read d (along (form_of words)) decided

  still_part : (d : Result NewFile Refusal) (read : Outside) → Decided make (reading_of words) before read d → after.asked ≡ read.asked → GainedPart before.asked after.asked (read_of words)
  still_part d read decided same = subst (λ told. GainedPart before.asked told (read_of words)) (sym same) (read_part d read decided)

  named_part : GainedPart before.asked after.asked (read_of words) → GainedPart before.asked after.asked (names_of words)
  named_part part = part_in (form_of words) before.asked after.asked part.count part.part

  -- a file that wasn't written
  unwritten_names : (file : NewFile) (read : Outside) → Decided make (reading_of words) before read (Ok file) → (after.asked ≡ gained read.asked (file.name ∷ [])) ⊎ (after.asked ≡ read.asked) → GainedPart before.asked after.asked (names_of words)
  unwritten_names file read decided (inl asked) = part_of_all before.asked after.asked (names_of words) (file_names file read decided asked)
  unwritten_names file read decided (inr same) = named_part (still_part (Ok file) read decided same)

  unwritten_cause : (d : Result NewFile Refusal) (read : Outside) → Decided make (reading_of words) before read d → WriteFailed (writes_of d) read after → Cause words before after made.WriteFault
  unwritten_cause (Ok file) read decided broken =
      let why = not_put file read after broken in
      let kept = frame before read (decided_only make (reading_of words) before read (Ok file) decided) in
      (rose kept why.rose, unwritten_names file read decided why.asked)
    where
      rose : Frame before read → Rose read.puts after.puts ⊎ (Rose read.outs after.outs ⊎ Rose read.errs after.errs) → Rose before.puts after.puts ⊎ (Rose before.outs after.outs ⊎ Rose before.errs after.errs)
      rose kept (inl is) = inl (subst (λ count. Rose count after.puts) kept.puts is)
      rose kept (inr (inl is)) = inr (inl (subst (λ count. Rose count after.outs) kept.outs is))
      rose kept (inr (inr is)) = inr (inr (subst (λ count. Rose count after.errs) kept.errs is))
  unwritten_cause (Err r) read decided failed =
      let broken = line_broken (line_of r) read after failed in
      let kept = frame before read (decided_only make (reading_of words) before read (Err r) decided) in
      (inr (inr (subst (λ count. Rose count after.errs) kept.errs broken.0)), named_part (still_part (Err r) read decided (ap (λ (x : Outside). x.asked) broken.2)))

  full_line : (read : Outside) → Frame before read → AllWritten (writes_of (Err NoMemory)) read after ⊎ WriteFailed (writes_of (Err NoMemory)) read after → Gains before.err after.err (Rose before.errs after.errs) (line_of NoMemory)
  full_line read kept (inl written) = inl (ap (λ (x : Outside). x.err) (err_written (line_of NoMemory) read after written) ∙ ap (λ told. gained told (line_of NoMemory)) kept.err)
  full_line read kept (inr failed) =
      let broken = line_broken (line_of NoMemory) read after failed in
      inr (subst (λ count. Rose count after.errs) kept.errs broken.0, subst (λ told. GainedPart told after.err (line_of NoMemory)) kept.err broken.1)

  full_same : (read : Outside) → AllWritten (writes_of (Err NoMemory)) read after ⊎ WriteFailed (writes_of (Err NoMemory)) read after → (after.asked ≡ read.asked) × (after.disk ≡ read.disk) × (after.out ≡ read.out)
  full_same read (inl written) = let is = err_written (line_of NoMemory) read after written in (ap (λ (x : Outside). x.asked) is, ap (λ (x : Outside). x.disk) is, ap (λ (x : Outside). x.out) is)
  full_same read (inr failed) = let is = (line_broken (line_of NoMemory) read after failed).2 in (ap (λ (x : Outside). x.asked) is, ap (λ (x : Outside). x.disk) is, ap (λ (x : Outside). x.out) is)

  refused_cause : (r : Refusal) (mid : Outside) → r ≢ NoMemory → RefusedAt (form_of words) before mid r → after ≡ record mid { err = gained mid.err (line_of r) } → Cause words before after (what_of (Err r))
  refused_cause Usage mid other at is = (at.0, ap (λ (x : Outside). x.asked) is ∙ at.1)
  refused_cause (ReadFault name) mid other at is =
      let asked : after.asked ≡ gained before.asked (name ∷ []) = ap (λ (x : Outside). x.asked) is ∙ at.3 in (
        record {
          name = name;
          output = at.0;
          first = at.1;
          failed = record { rose = subst (Rose before.takes) (sym (ap (λ (x : Outside). x.takes) is)) at.2; last = last_asked before.asked after.asked [] name asked };
        },
        asked ∙ ap (λ f. gained before.asked (read f)) (sym at.1),
      )
  refused_cause (TooLong name) mid other at is = ap (λ (x : Outside). x.asked) is ∙ at
  refused_cause (Fault line kind) mid other at is = ((λ e. cc), ap (λ (x : Outside). x.asked) is ∙ at)
  refused_cause NoMemory mid other at is = absurd (other refl)

  cause_of : (what : MadeWhat) → EndedAs words before after what → Cause words before after what
  cause_of what (is_done file read decided (then, put, more) is) =
      subst (Cause words before after) (sym is) (file_names file read decided ((line_said file.line then after more).asked ∙ put.asked))
  cause_of what (is_refused r read other decided written is) =
      subst (Cause words before after) (sym is) (refused_cause r read other (refused_at (form_of words) before read r decided) (err_written (line_of r) read after written))
  cause_of what (is_unwritten d read decided broken is) = subst (Cause words before after) (sym is) (unwritten_cause d read decided broken)
  cause_of what (is_full read decided line is) =
      subst (Cause words before after) (sym is)
      (full_line read (frame before read (decided_only make (reading_of words) before read (Err NoMemory) decided)) line, still_part (Err NoMemory) read decided (full_same read line).0)

  -- where no file was written or could not be
  untouched : (what : MadeWhat) → EndedAs words before after what → what ≢ made.Done → what ≢ made.WriteFault → (after.disk ≡ before.disk) × (after.out ≡ before.out)
  untouched what (is_done file read decided written is) undone fine = absurd (undone is)
  untouched what (is_unwritten d read decided broken is) undone fine = absurd (fine is)
  untouched what (is_refused r read other decided written is) undone fine =
      let kept = frame before read (decided_only make (reading_of words) before read (Err r) decided) in
      let is = err_written (line_of r) read after written in
      (ap (λ (x : Outside). x.disk) is ∙ kept.disk, ap (λ (x : Outside). x.out) is ∙ kept.out)
  untouched what (is_full read decided line is) undone fine =
      let kept = frame before read (decided_only make (reading_of words) before read (Err NoMemory) decided) in
      let same = full_same read line in
      (same.1 ∙ kept.disk, same.2 ∙ kept.out)

  asks_file : (disk : Disk) (read : Outside) (file : NewFile) → Told_of make (reading_of words) disk [] before read (Ok file) → Decides words disk (Ok file)
  asks_file disk read file (told_whole is) = is
  asks_file disk read file (told_fault name is rose) = absurd (no_file file (ReadFault name) is)
  asks_file disk read file (told_full is) = absurd (no_file file NoMemory is)

  headline_of : (what : MadeWhat) → before.left ≡ Some [] → EndedAs words before after what → what ≡ made.Done → ForSome before.disk (λ disk. MakesFile words disk before after)
  headline_of what nothing (is_done file read decided (then, put, more) is) ran = λ disk tells.
      let kept = frame before read (decided_only make (reading_of words) before read (Ok file) decided) in
      let line = line_said file.line then after more in
      record {
        file = file;
        asked = asks_file disk read file (told_of make (reading_of words) disk [] before read (Ok file) tells nothing decided);
        holds = subst (λ was. HasNow was after.disk file.name file.bytes) kept.disk (subst (λ now. HasNow read.disk now file.name file.bytes) (sym line.disk) put.holds);
        others = subst (λ was. SameElsewhere was after.disk file.name) kept.disk (subst (λ now. SameElsewhere read.disk now file.name) (sym line.disk) put.others);
        out = line.out ∙ ap (λ was. told was file.line) (ap (λ (x : Outside). x.out) put.rest ∙ kept.out);
        err = line.err ∙ ap (λ (x : Outside). x.err) put.rest ∙ kept.err;
      }
  headline_of what nothing (is_refused r read other decided written is) ran = absurd (not_done r (sym is ∙ ran))
    where
      not_done : (r : Refusal) → what_of (Err r) ≡ made.Done → ⊥
      not_done Usage e = cc
      not_done (ReadFault name) e = cc
      not_done (TooLong name) e = cc
      not_done (Fault line kind) e = cc
      not_done NoMemory e = cc
  headline_of what nothing (is_unwritten d read decided broken is) ran = let e : made.WriteFault ≡ made.Done = sym is ∙ ran in cc
  headline_of what nothing (is_full read decided line is) ran = let e : made.NoMemory ≡ made.Done = sym is ∙ ran in cc

status_as : (d : Result NewFile Refusal) (read after : Outside) (answer : Made) → Written ending d read after answer → answer.status ≡ status_of answer.what
status_as d read after answer (inl (written, is)) = by_what answer (what_of d) is
  where
    by_what : (answer : Made) (what : MadeWhat) → answer ≡ made_by what → answer.status ≡ status_of answer.what
    by_what answer what is = ap (λ (x : Made). x.status) is ∙ ap (λ (x : Made). status_of x.what) (sym is)
status_as d read after answer (inr (broken, is)) = by_end d is
  where
    by_end : (d : Result NewFile Refusal) → answer ≡ unwritten_of d → answer.status ≡ status_of answer.what
    by_end (Ok file) is = ap (λ (x : Made). x.status) is ∙ ap (λ (x : Made). status_of x.what) (sym is)
    by_end (Err Usage) is = ap (λ (x : Made). x.status) is ∙ ap (λ (x : Made). status_of x.what) (sym is)
    by_end (Err (ReadFault name)) is = ap (λ (x : Made). x.status) is ∙ ap (λ (x : Made). status_of x.what) (sym is)
    by_end (Err (TooLong name)) is = ap (λ (x : Made). x.status) is ∙ ap (λ (x : Made). status_of x.what) (sym is)
    by_end (Err (Fault line kind)) is = ap (λ (x : Made). x.status) is ∙ ap (λ (x : Made). status_of x.what) (sym is)
    by_end (Err NoMemory) is = ap (λ (x : Made). x.status) is ∙ ap (λ (x : Made). status_of x.what) (sym is)

pub promised : (words : List (List ℕ)) (before after : Outside) (answer : Made) → before.left ≡ Some [] → Delivered make (reading_of words) before after answer → Promise words before after answer
promised words before after answer nothing m =
    let ended : EndedAs words before after answer.what = ended_by words before m.read after answer m.decision m.decided m.written in
    let once = all_fail_once make (reading_of words) before after answer m in
    record {
      headline = headline_of words before after answer.what nothing ended;
      settled = settles make (reading_of words) before after answer m;
      one = one_decision words;
      causes = cause_of words before after answer.what ended;
      written = m;
      devices = record {
        disk = λ undone fine. (untouched words before after answer.what ended undone fine).0;
        out = λ undone fine. (untouched words before after answer.what ended undone fine).1;
        takes = once.takes;
        puts = once.puts;
        outs = once.outs;
        errs = once.errs;
      };
      status = status_as m.decision m.read after answer m.written;
    }
