-- What was written of a run, or of a refusal.
use Rattle.std.proofs.Common.{◌≡◌, ◌⊎◌, inl, inr, ℕ, List, [], ◌∷◌, ◌++◌, Option, Some, None, Result, Ok, Err, refl, ap, sym, subst, ◌∙◌}
use Rattle.std.specs.Option.{option_map}
use Rattle.oc_base.specs.Outside.{Disk, Rose, gained, SameElsewhere}
use Rattle.oc_base.specs.declared.fault.Failed.{Failed as DeviceFailed}
use Rattle.top_call.specs.Call.{Written, EndsWith}
use Rattle.top_call.specs.Outside.{Outside}
use Rattle.top_call.specs.Writing.{Write, to_out, to_err, to_file, Whole, Broken, AllWritten, WriteFailed, Wrote, WroteAll}
use Rattle.top_call.proofs.Called.{gained_none}
use Rattle.report.specs.Cause.{err_of, run_ending}
use Rattle.report.specs.declared.answer.Answer.{Answer}
use Rattle.report.specs.declared.answer.Ended.{Ended}
use Rattle.report.specs.declared.answer.Ended.TheVariants.{Ran, Usage, ReadFault, TooLong, Program, Script, WriteFault, NoMemory}
use Rattle.live.specs.declared.life.Life.{Life}
use Rattle.live.specs.declared.life.RecordFile.{RecordFile}
use Rattle.live.specs.declared.lived.Lived.{Lived}
use Rattle.live.specs.Decision.{recorded_as}
use Rattle.live.specs.Ending.{record_writes, unlived, answer_of, unwritten_of, lived_ending}
use Rattle.live.specs.Promise.{Filed, OnlyFile}

-- ---- writes, one list after another

all_then : (ws vs : List Write) (a b c : Outside) → AllWritten ws a b → AllWritten vs b c → AllWritten (ws ++ vs) a c
all_then [] vs a b c same more = subst (λ x. AllWritten vs x c) same more
all_then (w ∷ ws) vs a b c (then, whole, rest) more = (then, whole, all_then ws vs then b c rest more)

failed_later : (ws vs : List Write) (a b c : Outside) → AllWritten ws a b → WriteFailed vs b c → WriteFailed (ws ++ vs) a c
failed_later [] vs a b c same more = subst (λ x. WriteFailed vs x c) same more
failed_later (w ∷ ws) vs a b c (then, whole, rest) more = inr (then, whole, failed_later ws vs then b c rest more)

failed_first : (ws vs : List Write) (a b : Outside) → WriteFailed ws a b → WriteFailed (ws ++ vs) a b
failed_first [] vs a b none = absurd none
failed_first (w ∷ ws) vs a b (inl broken) = inl broken
failed_first (w ∷ ws) vs a b (inr (then, whole, rest)) = inr (then, whole, failed_first ws vs then b rest)

-- a write, the record's, and a last one
module _ (w v : Write) (file : Option RecordFile) (a b : Outside) where
  abbrev all : List Write
  all = w ∷ (record_writes file ++ v ∷ [])

  pub first_failed : Broken w a b → WriteFailed all a b
  first_failed broken = inl broken

  module _ (first : Whole w a b) (c : Outside) where
    pub record_failed : WriteFailed (record_writes file) b c → WriteFailed all a c
    record_failed failed = inr (b, first, failed_first (record_writes file) (v ∷ []) b c failed)

    module _ (second : AllWritten (record_writes file) b c) (d : Outside) where
      pub last_wrote : (result : Result Unit DeviceFailed) → Wrote v c d result → WroteAll all a d result
      last_wrote (Ok done) whole = (b, first, all_then (record_writes file) (v ∷ []) b c d second (d, whole, refl))
      last_wrote (Err failed) broken = inr (b, first, failed_later (record_writes file) (v ∷ []) b c d second (inl broken))

pub no_record : (file : Option RecordFile) (a : Outside) → file ≡ None → AllWritten (record_writes file) a a
no_record file a none = subst (λ r. AllWritten (record_writes r) a a) (sym none) refl

pub one_record : (file : Option RecordFile) (r : RecordFile) (a b : Outside) (result : Result Unit DeviceFailed) → file ≡ Some r → Wrote (to_file r.name r.text) a b result → WroteAll (record_writes file) a b result
one_record file r a b result some wrote = subst (λ x. WroteAll (record_writes x) a b result) (sym some) (by result wrote)
  where
    by : (result : Result Unit DeviceFailed) → Wrote (to_file r.name r.text) a b result → WroteAll (to_file r.name r.text ∷ []) a b result
    by (Ok done) whole = (b, whole, refl)
    by (Err failed) broken = inl broken

-- ---- a run

-- the names of the record's file, if there is one
abbrev pub record_names : Option RecordFile → List (List ℕ)
record_names None = []
record_names (Some r) = r.name ∷ []

-- nothing of other files changed
abbrev pub SpareFiles : Option RecordFile → (before now : Option Disk) → Type 0
SpareFiles None before now = now ≡ before
SpareFiles (Some r) before now = SameElsewhere before now r.name

same_disk : (before now : Option Disk) (name : List ℕ) → now ≡ before → SameElsewhere before now name
same_disk before now name same = λ old tells. (old, same ∙ tells, λ other is. refl)

pub same_spares : (file : Option RecordFile) (before now : Option Disk) → now ≡ before → SpareFiles file before now
same_spares None before now same = same
same_spares (Some r) before now same = same_disk before now r.name same

pub same_only : (name : Option (List ℕ)) (before now : Option Disk) → now ≡ before → OnlyFile name before now
same_only None before now same = same
same_only (Some name) before now same = same_disk before now name same

-- All was written.
pub record LifeWritten (out err : List ℕ) (file : Option RecordFile) (a b : Outside) : Type 0 where
  pub out_is : b.out ≡ gained a.out out
  pub err_is : b.err ≡ gained a.err err
  pub filed : Filed file a.disk b.disk
  pub asked : b.asked ≡ gained a.asked (record_names file)
  pub left : b.left ≡ a.left

pub life_written : (out err : List ℕ) (file : Option RecordFile) (a b : Outside) → AllWritten (to_out out ∷ (record_writes file ++ to_err err ∷ [])) a b → LifeWritten out err file a b
life_written out err None a b (c, first, (d, second, same)) =
    let last : b ≡ record c { err = gained c.err err } = same ∙ second in
    record {
      out_is = ap (λ (x : Outside). x.out) last ∙ ap (λ (x : Outside). x.out) first;
      err_is = ap (λ (x : Outside). x.err) last ∙ ap (λ (x : Outside). gained x.err err) first;
      filed = ap (λ (x : Outside). x.disk) last ∙ ap (λ (x : Outside). x.disk) first;
      asked = ap (λ (x : Outside). x.asked) last ∙ ap (λ (x : Outside). x.asked) first ∙ sym (gained_none a.asked);
      left = ap (λ (x : Outside). x.left) last ∙ ap (λ (x : Outside). x.left) first;
    }
life_written out err (Some r) a b (c, first, (d, put, (e, second, same))) =
    let last : b ≡ record d { err = gained d.err err } = same ∙ second in
    let disk : b.disk ≡ d.disk = ap (λ (x : Outside). x.disk) last in
    let had : c.disk ≡ a.disk = ap (λ (x : Outside). x.disk) first in
    record {
      out_is = ap (λ (x : Outside). x.out) last ∙ ap (λ (x : Outside). x.out) put.rest ∙ ap (λ (x : Outside). x.out) first;
      err_is = ap (λ (x : Outside). x.err) last ∙ ap (λ (x : Outside). gained x.err err) put.rest ∙ ap (λ (x : Outside). gained x.err err) first;
      filed = subst (λ x. Filed (Some r) a.disk x) (sym disk) (subst (λ x. Filed (Some r) x d.disk) had (put.holds, put.others));
      asked = ap (λ (x : Outside). x.asked) last ∙ put.asked ∙ ap (λ (x : Outside). gained x.asked (r.name ∷ [])) first;
      left = ap (λ (x : Outside). x.left) last ∙ ap (λ (x : Outside). x.left) put.rest ∙ ap (λ (x : Outside). x.left) first;
    }

-- A device failed.
pub record LifeBroken (file : Option RecordFile) (a b : Outside) : Type 0 where
  pub rose : Rose a.outs b.outs ⊎ (Rose a.puts b.puts ⊎ Rose a.errs b.errs)
  pub spared : SpareFiles file a.disk b.disk
  pub asked : (b.asked ≡ gained a.asked (record_names file)) ⊎ (b.asked ≡ a.asked)

out_broken : (out : List ℕ) (file : Option RecordFile) (a b : Outside) → Broken (to_out out) a b → LifeBroken file a b
out_broken out file a b is = record {
  rose = inl is.0;
  spared = same_spares file a.disk b.disk (ap (λ (x : Outside). x.disk) is.2);
  asked = inr (ap (λ (x : Outside). x.asked) is.2);
}

pub life_broken : (out err : List ℕ) (file : Option RecordFile) (a b : Outside) → WriteFailed (to_out out ∷ (record_writes file ++ to_err err ∷ [])) a b → LifeBroken file a b
life_broken out err file a b (inl broken) = out_broken out file a b broken
life_broken out err None a b (inr (c, first, inr (d, second, none))) = absurd none
life_broken out err None a b (inr (c, first, inl broken)) = record {
  rose = inr (inr (subst (λ count. Rose count b.errs) (ap (λ (x : Outside). x.errs) first) broken.0));
  spared = ap (λ (x : Outside). x.disk) broken.2 ∙ ap (λ (x : Outside). x.disk) first;
  asked = inr (ap (λ (x : Outside). x.asked) broken.2 ∙ ap (λ (x : Outside). x.asked) first);
}
life_broken out err (Some r) a b (inr (c, first, inl broken)) = record {
  rose = inr (inl (subst (λ count. Rose count b.puts) (ap (λ (x : Outside). x.puts) first) broken.failed));
  spared = subst (λ x. SameElsewhere x b.disk r.name) (ap (λ (x : Outside). x.disk) first) broken.others;
  asked = by broken.asked;
}
  where
    by : (b.asked ≡ gained c.asked (r.name ∷ [])) ⊎ (b.asked ≡ c.asked) → (b.asked ≡ gained a.asked (r.name ∷ [])) ⊎ (b.asked ≡ a.asked)
    by (inl is) = inl (is ∙ ap (λ (x : Outside). gained x.asked (r.name ∷ [])) first)
    by (inr is) = inr (is ∙ ap (λ (x : Outside). x.asked) first)
life_broken out err (Some r) a b (inr (c, first, inr (d, put, inr (e, second, none)))) = absurd none
life_broken out err (Some r) a b (inr (c, first, inr (d, put, inl broken))) = record {
  rose = inr (inr (subst (λ count. Rose count b.errs) (ap (λ (x : Outside). x.errs) put.rest ∙ ap (λ (x : Outside). x.errs) first) broken.0));
  spared = subst (λ x. SameElsewhere a.disk x r.name) (sym (ap (λ (x : Outside). x.disk) broken.2)) (subst (λ x. SameElsewhere x d.disk r.name) (ap (λ (x : Outside). x.disk) first) put.others);
  asked = inl (ap (λ (x : Outside). x.asked) broken.2 ∙ put.asked ∙ ap (λ (x : Outside). gained x.asked (r.name ∷ [])) first);
}

-- the record's file is the one that the words name
pub names_are : (name : Option (List ℕ)) (text : List ℕ) → record_names (option_map (λ n. record { name = n; text = text }) name) ≡ recorded_as name
names_are None text = refl
names_are (Some name) text = refl

pub spares_only : (name : Option (List ℕ)) (text : List ℕ) (before now : Option Disk) → SpareFiles (option_map (λ n. record { name = n; text = text }) name) before now → OnlyFile name before now
spares_only None text before now is = is
spares_only (Some name) text before now is = is

pub filed_spares : (file : Option RecordFile) (before now : Option Disk) → Filed file before now → SpareFiles file before now
filed_spares None before now is = is
filed_spares (Some r) before now is = is.1

-- ---- a refusal

-- the second output alone was written
abbrev pub OnlyErr : (a b : Outside) → Type 0
OnlyErr a b = b ≡ record a { err = b.err; errs = b.errs }

pub line_written : (line : List ℕ) (a b : Outside) → AllWritten (to_err line ∷ []) a b → OnlyErr a b
line_written line a b (c, first, same) =
    let is : b ≡ record a { err = gained a.err line } = same ∙ first in
    is ∙ ap (λ (x : Outside). record a { err = x.err; errs = x.errs }) (sym is)

pub line_broken : (line : List ℕ) (a b : Outside) → WriteFailed (to_err line ∷ []) a b → OnlyErr a b × Rose a.errs b.errs
line_broken line a b (inl broken) = (broken.2, broken.0)
line_broken line a b (inr (c, first, none)) = absurd none

-- a refusal ends a call as it ends the shorter one
refusal_ends : (e : Ended) (a b : Outside) (answer : Answer) → Written run_ending (Err e) a b answer → Written lived_ending (Err e) a b (unlived answer)
refusal_ends e a b answer (inl whole) = inl (whole.0, ap unlived whole.1)
refusal_ends NoMemory a b answer (inr broken) = inr (broken.0, ap unlived broken.1)
refusal_ends (Ran outcome) a b answer (inr broken) = inr (broken.0, ap unlived broken.1)
refusal_ends Usage a b answer (inr broken) = inr (broken.0, ap unlived broken.1)
refusal_ends (ReadFault name) a b answer (inr broken) = inr (broken.0, ap unlived broken.1)
refusal_ends (TooLong name) a b answer (inr broken) = inr (broken.0, ap unlived broken.1)
refusal_ends (Program fault) a b answer (inr broken) = inr (broken.0, ap unlived broken.1)
refusal_ends (Script fault) a b answer (inr broken) = inr (broken.0, ap unlived broken.1)
refusal_ends WriteFault a b answer (inr broken) = inr (broken.0, ap unlived broken.1)

pub refused_ends : (e : Ended) (a b : Outside) (answer : Answer) → EndsWith run_ending NoMemory (Err e) a b answer → EndsWith lived_ending NoMemory (Err e) a b (unlived answer)
refused_ends e a b answer (inl is) = inl (refusal_ends e a b answer is)
refused_ends e a b answer (inr is) = inr (refusal_ends NoMemory a b answer is)

pub full_ends : (d : Result Life Ended) (a b : Outside) (answer : Answer) → Written run_ending (Err NoMemory) a b answer → EndsWith lived_ending NoMemory d a b (unlived answer)
full_ends d a b answer is = inr (refusal_ends NoMemory a b answer is)

-- a run ends it
module _ (life : Life) (text : List ℕ) (a b : Outside) (lived : Lived) (text_is : text ≡ err_of life.delivery) where
  pub life_ends : AllWritten (to_out life.delivery.out ∷ (record_writes life.file ++ to_err text ∷ [])) a b → lived ≡ answer_of (Ok life) → EndsWith lived_ending NoMemory (Ok life) a b lived
  life_ends whole is = inl (inl (subst (λ t. AllWritten (to_out life.delivery.out ∷ (record_writes life.file ++ to_err t ∷ [])) a b) text_is whole, is))

  pub life_fails : WriteFailed (to_out life.delivery.out ∷ (record_writes life.file ++ to_err text ∷ [])) a b → lived ≡ unwritten_of (Ok life) → EndsWith lived_ending NoMemory (Ok life) a b lived
  life_fails failed is = inl (inr (subst (λ t. WriteFailed (to_out life.delivery.out ∷ (record_writes life.file ++ to_err t ∷ [])) a b) text_is failed, is))
