-- Words and files ask for one thing.
use Rattle.std.proofs.Common.{◌≡◌, ℕ, List, [], Option, Result, Ok, Err, ap, sym, ◌∙◌}
use Rattle.oc_base.specs.Outside.{Disk}
use Rattle.top_call.specs.Call.{DecidesBy}
use Rattle.top_call.specs.Reading.{given_by}
use Rattle.elf_make.specs.File.{elf_of}
use Rattle.rv_asm.specs.declared.program.Program.{Program}
use Rattle.rv_asm.proofs.OneProgram.{one_program, same_program, words_once}
use Rattle.guest_gen.specs.declared.decision.NewFile.{NewFile}
use Rattle.guest_gen.specs.declared.decision.Refusal.{Refusal}
use Rattle.guest_gen.specs.declared.decision.Refusal.TheVariants.{Fault}
use Rattle.guest_gen.specs.Generated.{text, IsGenerated}
use Rattle.guest_gen.specs.Decision.{Wanted, a_text, a_guest, IsFileOf, IsGuestFile, Assembles, Generates, Delivers, refusal_of, make, reading_of, Decides}

pub one_guest : (n : ℕ) (p q : Program) → IsGenerated n p → IsGenerated n q → p ≡ q
one_guest n p q a b =
    same_program p q (words_once p.text q.text (text n) a.words b.words) (a.in_data ∙ sym b.in_data) (a.start_at ∙ sym b.start_at)
    (a.functions_are ∙ sym b.functions_are) (a.objects_are ∙ sym b.objects_are) (a.relocations ∙ sym b.relocations)

abbrev file : List ℕ → List ℕ → Option (List ℕ) → NewFile
file name bytes line = record { name = name; bytes = bytes; line = line }

same_file : (f g : NewFile) → f.name ≡ g.name → f.bytes ≡ g.bytes → f.line ≡ g.line → f ≡ g
same_file f g name bytes line = ap (λ n. file n f.bytes f.line) name ∙ ap (λ b. file g.name b f.line) bytes ∙ ap (file g.name g.bytes) line

one_file : (text name : List ℕ) (f g : NewFile) → IsFileOf text name f → IsFileOf text name g → f ≡ g
one_file text name f g a b =
    same_file f g (a.named ∙ sym b.named)
    (a.written ∙ ap elf_of (one_program text a.program b.program a.assembled b.assembled) ∙ sym b.written) (a.quiet ∙ sym b.quiet)

one_guest_file : (n : ℕ) (name : List ℕ) (f g : NewFile) → IsGuestFile n name f → IsGuestFile n name g → f ≡ g
one_guest_file n name f g a b =
    same_file f g (a.named ∙ sym b.named)
    (a.written ∙ ap elf_of (one_guest n a.program b.program a.generated b.generated) ∙ sym b.written) (a.said ∙ sym b.said)

one_generated : (n : ℕ) (name : List ℕ) (d e : Result NewFile Refusal) → Generates n name d → Generates n name e → d ≡ e
one_generated n name (Ok f) (Ok g) a b = ap Ok (one_guest_file n name f g a b)
one_generated n name (Ok f) (Err r) a b = absurd b
one_generated n name (Err r) e a b = absurd a

one_assembled : (text name : List ℕ) (d e : Result NewFile Refusal) → Assembles text name d → Assembles text name e → d ≡ e
one_assembled text name (Ok f) (Ok g) a b = ap Ok (one_file text name f g a b)
one_assembled text name (Ok f) (Err (Fault line kind)) a b = let s = a.sound in cc
one_assembled text name (Ok f) (Err _) a b = absurd b
one_assembled text name (Err (Fault line kind)) (Ok g) a b = let s = b.sound in cc
one_assembled text name (Err (Fault line kind)) (Err (Fault line' kind')) a b = cc
one_assembled text name (Err (Fault line kind)) (Err _) a b = absurd b
one_assembled text name (Err _) e a b = absurd a

one_wanted : (wanted : Wanted) (d e : Result NewFile Refusal) → Delivers wanted d → Delivers wanted e → d ≡ e
one_wanted (a_text text output) d e a b = one_assembled text output d e a b
one_wanted (a_guest n output) d e a b = one_generated n output d e a b

one_given : (given : Result Wanted Refusal) (d e : Result NewFile Refusal) → DecidesBy make given d → DecidesBy make given e → d ≡ e
one_given (Ok wanted) d e a b = one_wanted wanted d e a b
one_given (Err refusal) d e a b = a ∙ sym b

pub one_decision : (words : List (List ℕ)) (disk : Disk) (d e : Result NewFile Refusal) → Decides words disk d → Decides words disk e → d ≡ e
one_decision words disk d e a b = one_given (given_by refusal_of (reading_of words) disk []) d e a b
