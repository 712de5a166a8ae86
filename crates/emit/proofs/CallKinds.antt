-- What the word of a call reads as in the original text, and what it calls.
use Rattle.std.proofs.Common.{◌≡◌, ℕ, sym, ◌∙◌, subst}
use Rattle.std.specs.Prelude.{Some}
use Rattle.std.specs.Option.{option_and_then}
use Rattle.rv_isa.specs.declared.instr.Instr.{Instr}
use Rattle.rv_isa.specs.declared.instr.Instr.TheVariants as instr
use Rattle.image.specs.Targets.{target}
use Rattle.image.specs.Texts.{word_at}
use Rattle.image.specs.Picture.{Picture, IsKept}
use Rattle.layout.specs.Points.{read, site_of, second_of, start_of}
use Rattle.layout.proofs.CallWords.{bound, site_is_jal, second_is_jalr}
use Rattle.layout.proofs.Full.{site_target}
use Rattle.layout.proofs.TextRows.{read_is}

-- the word at x, which reads as an instruction, calls the function at g
abbrev pub CallsBy : Picture → (x g : ℕ) → Instr → Type 0
CallsBy p x g (instr.Jal rd off) = target x off ≡ g
CallsBy p x g (instr.Jalr rd rs off) = option_and_then (start_of p) (second_of p x) ≡ Some g
CallsBy p x g _ = ⊥

abbrev pub IsCallOf : Picture → (x g : ℕ) → Type 0
IsCallOf p x g = (i : Instr) → read (word_at p.texts) x ≡ Some i → CallsBy p x g i

as_read : (p : Picture) (x g : ℕ) (i j : Instr) → Some i ≡ Some j → CallsBy p x g i → CallsBy p x g j
as_read p x g i j e c = let same : i ≡ j = cc in subst (CallsBy p x g) same c

pub site_is_call : (p : Picture) → IsKept p → (x g : ℕ) → option_and_then (start_of p) (site_of p x) ≡ Some g → IsCallOf p x g
site_is_call p k x g e i t =
    let f = bound (site_of p x) (start_of p) g e in
    let j = site_is_jal p k x f.0 f.1 in
    let r = read_is (word_at p.texts) x j.word (Some (instr.Jal j.rd j.off)) j.stands j.reads in
    as_read p x g (instr.Jal j.rd j.off) i (sym r ∙ t) (site_target p k x j.word j.rd g j.off e j.stands j.reads)

pub second_is_call : (p : Picture) → IsKept p → (x g : ℕ) → option_and_then (start_of p) (second_of p x) ≡ Some g → IsCallOf p x g
second_is_call p k x g e i t =
    let f = bound (second_of p x) (start_of p) g e in
    let j = second_is_jalr p k x f.0 f.1 in
    let r = read_is (word_at p.texts) x j.word (Some (instr.Jalr j.rd j.rs j.off)) j.stands j.reads in
    as_read p x g (instr.Jalr j.rd j.rs j.off) i (sym r ∙ t) e
