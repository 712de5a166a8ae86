-- A program's bytes have one image, or one fault.
use Rattle.std.proofs.Common.{◌≡◌, ℕ, List, Option}
use Rattle.oc_base.specs.declared.range.Range.{Range}
use Rattle.image.specs.Picture.{Picture}
use Rattle.elf_read.specs.Parts.{parts_of}
use Rattle.relocs.proofs.OneImage.{one_image}
use Rattle.report.specs.declared.answer.ProgramFault.{ProgramFault}
use Rattle.report.specs.declared.answer.ProgramFault.TheVariants as program
use Rattle.delivered.specs.Building.{region_in, HasFault, IsBuilt}

-- a file with an image has no fault, and one with a fault one
pub one_fault : (bytes : List ℕ) (region : Option Range) (f g : ProgramFault) → HasFault bytes region f → HasFault bytes region g → f ≡ g
one_fault bytes region (program.Elf f) (program.Elf g) a b = cc
one_fault bytes region (program.Elf f) (program.Image g) a b = let e = b.0 in cc
one_fault bytes region (program.Image f) (program.Elf g) a b = let e = a.0 in cc
one_fault bytes region (program.Image f) (program.Image g) a b = let e = a.1 in let h = b.1 in cc

pub no_fault : (bytes : List ℕ) (region : Option Range) (p : Picture) (f : ProgramFault) → IsBuilt bytes region p → HasFault bytes region f → ⊥
no_fault bytes region p (program.Elf f) a b = let e = a.fine in cc
no_fault bytes region p (program.Image f) a b = let e = a.free in let g = b.1 in cc

pub one_built : (bytes : List ℕ) (region : Option Range) (p q : Picture) → IsBuilt bytes region p → IsBuilt bytes region q → p ≡ q
one_built bytes region p q a b = one_image (parts_of bytes) (region_in bytes region) p q a.is b.is
