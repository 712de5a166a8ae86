-- The image of a program's bytes, or the first fault that holds. Source: this project.
use Rattle.std.specs.Prelude.{◌≡◌, ℕ, List, Option, Some, None}
use Rattle.oc_base.specs.declared.range.Range.{Range}
use Rattle.image.specs.Picture.{Picture, IsKept}
use Rattle.elf_read.specs.Faults as elf
use Rattle.elf_read.specs.Parts.{parts_of}
use Rattle.relocs.specs.Built as built
use Rattle.relocs.specs.Regions as regions
use Rattle.report.specs.declared.answer.Ended.{Ended}
use Rattle.report.specs.declared.answer.Ended.TheVariants.{Program}
use Rattle.report.specs.declared.answer.ProgramFault.{ProgramFault}
use Rattle.report.specs.declared.answer.ProgramFault.TheVariants as program

-- the region where moved code may lie: the one that is given, or the default
abbrev pub region_in : (program : List ℕ) → Option Range → Range
region_in program region = regions.region_of (parts_of program) region

-- an executable without a fault has this image, and it keeps what each image does
pub record IsBuilt (bytes : List ℕ) (region : Option Range) (image : Picture) : Type 0 where
  pub fine : elf.fault_of bytes ≡ None
  pub free : built.fault_of (parts_of bytes) (region_in bytes region) ≡ None
  pub is : built.IsImage (parts_of bytes) (region_in bytes region) image
  pub kept : IsKept image

-- the first fault of a program's file, or else of its image
abbrev pub HasFault : (program : List ℕ) → Option Range → ProgramFault → Type 0
HasFault bytes region (program.Elf fault) = elf.fault_of bytes ≡ Some fault
HasFault bytes region (program.Image fault) = (elf.fault_of bytes ≡ None) × (built.fault_of (parts_of bytes) (region_in bytes region) ≡ Some fault)

-- a refusal that is a fault of the program
abbrev pub Refuses : (program : List ℕ) → Option Range → Ended → Type 0
Refuses bytes region (Program fault) = HasFault bytes region fault
Refuses bytes region _ = ⊥
