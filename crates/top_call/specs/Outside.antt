-- What is known of all the devices of a call at one time.
use Rattle.std.specs.Prelude.{◌≡◌, ℕ, List, [], Option, Some, None}
use Rattle.std.specs.Option.{ForSome}
use Rattle.oc_base.specs.Outside.{Disk}
use Rattle.oc_base.specs.declared.files.Files as files
use Rattle.oc_base.specs.declared.sink.Sink as sink
use Rattle.oc_base.specs.declared.source.Source as source

-- What the files have and the names that they were asked for, what is left of the input, what both outputs hold, and how often
-- each device failed: the files at a read and at a write, the input, the outputs.
pub record Outside : Type 0 where
  pub disk : Option Disk
  pub asked : Option (List (List ℕ))
  pub left : Option (List ℕ)
  pub out : Option (List ℕ)
  pub err : Option (List ℕ)
  pub takes : Option ℕ
  pub puts : Option ℕ
  pub reads : Option ℕ
  pub outs : Option ℕ
  pub errs : Option ℕ

-- A call has some of the devices. One that it hasn't got has nothing, and can't fail.
abbrev pub no_device : Outside
no_device = record {
  disk = Some (λ name. None);
  asked = Some [];
  left = Some [];
  out = Some [];
  err = Some [];
  takes = None;
  puts = None;
  reads = None;
  outs = None;
  errs = None;
}

-- these devices, and the rest
abbrev pub with_files : {F : Type 0} → files.Ghosts F → F → Outside → Outside
with_files meaning f rest = record rest { disk = meaning.disk f; asked = meaning.asked f; takes = meaning.take_faults f; puts = meaning.put_faults f }

abbrev pub with_input : {I : Type 0} → source.Ghosts I → I → Outside → Outside
with_input meaning i rest = record rest { left = meaning.left i; reads = meaning.faults i }

abbrev pub with_out : {O : Type 0} → sink.Ghosts O → O → Outside → Outside
with_out meaning o rest = record rest { out = meaning.holds o; outs = meaning.faults o }

abbrev pub with_err : {E : Type 0} → sink.Ghosts E → E → Outside → Outside
with_err meaning e rest = record rest { err = meaning.holds e; errs = meaning.faults e }

-- where files and input tell what they have
abbrev pub Told : Outside → (Disk → (input : List ℕ) → Type 0) → Type 0
Told known fact = ForSome known.disk (λ disk. ForSome known.left (λ input. fact disk input))

-- Nothing was written: the names that were asked for, what is left of the input, and what failed at a read may be other.
abbrev pub OnlyRead : (before now : Outside) → Type 0
OnlyRead before now = now ≡ record before { asked = now.asked; left = now.left; takes = now.takes; reads = now.reads }
