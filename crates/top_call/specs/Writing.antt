-- What a call writes, in order, up to the first fault.
use Rattle.std.specs.Prelude.{◌≡◌, ◌⊎◌, ℕ, List, [], ◌∷◌, Result, Ok, Err}
use Rattle.oc_base.specs.Outside.{Rose, gained, GainedPart, HasNow, SameElsewhere}
use Rattle.oc_base.specs.declared.fault.Failed.{Failed}
use Rattle.top_call.specs.Outside.{Outside}

-- bytes for an output, or a whole file
pub data Write : Type 0 where
  to_out : (bytes : List ℕ) → Write
  to_err : (bytes : List ℕ) → Write
  to_file : (name bytes : List ℕ) → Write

-- The file has these bytes, and nothing else happened.
pub record FileWritten (name bytes : List ℕ) (before now : Outside) : Type 0 where
  pub holds : HasNow before.disk now.disk name bytes
  pub others : SameElsewhere before.disk now.disk name
  pub asked : now.asked ≡ gained before.asked (name ∷ [])
  pub rest : now ≡ record before { disk = now.disk; asked = now.asked }

-- The files failed: nothing is known of this file, and nothing else happened.
pub record FileFailed (name : List ℕ) (before now : Outside) : Type 0 where
  pub failed : Rose before.puts now.puts
  pub others : SameElsewhere before.disk now.disk name
  pub asked : (now.asked ≡ gained before.asked (name ∷ [])) ⊎ (now.asked ≡ before.asked)
  pub rest : now ≡ record before { disk = now.disk; asked = now.asked; puts = now.puts }

-- It was written whole.
abbrev pub Whole : Write → (before now : Outside) → Type 0
Whole (to_out bytes) before now = now ≡ record before { out = gained before.out bytes }
Whole (to_err bytes) before now = now ≡ record before { err = gained before.err bytes }
Whole (to_file name bytes) before now = FileWritten name bytes before now

-- Its device failed: a first part was written, and of a file nothing is known.
abbrev pub Broken : Write → (before now : Outside) → Type 0
Broken (to_out bytes) before now = Rose before.outs now.outs × GainedPart before.out now.out bytes × (now ≡ record before { out = now.out; outs = now.outs })
Broken (to_err bytes) before now = Rose before.errs now.errs × GainedPart before.err now.err bytes × (now ≡ record before { err = now.err; errs = now.errs })
Broken (to_file name bytes) before now = FileFailed name before now

-- All of them were written, one after the other.
abbrev pub AllWritten : List Write → (before now : Outside) → Type 0
AllWritten [] before now = now ≡ before
AllWritten (w ∷ ws) before now = (then : Outside) × Whole w before then × AllWritten ws then now

-- Those before the first whose device failed were written whole, and those after it not at all.
abbrev pub WriteFailed : List Write → (before now : Outside) → Type 0
WriteFailed [] before now = ⊥
WriteFailed (w ∷ ws) before now = Broken w before now ⊎ ((then : Outside) × Whole w before then × WriteFailed ws then now)

-- one write, by what its device answers
abbrev pub Wrote : Write → (before now : Outside) → Result (Unit {0}) Failed → Type 0
Wrote w before now (Ok done) = Whole w before now
Wrote w before now (Err failed) = Broken w before now

-- several, by what their devices answer
abbrev pub WroteAll : List Write → (before now : Outside) → Result (Unit {0}) Failed → Type 0
WroteAll ws before now (Ok done) = AllWritten ws before now
WroteAll ws before now (Err failed) = WriteFailed ws before now
