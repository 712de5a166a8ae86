-- What the blocks of a function without a fault are.
use Rattle.std.specs.Prelude.{◌≡◌, ℕ, ◌+◌, ◌%◌, ◌<◌, ◌≤◌, ◌≢◌, ◌⊎◌, ◌↔◌, Bool, true, List, [], ◌∷◌, AllPairs, slice_get, Some}
use Rattle.rv_isa.specs.Decoded.{decoded}
use Rattle.rv_isa.specs.declared.instr.Instr.{Instr}
use Rattle.rv_isa.specs.declared.instr.Instr.TheVariants.{Jal, Branch}
use Rattle.image.specs.declared.ranges.TextRange.{TextRange}
use Rattle.image.specs.declared.ranges.Func.{Func}
use Rattle.image.specs.Aims.{is_inside}
use Rattle.image.specs.Targets.{target}
use Rattle.image.specs.Texts.{word_at}
use Rattle.blocks.specs.declared.word.Word.{Word}
use Rattle.blocks.specs.declared.run.Run.{Run}
use Rattle.blocks.specs.Words.{falls_of, words_of}
use Rattle.blocks.specs.Blocks.{is_start}

-- one of the blocks begins at y
abbrev pub Begins : List Run → ℕ → Type 0
Begins [] y = ⊥
Begins (r ∷ rs) y = (r.from ≡ y) ⊎ Begins rs y

-- where f goes on at y, if y is in it, one of its blocks begins
abbrev pub BeginsInside : Func → List Run → ℕ → Type 0
BeginsInside f runs y = is_inside y f ≡ true → Begins runs y

-- f is a function, and these are all of its blocks
module _ (texts : List TextRange) (f : Func) (runs : List Run) where
  -- the targets of an instruction at a are multiples of 4, a branch's lies in f, and blocks begin at those in f and after a branch
  abbrev pub Aims : ℕ → Instr → Type 0
  Aims a (Branch c rs1 rs2 off) = (is_inside (target a off) f ≡ true) × (target a off % 4 ≡ 0) × Begins runs (target a off) × BeginsInside f runs (a + 4)
  Aims a (Jal rd off) = (target a off % 4 ≡ 0) × BeginsInside f runs (target a off)
  Aims a _ = Unit {0}

  -- w is the word of f at a
  pub record IsWord (a : ℕ) (w : Word) : Type 0 where
    pub at : w.at ≡ a
    pub whole : a % 4 ≡ 0
    pub inside : is_inside a f ≡ true
    pub is : word_at texts a ≡ Some w.word
    pub reads : decoded w.word ≡ Some w.instr
    pub aims : Aims a w.instr

  -- these are the words from a to b: after each but the last the next may come by itself, after the last as told, and no block
  -- begins at one that isn't the first
  abbrev pub IsRun : ℕ → List Word → ℕ → Bool → Type 0
  IsRun a [] b falls = ⊥
  IsRun a (w ∷ []) b falls = IsWord a w × (a + 4 ≡ b) × (falls_of w.instr ≡ falls)
  IsRun a (w ∷ v ∷ ws) b falls = IsWord a w × (falls_of w.instr ≡ true) × (Begins runs (a + 4) → ⊥) × IsRun (a + 4) (v ∷ ws) b falls

  -- these blocks lie one after another from a to b
  abbrev pub AreRuns : ℕ → List Run → ℕ → Type 0
  AreRuns a [] b = a ≡ b
  AreRuns a (r ∷ rs) b = (r.from ≡ a) × IsRun r.from r.words r.to r.falls × BeginsInside f runs r.to × AreRuns r.to rs b

-- these are the blocks of f: its words in order, cut at its starts and nowhere else
pub record IsSound (texts : List TextRange) (f : Func) (runs : List Run) : Type 0 where
  pub words : AreRuns texts f runs f.from runs f.to
  pub starts : (y : ℕ) → is_inside y f ≡ true → y % 4 ≡ 0 → Begins runs y ↔ (is_start f (words_of texts f) y ≡ true)
  pub entry : Begins runs f.from
  pub ascend : AllPairs (λ r s. r.from < s.from) runs

-- the functions of an image share no address with this one
abbrev pub IsAlone : List Func → ℕ → Func → Type 0
IsAlone funcs n f = (m : ℕ) (g : Func) → slice_get funcs m ≡ Some g → m ≢ n → (g.to ≤ f.from) ⊎ (f.to ≤ g.from)
