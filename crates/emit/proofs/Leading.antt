-- What the words of a block must be for its layout: each goes on at places where the layout can go.
use Rattle.std.specs.Prelude.{◌≡◌, ℕ, ◌+◌, ◌<◌, ◌^◌, Bool, true, false, List, [], ◌∷◌, Option, Some, ◌⊎◌}
use Rattle.std.specs.List.{flat_map}
use Rattle.rv_isa.specs.Decoded.{decoded}
use Rattle.rv_isa.specs.declared.instr.Instr.{Instr}
use Rattle.rv_isa.specs.declared.instr.Instr.TheVariants as instr
use Rattle.image.specs.declared.ranges.Func.{Func}
use Rattle.image.specs.Aims.{is_inside}
use Rattle.image.specs.Targets.{target}
use Rattle.image.specs.Picture.{Picture}
use Rattle.blocks.specs.declared.word.Word.{Word}
use Rattle.blocks.specs.declared.run.Run.{Run}
use Rattle.blocks.specs.Words.{falls_of}
use Rattle.blocks.specs.Sound.{Begins}
use Rattle.layout.specs.Points.{in_range}
use Rattle.emit.specs.declared.entry.Entry.{Entry}
use Rattle.emit.specs.Entries.{Calls, function_entries}

-- a function, and its blocks in a plan's order
pub record Moving : Type 0 where
  pub func : Func
  pub runs : List Run

abbrev pub function_of : Calls → Moving → List Entry
function_of c m = function_entries c m.func m.runs

abbrev pub emitted : Calls → List Moving → List Entry
emitted c ms = flat_map (function_of c) ms

-- an address that is free of layouts
pub record IsOutside (p : Picture) (y : ℕ) : Type 0 where
  pub free : in_range p.region y ≡ false
  pub below : y < 2 ^ 64

-- known: addresses with a Start in the layout. outside: addresses that are free of layouts
module _ (known outside : ℕ → Type 0) where
  -- a jump to y from the words of f leads to a Start of y
  pub record Leads (f : Func) (y : ℕ) : Type 0 where
    pub here : is_inside y f ≡ true → known y
    pub there : is_inside y f ≡ false → outside y

  -- the site at x, if it is one, calls the function at y
  pub record SiteAims (c : Calls) (x y : ℕ) : Type 0 where
    pub is : (g : ℕ) → c.site x ≡ Some g → y ≡ g
    pub moved : (g : ℕ) → c.site x ≡ Some g → c.moved g ≡ true → known g
    pub stays : (g : ℕ) → c.site x ≡ Some g → outside g

module _ (text second : ℕ → Option ℕ) (known outside : ℕ → Type 0) (c : Calls) (f : Func) where
  -- the targets of the word at x are places to jump to
  abbrev pub Aims : ℕ → Instr → Type 0
  Aims x (instr.Jal rd off) = Leads known outside f (target x off) × SiteAims known outside c x (target x off)
  Aims x (instr.Jalr rd rs off) = (g : ℕ) → c.second x ≡ Some g → (second x ≡ Some g) × (c.moved g ≡ true → known g)
  Aims x (instr.Branch k rs1 rs2 off) = Leads known outside f (target x off) × Leads known outside f (x + 4)
  Aims x _ = Unit {0}

  -- the word at a
  pub record IsWord (a : ℕ) (w : Word) : Type 0 where
    pub at : w.at ≡ a
    pub is : text a ≡ Some w.word
    pub reads : decoded w.word ≡ Some w.instr
    pub aims : Aims a w.instr

  -- a block's words, from a to b
  abbrev pub IsRun : ℕ → List Word → ℕ → Bool → Type 0
  IsRun a [] b falls = ⊥
  IsRun a (w ∷ []) b falls = IsWord a w × (a + 4 ≡ b) × (falls_of w.instr ≡ falls)
  IsRun a (w ∷ v ∷ ws) b falls = IsWord a w × (falls_of w.instr ≡ true) × IsRun (a + 4) (v ∷ ws) b falls

  -- a block of the function
  pub record IsBlock (r : Run) : Type 0 where
    pub words : IsRun r.from r.words r.to r.falls
    pub leads : r.falls ≡ true → Leads known outside f r.to

  abbrev pub AllBlocks : List Run → Type 0
  AllBlocks [] = Unit {0}
  AllBlocks (r ∷ rs) = IsBlock r × AllBlocks rs

-- functions with their blocks in a plan's order
abbrev pub AllFunctions : (ℕ → Option ℕ) → (ℕ → Option ℕ) → (ℕ → Type 0) → (ℕ → Type 0) → Calls → List Moving → Type 0
AllFunctions text second known outside c [] = Unit {0}
AllFunctions text second known outside c (m ∷ ms) = AllBlocks text second known outside c m.func m.runs × AllFunctions text second known outside c ms

-- a block of the plan begins at y
abbrev pub StartsIn : List Moving → ℕ → Type 0
StartsIn [] y = ⊥
StartsIn (m ∷ ms) y = Begins m.runs y ⊎ StartsIn ms y
