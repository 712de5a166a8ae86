-- Patches, and the words that they leave.
use Rattle.std.specs.Prelude.{◌≡◌, ℕ, ◌+◌, ◌++◌, List, [], ◌∷◌, length, map, All, Any, Option, Some, None, IsSome, IfSome}
use Rattle.image.specs.declared.ranges.TextRange.{TextRange}
use Rattle.image.specs.Texts.{word_at}
use Rattle.image.specs.Picture.{Picture, IsKept}
use Rattle.layout.specs.Laid.{Laid, IsLaid, item_at, with_word}
use Rattle.layout.specs.Points.{code_of}
use Rattle.layout.specs.Rows.{Renders}
use Rattle.layout.specs.Alone.{NamesCalls, RendersAlone}
use Rattle.layout.specs.Apart.{LieApart}
use Rattle.patcher.specs.declared.goal.Goal.{Goal}
use Rattle.patcher.specs.declared.patches.Patch.{Patch}
use Rattle.patcher.specs.declared.patches.Patches.{Patches}
use Rattle.patcher.specs.Goals.{goal_of, goal_in, IsMade}
use Rattle.patcher.specs.Texts.{text_span, IsTextOf, text_with}

-- ---- which patches
abbrev pub HasGoal : (ℕ → Option Goal) → Patch → Type 0
HasGoal goals s = (g : Goal) × (goals s.at ≡ Some g) × IsMade s.at g s.word

abbrev pub IsAt : ℕ → Patch → Type 0
IsAt a s = s.at ≡ a

-- each patch is of a call and makes it what it is to become, and each call has one
pub record ArePatchesOf (goals : ℕ → Option Goal) (list : List Patch) : Type 0 where
  pub each : All (HasGoal goals) list
  pub all : (a : ℕ) (g : Goal) → goals a ≡ Some g → Any (IsAt a) list

abbrev pub EachPatches : Picture → Option Laid → List Laid → List (List Patch) → Type 0
EachPatches p new [] [] = Unit {0}
EachPatches p new (l ∷ ls) (s ∷ ss) = ArePatchesOf (goal_in p new l) s × EachPatches p new ls ss
EachPatches p new _ _ = ⊥

-- the patches that send the calls of text and of the live layouts to the new layout
pub record ArePatches (p : Picture) (new : Option Laid) (lives : List Laid) (q : Patches) : Type 0 where
  pub of_text : ArePatchesOf (goal_of p new) q.text
  pub of_lives : EachPatches p new lives q.lives

-- ---- what they do
abbrev pub put_all : {S : Type 0} → (ℕ → ℕ → S → S) → List Patch → S → S
put_all put [] now = now
put_all put (s ∷ ss) now = put_all put ss (put s.at s.word now)

-- the text, and a layout, with these words
abbrev pub texts_with : List Patch → List TextRange → List TextRange
texts_with list ts = put_all text_with list ts

abbrev pub layout_with : List Patch → Laid → Laid
layout_with list l = put_all with_word list l

abbrev pub layouts_with : List (List Patch) → List Laid → List Laid
layouts_with (s ∷ ss) (l ∷ ls) = layout_with s l ∷ layouts_with ss ls
layouts_with _ ls = ls

-- each patch stands at a word of its text or layout
abbrev pub FitsText : List TextRange → List Patch → Type 0
FitsText now list = All (λ s. IsSome (word_at now s.at)) list

abbrev pub FitsLayout : Laid → List Patch → Type 0
FitsLayout l list = All (λ s. IsSome (item_at l.base l.words s.at)) list

abbrev pub EachFits : List Laid → List (List Patch) → Type 0
EachFits [] [] = Unit {0}
EachFits (l ∷ ls) (s ∷ ss) = FitsLayout l s × EachFits ls ss
EachFits _ _ = ⊥

pub record Fits (q : Patches) (now : List TextRange) (lives : List Laid) : Type 0 where
  pub in_text : FitsText now q.text
  pub in_lives : EachFits lives q.lives

-- ---- words by address, before and afterwards
-- a call is what it was to become, and every other word stands
abbrev pub IsSet : ℕ → Option Goal → (before after : Option ℕ) → Type 0
IsSet a None before after = after ≡ before
IsSet a (Some g) before after = (w : ℕ) × (after ≡ Some w) × IsMade a g w

pub record IsPatchedText (p : Picture) (new : Option Laid) (before after : List TextRange) : Type 0 where
  pub spans : map text_span after ≡ map text_span before
  pub words : (x : ℕ) → IsSet x (goal_of p new x) (word_at before x) (word_at after x)

pub record IsPatchedLayout (p : Picture) (new : Option Laid) (before after : Laid) : Type 0 where
  pub base : after.base ≡ before.base
  pub size : length after.words ≡ length before.words
  pub points : after.points ≡ before.points
  pub sites : after.sites ≡ before.sites
  pub pairs : after.pairs ≡ before.pairs
  pub words : (a : ℕ) → IsSet a (goal_in p new before a) (item_at before.base before.words a) (item_at after.base after.words a)

abbrev pub ArePatched : Picture → Option Laid → (before after : List Laid) → Type 0
ArePatched p new [] [] = Unit {0}
ArePatched p new (l ∷ ls) (m ∷ ms) = IsPatchedLayout p new l m × ArePatched p new ls ms
ArePatched p new _ _ = ⊥

-- ---- that the words render the program again
-- a layout that may be placed beside the live ones
pub record CanJoin (p : Picture) (lives : List Laid) (l : Laid) : Type 0 where
  pub laid : IsLaid l
  pub renders : RendersAlone p l
  pub apart : All (LieApart l) lives

-- text and live layouts that render the image, and a new layout that may be placed beside them
pub record CanPlace (p : Picture) (now : List TextRange) (lives : List Laid) (new : Option Laid) : Type 0 where
  pub kept : IsKept p
  pub text : IsTextOf p now
  pub laid : All IsLaid lives
  pub calls : All (NamesCalls p) lives
  pub renders : Renders (code_of p (word_at now) lives)
  pub joins : IfSome new (CanJoin p lives)

abbrev pub joined : List Laid → Option Laid → List Laid
joined lives None = lives
joined lives (Some l) = lives ++ l ∷ []

-- the words render the image, and the lists of each layout are those of its calls
pub record IsPlaced (p : Picture) (now : List TextRange) (lives : List Laid) : Type 0 where
  pub text : IsTextOf p now
  pub laid : All IsLaid lives
  pub calls : All (NamesCalls p) lives
  pub renders : Renders (code_of p (word_at now) lives)
