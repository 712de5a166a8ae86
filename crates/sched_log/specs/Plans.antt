-- The plan of a line `replace F:B B; F:B`, with functions and blocks by their numbers.
use Rattle.std.specs.Prelude.{ℕ, Bool, false, not, ◌==◌, ◌&&◌, List, [], ◌∷◌, length, Option, Some, None, option_and_then}
use Rattle.std.specs.List.{slice_split, list_any, list_all, before_first}
use Rattle.texts.specs.Texts.{number_of}
use Rattle.plans.specs.declared.plan.Moved.{Moved}
use Rattle.sched_log.specs.Parts.{behind}

-- words are parted by one space (32), so two spaces have an empty word between them
abbrev pub words : List ℕ → List (List ℕ)
words text = slice_split (λ b. b == 32) text

abbrev pub any_empty : List (List ℕ) → Bool
any_empty words = list_any (λ w. length w == 0) words

abbrev pub are_words : List ℕ → Bool
are_words text = not (any_empty (words text))

-- what stands in front of the `:` (58) of a part is its function's number
abbrev pub func_text : List ℕ → List ℕ
func_text part = before_first (λ b. b == 58) part

-- and what stands behind it are the numbers of the blocks
abbrev pub blocks_text : List ℕ → Option (List ℕ)
blocks_text part = behind 58 part

abbrev pub are_there : Option (List ℕ) → Bool
are_there None = false
are_there (Some blocks) = are_words blocks

-- a space, and then words on both sides of a `:`
abbrev pub is_part : List ℕ → Bool
is_part [] = false
is_part (c ∷ part) = c == 32 && (are_words (func_text part) && are_there (blocks_text part))

-- the parts of a plan are parted by `;` (59); each begins with its space
abbrev pub pieces : List ℕ → List (List ℕ)
pieces text = slice_split (λ b. b == 59) text

-- the form of what stands behind the word `replace`, which has no `/` (47)
unfoldable pub is_plan : List ℕ → Bool
is_plan text = not (list_any (λ b. b == 47) text) && list_all is_part (pieces text)

abbrev pub with_first : {Y : Type 0} → Option Y → Option (List Y) → Option (List Y)
with_first (Some y) (Some ys) = Some (y ∷ ys)
with_first _ _ = None

-- what all elements are read as, where each is read
abbrev pub all_of : {X Y : Type 0} → (X → Option Y) → List X → Option (List Y)
all_of f [] = Some []
all_of f (x ∷ xs) = with_first (f x) (all_of f xs)

abbrev pub numbers_of : List ℕ → Option (List ℕ)
numbers_of text = all_of number_of (words text)

abbrev pub moved : Option ℕ → Option (List ℕ) → Option Moved
moved (Some func) (Some order) = Some (record { func = func; order = order })
moved _ _ = None

-- the function that a part moves, where its words are numbers
abbrev pub moved_of : List ℕ → Option Moved
moved_of [] = None
moved_of (c ∷ part) = moved (number_of (func_text part)) (option_and_then numbers_of (blocks_text part))

unfoldable pub parts_of : List ℕ → Option (List Moved)
parts_of text = all_of moved_of (pieces text)
