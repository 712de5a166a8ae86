-- What a line reads as, by itself.
use Rattle.std.specs.Prelude.{ℕ, Bool, ◌==◌, ◌||◌, nat_eq, nat_le, List, [], ◌∷◌, length, drop, codes, Option, Some, None, if◌then◌else◌}
use Rattle.std.specs.List.{slice_index_or, starts_with}
use Rattle.std.specs.Str.{bytes_eq}
use Rattle.texts.specs.Texts.{number_of}
use Rattle.image.specs.Picture.{Picture}
use Rattle.plans.specs.declared.plan.Moved.{Moved}
use Rattle.plans.specs.declared.plan.PlanFault.{PlanFault}
use Rattle.plans.specs.declared.plan.PlanFault.TheVariants.{NoFunction}
use Rattle.plans.specs.Given.{plan_fault}
use Rattle.sched_log.specs.Plans.{words, any_empty, is_plan, parts_of}
use Rattle.sched_log.specs.Limits.{last_hart, wrong_form, bad_number, no_function, not_a_plan}
use Rattle.sched_log.specs.declared.event.Event.{Event}
use Rattle.sched_log.specs.declared.event.Event.TheVariants.{Steps, Real, Till, Snap, Replace, Given, Retire}
use Rattle.sched_log.specs.declared.line.Line.{Line}
use Rattle.sched_log.specs.declared.line.Line.TheVariants.{Passed, Does, End, Wrong}

-- an event of a hart, where both numbers are read and there may be such a hart
abbrev pub of_hart : (ℕ → ℕ → Event) → Option ℕ → Option ℕ → Line
of_hart event (Some h) (Some n) = if nat_le h last_hart then Does (event h n) else Wrong bad_number
of_hart event _ _ = Wrong bad_number

-- turns, where their number is read
abbrev pub turns : Option ℕ → Line
turns (Some n) = Does (Till n)
turns None = Wrong bad_number

-- the commands by their words
unfoldable pub command : List (List ℕ) → Line
command (name ∷ []) =
    if bytes_eq name (codes "end") then End
    else if bytes_eq name (codes "snap") then Does Snap
    else if bytes_eq name (codes "replace") then Does Replace
    else if bytes_eq name (codes "retire") then Does Retire
    else Wrong wrong_form
command (name ∷ n ∷ []) = if bytes_eq name (codes "till") then turns (number_of n) else Wrong wrong_form
command (name ∷ h ∷ n ∷ []) =
    if bytes_eq name (codes "steps") then of_hart Steps (number_of h) (number_of n)
    else if bytes_eq name (codes "real") then of_hart Real (number_of h) (number_of n)
    else Wrong wrong_form
command _ = Wrong wrong_form

abbrev pub by_words : List (List ℕ) → Line
by_words words = if any_empty words then Wrong wrong_form else command words

-- parts that were read, by what is wrong with them as a plan of the image
abbrev pub as_plan : List Moved → Option PlanFault → Line
as_plan parts None = Does (Given parts)
as_plan parts (Some NoFunction) = Wrong no_function
as_plan parts (Some _) = Wrong not_a_plan

abbrev pub with_parts : Picture → Option (List Moved) → Line
with_parts p (Some parts) = as_plan parts (plan_fault p parts)
with_parts p None = Wrong bad_number

-- a plan by what comes after the word `replace`: its form, then its numbers, then its functions, then its blocks
unfoldable pub plan_line : Picture → List ℕ → Line
plan_line p text = if is_plan text then with_parts p (parts_of text) else Wrong wrong_form

-- the empty line, and a comment, which begins with `#` (35)
abbrev pub is_passed : List ℕ → Bool
is_passed line = length line == 0 || slice_index_or line 0 0 == 35

-- the line of a plan
abbrev pub moves : List ℕ → Bool
moves line = starts_with nat_eq line (codes "replace ")

unfoldable pub line_of : Picture → List ℕ → Line
line_of p line = if is_passed line then Passed else (if moves line then plan_line p (drop 7 line) else by_words (words line))
