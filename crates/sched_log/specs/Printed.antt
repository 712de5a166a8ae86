-- What is written of events.
use Rattle.std.specs.Prelude.{◌≡◌, ℕ, List, [], ◌∷◌, ◌++◌, None, codes, decimal, flat_map}
use Rattle.image.specs.Picture.{Picture}
use Rattle.plans.specs.declared.plan.Moved.{Moved}
use Rattle.sched_log.specs.Script.{fault_of, events_of}
use Rattle.sched_log.specs.declared.event.Event.{Event}
use Rattle.sched_log.specs.declared.event.Event.TheVariants.{Steps, Real, Till, Snap, Replace, Given, Retire}

-- words with a space (32) between them
abbrev pub spaced : List ℕ → List ℕ → List ℕ
spaced first rest = first ++ 32 ∷ rest

-- texts with a byte between each two
abbrev pub row : {X : Type 0} → ℕ → (X → List ℕ) → List X → List ℕ
row mark text [] = []
row mark text (x ∷ xs) = text x ++ flat_map (λ y. mark ∷ text y) xs

-- a function, `:` (58), and its blocks with spaces between them
abbrev pub part_text : Moved → List ℕ
part_text m = decimal m.func ++ 58 ∷ row 32 decimal m.order

-- the parts with `;` (59) between them, each with a space in front of it
abbrev pub plan_text : List Moved → List ℕ
plan_text parts = row 59 (λ m. 32 ∷ part_text m) parts

-- numbers have no leading zeros
abbrev pub line_text : Event → List ℕ
line_text (Steps h n) = spaced (codes "steps") (spaced (decimal h) (decimal n))
line_text (Real h n) = spaced (codes "real") (spaced (decimal h) (decimal n))
line_text (Till n) = spaced (codes "till") (decimal n)
line_text Snap = codes "snap"
line_text Replace = codes "replace"
line_text (Given parts) = codes "replace" ++ plan_text parts
line_text Retire = codes "retire"

-- a line and its newline (10)
abbrev pub terminated : List ℕ → List ℕ
terminated line = line ++ 10 ∷ []

-- the lines of the events in order, and the end
unfoldable pub printed : List Event → List ℕ
printed events = flat_map (λ e. terminated (line_text e)) events ++ terminated (codes "end")

-- an event as it is read again: a plan that moves nothing is written as the word alone
abbrev pub as_read : Event → Event
as_read (Given []) = Replace
as_read e = e

-- the text is a script for this image, and asks for these events
pub record ReadsAs (p : Picture) (events : List Event) (text : List ℕ) : Type 0 where
  pub fine : fault_of p text ≡ None
  pub same : events_of p text ≡ events
