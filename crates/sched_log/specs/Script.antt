-- The first fault of a script, and its events.
use Rattle.std.specs.Prelude.{ℕ, ◌+◌, Bool, true, false, not, ◌&&◌, nat_lt, List, [], ◌∷◌, ◌++◌, length, map, take, get_or, Option, Some, None, sum_by, flat_map}
use Rattle.std.specs.List.{list_any, range_with_len}
use Rattle.std.specs.Option.{option_map}
use Rattle.finite.specs.First.{first_of, when}
use Rattle.texts.specs.Texts.{lines_of}
use Rattle.sched_log.specs.Lines.{line_of}
use Rattle.image.specs.Picture.{Picture}
use Rattle.sched_log.specs.Limits.{end_missing, after_end, past_limit, count_limit}
use Rattle.sched_log.specs.declared.event.Event.{Event}
use Rattle.sched_log.specs.declared.event.Event.TheVariants.{Steps, Real, Till, Snap, Replace, Given, Retire}
use Rattle.sched_log.specs.declared.line.Line.{Line}
use Rattle.sched_log.specs.declared.line.Line.TheVariants as line
use Rattle.sched_log.specs.declared.fault.ScriptFault.{ScriptFault}
use Rattle.sched_log.specs.declared.fault.ScriptFault.TheVariants as fault

abbrev pub is_end : Line → Bool
is_end line.End = true
is_end _ = false

abbrev pub is_command : Line → Bool
is_command line.End = true
is_command (line.Does e) = true
is_command _ = false

-- the n of an event
abbrev pub count : Event → ℕ
count (Steps h n) = n
count (Real h n) = n
count (Till n) = n
count Snap = 0
count Replace = 0
count (Given parts) = 0
count Retire = 0

-- how many plans an event has, a snapshot's among them
abbrev pub plan_count : Event → ℕ
plan_count Replace = 1
plan_count (Given parts) = 1
plan_count _ = 0

abbrev pub event_of : Line → List Event
event_of (line.Does e) = e ∷ []
event_of _ = []

abbrev pub count_of : Line → ℕ
count_of (line.Does e) = count e
count_of _ = 0

-- the fault that a line has by itself
abbrev pub own_fault : Line → Option ℕ
own_fault (line.Wrong kind) = Some kind
own_fault _ = None

-- the kind of a line's fault, where an end comes before it or not, and the counts up to it have this sum
unfoldable pub kind_of : Bool → (sum : ℕ) → Line → Option ℕ
kind_of ended sum line = first_of (
    own_fault line
    ∷ when (ended && is_command line) after_end
    ∷ when (nat_lt count_limit sum) past_limit
    ∷ [])

-- the fault of the line at place i, counted from 0
abbrev pub fault_at : List Line → ℕ → Option ScriptFault
fault_at lines i = option_map (λ kind. fault.Line (i + 1) kind)
    (kind_of (list_any is_end (take i lines)) (sum_by count_of (take (i + 1) lines)) (get_or lines i line.Passed))

-- that no end is there, which counts as a fault after the last line
abbrev pub no_end : List Line → Option ScriptFault
no_end lines = when (not (list_any is_end lines)) (fault.Line (length lines + 1) end_missing)

-- the first fault of lines
abbrev pub fault_in : List Line → Option ScriptFault
fault_in lines = first_of (map (fault_at lines) (range_with_len 0 (length lines)) ++ no_end lines ∷ [])

unfoldable pub script : Picture → List ℕ → List Line
script p bytes = map (line_of p) (lines_of bytes)

unfoldable pub fault_of : Picture → List ℕ → Option ScriptFault
fault_of p bytes = fault_in (script p bytes)

unfoldable pub events_of : Picture → List ℕ → List Event
events_of p bytes = flat_map event_of (script p bytes)
