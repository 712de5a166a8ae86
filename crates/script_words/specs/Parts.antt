-- The first part of a plan's line that has the line's fault. Source: docs/scripts.md.
use Rattle.std.specs.Prelude.{ℕ, Bool, not, ◌==◌, nat_lt, List, [], ◌∷◌, ◌++◌, map, length, drop, Option, Some, None, is_none, option_and_then, if◌then◌else◌}
use Rattle.std.specs.List.{find}
use Rattle.std.specs.Option.{option_map, option_or}
use Rattle.image.specs.Picture.{Picture}
use Rattle.blocks.specs.Faults.{fault_of}
use Rattle.plans.specs.declared.plan.Moved.{Moved}
use Rattle.plans.specs.Orders.{is_among}
use Rattle.plans.specs.Plans.{moved_func}
use Rattle.plans.specs.Given.{block_count, is_missing, is_misordered}
use Rattle.sched_log.specs.Limits.{no_function, not_a_plan}
use Rattle.sched_log.specs.Lines.{moves}
use Rattle.sched_log.specs.Plans.{parts_of}
use Rattle.script_words.specs.declared.part.Blocks.{Blocks}
use Rattle.script_words.specs.declared.part.Fault.{Fault}
use Rattle.script_words.specs.declared.part.Fault.TheVariants.{NotThere, Twice, Count, BlockTwice, NoBlock}
use Rattle.script_words.specs.declared.part.Faulty.{Faulty}

-- the first that is told of an element by those before it
abbrev pub first_told : {X Y : Type 0} → (List X → X → Option Y) → (before : List X) → List X → Option Y
first_told f before [] = None
first_told f before (x ∷ xs) = option_or (f before x) (first_told f (before ++ x ∷ []) xs)

-- how many blocks a function counts as having, and whether it can be cut into blocks
abbrev pub blocks_of : Picture → Moved → Blocks
blocks_of p m = record { count = block_count p m; cut = is_none (fault_of p m.func) }

-- what is wrong with a block's number, which stands before it or doesn't
abbrev pub number_told : Blocks → (seen : Bool) → ℕ → Option Fault
number_told b seen n = if not (nat_lt n b.count) then Some (NoBlock n b) else (if seen then Some (BlockTwice n) else None)

abbrev pub number_fault : Blocks → (before : List ℕ) → ℕ → Option Fault
number_fault b before n = number_told b (is_among before n) n

-- what is wrong with an order: how many numbers it has, or the first that is wrong
unfoldable pub order_fault : Blocks → List ℕ → Option Fault
order_fault b order = if length order == b.count then first_told (number_fault b) [] order else Some (Count b.count (length order))

abbrev pub faulty : Moved → Fault → Faulty
faulty m fault = record { func = m.func; fault = fault }

-- what is wrong with a part, whose function stands before it or doesn't
unfoldable pub part_told : Picture → (seen : Bool) → Moved → Option Fault
part_told p seen m =
    if is_missing p m then Some NotThere
    else if seen then Some Twice
    else if is_misordered p m then order_fault (blocks_of p m) m.order
    else None

abbrev pub part_fault : Picture → (before : List Moved) → Moved → Option Faulty
part_fault p before m = option_map (faulty m) (part_told p (is_among (map moved_func before) m.func) m)

-- the first part whose function isn't there
abbrev pub missing_part : Picture → List Moved → Option Faulty
missing_part p parts = option_map (λ m. faulty m NotThere) (find (is_missing p) parts)

-- the parts of a line, where it is that of a plan
unfoldable pub parts_in : (line : List ℕ) → Option (List Moved)
parts_in line = if moves line then parts_of (drop 7 line) else None

-- the first part of a line that has a fault of this kind
unfoldable pub faulty_in : Picture → (kind : ℕ) → (line : List ℕ) → Option Faulty
faulty_in p kind line =
    if kind == no_function then option_and_then (missing_part p) (parts_in line)
    else if kind == not_a_plan then option_and_then (first_told (part_fault p) []) (parts_in line)
    else None
