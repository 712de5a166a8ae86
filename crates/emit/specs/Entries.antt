-- The words of a plan's layout and what each stands for, before it is put at a base: functions in the plan's order, the blocks of each in its
-- order, the renderings of a block's words, and Hops. Source: this project; the outline is OCOLOS (Zhang et al., MICRO 2022).
use Rattle.std.specs.Prelude.{ℕ, ◌+◌, ◌==◌, nat_le, Bool, true, false, not, ◌&&◌, List, [], ◌∷◌, ◌++◌, Option, Some, None, slice_get, if◌then◌else◌}
use Rattle.std.specs.List.{flat_map, filter_map, list_any}
use Rattle.std.specs.Option.{option_and_then}
use Rattle.rv_isa.specs.Conditions.{opposite}
use Rattle.rv_isa.specs.declared.instr.Cond.{Cond}
use Rattle.rv_isa.specs.declared.instr.Instr.{Instr}
use Rattle.rv_isa.specs.declared.instr.Instr.TheVariants as instr
use Rattle.image.specs.declared.ranges.Func.{Func}
use Rattle.image.specs.Aims.{is_inside}
use Rattle.image.specs.Targets.{target, made_by}
use Rattle.image.specs.Picture.{Picture}
use Rattle.blocks.specs.declared.word.Word.{Word}
use Rattle.blocks.specs.declared.run.Run.{Run}
use Rattle.blocks.specs.Blocks.{runs_of}
use Rattle.plans.specs.declared.plan.Moved.{Moved}
use Rattle.layout.specs.declared.point.Point.{Point}
use Rattle.layout.specs.declared.point.Point.TheVariants.{Start, Hop, Mid}
use Rattle.layout.specs.Points.{site_of, second_of, start_of}
use Rattle.emit.specs.declared.entry.To.{To}
use Rattle.emit.specs.declared.entry.To.TheVariants.{Here, There, Over}
use Rattle.emit.specs.declared.entry.Made.{Made}
use Rattle.emit.specs.declared.entry.Made.TheVariants.{Same, Jump, Branch, High, Low}
use Rattle.emit.specs.declared.entry.Entry.{Entry}

-- ---- calls
-- the calls of an image, and the functions that a plan moves, all by where functions start
pub record Calls : Type 0 where
  -- the function that the site at an address calls
  pub site : ℕ → Option ℕ
  -- by the address of a pair's second word, the function that the pair calls
  pub second : ℕ → Option ℕ
  -- the function that starts at an address moves
  pub moved : ℕ → Bool

abbrev pub is_number : ℕ → Option ℕ → Bool
is_number y None = false
is_number y (Some n) = n == y

-- a function that starts at an address is one of those that move
unfoldable pub moves : Picture → List Moved → ℕ → Bool
moves p parts y = list_any (λ m. is_number y (start_of p m.func)) parts

unfoldable pub calls_of : Picture → List Moved → Calls
calls_of p parts = record {
  site = λ x. option_and_then (start_of p) (site_of p x);
  second = λ x. option_and_then (start_of p) (second_of p x);
  moved = moves p parts;
}

-- ---- words
-- where a jump to y goes: to its Start in the layout, where y is in the function at hand, else to the original address
abbrev pub aimed : Func → ℕ → To
aimed f y = if is_inside y f then Here y else There y

abbrev pub start : ℕ → Made → Entry
start x m = record { point = Start x; made = m }

abbrev pub mid : ℕ → Made → Entry
mid x m = record { point = Mid x; made = m }

abbrev pub hop : Func → ℕ → Entry
hop f y = record { point = Hop y; made = Jump 0 (aimed f y) }

-- the block that comes next begins at y
abbrev pub is_next : Option ℕ → ℕ → Bool
is_next None y = false
is_next (Some n) y = n == y

-- where the JAL at x goes, whose target is `to`: a site to its function, in the layout where that moves
abbrev pub called_by : Calls → Option ℕ → To → To
called_by c None to = to
called_by c (Some g) to = if c.moved g then Here g else There g

abbrev pub called : Calls → ℕ → To → To
called c x to = called_by c (c.site x) to

-- a JALR, the word w: the second word of a pair calls its function, where that moves
abbrev pub second_by : Calls → Option ℕ → ℕ → ℕ → Made
second_by c None rd w = Same w
second_by c (Some g) rd w = if c.moved g then Jump rd (Here g) else Same w

abbrev pub second_word : Calls → ℕ → ℕ → ℕ → Made
second_word c x rd w = second_by c (c.second x) rd w

-- a branch at x to t that falls to y, by the block that comes next, and by which addresses are too far for its short form
unfoldable pub branch_of : Func → Option ℕ → (ℕ → Bool) → ℕ → Cond → ℕ → ℕ → ℕ → ℕ → List Entry
branch_of f next far x c rs1 rs2 t y =
    if is_next next y then
    (if far t then start x (Branch (opposite c) rs1 rs2 Over) ∷ hop f t ∷ []
    else start x (Branch c rs1 rs2 (aimed f t)) ∷ [])
    else (if is_next next t then
    (if far y then start x (Branch c rs1 rs2 Over) ∷ hop f y ∷ []
    else start x (Branch (opposite c) rs1 rs2 (aimed f y)) ∷ [])
    else
    (if far t then start x (Branch (opposite c) rs1 rs2 Over) ∷ hop f t ∷ hop f y ∷ []
    else start x (Branch c rs1 rs2 (aimed f t)) ∷ hop f y ∷ []))

-- the word w at x, which reads as an instruction
abbrev pub rendered : Calls → Func → Option ℕ → (ℕ → Bool) → ℕ → ℕ → Instr → List Entry
rendered c f next far x w (instr.Auipc rd imm) =
    if rd == 0 then start x (Same w) ∷ []
    else start x (High rd (made_by x imm)) ∷ mid x (Low rd (made_by x imm)) ∷ []
rendered c f next far x w (instr.Jal rd off) = start x (Jump rd (called c x (aimed f (target x off)))) ∷ []
rendered c f next far x w (instr.Jalr rd rs off) = start x (second_word c x rd w) ∷ []
rendered c f next far x w (instr.Branch k rs1 rs2 off) = branch_of f next far x k rs1 rs2 (target x off) (x + 4)
rendered c f next far x w _ = start x (Same w) ∷ []

abbrev pub word_entries : Calls → Func → (ℕ → ℕ → Bool) → Option ℕ → Word → List Entry
word_entries c f far next w = rendered c f next (far w.at) w.at w.word w.instr

-- ---- blocks
-- a Hop at the end of a block that falls to another than the next
abbrev pub fall : Func → Option ℕ → Run → List Entry
fall f next r = if r.falls && not (is_next next r.to) then hop f r.to ∷ [] else []

unfoldable pub run_entries : Calls → Func → (ℕ → ℕ → Bool) → Option ℕ → Run → List Entry
run_entries c f far next r = flat_map (word_entries c f far next) r.words ++ fall f next r

abbrev pub first_from : List Run → Option ℕ
first_from [] = None
first_from (r ∷ rs) = Some r.from

abbrev pub runs_entries : Calls → Func → (ℕ → ℕ → Bool) → List Run → List Entry
runs_entries c f far [] = []
runs_entries c f far (r ∷ rs) = run_entries c f far (first_from rs) r ++ runs_entries c f far rs

-- ---- short and long branches
abbrev pub is_start : ℕ → Point → Bool
is_start x (Start y) = x == y
is_start x (Hop y) = false
is_start x (Mid y) = false

-- the number of the first word that is a Start of x, or the number of words
abbrev pub place : ℕ → List Entry → ℕ
place x [] = 0
place x (e ∷ es) = if is_start x e.point then 0 else (1 + place x es)

-- a branch in place k reaches place n: from 4096 bytes before it to 4094 after it
abbrev pub reaches : ℕ → ℕ → Bool
reaches k n = nat_le k (n + 1024) && nat_le n (k + 1023)

-- a function's words, of which every branch is long
abbrev pub longest : Calls → Func → List Run → List Entry
longest c f rs = runs_entries c f (λ x y. true) rs

-- y is too far for the short form of the branch at x: outside the function, or out of reach when every branch of the function is long
unfoldable pub is_far : Calls → Func → List Run → ℕ → ℕ → Bool
is_far c f rs x y = not (is_inside y f && reaches (place x (longest c f rs)) (place y (longest c f rs)))

-- ---- functions
-- a function, with its blocks in their new order
unfoldable pub function_entries : Calls → Func → List Run → List Entry
function_entries c f rs = runs_entries c f (is_far c f rs) rs

-- blocks in an order
abbrev pub in_order : List Run → List ℕ → List Run
in_order rs order = filter_map (slice_get rs) order

abbrev pub entries_with : Picture → Calls → Moved → Option Func → List Entry
entries_with p c m None = []
entries_with p c m (Some f) = function_entries c f (in_order (runs_of p m.func) m.order)

unfoldable pub part_entries : Picture → Calls → Moved → List Entry
part_entries p c m = entries_with p c m (slice_get p.funcs m.func)

-- the words of a plan
unfoldable pub entries_of : Picture → List Moved → List Entry
entries_of p parts = flat_map (part_entries p (calls_of p parts)) parts
