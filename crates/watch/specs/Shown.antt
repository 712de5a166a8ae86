-- What a watch holds, what its passes have seen, and what its steps tell. Counts stand as the list of their three numbers.
-- Source: this project's own.
use Rattle.std.specs.Prelude.{◌≡◌, ℕ, Bool, true, false, cond, nat_lt, List, [], ◌∷◌, ◌++◌, length}
use mathlib.Core.Option.{some}
use lib.ListN.{get_elem?}
use Rattle.atomic_table.specs.Seated.{TableId}
use Rattle.watch.specs.declared.watch.View.{View}

abbrev pub last_of : List (List ℕ) → List ℕ
last_of [] = []
last_of (x ∷ []) = x
last_of (x ∷ y ∷ ys) = last_of (y ∷ ys)

abbrev pub StartsWith : List (List ℕ) → List (List ℕ) → Type 0
StartsWith all seen = (rest : List (List ℕ)) × (all ≡ seen ++ rest)

abbrev pub view : List (List ℕ) → Bool → View
view shown writes = record { shown = shown; writes = writes }

-- a pass knows a beginning of what was shown, and the writer's all of it
abbrev pub Knows : ℕ → List (List ℕ) → ℕ → View → Type 0
Knows seat log by v = StartsWith log v.shown × (v.writes ≡ true → (by ≡ seat) × (v.shown ≡ log))

-- the words are the last that were shown
abbrev pub Kept : List ℕ → List View → Type 0
Kept words views = (seat : ℕ) × (log : List (List ℕ)) × (last_of log ≡ words) × ((by : ℕ) (v : View) → get_elem? views by ≡ some v → Knows seat log by v)

abbrev pub Shows : View → List ℕ → List ℕ → View → Type 0
Shows v x y w = w ≡ view (v.shown ++ y ∷ []) v.writes

abbrev pub Looks : View → List ℕ → List ℕ → View → Type 0
Looks v x y w = StartsWith w.shown v.shown × (last_of w.shown ≡ y) × (w.writes ≡ v.writes)

abbrev pub longer : List (List ℕ) → List (List ℕ) → List (List ℕ)
longer a b = cond (nat_lt (length a) (length b)) b a

abbrev pub reader : View → View
reader v = view v.shown false

abbrev pub both : View → View → View
both v w = view (longer v.shown w.shown) v.writes

-- what contracts see of a pass: its watch, what it has seen shown, whether it is the writer's
pub record Seen : Type 0 where
  pub cell : TableId
  pub shown : List (List ℕ)
  pub writes : Bool

abbrev pub seen : TableId → List (List ℕ) → Bool → Seen
seen cell shown writes = record { cell = cell; shown = shown; writes = writes }
