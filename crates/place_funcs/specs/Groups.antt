-- Groups of functions, how they are merged, and the order in which they then stand. Source: after Pettis and Hansen, "Profile Guided Code Positioning".
use Rattle.std.specs.Prelude.{◌≡◌, ℕ, zero, suc, ◌+◌, ◌<◌, ◌≤◌, ◌⊎◌, min, not, ◌==◌, nat_lt, List, [], ◌∷◌, ◌++◌, map, reverse, Contains, AllPairs, if◌then◌else◌}
use Rattle.std.specs.List.{filter, flat_map, sum_by}
use Rattle.std.specs.List.Sorted.{IsPermutation}

-- the name of a group: its least function
abbrev pub name : List ℕ → ℕ
name [] = 0
name (f ∷ []) = f
name (f ∷ g ∷ fs) = min f (name (g ∷ fs))

-- two numbers and a weight between them
pub record Weighed : Type 0 where
  pub weight : ℕ
  pub first : ℕ
  pub second : ℕ

-- c comes no later than d: the greater weight first, and of equal weights the lesser pair of numbers
abbrev pub Leads : Weighed → Weighed → Type 0
Leads c d = (d.weight < c.weight) ⊎ ((c.weight ≡ d.weight) × ((c.first < d.first) ⊎ ((c.first ≡ d.first) × (c.second ≤ d.second))))

-- how many functions stand before f
abbrev pub before : ℕ → List ℕ → ℕ
before f [] = 0
before f (x ∷ xs) = if x == f then 0 else 1 + before f xs

-- how many functions stand between f in the first list and g in the second, where the second follows the first
abbrev pub gap : ℕ → ℕ → List ℕ × List ℕ → ℕ
gap f g p = before f (reverse p.0) + before g p.1

-- the element with the least number, and of several the first
abbrev pub first_least : {X : Type 0} → (X → ℕ) → X → List X → X
first_least n x [] = x
first_least n x (y ∷ ys) = if nat_lt (n y) (n x) then first_least n y ys else first_least n x ys

-- a and b, each as it is or reversed, so that the fewest functions stand between f and g
abbrev pub turned : ℕ → ℕ → List ℕ → List ℕ → List ℕ × List ℕ
turned f g a b = first_least (gap f g) (a, b) ((a, reverse b) ∷ (reverse a, b) ∷ (reverse a, reverse b) ∷ [])

-- a and b as one group
abbrev pub joined : ℕ → ℕ → List ℕ → List ℕ → List ℕ
joined f g a b = (turned f g a b).0 ++ (turned f g a b).1

-- the group of one function
abbrev pub alone : ℕ → List ℕ
alone f = f ∷ []

-- the groups with j in the place of a, and without b
abbrev pub with_joined : List (List ℕ) → List ℕ → List ℕ → List ℕ → List (List ℕ)
with_joined groups a b j = map (λ c. if name c == name a then j else c) (filter (λ c. not (name c == name b)) groups)

-- a and b are two of the groups, and a has the smaller name
pub record AreTwo (groups : List (List ℕ)) (a b : List ℕ) : Type 0 where
  pub one : Contains groups a
  pub other : Contains groups b
  pub named : name a < name b

-- edge: the weight of the edge between two functions
module _ (edge : ℕ → ℕ → ℕ) where
  -- the weight between two groups
  unfoldable pub between : List ℕ → List ℕ → ℕ
  between a b = sum_by (λ f. sum_by (edge f) b) a

  abbrev pub edge_of : ℕ → ℕ → Weighed
  edge_of f g = record { weight = edge f g; first = f; second = g }

  abbrev pub pair_of : List ℕ → List ℕ → Weighed
  pair_of a b = record { weight = between a b; first = name a; second = name b }

  -- (f, g) is the heaviest edge with f in a and g in b, and of several the least
  pub record IsHeaviest (a b : List ℕ) (f g : ℕ) : Type 0 where
    pub from : Contains a f
    pub to : Contains b g
    pub leads : (x y : ℕ) → Contains a x → Contains b y → Leads (edge_of f g) (edge_of x y)

  -- a and b are the two groups with the greatest weight over 0 between them, and of several those with the least names
  pub record AreNearest (groups : List (List ℕ)) (a b : List ℕ) : Type 0 where
    pub two : AreTwo groups a b
    pub some : 0 < between a b
    pub leads : (c d : List ℕ) → AreTwo groups c d → Leads (pair_of a b) (pair_of c d)

  -- one merge leads from some groups to others
  pub record Merges (groups after : List (List ℕ)) : Type 0 where
    pub a : List ℕ
    pub b : List ℕ
    pub nearest : AreNearest groups a b
    pub f : ℕ
    pub g : ℕ
    pub heaviest : IsHeaviest a b f g
    pub is : after ≡ with_joined groups a b (joined f g a b)

  -- no two groups have a weight over 0 between them
  abbrev pub IsDone : List (List ℕ) → Type 0
  IsDone groups = (a b : List ℕ) → AreTwo groups a b → between a b ≡ 0

  -- n merges lead from the groups to the last ones
  abbrev pub EndsAfter : ℕ → List (List ℕ) → List (List ℕ) → Type 0
  EndsAfter zero groups last = IsDone groups × (last ≡ groups)
  EndsAfter (suc n) groups last = (after : List (List ℕ)) × Merges groups after × EndsAfter n after last

-- c stands before d: the greater count first, and of equal counts the lesser name
abbrev pub StandsBefore : (List ℕ → ℕ) → List ℕ → List ℕ → Type 0
StandsBefore count c d = (count d < count c) ⊎ ((count c ≡ count d) × (name c < name d))

-- the order of some functions, by the weights of edges and by how often a profile goes from a group: each begins as a group,
-- groups are merged, and the last ones stand one after the other
pub record IsClosest (edge : ℕ → ℕ → ℕ) (count : List ℕ → ℕ) (funcs order : List ℕ) : Type 0 where
  pub merges : ℕ
  pub last : List (List ℕ)
  pub ends : EndsAfter edge merges (map alone funcs) last
  pub groups : List (List ℕ)
  pub same : IsPermutation last groups
  pub stand : AllPairs (StandsBefore count) groups
  pub is : order ≡ flat_map (λ c. c) groups
