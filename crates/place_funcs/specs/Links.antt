-- What is kept of groups while they are merged: of each two with a weight over 0 this weight and their heaviest edge.
use Rattle.std.specs.Prelude.{◌≡◌, ◌≢◌, ℕ, zero, suc, ◌+◌, ◌-◌, ◌<◌, ◌^◌, Bool, false, ◌==◌, ◌&&◌, ◌||◌, nat_lt, List, Contains, Option, Some, None, IfSome, if◌then◌else◌}
use Rattle.std.specs.Ordering.{nat_cmp, ordering_then}
use Rattle.std.specs.BTreeMap.{BTreeMap, get}
use Rattle.std.specs.BTreeMap.Range.{entries_between}
use Rattle.std.specs.declared.ops.Bound.TheVariants.{Included, Excluded}
use Rattle.std.specs.BTreeSet.{BTreeSet, contains}
use Rattle.std.specs.declared.cmp.Ordering.{Ordering}
use Rattle.place_funcs.specs.declared.link.Link.{Link}
use Rattle.place_funcs.specs.declared.table.Table.{Table}
use Rattle.place_funcs.specs.Groups.{name, Leads, between, IsHeaviest}

-- l's edge comes before m's: the heavier first, and of equal ones the lesser
abbrev pub is_ahead : Link → Link → Bool
is_ahead l m = nat_lt m.top l.top || (l.top == m.top && (nat_lt l.f m.f || (l.f == m.f && nat_lt l.g m.g)))

-- the link of two groups as one, where each has its own
abbrev pub sum_of : Link → Link → Link
sum_of l m = if is_ahead m l then record { weight = l.weight + m.weight; top = m.top; f = m.f; g = m.g } else record { weight = l.weight + m.weight; top = l.top; f = l.f; g = l.g }

abbrev pub both : Option Link → Option Link → Option Link
both None o = o
both (Some l) None = Some l
both (Some l) (Some m) = Some (sum_of l m)

-- what is kept of x and y after b has gone into a. A group is given by its name
abbrev pub links_after : (ℕ → ℕ → Option Link) → ℕ → ℕ → ℕ → ℕ → Option Link
links_after links a b x y =
    if x == b || (y == b || x == y) then None
    else if x == a then both (links a y) (links b y)
    else if y == a then both (links x a) (links x b)
    else links x y

module _ (edge : ℕ → ℕ → ℕ) where
  -- a link of groups a and b
  pub record IsLink (a b : List ℕ) (l : Link) : Type 0 where
    pub weight : l.weight ≡ between edge a b
    pub top : l.top ≡ edge l.f l.g
    pub some : 0 < l.top
    pub heaviest : IsHeaviest edge a b l.f l.g

  -- o is the link of a and b, if they have a weight over 0
  abbrev pub Tells : List ℕ → List ℕ → Option Link → Type 0
  Tells a b None = between edge a b ≡ 0
  Tells a b (Some l) = IsLink a b l

  -- the links tell of each two groups, in either order
  abbrev pub TellAll : List (List ℕ) → (ℕ → ℕ → Option Link) → Type 0
  TellAll groups links = (c d : List ℕ) → Contains groups c → Contains groups d → name c ≢ name d → Tells c d (links (name c) (name d))

-- only two different groups have a link
abbrev pub AreOfGroups : List (List ℕ) → (ℕ → ℕ → Option Link) → Type 0
AreOfGroups groups links = (x y : ℕ) (l : Link) → links x y ≡ Some l → (c : List ℕ) × (d : List ℕ) × Contains groups c × Contains groups d × (name c ≡ x) × (name d ≡ y) × (x ≢ y)

-- what is kept between two merges
pub record Keeps (edge : ℕ → ℕ → ℕ) (groups : List (List ℕ)) (links : ℕ → ℕ → Option Link) : Type 0 where
  pub named : (c d : List ℕ) → Contains groups c → Contains groups d → name c ≡ name d → c ≡ d
  pub tell : TellAll edge groups links
  pub of_groups : AreOfGroups groups links

-- l is the link of two groups in order, and no other comes before it
pub record IsFirst (links : ℕ → ℕ → Option Link) (x y : ℕ) (l : Link) : Type 0 where
  pub ordered : x < y
  pub there : links x y ≡ Some l
  pub leads : (p q : ℕ) (m : Link) → p < q → links p q ≡ Some m → Leads (record { weight = l.weight; first = x; second = y }) (record { weight = m.weight; first = p; second = q })

-- names in pairs, by the first and then by the second
abbrev pub names_cmp : ℕ × ℕ → ℕ × ℕ → Ordering
names_cmp x y = ordering_then (nat_cmp x.0 y.0) (nat_cmp x.1 y.1)

-- the link that a map has for two names
abbrev pub link_at : BTreeMap (ℕ × ℕ) Link → ℕ → ℕ → Option Link
link_at links x y = get names_cmp links (x, y)

-- the links whose first name is x
abbrev pub links_of : ℕ → List ((ℕ × ℕ) × Link) → List ((ℕ × ℕ) × Link)
links_of x es = entries_between names_cmp (Included (x, 0)) (Excluded (x + 1, 0)) es

abbrev pub second_name : (ℕ × ℕ) × Link → ℕ
second_name e = e.0.1

-- places in the queue, each a rank and two names
abbrev pub place_cmp : ℕ × ℕ × ℕ → ℕ × ℕ × ℕ → Ordering
place_cmp x y = ordering_then (ordering_then (nat_cmp x.0 y.0) (nat_cmp x.1 y.1)) (nat_cmp x.2 y.2)

abbrev pub has_place : BTreeSet (ℕ × ℕ × ℕ) → ℕ → ℕ → ℕ → Bool
has_place queue r x y = contains place_cmp queue (r, x, y)

-- the rank of a weight: the greater weight comes first
abbrev pub rank : ℕ → ℕ
rank w = 2 ^ 128 - 1 - w

-- r is the rank at which x and y wait, if they have a link and x is the smaller name
abbrev pub waits : ℕ → ℕ → Option Link → ℕ → Bool
waits x y None r = false
waits x y (Some l) r = nat_lt x y && (r == rank l.weight)

-- the queue has a place for each two groups with a link, once, and no other place
abbrev pub IsQueued : Table → Type 0
IsQueued t = (r p q : ℕ) → has_place t.queue r p q ≡ waits p q (link_at t.links p q) r

-- weights stay below 2^127, so that two of them can be added
abbrev pub AreSmall : (ℕ → ℕ → Option Link) → Type 0
AreSmall links = (p q : ℕ) → IfSome (links p q) (λ l. l.weight < 2 ^ 127)

-- the links after those between b and y went to a and y
abbrev pub moved : (ℕ → ℕ → Option Link) → ℕ → ℕ → ℕ → ℕ → ℕ → Option Link
moved links a b y p q =
    if ((p == b) && (q == y)) || ((p == y) && (q == b)) then None
    else if (p == a) && (q == y) then both (links a y) (links b y)
    else if (p == y) && (q == a) then both (links y a) (links y b)
    else links p q

-- the link of two functions that stand alone, if their edge has the weight w
abbrev pub lone : ℕ → ℕ → ℕ → Option Link
lone x y zero = None
lone x y (suc n) = Some (record { weight = suc n; top = suc n; f = x; g = y })

-- the weight of the heaviest edge of a link, or 0
abbrev pub top_of : Option Link → ℕ
top_of None = 0
top_of (Some l) = l.top

-- the links are those of functions that stand alone
abbrev pub AreLone : (ℕ → ℕ → Option Link) → Type 0
AreLone links = (p q : ℕ) → links p q ≡ lone p q (top_of (links p q))
