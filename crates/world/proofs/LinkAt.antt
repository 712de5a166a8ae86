-- The link at the address of a word, by a search in the list of a memory's links.
use Rattle.std.proofs.Common.{◌≡◌, ℕ, ◌+◌, ◌*◌, ◌/◌, ◌%◌, ◌==◌, ◌<◌, ◌≤◌, Bool, true, false, List, [], ◌++◌, length, get_or, drop, drop-cons, add-one, append-nil, refl, sym, ap, ◌∙◌, subst, inl, inr, arith}
use Rattle.std.specs.Prelude.{◌⊎◌, AllPairs, Option, Some, None, if◌then◌else◌}
use Rattle.std.specs.Cmp.{unsigned_tied}
use Rattle.std.specs.FinMap.{contains_key-keys}
use Rattle.std.specs.List.{AllWithin, list_any, filter_map, cons_option}
use Rattle.std.proofs.Math.ListN.{drop_of_length-le}
use Rattle.std.specs.Option.{option_map}
use Rattle.std.specs.Ordering.{nat_cmp, eq_by_cmp}
use Rattle.std.proofs.lemmas.Bool.{cases_lt, eqb-true, eq-eqb}
use Rattle.std.proofs.lemmas.List.{get_or-map, get_or_default}
use Rattle.std.proofs.lemmas.List.Folds.{list_any_at, Any-from_list_any}
use Rattle.finite.specs.Maps.{contains, items}
use Rattle.image.specs.declared.ranges.Aim.{Aim}
use Rattle.image.specs.Picture.{Picture}
use Rattle.guest_mem.specs.Memory.{Memory, is_link_at, number_at}
use Rattle.guest_mem.specs.Access.{links_of}
use Rattle.layout.specs.Points.{Code, start_of}
use Rattle.layout.specs.Laid.{Laid}
use Rattle.oc_base.specs.declared.range.Range.{Range}
use Rattle.image.specs.declared.ranges.TextRange.{TextRange}
use Rattle.sim_laws.specs.Origins.{origin, origin_of}
use Rattle.world.specs.Worlds.{code_in, point_at}
use Rattle.world.specs.Replacing.{is_own, sent_to, slots_sent}
use Rattle.world.proofs.LinksRise.{size_map}

module _ (m : Memory) where
  abbrev link_in : ℕ → ℕ × ℕ
  link_in w = (8 * w, number_at m (8 * w))

  listed : (w : ℕ) → contains m.links w ≡ list_any (eq_by_cmp nat_cmp w) (items m.links)
  unfolding contains items
  listed w = contains_key-keys m.links w

  within : (i : ℕ) → i < length (links_of m) → i < length (items m.links)
  within i lt = subst (λ n. i < n) (size_map link_in (items m.links)) lt

  -- what is on the list is a link
  on_list : (i at : ℕ) (d : ℕ × ℕ) → i < length (links_of m) → (get_or (links_of m) i d).0 ≡ at → (is_link_at m at ≡ true) × (number_at m at ≡ (get_or (links_of m) i d).1)
  on_list i at d lt e =
      let is = get_or-map link_in (items m.links) i 0 d (within i lt) in
      let place : at ≡ 8 * get_or (items m.links) i 0 = sym e ∙ ap (λ (l : ℕ × ℕ). l.0) is in
      let word : get_or (items m.links) i 0 ≡ at / 8 = omega (arith, place) in
      let there = list_any_at (eq_by_cmp nat_cmp (get_or (items m.links) i 0)) (items m.links) i 0 (within i lt)
      (unsigned_tied (get_or (items m.links) i 0) (get_or (items m.links) i 0) ∙ eq-eqb (get_or (items m.links) i 0) (get_or (items m.links) i 0) refl) in (
        subst (λ v. contains m.links v ≡ true) word (listed (get_or (items m.links) i 0) ∙ there),
        ap (number_at m) place ∙ sym (ap (λ (l : ℕ × ℕ). l.1) is),
      )

  -- a link is on the list
  has_place : (at : ℕ) → at % 8 ≡ 0 → is_link_at m at ≡ true → (i : ℕ) × (i < length (links_of m)) × ((d : ℕ × ℕ) → (get_or (links_of m) i d).0 ≡ at)
  has_place at whole e = found (Any-from_list_any (eq_by_cmp nat_cmp (at / 8)) (items m.links) (sym (listed (at / 8)) ∙ e))
    where
      found : (i : ℕ) × (w : ℕ) × (i < length (items m.links)) × (get_or (items m.links) i w ≡ w) × (eq_by_cmp nat_cmp (at / 8) w ≡ true)
          → (i : ℕ) × (i < length (links_of m)) × ((d : ℕ × ℕ) → (get_or (links_of m) i d).0 ≡ at)
      found (i, w, lt, is, same) = (i, subst (λ n. i < n) (sym (size_map link_in (items m.links))) lt, place)
        where
          place : (d : ℕ × ℕ) → (get_or (links_of m) i d).0 ≡ at
          place d =
              let word : at / 8 ≡ w = eqb-true (at / 8) w (sym (unsigned_tied (at / 8) w) ∙ same) in
              let there : 8 * w ≡ at = omega (arith, word, whole) in
              ap (λ (l : ℕ × ℕ). l.0) (get_or-map link_in (items m.links) i w d lt) ∙ ap (λ v. 8 * v) is ∙ there

-- ---- what a search finds
module _ (m : Memory) (links : List (ℕ × ℕ)) (at : ℕ) (rise : AllPairs (λ (k l : ℕ × ℕ). k.0 < l.0) links) (i : ℕ) (below : AllWithin (λ (l : ℕ × ℕ). l.0 < at) links 0 i)
    (others : AllWithin (λ (l : ℕ × ℕ). at ≤ l.0) links i (length links)) (is : links ≡ links_of m) (whole : at % 8 ≡ 0) where
  abbrev Told : Option ℕ → Type 0
  Told o = o ≡ (if is_link_at m at then Some (number_at m at) else None)

  absent : ((k : ℕ) (d : ℕ × ℕ) → k < length links → (get_or links k d).0 ≡ at → ⊥) → Told None
  absent clash = by_test (is_link_at m at) refl
    where
      by_test : (b : Bool) → is_link_at m at ≡ b → None ≡ (if b then Some (number_at m at) else None)
      by_test false e = refl
      by_test true e =
          let k = has_place m at whole e in
          absurd (clash k.0 (0, 0) (subst (λ (ls : List (ℕ × ℕ)). k.0 < length ls) (sym is) k.1) (subst (λ (ls : List (ℕ × ℕ)). (get_or ls k.0 (0, 0)).0 ≡ at) (sym is) (k.2 (0, 0))))

  pub none_past : length links ≤ i → Told None
  none_past le = absent (λ k d lt e. (let q = below k d (omega arith) (omega (arith, lt, le)) in omega (arith, q, e)))

  pub none_here : (d : ℕ × ℕ) → i < length links → ((get_or links i d).0 ≡ at → ⊥) → Told None
  none_here d l n = absent other
    where
      other : (k : ℕ) (e : ℕ × ℕ) → k < length links → (get_or links k e).0 ≡ at → ⊥
      other k e lt f = by_order (cases_lt k i) (cases_lt i k)
        where
          by_order : (k < i) ⊎ (i ≤ k) → (i < k) ⊎ (k ≤ i) → ⊥
          by_order (inl p) r = let q = below k e (omega arith) p in omega (arith, q, f)
          by_order (inr p) (inl r) = let q = rise i k e r lt in let low = others i e (omega arith) l in omega (arith, q, low, f)
          by_order (inr p) (inr r) =
              let same : k ≡ i = omega (arith, p, r) in
              n (ap (λ (x : ℕ × ℕ). x.0) (get_or_default links i d e l) ∙ ap (λ j. (get_or links j e).0) (sym same) ∙ f)

  pub one_here : (d : ℕ × ℕ) → i < length links → (get_or links i d).0 ≡ at → Told (Some (get_or links i d).1)
  one_here d l e =
      let q = on_list m i at d (subst (λ (ls : List (ℕ × ℕ)). i < length ls) is l) (subst (λ (ls : List (ℕ × ℕ)). (get_or ls i d).0 ≡ at) is e) in
      let there = q.0 in
      let number : (get_or links i d).1 ≡ number_at m at = ap (λ (ls : List (ℕ × ℕ)). (get_or ls i d).1) is ∙ sym q.1 in
      rw there (ap Some number)

-- ---- a slot that is its own still
-- what an address stands for in the original program, by the region and the layouts alone
pub origin_as : (p : Picture) (text : List TextRange) (lives : List Laid) (r : Range) (k : ℕ) → r ≡ p.region → origin_of k (point_at r lives k) ≡ origin (code_in p text lives) k
unfolding origin
origin_as p text lives r k e = rw e refl

module _ (p : Picture) (c : Code) (m : Memory) (s : Aim) where
  abbrev Starts : Option ℕ → Type 0
  Starts o = o ≡ (if is_own p c m s then start_of p s.func else None)

  no_number : (b : Bool) (n : ℕ) → None ≡ (if b then Some n else None) → b ≡ false
  no_number false n e = refl
  no_number true n e = absurd (cc)

  one_number : (b : Bool) (n k : ℕ) → Some k ≡ (if b then Some n else None) → (b ≡ true) × (n ≡ k)
  one_number true n k e = (refl, cc)
  one_number false n k e = absurd (cc)

  pub no_link : None ≡ (if is_link_at m s.at then Some (number_at m s.at) else None) → Starts None
  no_link e = let none = no_number (is_link_at m s.at) (number_at m s.at) e in rw none refl

  pub no_start : start_of p s.func ≡ None → Starts None
  no_start e = by_test (is_own p c m s) (start_of p s.func) e
    where
      by_test : (b : Bool) (o : Option ℕ) → o ≡ None → None ≡ (if b then o else None)
      by_test true o e = sym e
      by_test false o e = refl

  module _ (k x : ℕ) (number : Some k ≡ (if is_link_at m s.at then Some (number_at m s.at) else None)) (start : start_of p s.func ≡ Some x) where
    pub other_start : (origin c k ≡ x → ⊥) → Starts None
    other_start n =
        let q = one_number (is_link_at m s.at) (number_at m s.at) k number in
        let link = q.0 in
        let same = q.1 in
        rw (link, start, same) (by_test (x == origin c k) refl)
      where
        by_test : (b : Bool) → (x == origin c k) ≡ b → None ≡ (if b then Some x else None)
        by_test true e = absurd (n (sym (eqb-true x (origin c k) e)))
        by_test false e = refl

    pub own_start : origin c k ≡ x → Starts (Some x)
    own_start e =
        let q = one_number (is_link_at m s.at) (number_at m s.at) k number in
        let link = q.0 in
        let same = q.1 in
        let test = eq-eqb x (origin c k) (sym e) in
        rw (link, start, same, test) refl

-- what is sent, from where a slot's function starts
pub none_sent : {X Y : Type 0} (b : Bool) (f : X → Y) (o : Option X) → None ≡ (if b then o else None) → None ≡ (if b then option_map f o else None)
none_sent true f o e = ap (option_map f) e
none_sent false f o e = refl

pub one_sent : {X Y : Type 0} (b : Bool) (f : X → Y) (o : Option X) (x : X) → Some x ≡ (if b then o else None) → Some (f x) ≡ (if b then option_map f o else None)
one_sent true f o x e = ap (option_map f) e
one_sent false f o x e = absurd (cc)

-- ---- the list of them, slot by slot
module _ {X Y : Type 0} (f : X → Option Y) (xs : List X) (i : ℕ) where
  pub one_more : (d : X) (o : Option Y) (before after all : List Y) → i < length xs → o ≡ f (get_or xs i d) → ((rest : List Y) → after ++ rest ≡ before ++ cons_option o rest)
      → before ++ filter_map f (drop i xs) ≡ all → after ++ filter_map f (drop (i + 1) xs) ≡ all
  one_more d o before after all lt e pushed h =
      let next : filter_map f (drop i xs) ≡ cons_option o (filter_map f (drop (i + 1) xs)) = rw (e, add-one i, drop-cons xs i d lt) refl in
      pushed (filter_map f (drop (i + 1) xs)) ∙ ap (λ (ys : List Y). before ++ ys) (sym next) ∙ h

  pub all_there : (found all : List Y) → length xs ≤ i → found ++ filter_map f (drop i xs) ≡ all → found ≡ all
  all_there found all le h =
      let none : drop i xs ≡ [] = drop_of_length-le xs le in
      sym (append-nil found) ∙ ap (λ (ys : List X). found ++ filter_map f ys) (sym none) ∙ h

pub slots_are : (p : Picture) (c : Code) (new : Option Laid) (m : Memory) (found : List (ℕ × ℕ)) → found ≡ filter_map (λ s. if is_own p c m s then sent_to p new s else None) p.slots → found ≡ slots_sent p c new m
unfolding slots_sent
slots_are p c new m found e = e
