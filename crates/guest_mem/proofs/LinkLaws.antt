-- The links of a `FlatMem`, in order.
use Rattle.std.proofs.Common.{◌≡◌, ℕ, ◌*◌, ◌<◌, Bool, true, false, cond, ◌&&◌, List, [], ◌∷◌, map, Some, ltb, is_some, refl, sym, ap, subst, ◌∙◌, arith, T}
use Rattle.std.specs.declared.cmp.Ordering.TheVariants.{Less, Equal, Greater}
use Rattle.std.specs.Ordering.{nat_cmp, is_lt, match_ordering}
use Rattle.std.specs.List.{AllByRecursion}
use Rattle.std.specs.List.Sorted.{IsStrictlySortedBy}
use Rattle.std.specs.Cmp.{unsigned_tied}
use Rattle.std.proofs.lemmas.Bool.{eqb-true, ltb-true, eq-eqb, ne_eqb}
use Rattle.std.proofs.lemmas.Bool.Decides.{nat_tests}
use Rattle.std.specs.Map.{lookup}
use Rattle.std.specs.BTreeMap.{is_at, insert_entry}
use Rattle.std.specs.FinMap.{find, is_sorted}
use Rattle.std.specs.FinMap.Entries.{below_all}
use Rattle.guest_mem.specs.declared.words.Word.{Word}
use Rattle.guest_mem.specs.declared.flat.Span.{Span}
use Rattle.finite.proofs.MapLaws.{units, items_are}
use Rattle.guest_mem.specs.Memory.{byte_at, bytes_from, number_of}
use Rattle.link_tags.specs.Values.{is_link}
use Rattle.guest_mem.proofs.Reading.{same_number, get_or-bytes_from}
use Rattle.guest_mem.specs.Access.{links_of}
use Rattle.guest_mem.specs.Flat.{flat_memory, flat_links, AllLow}
use Rattle.guest_mem.proofs.FlatLaws.{flat_byte, flat_word, byte_in, passes}

abbrev is_link_word : Word → Bool
is_link_word x = is_link x.tag

abbrev keys_of : List (ℕ × Word) → List ℕ
keys_of es = map (λ (e : ℕ × Word). e.0) es

abbrev link_keys : List (ℕ × Word) → List ℕ
link_keys [] = []
link_keys (e ∷ es) = cond (is_link_word e.1) (e.0 ∷ link_keys es) (link_keys es)

pub low_insert : (es : List (ℕ × Word)) (w : ℕ) (x : Word) → w < 0x0200_0000 → AllLow es → AllLow (insert_entry nat_cmp es w x)
low_insert [] w x h a = (h, tt)
low_insert (e ∷ es) w x h a =
    elim (nat_cmp w e.0) as (λ r. AllLow (match_ordering r ((w, x) ∷ e ∷ es) ((e.0, x) ∷ es) (e ∷ insert_entry nat_cmp es w x))) [
      | Less ↦ (h, a)
      | Equal ↦ (a.0, a.1)
      | Greater ↦ (a.0, low_insert es w x h a.1)
    ]

both : (b c : Bool) → T b → T c → T (b && c)
both true c p q = q
both false c p q = p

-- a key below all is below the links
below : (x : ℕ) (es : List (ℕ × Word)) → AllByRecursion (λ y. nat_cmp x y ≡ Less) (keys_of es) → T (below_all nat_cmp x (units (link_keys es)))
below x [] h = tt
below x (e ∷ es) h =
    elim (is_link_word e.1) as (λ b. T (below_all nat_cmp x (units (cond b (e.0 ∷ link_keys es) (link_keys es))))) [
      | true ↦ both (is_lt (nat_cmp x e.0)) (below_all nat_cmp x (units (link_keys es))) (subst (λ r. T (is_lt r)) (sym h.0) tt) (below x es h.1)
      | false ↦ below x es h.1
    ]

pub sorted : (es : List (ℕ × Word)) → IsStrictlySortedBy nat_cmp (keys_of es) → T (is_sorted nat_cmp (units (link_keys es)))
unfolding IsStrictlySortedBy
sorted [] h = tt
sorted (e ∷ es) h =
    elim (is_link_word e.1) as (λ b. T (is_sorted nat_cmp (units (cond b (e.0 ∷ link_keys es) (link_keys es))))) [
      | true ↦ both (below_all nat_cmp e.0 (units (link_keys es))) (is_sorted nat_cmp (units (link_keys es))) (below e.0 es h.0) (sorted es h.1)
      | false ↦ sorted es h.1
    ]

-- a key below all isn't among the links
absent : (x : ℕ) (es : List (ℕ × Word)) → AllByRecursion (λ y. nat_cmp x y ≡ Less) (keys_of es) → false ≡ is_some (find nat_cmp x (units (link_keys es)))
absent x [] h = refl
absent x (e ∷ es) h =
    elim (is_link_word e.1) as (λ b. false ≡ is_some (find nat_cmp x (units (cond b (e.0 ∷ link_keys es) (link_keys es))))) [
      | true ↦ rw h.0 (absent x es h.1)
      | false ↦ absent x es h.1
    ]

first_found : (e : ℕ × Word) (es : List (ℕ × Word)) (q : ℕ) (t b : Bool) → is_at (nat_cmp q) e.0 ≡ t → is_link_word e.1 ≡ b → AllByRecursion (λ y. nat_cmp e.0 y ≡ Less) (keys_of es)
    → passes is_link_word (lookup (is_at (nat_cmp q)) es) ≡ is_some (find nat_cmp q (units (link_keys es)))
    → passes is_link_word (cond (is_at (nat_cmp q) e.0) (Some e.1) (lookup (is_at (nat_cmp q)) es)) ≡ is_some (find nat_cmp q (units (cond (is_link_word e.1) (e.0 ∷ link_keys es) (link_keys es))))
first_found e es q true true t b h rest = rw (t, b) (rw t refl)
first_found e es q true false t b h rest =
    let same : q ≡ e.0 = eqb-true q e.0 (sym (unsigned_tied q e.0) ∙ t) in
    rw (t, b) (subst (λ x. false ≡ is_some (find nat_cmp x (units (link_keys es)))) (sym same) (absent e.0 es h))
first_found e es q false true t b h rest = rw (t, b) (rw t rest)
first_found e es q false false t b h rest = rw (t, b) rest

-- the numbers of the links are the keys of links
pub found : (es : List (ℕ × Word)) (q : ℕ) → IsStrictlySortedBy nat_cmp (keys_of es) → passes is_link_word (lookup (is_at (nat_cmp q)) es) ≡ is_some (find nat_cmp q (units (link_keys es)))
unfolding IsStrictlySortedBy
found [] q h = refl
found (e ∷ es) q h = first_found e es q (is_at (nat_cmp q) e.0) (is_link_word e.1) refl refl h.0 (found es q h.1)

-- each entry is what its key finds
abbrev AllFound : List (ℕ × Word) → List (ℕ × Word) → Type 0
AllFound all [] = Unit {0}
AllFound all (e ∷ es) = (lookup (is_at (nat_cmp e.0)) all ≡ Some e.1) × AllFound all es

less : (a b : ℕ) → nat_cmp a b ≡ Less → ltb a b ≡ true
less a b e = grind (arith, nat_tests)

later : (e : ℕ × Word) (all es : List (ℕ × Word)) → AllByRecursion (λ y. nat_cmp e.0 y ≡ Less) (keys_of es) → AllFound all es → AllFound (e ∷ all) es
later e all [] h f = tt
later e all (d ∷ es) h f =
    let lt : e.0 < d.0 = ltb-true e.0 d.0 (less e.0 d.0 h.0) in
    let t : is_at (nat_cmp d.0) e.0 ≡ false = unsigned_tied d.0 e.0 ∙ ne_eqb d.0 e.0 (λ (s : d.0 ≡ e.0). absurd (omega arith)) in
    (rw t f.0, later e all es h.1 f.1)

all_found : (es : List (ℕ × Word)) → IsStrictlySortedBy nat_cmp (keys_of es) → AllFound es es
unfolding IsStrictlySortedBy
all_found [] h = tt
all_found (e ∷ es) h =
    let t : is_at (nat_cmp e.0) e.0 ≡ true = unsigned_tied e.0 e.0 ∙ eq-eqb e.0 e.0 refl in
    (rw t refl, later e es es h.0 (all_found es h.1))

number_there : (all : List (ℕ × Word)) (ss : List Span) (w : ℕ) (x : Word) → lookup (is_at (nat_cmp w)) all ≡ Some x → number_of x.bytes ≡ number_of (bytes_from (byte_at (flat_memory all ss)) (8 * w) 8)
number_there all ss w x e = same_number x.bytes (bytes_from (byte_at (flat_memory all ss)) (8 * w) 8) (λ k lt.
    sym (get_or-bytes_from (byte_at (flat_memory all ss)) (8 * w) 8 k lt ∙ flat_byte all w k lt ∙ ap (λ o. byte_in o k) e))

numbers : (all : List (ℕ × Word)) (ss : List Span) (es : List (ℕ × Word)) → AllFound all es
    → flat_links es ≡ map (λ (w : ℕ). (8 * w, number_of (bytes_from (byte_at (flat_memory all ss)) (8 * w) 8))) (link_keys es)
numbers all ss [] f = refl
numbers all ss (e ∷ es) f =
    let g : ℕ → ℕ × ℕ = λ w. (8 * w, number_of (bytes_from (byte_at (flat_memory all ss)) (8 * w) 8)) in
    elim (is_link_word e.1) as (λ b. cond b ((8 * e.0, number_of e.1.bytes) ∷ flat_links es) (flat_links es) ≡ map g (cond b (e.0 ∷ link_keys es) (link_keys es))) [
      | true ↦
          let n = number_there all ss e.0 e.1 f.0 in
          let r = numbers all ss es f.1 in
          λ i. (8 * e.0, n i) ∷ r i
      | false ↦ numbers all ss es f.1
    ]

pub links_are : (es : List (ℕ × Word)) (ss : List Span) → IsStrictlySortedBy nat_cmp (keys_of es) → flat_links es ≡ links_of (flat_memory es ss)
links_are es ss h =
    numbers es ss es (all_found es h)
    ∙ ap (map (λ (w : ℕ). (8 * w, number_of (bytes_from (byte_at (flat_memory es ss)) (8 * w) 8))))
    (sym (items_are (flat_memory es ss).links (link_keys es) (sorted es h) (λ q. flat_word is_link_word es q ∙ found es q h)))
