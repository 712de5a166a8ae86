-- Of ranges that lie apart, the first that ends in time is the one that another meets.
use Rattle.std.proofs.Common.{◌≡◌, ℕ, ◌<◌, ◌≤◌, Bool, true, false, cond, leb, List, [], ◌∷◌, get_or, Option, Some, None, ◌⊎◌, inl, inr, refl, sym, ap, subst, ◌∙◌, arith}
use Rattle.std.specs.Prelude.{◌&&◌, ◌||◌, IsSome, IfSome}
use Rattle.std.specs.List.{list_any, slice_get}
use Rattle.std.specs.Ordering.{nat_cmp, is_eq, is_gt, match_ordering}
use Rattle.std.specs.Cmp.{nat_cmp_total}
use Rattle.std.specs.Map.{lookup}
use Rattle.std.specs.BTreeMap.{BTreeMap, get, IsOrdered, insert_entry, is_at}
use Rattle.std.specs.BTreeMap.Range.{IsEntryInRange, IsInRange, IsLeBy}
use Rattle.std.specs.declared.ops.Bound.TheVariants.{Included, Unbounded}
use Rattle.std.specs.declared.cmp.Ordering.{Ordering}
use Rattle.std.specs.declared.cmp.Ordering.TheVariants.{Less, Equal, Greater}
use Rattle.std.proofs.lemmas.Bool.{cases_lt, and_cases, and_left, and_right, and_from, lt-leb, le-leb, leb-false}
use Rattle.std.proofs.lemmas.Cmp.{ranked}
use Rattle.std.proofs.lemmas.List.Folds.{list_any_at, list_any_none}
use Rattle.std.proofs.lemmas.Map.Views.{All-found, btree_map_get_iff, tells_apart}
use Rattle.std.proofs.lemmas.Map.Lookups.{exact_unsigned}
use Rattle.std.proofs.lemmas.Map.Keys.{le_from_not_gt}
use Rattle.finite.proofs.Finding.{any_none, not_passed}
use Rattle.finite.specs.Spans.{meets, IsApart}

not_greater : (o : Ordering) (a b : ℕ) → o ≡ nat_cmp a b → a ≤ b → is_gt o ≡ false
not_greater Less a b is le = refl
not_greater Equal a b is le = refl
not_greater Greater a b is le = absurd (let lt = ranked a b Greater is in omega (arith, lt, le))

-- a number up to another, as the order of keys says it
pub in_order : (a b : ℕ) → a ≤ b → is_gt (nat_cmp a b) ≡ false
in_order a b le = not_greater (nat_cmp a b) a b refl le

-- a range before whose first number all others end meets none of them
pub meets_none : (m : BTreeMap ℕ ℕ) (first last : ℕ) → IsOrdered nat_cmp m → ((q : ℕ) → first ≤ q → get nat_cmp m q ≡ None) → list_any (meets first last) m.entries ≡ false
meets_none m first last ordered gone =
    list_any_none (meets first last) m.entries (λ i d lt. (
    let e = get_or m.entries i d in
    elim (cases_lt e.0 first) [
      | inl below ↦ and_left _ _ (lt-leb first e.0 below)
      | inr past ↦ absurd (let there = All-found nat_cmp_total m ordered i d lt in let none = gone e.0 past in cc)
    ]))

same_value : (o : Option ℕ) (a b : ℕ) → o ≡ Some a → o ≡ Some b → a ≡ b
same_value None a b e h = absurd cc
same_value (Some c) a b e h = cc

found_is_some : (o : Option ℕ) (a : ℕ) → o ≡ Some a → IsSome o
found_is_some None a e = absurd cc
found_is_some (Some c) a e = refl

least_case : (m : BTreeMap ℕ ℕ) (first last past next : ℕ) (b : Bool) → IsOrdered nat_cmp m → IsApart m → first ≤ past → get nat_cmp m past ≡ Some next → ((q : ℕ) → first ≤ q → IsSome (get nat_cmp m q) → past ≤ q) → leb next last ≡ b → b ≡ list_any (meets first last) m.entries
least_case m first last past next true ordered apart le is least test =
    let place = (btree_map_get_iff nat_cmp_total exact_unsigned m ordered past next).0 is in
    sym (list_any_at (meets first last) m.entries place.0 (past, next) place.1 (rw place.2 (and_from (leb first past) (leb next last) (le-leb first past le) test)))
least_case m first last past next false ordered apart le is least test =
    sym (list_any_none (meets first last) m.entries (λ i d lt. (
    let e = get_or m.entries i d in
    let there : get nat_cmp m e.0 ≡ Some e.1 = All-found nat_cmp_total m ordered i d lt in
    let late : last < next = leb-false next last test in
    elim (cases_lt e.0 first) [
      | inl below ↦ and_left _ _ (lt-leb first e.0 below)
      | inr from ↦ (
          let upto : past ≤ e.0 = least e.0 from (found_is_some _ e.1 there) in
          elim (cases_lt past e.0) [
            | inl later ↦ (
                let behind : past < e.1 = apart.apart past next e.0 e.1 is there later in
                let some : next ≤ past = apart.filled past next is in
                and_right _ _ (lt-leb e.1 last (omega (arith, behind, some, late))))
            | inr not_later ↦ (
                let same : e.0 ≡ past = omega (arith, upto, not_later) in
                let value : e.1 ≡ next = same_value (get nat_cmp m past) e.1 next (sym (ap (get nat_cmp m) same) ∙ there) is in
                and_right _ _ (lt-leb e.1 last (omega (arith, value, late))))
          ])
    ])))

-- a range meets one of them where it reaches the first number of the one that ends first from its first number on
pub meets_least : (m : BTreeMap ℕ ℕ) (first last past next : ℕ) → IsOrdered nat_cmp m → IsApart m → first ≤ past → get nat_cmp m past ≡ Some next → ((q : ℕ) → first ≤ q → IsSome (get nat_cmp m q) → past ≤ q) → leb next last ≡ list_any (meets first last) m.entries
meets_least m first last past next ordered apart le is least = least_case m first last past next (leb next last) ordered apart le is least refl

-- the same for the entries from a number on, of which one is the first
pub meets_first : (m : BTreeMap ℕ ℕ) (first last past next : ℕ) (r rest : List (ℕ × ℕ)) → IsOrdered nat_cmp m → IsApart m → r ≡ (past, next) ∷ rest → IfSome (slice_get r 0) (IsEntryInRange nat_cmp (Included first) Unbounded m) → ((q : ℕ) → IsInRange nat_cmp (Included first) Unbounded q → IsSome (get nat_cmp m q) → IfSome (slice_get r 0) (λ e. IsLeBy nat_cmp e.0 q)) → leb next last ≡ list_any (meets first last) m.entries
meets_first m first last past next r rest ordered apart is entry least =
    let there = subst (λ (es : List (ℕ × ℕ)). IfSome (slice_get es 0) (IsEntryInRange nat_cmp (Included first) Unbounded m)) is entry in
    meets_least m first last past next ordered apart (le_from_not_gt first past there.0.0) there.1 (λ q le some. (
    le_from_not_gt past q (subst (λ (es : List (ℕ × ℕ)). IfSome (slice_get es 0) (λ e. IsLeBy nat_cmp e.0 q)) is (least q (in_order first q le, tt) some))))

-- a range that meets none of them lies before or behind each
clear_of : (m : BTreeMap ℕ ℕ) (first last past next : ℕ) → IsOrdered nat_cmp m → list_any (meets first last) m.entries ≡ false → get nat_cmp m past ≡ Some next → (past < first) ⊎ (last < next)
clear_of m first last past next ordered free is =
    let place = (btree_map_get_iff nat_cmp_total exact_unsigned m ordered past next).0 is in
    let fails : (leb first past && leb next last) ≡ false = sym (ap (meets first last) place.2) ∙ any_none (meets first last) m.entries place.0 (past, next) free place.1 in
    elim (and_cases (leb first past) (leb next last) fails) [
      | inl before ↦ inl (leb-false first past before)
      | inr behind ↦ inr (leb-false next last behind)
    ]

absent_case : (m : BTreeMap ℕ ℕ) (first last : ℕ) (o : Option ℕ) → IsOrdered nat_cmp m → IsApart m → first ≤ last → list_any (meets first last) m.entries ≡ false → get nat_cmp m last ≡ o → o ≡ None
absent_case m first last None ordered apart some free is = refl
absent_case m first last (Some next) ordered apart some free is =
    elim (clear_of m first last last next ordered free is) [
      | inl before ↦ absurd (omega (arith, before, some))
      | inr behind ↦ absurd (let le = apart.filled last next is in omega (arith, behind, le))
    ]

-- its last number is the last of none of them
pub absent : (m : BTreeMap ℕ ℕ) (first last : ℕ) → IsOrdered nat_cmp m → IsApart m → first ≤ last → list_any (meets first last) m.entries ≡ false → get nat_cmp m last ≡ None
absent m first last ordered apart some free = absent_case m first last (get nat_cmp m last) ordered apart some free refl

-- n is m with one entry more
abbrev pub Gains : BTreeMap ℕ ℕ → BTreeMap ℕ ℕ → ℕ → ℕ → Type 0
Gains m n last first = (q : ℕ) → get nat_cmp n q ≡ cond (is_at (nat_cmp last) q) (Some first) (get nat_cmp m q)

either : (b : Bool) (o : Option ℕ) (first next : ℕ) → cond b (Some first) o ≡ Some next → ((b ≡ true) × (next ≡ first)) ⊎ (o ≡ Some next)
either true o first next e = inl (refl, same_value (Some first) next first e refl)
either false o first next e = inr e

-- an entry after that is the new one or stood there before
pub new_or_old : (m n : BTreeMap ℕ ℕ) (last first past next : ℕ) → Gains m n last first → get nat_cmp n past ≡ Some next → ((past ≡ last) × (next ≡ first)) ⊎ (get nat_cmp m past ≡ Some next)
new_or_old m n last first past next gains is =
    elim (either (is_at (nat_cmp last) past) (get nat_cmp m past) first next (sym (gains past) ∙ is)) [
      | inl new ↦ inl (sym (tells_apart exact_unsigned last past new.0), new.1)
      | inr old ↦ inr old
    ]

pub stay_apart : (m n : BTreeMap ℕ ℕ) (first last : ℕ) → IsOrdered nat_cmp m → IsApart m → first ≤ last → list_any (meets first last) m.entries ≡ false → Gains m n last first → IsApart n
stay_apart m n first last ordered apart some free gains = record {
  filled = λ a b is. elim (new_or_old m n last first a b gains is) [
    | inl new ↦ omega (arith, some, new.0, new.1)
    | inr old ↦ apart.filled a b old
  ];
  apart = λ a b c d is there lt. elim (new_or_old m n last first a b gains is) [
    | inl new ↦ elim (new_or_old m n last first c d gains there) [
      | inl both ↦ absurd (omega (arith, lt, new.0, both.0))
      | inr old ↦ elim (clear_of m first last c d ordered free old) [
        | inl before ↦ absurd (omega (arith, lt, new.0, before, some))
        | inr behind ↦ omega (arith, new.0, behind)
      ]
    ]
    | inr old ↦ elim (new_or_old m n last first c d gains there) [
      | inl new ↦ elim (clear_of m first last a b ordered free old) [
        | inl before ↦ omega (arith, before, new.1)
        | inr behind ↦ absurd (let le = apart.filled a b old in omega (arith, lt, new.0, behind, le))
      ]
      | inr both ↦ apart.apart a b c d old both lt
    ]
  ];
}

-- a number is no other key
pub other_key : (a b : ℕ) → (a ≡ b → ⊥) → is_at (nat_cmp a) b ≡ false
other_key a b apart = not_passed (is_at (nat_cmp a) b) (λ e. apart (tells_apart exact_unsigned a b e))

swap : (a b c : Bool) → (a || (b || c)) ≡ (b || (a || c))
swap true true c = refl
swap true false c = refl
swap false b c = refl

any_step : (test : ℕ × ℕ → Bool) (k v : ℕ) (e : ℕ × ℕ) (es : List (ℕ × ℕ)) (o : Ordering) → cond (is_eq o) (Some e.1) (lookup (is_at (nat_cmp k)) es) ≡ None → (lookup (is_at (nat_cmp k)) es ≡ None → list_any test (insert_entry nat_cmp es k v) ≡ (test (k, v) || list_any test es)) → list_any test (match_ordering o ((k, v) ∷ e ∷ es) ((e.0, v) ∷ es) (e ∷ insert_entry nat_cmp es k v)) ≡ (test (k, v) || (test e || list_any test es))
any_step test k v e es Less none rest = refl
any_step test k v e es Equal none rest = absurd cc
any_step test k v e es Greater none rest = ap (λ (b : Bool). test e || b) (rest none) ∙ swap (test e) (test (k, v)) (list_any test es)

-- a test among the entries with one more
pub any_insert : (test : ℕ × ℕ → Bool) (es : List (ℕ × ℕ)) (k v : ℕ) → lookup (is_at (nat_cmp k)) es ≡ None → list_any test (insert_entry nat_cmp es k v) ≡ (test (k, v) || list_any test es)
any_insert test [] k v none = refl
any_insert test (e ∷ es) k v none = any_step test k v e es (nat_cmp k e.0) none (any_insert test es k v)
