-- The entries of a map of counted pairs are the profile of these.
use Rattle.std.proofs.Common.{◌≡◌, ℕ, zero, suc, ◌<◌, List, [], ◌∷◌, length, map, get_or, ◌⊎◌, inl, inr, sym, ap, subst, ◌∙◌, arith}
use Rattle.std.specs.Prelude.{◌↔◌, AllPairs, Contains, Some, None}
use Rattle.std.specs.BTreeMap.{BTreeMap, IsOrdered}
use Rattle.std.specs.Ordering.{nat_cmp, ordering_then}
use Rattle.std.specs.Cmp.{IsTotalOrder}
use Rattle.std.specs.declared.cmp.Ordering.TheVariants.{Less}
use Rattle.std.proofs.lemmas.Bool.{cases_order}
use Rattle.std.proofs.lemmas.Cmp.{nat_cmp_total, on_total, then_total}
use Rattle.std.proofs.lemmas.Grind.{common_steps}
use Rattle.std.proofs.lemmas.List.{get_or-map, length-map}
use Rattle.std.proofs.lemmas.Map.Keys.{Less-from_sorted}
use Rattle.std.proofs.lemmas.Map.Lookups.{CmpEqualImpliesEq, exact_pairs, exact_unsigned}
use Rattle.std.proofs.lemmas.Map.Views.{btree_map_get_iff}
use Rattle.branch_ring.specs.declared.counted.Counted.{Counted}
use Rattle.branch_ring.specs.Profiles.{Precedes, times, counted, IsProfile}
use Rattle.branch_ring.specs.Tallies.{pair_cmp, count_at, with_more, entry_of}
use Rattle.branch_ring.proofs.Ascending.{split_at, in_head, in_tail}
use Rattle.branch_ring.proofs.Tallied.{some_more}

pub pair_total : IsTotalOrder pair_cmp
pair_total = then_total (on_total (λ (p : ℕ × ℕ). p.0) nat_cmp_total) (on_total (λ (p : ℕ × ℕ). p.1) nat_cmp_total)

pub pair_exact : CmpEqualImpliesEq pair_cmp
pair_exact = exact_pairs nat_cmp nat_cmp exact_unsigned exact_unsigned

less_pair : (a b c d : ℕ) → ordering_then (nat_cmp a b) (nat_cmp c d) ≡ Less → (a < b) ⊎ ((a ≡ b) × (c < d))
less_pair a b c d e =
    elim (cases_order a b) [
      | inl same ↦ elim (cases_order c d) [
        | inl other ↦ absurd (grind (arith, common_steps, same, other, e))
        | inr (inl below) ↦ inr (same, below)
        | inr (inr past) ↦ absurd (grind (arith, common_steps, same, past, e))
      ]
      | inr (inl below) ↦ inl below
      | inr (inr past) ↦ absurd (grind (arith, common_steps, past, e))
    ]

abbrev first : (ℕ × ℕ) × ℕ → ℕ × ℕ
first e = e.0

pub rows_ascend : (m : BTreeMap (ℕ × ℕ) ℕ) (rows : List (ℕ × ℕ × ℕ)) → IsOrdered pair_cmp m → map entry_of rows ≡ m.entries → AllPairs Precedes (map counted rows)
rows_ascend m rows ordered is i j d l k =
    let row : ℕ × ℕ × ℕ = (d.from, d.to, d.count) in
    let within : j < length rows = rw length-map at k in
    let keys : List (ℕ × ℕ) = map first m.entries in
    let at_i : get_or keys i (first (entry_of row)) ≡ first (entry_of (get_or rows i row)) =
    rw (← is) (get_or-map first (map entry_of rows) i (entry_of row) (first (entry_of row)) (rw length-map (omega arith)) ∙ ap first (get_or-map entry_of rows i row (entry_of row) (omega arith))) in
    let at_j : get_or keys j (first (entry_of row)) ≡ first (entry_of (get_or rows j row)) =
    rw (← is) (get_or-map first (map entry_of rows) j (entry_of row) (first (entry_of row)) (rw length-map within) ∙ ap first (get_or-map entry_of rows j row (entry_of row) within)) in
    let size : length keys ≡ length rows = length-map m.entries first ∙ ap length (sym is) ∙ length-map rows entry_of in
    let less = Less-from_sorted pair_cmp keys i j (first (entry_of row)) ordered l (omega arith) in
    let one : get_or (map counted rows) i d ≡ counted (get_or rows i row) = get_or-map counted rows i row d (omega arith) in
    let two : get_or (map counted rows) j d ≡ counted (get_or rows j row) = get_or-map counted rows j row d within in
    rw (one, two) (less_pair _ _ _ _ (rw (at_i, at_j) at less))

pub from_map : {X Y : Type 0} (f : X → Y) (xs : List X) (e : Y) → Contains (map f xs) e → (x : X) × Contains xs x × (e ≡ f x)
from_map f [] e h = absurd (omega (arith, h.1))
from_map f (x ∷ xs) e h =
    elim (split_at (f x) (map f xs) e h) [
      | inl same ↦ (x, in_head x xs, same)
      | inr later ↦ (let k = from_map f xs e later in (k.0, in_tail x xs k.0 k.1, k.2))
    ]

pub to_map : {X Y : Type 0} (f : X → Y) (xs : List X) (x : X) → Contains xs x → Contains (map f xs) (f x)
to_map f [] x h = absurd (omega (arith, h.1))
to_map f (y ∷ ys) x h =
    elim (split_at y ys x h) [
      | inl same ↦ subst (λ z. Contains (f y ∷ map f ys) (f z)) (sym same) (in_head (f y) (map f ys))
      | inr later ↦ in_tail (f y) (map f ys) (f x) (to_map f ys x later)
    ]

abbrev pub entry : Counted → (ℕ × ℕ) × ℕ
entry c = ((c.from, c.to), c.count)

abbrev as_counted : (ℕ × ℕ) × ℕ → Counted
as_counted e = record { from = e.0.0; to = e.0.1; count = e.1 }

pub to_entry : (rows : List (ℕ × ℕ × ℕ)) (c : Counted) → Contains (map counted rows) c → Contains (map entry_of rows) (entry c)
to_entry rows c h =
    let k = from_map counted rows c h in
    subst (λ (z : Counted). Contains (map entry_of rows) (entry z)) (sym k.2) (to_map entry_of rows k.0 k.1)

pub from_entry : (rows : List (ℕ × ℕ × ℕ)) (c : Counted) → Contains (map entry_of rows) (entry c) → Contains (map counted rows) c
from_entry rows c h =
    let k = from_map entry_of rows (entry c) h in
    subst (λ (z : Counted). Contains (map counted rows) z) (sym (ap as_counted k.2)) (to_map counted rows k.0 k.1)

some_count : (n k : ℕ) → with_more None n ≡ Some k → (0 < k) × (k ≡ n)
some_count zero k e = absurd cc
some_count (suc n) k e =
    let h : Some (suc n) ≡ Some k = sym (some_more n) ∙ e in
    let same : suc n ≡ k = cc in
    (omega arith, sym same)

count_some : (n k : ℕ) → 0 < k → k ≡ n → with_more None n ≡ Some k
count_some zero k l e = absurd (omega arith)
count_some (suc n) k l e = some_more n ∙ ap Some (sym e)

pub listed_profile : (pairs : List (ℕ × ℕ)) (m : BTreeMap (ℕ × ℕ) ℕ) (rows : List (ℕ × ℕ × ℕ)) → IsOrdered pair_cmp m
    → ((from to : ℕ) → count_at m from to ≡ with_more None (times pairs from to)) → map entry_of rows ≡ m.entries → IsProfile pairs (map counted rows)
listed_profile pairs m rows ordered counts is =
    let there : (c : Counted) → (count_at m c.from c.to ≡ Some c.count) ↔ Contains m.entries (entry c) = λ c. btree_map_get_iff pair_total pair_exact m ordered (c.from, c.to) c.count in
    record {
      ascends = rows_ascend m rows ordered is;
      has = λ c. (
        (λ h. some_count (times pairs c.from c.to) c.count (sym (counts c.from c.to) ∙ (there c).1 (rw is at (to_entry rows c h)))),
        (λ h. from_entry rows c (rw (is) ((there c).0 (counts c.from c.to ∙ count_some (times pairs c.from c.to) c.count h.0 h.1)))),
      );
    }
