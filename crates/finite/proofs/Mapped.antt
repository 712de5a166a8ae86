-- The entries of an ordered map list the function that the map is.
use Rattle.std.proofs.Common.{◌≡◌, ℕ, ◌<◌, List, map, Option, Some, arith}
use Rattle.std.specs.Prelude.{◌↔◌, Contains}
use Rattle.std.specs.List.{AllPairs}
use Rattle.std.specs.List.Sorted.{IsStrictlySortedBy}
use Rattle.std.specs.Cmp.{nat_cmp_total}
use Rattle.std.specs.Ordering.{nat_cmp}
use Rattle.std.specs.BTreeMap.{BTreeMap, get, IsOrdered}
use Rattle.std.proofs.lemmas.List.{length-map, get_or-map}
use Rattle.std.proofs.lemmas.Map.Views.{btree_map_get_iff}
use Rattle.std.proofs.lemmas.Map.Lookups.{exact_unsigned}
use Rattle.std.proofs.lemmas.Map.Keys.{below_from_sorted}
use Rattle.finite.specs.Lists.{Lists}

-- keys in order, at each two places
pub keys_rise : (es : List (ℕ × ℕ)) → IsStrictlySortedBy nat_cmp (map (λ e. e.0) es) → AllPairs (λ x y. x.0 < y.0) es
keys_rise es sorted i j d lt within =
    let first : (ℕ × ℕ) → ℕ = λ e. e.0 in
    let e = below_from_sorted (map first es) i j (first d) sorted lt (rw length-map within) in
    rw (get_or-map first es i d (first d) (omega arith), get_or-map first es j d (first d) within) at e

pub lists_from_map : (f : ℕ → Option ℕ) (m : BTreeMap ℕ ℕ) (entries : List (ℕ × ℕ)) → IsOrdered nat_cmp m → ((q : ℕ) → get nat_cmp m q ≡ f q) → entries ≡ m.entries → Lists f entries
lists_from_map f m entries ordered same is =
    let there : (a v : ℕ) → (f a ≡ Some v) ↔ Contains m.entries (a, v) = λ a v. rw (← same a) (btree_map_get_iff nat_cmp_total exact_unsigned m ordered a v) in
    rw is (record { ascending = keys_rise m.entries ordered; members = there })
