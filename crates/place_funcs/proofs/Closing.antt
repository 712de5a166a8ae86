-- From the groups in a map to the order of the functions.
use Rattle.std.proofs.Common.{◌≡◌, ℕ, suc, ◌<◌, ◌≤◌, ◌^◌, Bool, true, false, List, [], ◌∷◌, ◌++◌, length, map, sym, ap, subst, ◌∙◌, arith}
use Rattle.std.specs.Prelude.{Contains, All, AllPairs, IsSome, if◌then◌else◌}
use Rattle.std.specs.Ordering.{nat_cmp}
use Rattle.std.specs.BTreeMap.{is_at}
use Rattle.std.specs.Map.{lookup}
use Rattle.std.specs.List.{flat_map}
use Rattle.std.proofs.lemmas.List.Kept.{AllPairs-cons}
use Rattle.std.proofs.lemmas.List.Elements.{All-nil, All-cons, All-head, All-tail}
use Rattle.std.proofs.lemmas.List.Concat.{flat_map-cons}
use Rattle.std.proofs.lemmas.List.Sums.{sum_by-le-sum_by}
use Rattle.std.proofs.lemmas.List.Sorted.{All-permutation}
use Rattle.image.specs.declared.ranges.Func.{Func}
use Rattle.image.specs.Picture.{Picture}
use Rattle.image.specs.Picture as picture
use Rattle.branch_ring.specs.declared.counted.Counted.{Counted}
use Rattle.branch_ring.specs.Profiles.{count_of, IsKept}
use Rattle.place_funcs.specs.Edges.{edge, count, count_from, is_held}
use Rattle.place_funcs.specs.Groups.{name, IsClosest}
use Rattle.place_funcs.specs.Grouping.{named, ranks, group_of, IsGrouped}
use Rattle.place_funcs.specs.Rows.{IsGiven}
use Rattle.branch_ring.proofs.Ascending.{in_head, in_tail}
use Rattle.place_funcs.proofs.Standing.{Above, Rise}
use Rattle.place_funcs.proofs.Ranked.{last_is}

all_above : (k : ℕ) (gs : List (List ℕ)) → ((c : List ℕ) → Contains gs c → k < name c) → Above k gs
all_above k [] h = tt
all_above k (c ∷ gs) h = (h c (in_head c gs), all_above k gs (λ d i. h d (in_tail c gs d i)))

pub pairs_rise : (gs : List (List ℕ)) → AllPairs (λ c d. name c < name d) gs → Rise gs
pairs_rise [] h = tt
pairs_rise (c ∷ gs) h = (all_above (name c) gs (λ d i. subst (λ (x : List ℕ). name c < name x) i.2 (h 0 (suc i.0) d (omega arith) (omega (arith, i.1)))), pairs_rise gs (λ i j d lt within. h (suc i) (suc j) d (omega (arith, lt)) (omega (arith, within))))

above_all : (c : List ℕ) (gs : List (List ℕ)) → Above (name c) gs → All (λ d. name c < name d) gs
above_all c [] h = All-nil (λ d. name c < name d)
above_all c (d ∷ gs) h = All-cons (λ d. name c < name d) d gs h.0 (above_all c gs h.1)

pub rise_pairs : (gs : List (List ℕ)) → Rise gs → AllPairs (λ c d. name c < name d) gs
rise_pairs [] h = λ i j d lt within. absurd (omega (arith, within))
rise_pairs (c ∷ gs) h = AllPairs-cons (λ c d. name c < name d) c gs (above_all c gs h.0) (rise_pairs gs h.1)

pub given : (p : Picture) (profile : List Counted) (funcs : List ℕ) → picture.IsKept p → IsKept profile → AllPairs (λ f g. f < g) funcs → All (λ f. f < length p.funcs) funcs → IsGiven p.funcs profile funcs
given p profile funcs h k up there =
    record {
      rise = h.funcs_rise;
      ordered = λ i d lt. (let f = (h.funcs_fit i d lt).some in omega (arith, f));
      few = h.few_funcs;
      kept = k;
      ascend = up;
      below = there;
    }

low_count : (funcs : List Func) (profile : List Counted) → IsKept profile → (c : List ℕ) → count funcs profile c < 2 ^ 62
unfolding count
low_count funcs profile kept c = let a = sum_by-le-sum_by (count_from funcs profile c) count_of profile (λ p. low (is_held funcs c p.from) p.count) in let b = kept.small in omega (arith, a, b)
  where
    low : (t : Bool) (n : ℕ) → (if t then n else 0) ≤ n
    low true n = omega arith
    low false n = omega arith

pub closed : (funcs : List Func) (profile : List Counted) (chosen : List ℕ) (es : List (ℕ × List ℕ)) (order : List ℕ) → IsKept profile → IsGrouped (edge funcs profile) chosen es → order ≡ flat_map group_of (ranks (count funcs profile) [] es) → IsClosest (edge funcs profile) (count funcs profile) chosen order
closed funcs profile chosen es order kept g e =
    let q = last_is (count funcs profile) (low_count funcs profile kept) g.last (pairs_rise g.last g.rise) in
    record {
      merges = g.merges;
      last = g.last;
      ends = g.ends;
      groups = q.groups;
      same = q.same;
      stand = q.stand;
      is = e ∙ ap (λ (xs : List (ℕ × List ℕ)). flat_map group_of (ranks (count funcs profile) [] xs)) g.is ∙ q.is;
    }

left_part : (P : ℕ → Type 0) (xs ys : List ℕ) → All P (xs ++ ys) → All P xs
left_part P [] ys h = All-nil P
left_part P (x ∷ xs) ys h = All-cons P x xs (All-head P x (xs ++ ys) h) (left_part P xs ys (All-tail P x (xs ++ ys) h))

right_part : (P : ℕ → Type 0) (xs ys : List ℕ) → All P (xs ++ ys) → All P ys
right_part P [] ys h = h
right_part P (x ∷ xs) ys h = right_part P xs ys (All-tail P x (xs ++ ys) h)

in_each : (P : ℕ → Type 0) (gs : List (List ℕ)) → All P (flat_map (λ c. c) gs) → All (λ (e : ℕ × List ℕ). All P e.1) (map named gs)
in_each P [] h = All-nil (λ (e : ℕ × List ℕ). All P e.1)
in_each P (c ∷ gs) h =
    let k : All P (c ++ flat_map (λ x. x) gs) = subst (λ (xs : List ℕ). All P xs) (flat_map-cons (λ (x : List ℕ). x) c gs) h in
    All-cons (λ (e : ℕ × List ℕ). All P e.1) (named c) (map named gs) (left_part P c (flat_map (λ x. x) gs) k) (in_each P gs (right_part P c (flat_map (λ x. x) gs) k))

pub all_there : (edge : ℕ → ℕ → ℕ) (n : ℕ) (chosen : List ℕ) (es : List (ℕ × List ℕ)) → All (λ f. f < n) chosen → IsGrouped edge chosen es → All (λ e. All (λ f. f < n) e.1) es
all_there edge n chosen es h g = subst (λ (xs : List (ℕ × List ℕ)). All (λ e. All (λ f. f < n) e.1) xs) (sym g.is) (in_each (λ f. f < n) g.last (All-permutation (λ f. f < n) chosen (flat_map (λ c. c) g.last) g.same h))

pub some_at : (es fs : List (ℕ × List ℕ)) (x : ℕ) → es ≡ fs → IsSome (lookup (is_at (nat_cmp x)) fs) → IsSome (lookup (is_at (nat_cmp x)) es)
some_at es fs x e h = subst (λ (xs : List (ℕ × List ℕ)). IsSome (lookup (is_at (nat_cmp x)) xs)) (sym e) h
