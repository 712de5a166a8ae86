-- Rows that were put into a map, and what is there then.
use Rattle.std.proofs.Common.{◌≡◌, ℕ, ◌+◌, ◌-◌, ◌<◌, ◌≤◌, Bool, true, false, cond, List, [], ◌∷◌, length, map, get_or, take, drop, drop-cons, refl, sym, ap, subst, ◌∙◌, ◌⊎◌, inl, inr, add-one, arith}
use Rattle.std.specs.Prelude.{◌==◌, ◌&&◌, ◌||◌, ◌↔◌, AllPairs, Contains, Option, Some, None, is_some, nat_le, nat_lt, sum_by, if◌then◌else◌}
use Rattle.std.specs.BTreeMap.{BTreeMap, is_at, IsOrdered}
use Rattle.std.specs.List.{AllWithin}
use Rattle.std.specs.List.Sorted.{IsNonDecreasingBy, IsPermutation}
use Rattle.std.proofs.lemmas.Bool.{and_parts, cases_lt, eqb-true, eq-eqb, leb-true, ltb-true}
use Rattle.std.proofs.lemmas.Bool.Decides.{nat_tests}
use Rattle.std.proofs.lemmas.List.{get_or-drop, get_or-take, length-drop, length-take}
use Rattle.std.proofs.Math.Seq.{take-length}
use Rattle.std.proofs.lemmas.List.Elements.{All-contains, Contains-get_or}
use Rattle.std.proofs.lemmas.List.Sorted.{Contains-permutation, IsPermutation-sym}
use Rattle.std.proofs.lemmas.List.Sums.{sum_by-cons}
use Rattle.std.proofs.lemmas.Map.Views.{btree_map_get_iff}
use Rattle.finite.proofs.Searching.{tail_pairs}
use Rattle.image.specs.declared.ranges.Func.{Func}
use Rattle.image.specs.Aims.{is_inside}
use Rattle.branch_ring.specs.declared.counted.Counted.{Counted}
use Rattle.branch_ring.specs.Profiles.{Precedes, counted, count_of, is_pair, IsKept}
use Rattle.branch_ring.specs.Tallies.{pair_cmp, count_at, entry_of}
use Rattle.branch_ring.proofs.Ascending.{in_head, in_none, in_tail, past_head, precedes_once, split_at}
use Rattle.branch_ring.proofs.Listing.{entry, from_entry, from_map, pair_exact, pair_total, rows_ascend, to_entry, to_map}
use Rattle.branch_ring.proofs.Tallied.{at_pair}
use Rattle.placer.specs.Chosen.{row_from}
use Rattle.placer.specs.Shares.{flip, put_rows, touches, IsShare}

-- one row more
pub put_one : (old : Option ℕ) (x y n from to : ℕ) (now : Option ℕ) → now ≡ cond (is_at (pair_cmp (x, y)) (from, to)) (Some n) old → now ≡ (if is_pair from to (x, y) then Some n else old)
put_one old x y n from to now e = e ∙ ap (λ (b : Bool). cond b (Some n) old) (at_pair x y from to ∙ turned)
  where
    turned : ((from == x) && (to == y)) ≡ ((x == from) && (y == to))
    turned = grind (arith, nat_tests)

pub put_next : (rows : List (ℕ × ℕ × ℕ)) (i : ℕ) (d : ℕ × ℕ × ℕ) (from to : ℕ) (o : Option ℕ) → i < length rows
    → put_rows (drop (i + 1) rows) from to (if is_pair from to ((get_or rows i d).0, (get_or rows i d).1) then Some (get_or rows i d).2 else o) ≡ put_rows (drop i rows) from to o
put_next rows i d from to o l = rw (add-one, drop-cons rows i d l) refl

-- where a count comes from
put_from : (rows : List (ℕ × ℕ × ℕ)) (from to n : ℕ) (o : Option ℕ) → put_rows rows from to o ≡ Some n → Contains rows (from, to, n) ⊎ (o ≡ Some n)
put_from [] from to n o e = inr e
put_from (row ∷ rows) from to n o e = by_test (is_pair from to (row.0, row.1)) refl (put_from rows from to n (if is_pair from to (row.0, row.1) then Some row.2 else o) e)
  where
    by_test : (b : Bool) → is_pair from to (row.0, row.1) ≡ b → Contains rows (from, to, n) ⊎ ((if is_pair from to (row.0, row.1) then Some row.2 else o) ≡ Some n) → Contains (row ∷ rows) (from, to, n) ⊎ (o ≡ Some n)
    by_test b t (inl later) = inl (in_tail row rows (from, to, n) later)
    by_test true t (inr here) =
        let parts = and_parts (row.0 == from) (row.1 == to) t in
        let f : row.0 ≡ from = eqb-true row.0 from parts.0 in
        let g : row.1 ≡ to = eqb-true row.1 to parts.1 in
        let some : Some row.2 ≡ Some n = rw t at here in
        let h : row.2 ≡ n = cc in
        let same : row ≡ (from, to, n) = λ i. (f i, g i, h i) in
        inl (subst (λ (r : ℕ × ℕ × ℕ). Contains (row ∷ rows) r) same (in_head row rows))
    by_test false t (inr here) = inr (rw t at here)

kept_some : (rows : List (ℕ × ℕ × ℕ)) (from to : ℕ) (o : Option ℕ) → is_some o ≡ true → is_some (put_rows rows from to o) ≡ true
kept_some [] from to o e = e
kept_some (row ∷ rows) from to o e = kept_some rows from to (if is_pair from to (row.0, row.1) then Some row.2 else o) (either (is_pair from to (row.0, row.1)))
  where
    either : (b : Bool) → is_some (if b then Some row.2 else o) ≡ true
    either true = refl
    either false = e

is_itself : (row : ℕ × ℕ × ℕ) → is_pair row.0 row.1 (row.0, row.1) ≡ true
is_itself row = rw (eq-eqb row.0 row.0 refl, eq-eqb row.1 row.1 refl) refl

put_there : (rows : List (ℕ × ℕ × ℕ)) (row : ℕ × ℕ × ℕ) (o : Option ℕ) → Contains rows row → is_some (put_rows rows row.0 row.1 o) ≡ true
put_there [] row o h = absurd (in_none row h)
put_there (r ∷ rows) row o h =
    elim (split_at r rows row h) [
      | inl same ↦ kept_some rows row.0 row.1 _ (subst (λ (s : ℕ × ℕ × ℕ). is_some (if is_pair row.0 row.1 (s.0, s.1) then Some s.2 else o) ≡ true) same (rw (is_itself row) refl))
      | inr later ↦ put_there rows row _ later
    ]

-- the first of some rows by their first address, and those behind
pub rest_rises : (rows : List (ℕ × ℕ × ℕ)) (n : ℕ) → IsNonDecreasingBy row_from rows → IsNonDecreasingBy row_from (drop n rows)
rest_rises rows n up i j d le lt =
    let size = length-drop n rows in
    rw (get_or-drop n rows i d, get_or-drop n rows j d) (up (n + i) (n + j) d (omega arith) (omega arith))

pub part_of : (rows : List (ℕ × ℕ × ℕ)) (n k : ℕ) (row : ℕ × ℕ × ℕ) → Contains (take k (drop n rows)) row → Contains rows row
part_of rows n k row (i, lt, is) =
    let less : i < k = (let s = length-take k (drop n rows) in omega arith) in
    let within : n + i < length rows = (let s = length-take k (drop n rows) in let t = length-drop n rows in omega arith) in
    (n + i, within, sym (get_or-drop n rows i row) ∙ sym (get_or-take k (drop n rows) i row less) ∙ is)

pub all_inside : (rows : List (ℕ × ℕ × ℕ)) (f : Func) (n k : ℕ) (row : ℕ × ℕ × ℕ) → AllWithin (λ r. row_from r < f.from) rows 0 n → AllWithin (λ r. f.to ≤ row_from r) (drop n rows) k (length (drop n rows))
    → k ≤ length (drop n rows) → Contains rows row → f.from ≤ row_from row → row_from row < f.to → Contains (take k (drop n rows)) row
all_inside rows f n k row below past within (i, lt, is) low high =
    let here : row_from (get_or rows i row) ≡ row_from row = ap row_from is in
    let after : n ≤ i = elim (cases_lt i n) [ inl l ↦ absurd (let b = below i row (omega arith) l in omega arith) | inr l ↦ l ] in
    let place : n + (i - n) ≡ i = omega arith in
    let at : get_or (drop n rows) (i - n) row ≡ get_or rows i row = get_or-drop n rows (i - n) row ∙ ap (λ (m : ℕ). get_or rows m row) place in
    let key : row_from (get_or (drop n rows) (i - n) row) ≡ row_from row = ap row_from at ∙ here in
    let size = length-drop n rows in
    let before : i - n < k = elim (cases_lt (i - n) k) [ inl l ↦ l | inr l ↦ absurd (let p = past (i - n) row l (omega arith) in omega arith) ] in
    let whole = length-take k (drop n rows) in
    (i - n, omega arith, get_or-take k (drop n rows) (i - n) row before ∙ at ∙ is)

-- rows with their ends exchanged and in another order
flipped_twice : (rows : List (ℕ × ℕ × ℕ)) (row : ℕ × ℕ × ℕ) → Contains (map flip rows) row → Contains rows (flip row)
flipped_twice rows row h =
    let k = from_map flip rows row h in
    subst (λ (r : ℕ × ℕ × ℕ). Contains rows r) (sym (ap flip k.2)) k.1

pub by_targets : (rows sorted : List (ℕ × ℕ × ℕ)) (row : ℕ × ℕ × ℕ) → IsPermutation (map flip rows) sorted → Contains sorted row ↔ Contains rows (flip row)
by_targets rows sorted row p = (
  (λ h. flipped_twice rows row (Contains-permutation sorted (map flip rows) row (IsPermutation-sym (map flip rows) sorted p) h)),
  (λ h. Contains-permutation (map flip rows) sorted row p (to_map flip rows (flip row) h)),
)

-- the counts of some pairs of a profile add up to at most those of all
sub_sum : (part profile : List Counted) → AllPairs Precedes part → AllPairs Precedes profile → ((c : Counted) → Contains part c → Contains profile c) → sum_by count_of part ≤ sum_by count_of profile
sub_sum [] profile up vp h = omega arith
sub_sum (c ∷ cs) [] up vp h = absurd (in_none c (h c (in_head c cs)))
sub_sum (c ∷ cs) (d ∷ ds) up vp h =
    elim (split_at d ds c (h c (in_head c cs))) [
      | inl same ↦ (
          let rest = sub_sum cs ds (tail_pairs Precedes c cs up) (tail_pairs Precedes d ds vp) (behind same) in
          let one : c.count ≡ d.count = ap count_of same in
          let left = sum_by-cons count_of c cs in
          let right = sum_by-cons count_of d ds in
          omega arith)
      | inr later ↦ (
          let rest = sub_sum (c ∷ cs) ds up (tail_pairs Precedes d ds vp) (all_later later) in
          let right = sum_by-cons count_of d ds in
          omega arith)
    ]
  where
    behind : c ≡ d → (e : Counted) → Contains cs e → Contains ds e
    behind same e k =
        elim (split_at d ds e (h e (in_tail c cs e k))) [
          | inl at ↦ (let r = past_head Precedes precedes_once c cs e up k in let s : Precedes c c = subst (λ (z : Counted). Precedes c z) (at ∙ sym same) r in absurd (precedes_once c c s s))
          | inr there ↦ there
        ]

    all_later : Contains ds c → (e : Counted) → Contains (c ∷ cs) e → Contains ds e
    all_later later e k =
        elim (split_at d ds e (h e k)) [
          | inl at ↦ elim (split_at c cs e k) [
            | inl first ↦ subst (λ (z : Counted). Contains ds z) (sym first) later
            | inr past ↦ (
                let r : Precedes c d = subst (λ (z : Counted). Precedes c z) at (past_head Precedes precedes_once c cs e up past) in
                absurd (precedes_once c d r (past_head Precedes precedes_once d ds c vp later)))
          ]
          | inr there ↦ there
        ]

-- a pair has one count
one_count : (cs : List Counted) (c d : Counted) → AllPairs Precedes cs → Contains cs c → Contains cs d → c.from ≡ d.from → c.to ≡ d.to → c ≡ d
one_count [] c d up h k e f = absurd (in_none c h)
one_count (x ∷ xs) c d up h k e f =
    elim (split_at x xs c h) [
      | inl one ↦ elim (split_at x xs d k) [
        | inl other ↦ one ∙ sym other
        | inr later ↦ absurd (apart c d e f (subst (λ (z : Counted). Precedes z d) (sym one) (past_head Precedes precedes_once x xs d up later)))
      ]
      | inr later ↦ elim (split_at x xs d k) [
        | inl other ↦ absurd (apart d c (sym e) (sym f) (subst (λ (z : Counted). Precedes z c) (sym other) (past_head Precedes precedes_once x xs c up later)))
        | inr past ↦ one_count xs c d (tail_pairs Precedes x xs up) later past e f
      ]
    ]
  where
    apart : (c d : Counted) → c.from ≡ d.from → c.to ≡ d.to → Precedes c d → ⊥
    apart c d e f (inl l) = omega arith
    apart c d e f (inr l) = omega (arith, l.1)

module _ (rows targets left entered found_rows : List (ℕ × ℕ × ℕ)) (f : Func) (found : BTreeMap (ℕ × ℕ) ℕ) where
  pub shared : IsKept (map counted rows)
      → ((row : ℕ × ℕ × ℕ) → Contains targets row ↔ Contains rows (flip row))
      → ((row : ℕ × ℕ × ℕ) → Contains left row → Contains rows row)
      → ((row : ℕ × ℕ × ℕ) → Contains rows row → f.from ≤ row_from row → row_from row < f.to → Contains left row)
      → ((row : ℕ × ℕ × ℕ) → Contains entered row → Contains targets row)
      → ((row : ℕ × ℕ × ℕ) → Contains targets row → f.from ≤ row_from row → row_from row < f.to → Contains entered row)
      → ((from to : ℕ) → count_at found from to ≡ put_rows (map flip entered) from to (put_rows left from to None))
      → IsOrdered pair_cmp found → map entry_of found_rows ≡ found.entries
      → IsShare f (map counted rows) (map counted found_rows)
  shared kept same left_some left_all entered_some entered_all is ordered listed =
      record {
        kept = record {
          ascends = up;
          some = λ i d l. All-contains (λ c. 0 < c.count) (map counted rows) (get_or (map counted found_rows) i d) kept.some (some (get_or (map counted found_rows) i d) (Contains-get_or (map counted found_rows) i d l));
          small = (let most = sub_sum (map counted found_rows) (map counted rows) up kept.ascends some in omega (arith, most, kept.small));
        };
        some = some;
        all = all;
      }
    where
      there : (c : Counted) → (count_at found c.from c.to ≡ Some c.count) ↔ Contains found.entries (entry c)
      there c = btree_map_get_iff pair_total pair_exact found ordered (c.from, c.to) c.count

      up : AllPairs Precedes (map counted found_rows)
      up = rows_ascend found found_rows ordered listed

      from_rows : (from to n : ℕ) → count_at found from to ≡ Some n → Contains rows (from, to, n)
      from_rows from to n e =
          elim (put_from (map flip entered) from to n (put_rows left from to None) (sym (is from to) ∙ e)) [
            | inl h ↦ (
                let k = flipped_twice entered (from, to, n) h in
                (same (to, from, n)).0 (entered_some (to, from, n) k))
            | inr h ↦ elim (put_from left from to n None h) [
              | inl k ↦ left_some (from, to, n) k
              | inr no_one ↦ absurd cc
            ]
          ]

      some : (c : Counted) → Contains (map counted found_rows) c → Contains (map counted rows) c
      some c h = to_map counted rows (c.from, c.to, c.count) (from_rows c.from c.to c.count ((there c).1 (rw listed at (to_entry found_rows c h))))

      found_count : (c : Counted) (o : Option ℕ) → count_at found c.from c.to ≡ o → is_some o ≡ true → Contains (map counted rows) c → Contains (map counted found_rows) c
      found_count c None e t h = absurd cc
      found_count c (Some n) e t h =
          let other : Counted = record { from = c.from; to = c.to; count = n } in
          let k : Contains (map counted rows) other = to_map counted rows (c.from, c.to, n) (from_rows c.from c.to n e) in
          let one : other ≡ c = one_count (map counted rows) other c kept.ascends k h refl refl in
          let count : n ≡ c.count = ap count_of one in
          from_entry found_rows c (rw listed ((there c).0 (e ∙ ap Some count)))

      row_there : (c : Counted) → Contains (map counted rows) c → Contains rows (c.from, c.to, c.count)
      row_there c h = let k = from_map counted rows c h in subst (λ (z : Counted). Contains rows (z.from, z.to, z.count)) (sym k.2) k.1

      inside_parts : (a : ℕ) → is_inside a f ≡ true → (f.from ≤ a) × (a < f.to)
      inside_parts a t = let p = and_parts (nat_le f.from a) (nat_lt a f.to) t in (leb-true f.from a p.0, ltb-true a f.to p.1)

      by_end : (c : Counted) → Contains (map counted rows) c → (s t : Bool) → is_inside c.from f ≡ s → is_inside c.to f ≡ t → (s || t) ≡ true → is_some (count_at found c.from c.to) ≡ true
      by_end c h true t e g o =
          let p = inside_parts c.from e in
          let row : ℕ × ℕ × ℕ = (c.from, c.to, c.count) in
          let k = left_all row (row_there c h) p.0 p.1 in
          rw (is c.from c.to) (kept_some (map flip entered) c.from c.to (put_rows left c.from c.to None) (put_there left row None k))
      by_end c h false true e g o =
          let p = inside_parts c.to g in
          let row : ℕ × ℕ × ℕ = (c.from, c.to, c.count) in
          let back : ℕ × ℕ × ℕ = (c.to, c.from, c.count) in
          let k = entered_all back ((same back).1 (row_there c h)) p.0 p.1 in
          rw (is c.from c.to) (put_there (map flip entered) row (put_rows left c.from c.to None) (to_map flip entered back k))
      by_end c h false false e g o = absurd cc

      all : (c : Counted) → Contains (map counted rows) c → touches f c ≡ true → Contains (map counted found_rows) c
      all c h t = found_count c (count_at found c.from c.to) refl (by_end c h (is_inside c.from f) (is_inside c.to f) refl refl t) h

pub put_flip_next : (rows : List (ℕ × ℕ × ℕ)) (i : ℕ) (d : ℕ × ℕ × ℕ) (from to : ℕ) (o : Option ℕ) → i < length rows
    → put_rows (map flip (drop (i + 1) rows)) from to (if is_pair from to ((get_or rows i d).1, (get_or rows i d).0) then Some (get_or rows i d).2 else o) ≡ put_rows (map flip (drop i rows)) from to o
put_flip_next rows i d from to o l = rw (add-one, drop-cons rows i d l) refl

rest_is : (rows : List (ℕ × ℕ × ℕ)) (n : ℕ) → take (length rows - n) (drop n rows) ≡ drop n rows
rest_is rows n = rw (← length-drop n rows) (take-length (drop n rows))

pub all_between : (rows : List (ℕ × ℕ × ℕ)) (f : Func) (n k : ℕ) → AllWithin (λ r. row_from r < f.from) rows 0 n
    → AllWithin (λ r. f.to ≤ row_from r) (take (length rows - n) (drop n rows)) k (length (take (length rows - n) (drop n rows))) → k ≤ length (take (length rows - n) (drop n rows))
    → (row : ℕ × ℕ × ℕ) → Contains rows row → f.from ≤ row_from row → row_from row < f.to → Contains (take k (take (length rows - n) (drop n rows))) row
all_between rows f n k below past within row h low high =
    let rest = rest_is rows n in
    let past_rest : AllWithin (λ r. f.to ≤ row_from r) (drop n rows) k (length (drop n rows)) = subst (λ (xs : List (ℕ × ℕ × ℕ)). AllWithin (λ r. f.to ≤ row_from r) xs k (length xs)) rest past in
    let within_rest : k ≤ length (drop n rows) = subst (λ (xs : List (ℕ × ℕ × ℕ)). k ≤ length xs) rest within in
    subst (λ (xs : List (ℕ × ℕ × ℕ)). Contains (take k xs) row) (sym rest) (all_inside rows f n k row below past_rest within_rest h low high)
