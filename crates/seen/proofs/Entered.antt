-- Transfers are counted row by row.
use Rattle.std.proofs.Common.{◌≡◌, ℕ, ◌+◌, ◌^◌, ◌<◌, ◌≤◌, cond, List, [], ◌∷◌, ◌++◌, map, drop, length, get_or, refl, ap, ◌∙◌, sym, arith}
use Rattle.std.specs.Prelude.{◌==◌, sum_by}
use Rattle.std.specs.List.{flat_map}
use Rattle.std.proofs.lemmas.Bool.Decides.{nat_tests}
use Rattle.std.proofs.lemmas.List.{at_drop_more, drop_all}
use Rattle.std.proofs.lemmas.List.Sums.{sum_by-cons}
use Rattle.std.proofs.lemmas.List.Concat.{flat_map-cons}
use Rattle.branch_ring.specs.Profiles.{counted, count_of as count}
use Rattle.place_blocks.specs.Edges.{counted_if}
use Rattle.place_blocks.proofs.Weighing.{count_small}
use Rattle.seen.specs.declared.spot.Spot.{Spot}
use Rattle.seen.specs.Profiles.{entered, edge_line}

entered_cons : (row : ℕ × ℕ × ℕ) (rows : List (ℕ × ℕ × ℕ)) (a : ℕ) → entered (map counted (row ∷ rows)) a ≡ cond (row.1 == a) row.2 0 + entered (map counted rows) a
unfolding entered
entered_cons row rows a = sum_by-cons (counted_if (λ c. c.to == a)) (counted row) (map counted rows)

pub entered_none : (a : ℕ) → entered [] a ≡ 0
unfolding entered
entered_none a = refl

-- one row on: the counts so far and those of the rows that are left are all
pub entered_more : (rows : List (ℕ × ℕ × ℕ)) (i : ℕ) (d : ℕ × ℕ × ℕ) → i < length rows → (a before after : ℕ) → before + entered (map counted (drop i rows)) a ≡ entered (map counted rows) a
    → after ≡ before + cond ((get_or rows i d).1 == a) (get_or rows i d).2 0 → after + entered (map counted (drop (i + 1) rows)) a ≡ entered (map counted rows) a
entered_more rows i d lt a before after is more =
    let here = at_drop_more (λ l. entered (map counted l) a) rows i d lt in
    let step = entered_cons (get_or rows i d) (drop (i + 1) rows) a in
    omega (arith, is, more, here, step)

-- and the sum fits
pub entered_fits : (rows : List (ℕ × ℕ × ℕ)) (i : ℕ) (d : ℕ × ℕ × ℕ) → i < length rows → (before : ℕ) → sum_by count (map counted rows) < 2 ^ 62
    → before + entered (map counted (drop i rows)) (get_or rows i d).1 ≡ entered (map counted rows) (get_or rows i d).1 → before + (get_or rows i d).2 < 2 ^ 64
unfolding entered
entered_fits rows i d lt before small is =
    let here = at_drop_more (λ l. entered (map counted l) (get_or rows i d).1) rows i d lt in
    let step = entered_cons (get_or rows i d) (drop (i + 1) rows) (get_or rows i d).1 in
    let most = count_small (map counted rows) (λ c. c.to == (get_or rows i d).1) in
    let own = same (get_or rows i d).1 (get_or rows i d).2 in
    omega (arith, is, here, step, most, own, small)
  where
    same : (a n : ℕ) → cond (a == a) n 0 ≡ n
    same a n = grind (arith, nat_tests)

pub edges_as : (spots : List Spot) (rows : List (ℕ × ℕ × ℕ)) → flat_map (λ row. edge_line spots (counted row)) rows ≡ flat_map (edge_line spots) (map counted rows)
edges_as spots [] = refl
edges_as spots (row ∷ rows) =
    flat_map-cons (λ r. edge_line spots (counted r)) row rows ∙ ap (λ t. edge_line spots (counted row) ++ t) (edges_as spots rows) ∙ sym (flat_map-cons (edge_line spots) (counted row) (map counted rows))

-- ---- all transfers
here : (rows : List (ℕ × ℕ × ℕ)) (i : ℕ) (d : ℕ × ℕ × ℕ) → i < length rows → sum_by count (map counted (drop i rows)) ≡ (get_or rows i d).2 + sum_by count (map counted (drop (i + 1) rows))
here rows i d lt = at_drop_more (λ l. sum_by count (map counted l)) rows i d lt ∙ sum_by-cons count (counted (get_or rows i d)) (map counted (drop (i + 1) rows))

pub total_more : (rows : List (ℕ × ℕ × ℕ)) (i : ℕ) (d : ℕ × ℕ × ℕ) (total all : ℕ) → i < length rows → total + sum_by count (map counted (drop i rows)) ≡ all
    → (total + (get_or rows i d).2) + sum_by count (map counted (drop (i + 1) rows)) ≡ all
total_more rows i d total all lt is = let h = here rows i d lt in omega (arith, is, h)

pub total_fits : (rows : List (ℕ × ℕ × ℕ)) (i : ℕ) (d : ℕ × ℕ × ℕ) (total : ℕ) → i < length rows → sum_by count (map counted rows) < 2 ^ 62 → total + sum_by count (map counted (drop i rows)) ≡ sum_by count (map counted rows)
    → total + (get_or rows i d).2 < 2 ^ 64
total_fits rows i d total lt small is = let h = here rows i d lt in omega (arith, is, h, small)

pub total_done : (rows : List (ℕ × ℕ × ℕ)) (i total all : ℕ) → length rows ≤ i → total + sum_by count (map counted (drop i rows)) ≡ all → total ≡ all
total_done rows i total all past is = let e = ap (λ (l : List (ℕ × ℕ × ℕ)). sum_by count (map counted l)) (drop_all i rows past) in omega (arith, is, e)
