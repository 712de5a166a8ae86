-- Counting pairs in a map.
use Rattle.std.proofs.Common.{◌≡◌, ℕ, zero, suc, ◌+◌, ◌≤◌, Bool, true, false, cond, List, [], ◌∷◌, ◌++◌, refl, ◌∙◌, zero-add, add-zero, arith}
use Rattle.std.specs.Prelude.{◌==◌, ◌&&◌, Option, Some, None, unwrap_or}
use Rattle.std.specs.BTreeMap.{is_at}
use Rattle.std.proofs.lemmas.Grind.{common_steps}
use Rattle.std.proofs.lemmas.Bool.{and_parts, eqb-true}
use Rattle.std.proofs.lemmas.Bool.Decides.{nat_tests}
use Rattle.std.proofs.lemmas.List.Sums.{sum_by-append}
use Rattle.branch_ring.specs.Profiles.{times}
use Rattle.branch_ring.specs.Tallies.{pair_cmp, with_more}

pub at_pair : (x y p q : ℕ) → is_at (pair_cmp (x, y)) (p, q) ≡ ((p == x) && (q == y))
at_pair x y p q = grind (arith, nat_tests, common_steps)

pub more_and_more : (o : Option ℕ) (m n : ℕ) → with_more (with_more o m) n ≡ with_more o (m + n)
more_and_more o zero n = rw (zero-add n) refl
more_and_more o (suc m) zero = rw (add-zero (suc m)) refl
more_and_more o (suc m) (suc n) = grind (arith, common_steps)

pub times-append : (xs ys : List (ℕ × ℕ)) (from to : ℕ) → times (xs ++ ys) from to ≡ times xs from to + times ys from to
times-append xs ys from to = sum_by-append _ xs ys

-- one count more at a pair, and all others as before
pub one_more : (old : ℕ → ℕ → Option ℕ) (x y from to : ℕ) (now : Option ℕ)
    → now ≡ cond (is_at (pair_cmp (x, y)) (from, to)) (Some (unwrap_or (old x y) 0 + 1)) (old from to)
    → now ≡ with_more (old from to) (times ((x, y) ∷ []) from to)
one_more old x y from to now e = e ∙ by_test ((x == from) && (y == to)) refl
  where
    turned : is_at (pair_cmp (x, y)) (from, to) ≡ ((x == from) && (y == to))
    turned = grind (arith, nat_tests, common_steps)

    by_test : (b : Bool) → ((x == from) && (y == to)) ≡ b → cond (is_at (pair_cmp (x, y)) (from, to)) (Some (unwrap_or (old x y) 0 + 1)) (old from to) ≡ with_more (old from to) (0 + cond ((x == from) && (y == to)) 1 0)
    by_test true t =
        let parts = and_parts (x == from) (y == to) t in
        let f : x ≡ from = eqb-true x from parts.0 in
        let g : y ≡ to = eqb-true y to parts.1 in
        rw (turned, t) (rw (f, g) refl)
    by_test false t = rw (turned, t) refl

pub some_more : (n : ℕ) → with_more None (suc n) ≡ Some (suc n)
some_more n = grind (arith, common_steps)

pub at_most : (n : ℕ) → unwrap_or (with_more None n) 0 ≤ n
at_most zero = omega arith
at_most (suc n) = rw (some_more n) (omega arith)
