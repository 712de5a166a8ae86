-- The queue beside the links.
use Rattle.std.proofs.Common.{◌≡◌, ℕ, ◌<◌, ◌^◌, Bool, true, false, not, List, [], ◌∷◌, length, refl, sym, ap, subst, ◌∙◌, arith}
use Rattle.std.specs.Prelude.{◌==◌, ◌&&◌, ◌||◌, nat_lt, cond, if◌then◌else◌, Option, Some, None, IfSome}
use Rattle.std.specs.List.{list_any}
use Rattle.std.specs.Ordering.{is_gt}
use Rattle.std.specs.BTreeMap.{is_at}
use Rattle.std.proofs.lemmas.Grind.{common_steps}
use Rattle.std.proofs.lemmas.Bool.{and_parts}
use Rattle.std.proofs.lemmas.Bool.Decides.{nat_tests}
use Rattle.place_funcs.specs.Groups.{Leads}
use Rattle.place_funcs.specs.declared.link.Link.{Link}
use Rattle.place_funcs.specs.Links.{names_cmp, place_cmp, rank, waits, AreSmall, IsFirst}
use Rattle.place_funcs.proofs.LinkLaws.{same_true, alike}

-- two names, or a place, are found by all of their numbers
pub at_names : (x y p q : ℕ) → is_at (names_cmp (x, y)) (p, q) ≡ ((p == x) && (q == y))
at_names x y p q = grind (arith, nat_tests, common_steps)

pub at_place : (s x y r p q : ℕ) → is_at (place_cmp (s, x, y)) (r, p, q) ≡ ((r == s) && ((p == x) && (q == y)))
at_place s x y r p q = grind (arith, nat_tests, common_steps)

is_less : (x y : ℕ) → x < y → nat_lt x y ≡ true
is_less x y h = by_test (nat_lt x y) refl
  where
    by_test : (t : Bool) → nat_lt x y ≡ t → t ≡ true
    by_test true e = refl
    by_test false e = absurd (grind (arith, nat_tests))

out_tests : (a b c d : Bool) → cond (a && (b && c)) false d ≡ (d && not (b && (c && (true && a))))
out_tests true true true true = refl
out_tests true true true false = refl
out_tests true true false true = refl
out_tests true true false false = refl
out_tests true false true true = refl
out_tests true false true false = refl
out_tests true false false true = refl
out_tests true false false false = refl
out_tests false true true true = refl
out_tests false true true false = refl
out_tests false true false true = refl
out_tests false true false false = refl
out_tests false false true true = refl
out_tests false false true false = refl
out_tests false false false true = refl
out_tests false false false false = refl

in_tests : (a b c d : Bool) → cond (a && (b && c)) true d ≡ (d || (b && (c && (true && a))))
in_tests true true true true = refl
in_tests true true true false = refl
in_tests true true false true = refl
in_tests true true false false = refl
in_tests true false true true = refl
in_tests true false true false = refl
in_tests true false false true = refl
in_tests true false false false = refl
in_tests false true true true = refl
in_tests false true true false = refl
in_tests false true false true = refl
in_tests false true false false = refl
in_tests false false true true = refl
in_tests false false true false = refl
in_tests false false false true = refl
in_tests false false false false = refl

pub goes_out : (x y w r p q : ℕ) (d : Bool) → x < y → cond (is_at (place_cmp (rank w, x, y)) (r, p, q)) false d ≡ (d && not ((p == x) && ((q == y) && (nat_lt x y && (r == rank w)))))
goes_out x y w r p q d h = rw (at_place (rank w) x y r p q) (rw (is_less x y h) (out_tests (r == rank w) (p == x) (q == y) d))

pub goes_in : (x y w r p q : ℕ) (d : Bool) → x < y → cond (is_at (place_cmp (rank w, x, y)) (r, p, q)) true d ≡ (d || ((p == x) && ((q == y) && (nat_lt x y && (r == rank w)))))
goes_in x y w r p q d h = rw (at_place (rank w) x y r p q) (rw (is_less x y h) (in_tests (r == rank w) (p == x) (q == y) d))

and_true : (b : Bool) → (b && true) ≡ b
and_true true = refl
and_true false = refl

and_not : (b : Bool) → (b && not b) ≡ false
and_not true = refl
and_not false = refl

or_false : (b : Bool) → (b || false) ≡ b
or_false true = refl
or_false false = refl

-- a link is taken out, and its place with it
module _ (old new : ℕ → ℕ → Option Link) (was now : ℕ → ℕ → ℕ → Bool) (x y : ℕ) (queued : (r p q : ℕ) → was r p q ≡ waits p q (old p q) r) (link : Option Link) (is : link ≡ old x y)
    (left : (r p q : ℕ) → now r p q ≡ (was r p q && not ((p == x) && ((q == y) && waits x y link r))))
    (taken : (p q : ℕ) → new p q ≡ (if (p == x) && (q == y) then None else old p q)) where
  taken_tests : (r p q : ℕ) (a b : Bool) → (p == x) ≡ a → (q == y) ≡ b → (was r p q && not (a && (b && waits x y link r))) ≡ waits p q (if a && b then None else old p q) r
  taken_tests r p q true true e f =
      ap (λ (o : Option Link). was r p q && not (waits x y o r)) is
      ∙ ap (λ (t : Bool). t && not (waits x y (old x y) r)) (queued r p q)
      ∙ ap (λ (u : ℕ). waits u q (old u q) r && not (waits x y (old x y) r)) (same_true p x e)
      ∙ ap (λ (u : ℕ). waits x u (old x u) r && not (waits x y (old x y) r)) (same_true q y f)
      ∙ and_not (waits x y (old x y) r)
  taken_tests r p q true false e f = and_true (was r p q) ∙ queued r p q
  taken_tests r p q false b e f = and_true (was r p q) ∙ queued r p q

  pub taken_queued : (r p q : ℕ) → now r p q ≡ waits p q (new p q) r
  taken_queued r p q = left r p q ∙ taken_tests r p q (p == x) (q == y) refl refl ∙ ap (λ (o : Option Link). waits p q o r) (sym (taken p q))

-- a link is put where there is none, and gets its place
module _ (old new : ℕ → ℕ → Option Link) (was now : ℕ → ℕ → ℕ → Bool) (x y : ℕ) (queued : (r p q : ℕ) → was r p q ≡ waits p q (old p q) r) (link : Link) (none : old x y ≡ None)
    (entered : (r p q : ℕ) → now r p q ≡ (was r p q || ((p == x) && ((q == y) && waits x y (Some link) r))))
    (given : (p q : ℕ) → new p q ≡ (if (p == x) && (q == y) then Some link else old p q)) where
  given_tests : (r p q : ℕ) (a b : Bool) → (p == x) ≡ a → (q == y) ≡ b → (was r p q || (a && (b && waits x y (Some link) r))) ≡ waits p q (if a && b then Some link else old p q) r
  given_tests r p q true true e f =
      ap (λ (t : Bool). t || waits x y (Some link) r) (queued r p q)
      ∙ ap (λ (u : ℕ). waits u q (old u q) r || waits x y (Some link) r) (same_true p x e)
      ∙ ap (λ (u : ℕ). waits x u (old x u) r || waits x y (Some link) r) (same_true q y f)
      ∙ ap (λ (o : Option Link). waits x y o r || waits x y (Some link) r) none
      ∙ ap (λ (u : ℕ). waits u y (Some link) r) (sym (same_true p x e))
      ∙ ap (λ (u : ℕ). waits p u (Some link) r) (sym (same_true q y f))
  given_tests r p q true false e f = or_false (was r p q) ∙ queued r p q
  given_tests r p q false b e f = or_false (was r p q) ∙ queued r p q

  pub given_queued : (r p q : ℕ) → now r p q ≡ waits p q (new p q) r
  given_queued r p q = entered r p q ∙ given_tests r p q (p == x) (q == y) refl refl ∙ ap (λ (o : Option Link). waits p q o r) (sym (given p q))

-- what was put in the place of what had been taken out
pub put_over : (x y p q : ℕ) (o m k : Option Link) → m ≡ (if (p == x) && (q == y) then None else k) → (if (p == x) && (q == y) then o else m) ≡ (if (p == x) && (q == y) then o else k)
put_over x y p q o m k e = by_test ((p == x) && (q == y)) e
  where
    by_test : (t : Bool) → m ≡ (if t then None else k) → (if t then o else m) ≡ (if t then o else k)
    by_test true e = refl
    by_test false e = e

pub taken_here : (old new : ℕ → ℕ → Option Link) (x y : ℕ) → ((p q : ℕ) → new p q ≡ (if (p == x) && (q == y) then None else old p q)) → new x y ≡ None
taken_here old new x y h = h x y ∙ ap (λ (t : Bool). if t && (y == y) then None else old x y) (alike x) ∙ ap (λ (t : Bool). if t then None else old x y) (alike y)

-- who waits has a link
pub record IsWaiting (x y : ℕ) (o : Option Link) (r : ℕ) : Type 0 where
  pub ordered : x < y
  pub link : Link
  pub there : o ≡ Some link
  pub at : r ≡ rank link.weight

pub waiting : (x y : ℕ) (o : Option Link) (r : ℕ) → waits x y o r ≡ true → IsWaiting x y o r
waiting x y None r e = absurd cc
waiting x y (Some l) r e =
    let t = and_parts (nat_lt x y) (r == rank l.weight) e in
    record { ordered = less t.0; link = l; there = refl; at = same_true r (rank l.weight) t.1 }
  where
    less : nat_lt x y ≡ true → x < y
    less h = grind (arith, nat_tests)

pub waits_there : (x y : ℕ) (o : Option Link) (l : Link) → x < y → o ≡ Some l → waits x y o (rank l.weight) ≡ true
waits_there x y o l h e = ap (λ (m : Option Link). waits x y m (rank l.weight)) e ∙ ap (λ (t : Bool). t && (rank l.weight == rank l.weight)) (is_less x y h) ∙ alike (rank l.weight)

earlier : (v w x y p q : ℕ) → v < 2 ^ 127 → w < 2 ^ 127 → is_gt (place_cmp (rank v, x, y) (rank w, p, q)) ≡ false → Leads (record { weight = v; first = x; second = y }) (record { weight = w; first = p; second = q })
earlier v w x y p q hv hw e = grind (arith, nat_tests, common_steps)

pub first_is : (links : ℕ → ℕ → Option Link) (has : ℕ → ℕ → ℕ → Bool) (r x y : ℕ) (l : Link) → ((s p q : ℕ) → has s p q ≡ waits p q (links p q) s) → AreSmall links → has r x y ≡ true
    → ((s p q : ℕ) → has s p q ≡ true → is_gt (place_cmp (r, x, y) (s, p, q)) ≡ false) → links x y ≡ Some l → IsFirst links x y l
first_is links has r x y l queued small here least is =
    record { ordered = w.ordered; there = is; leads = λ p q m lt e. earlier l.weight m.weight x y p q (bound x y l is) (bound p q m e) (ap (λ (s : ℕ). is_gt (place_cmp (s, x, y) (rank m.weight, p, q))) (sym ranked) ∙ least (rank m.weight) p q (queued (rank m.weight) p q ∙ waits_there p q (links p q) m lt e)) }
  where
    w : IsWaiting x y (links x y) r
    w = waiting x y (links x y) r (sym (queued r x y) ∙ here)

    bound : (p q : ℕ) (m : Link) → links p q ≡ Some m → m.weight < 2 ^ 127
    bound p q m e = subst (λ (o : Option Link). IfSome o (λ n. n.weight < 2 ^ 127)) e (small p q)

    same : l ≡ w.link
    same = let e : Some l ≡ Some w.link = sym is ∙ w.there in cc

    ranked : r ≡ rank l.weight
    ranked = w.at ∙ ap (λ (m : Link). rank m.weight) (sym same)

pub some_there : (links : ℕ → ℕ → Option Link) (has : ℕ → ℕ → ℕ → Bool) (r x y : ℕ) → ((s p q : ℕ) → has s p q ≡ waits p q (links p q) s) → has r x y ≡ true → (l : Link) × (links x y ≡ Some l)
some_there links has r x y queued here = let w = waiting x y (links x y) r (sym (queued r x y) ∙ here) in (w.link, w.there)

pub none_there : {K : Type 0} (test : K → Bool) (ks : List K) → (0 < length ks → ⊥) → list_any test ks ≡ false
none_there test [] h = refl
none_there test (k ∷ ks) h = absurd (h (omega arith))

pub none_linked : (links : ℕ → ℕ → Option Link) (has : ℕ → ℕ → ℕ → Bool) → ((s p q : ℕ) → has s p q ≡ waits p q (links p q) s) → ((s p q : ℕ) → has s p q ≡ false) → (p q : ℕ) → p < q → links p q ≡ None
none_linked links has queued none p q lt = by_link (links p q) refl
  where
    by_link : (o : Option Link) → links p q ≡ o → o ≡ None
    by_link None e = refl
    by_link (Some l) e = absurd (let t : true ≡ false = sym (waits_there p q (links p q) l lt e) ∙ sym (queued (rank l.weight) p q) ∙ none (rank l.weight) p q in cc)
