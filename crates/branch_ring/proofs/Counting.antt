-- The counts of a profile add up to at most the number of pairs.
use Rattle.std.proofs.Common.{◌≡◌, ℕ, suc, ◌+◌, ◌^◌, ◌<◌, ◌≤◌, Bool, true, false, cond, List, [], ◌∷◌, length, get_or, inl, inr, refl, ◌∙◌, arith}
use Rattle.std.specs.Prelude.{◌==◌, sum_by, All, AllPairs, Contains}
use Rattle.std.proofs.lemmas.Bool.{and_parts, eqb-true}
use Rattle.std.proofs.lemmas.List.Elements.{Contains-get_or}
use Rattle.std.proofs.lemmas.List.Sums.{sum_by-cons}
use Rattle.finite.proofs.Searching.{tail_pairs}
use Rattle.branch_ring.specs.declared.counted.Counted.{Counted}
use Rattle.branch_ring.specs.Profiles.{Precedes, is_pair, times, count_of, IsProfile, IsKept}
use Rattle.branch_ring.proofs.Ascending.{in_head, in_tail}

abbrev at : ℕ × ℕ → Counted → ℕ
at p c = cond (is_pair c.from c.to p) 1 0

abbrev times_of : List (ℕ × ℕ) → Counted → ℕ
times_of pairs c = times pairs c.from c.to

-- what a pair is for one, it isn't for those behind it
apart : (p : ℕ × ℕ) (c d : Counted) → is_pair c.from c.to p ≡ true → Precedes c d → is_pair d.from d.to p ≡ false
apart p c d t l = by_test (is_pair d.from d.to p) refl
  where
    by_test : (b : Bool) → is_pair d.from d.to p ≡ b → b ≡ false
    by_test false e = refl
    by_test true e =
        let one = and_parts (p.0 == c.from) (p.1 == c.to) t in
        let two = and_parts (p.0 == d.from) (p.1 == d.to) e in
        let f : p.0 ≡ c.from = eqb-true p.0 c.from one.0 in
        let g : p.1 ≡ c.to = eqb-true p.1 c.to one.1 in
        let h : p.0 ≡ d.from = eqb-true p.0 d.from two.0 in
        let k : p.1 ≡ d.to = eqb-true p.1 d.to two.1 in
        elim l [
          | inl less ↦ absurd (omega arith)
          | inr (same, less) ↦ absurd (omega arith)
        ]

none_at : (p : ℕ × ℕ) (cs : List Counted) → All (λ c. is_pair c.from c.to p ≡ false) cs → sum_by (at p) cs ≡ 0
none_at p [] a = refl
none_at p (c ∷ cs) a =
    let here : is_pair c.from c.to p ≡ false = a 0 c (omega arith) in
    sum_by-cons (at p) c cs ∙ rw (here, none_at p cs (λ i d l. a (suc i) d (omega (arith, l)))) refl

once_at : (p : ℕ × ℕ) (cs : List Counted) → AllPairs Precedes cs → sum_by (at p) cs ≤ 1
once_at p [] up = omega arith
once_at p (c ∷ cs) up = by_test (is_pair c.from c.to p) refl (once_at p cs (tail_pairs Precedes c cs up))
  where
    by_test : (b : Bool) → is_pair c.from c.to p ≡ b → sum_by (at p) cs ≤ 1 → sum_by (at p) (c ∷ cs) ≤ 1
    by_test true t once =
        let rest : sum_by (at p) cs ≡ 0 = none_at p cs (λ i d l. apart p c (get_or cs i d) t (up 0 (suc i) d (omega arith) (omega (arith, l)))) in
        let whole : sum_by (at p) (c ∷ cs) ≡ 1 + 0 = sum_by-cons (at p) c cs ∙ rw (t, rest) refl in
        omega arith
    by_test false t rest =
        let whole : sum_by (at p) (c ∷ cs) ≡ 0 + sum_by (at p) cs = sum_by-cons (at p) c cs ∙ rw t refl in
        omega arith

sum_none : (cs : List Counted) → sum_by (times_of []) cs ≡ 0
sum_none [] = refl
sum_none (c ∷ cs) = sum_by-cons (times_of []) c cs ∙ rw (sum_none cs) refl

sum_split : (p : ℕ × ℕ) (ps : List (ℕ × ℕ)) (cs : List Counted) → sum_by (times_of (p ∷ ps)) cs ≡ sum_by (at p) cs + sum_by (times_of ps) cs
sum_split p ps [] = refl
sum_split p ps (c ∷ cs) =
    let whole = sum_by-cons (times_of (p ∷ ps)) c cs in
    let one = sum_by-cons (at p) c cs in
    let rest = sum_by-cons (times_of ps) c cs in
    let here : times_of (p ∷ ps) c ≡ at p c + times_of ps c = sum_by-cons (λ q. cond (is_pair c.from c.to q) 1 0) p ps in
    let more = sum_split p ps cs in
    omega arith

sum_times : (pairs : List (ℕ × ℕ)) (cs : List Counted) → AllPairs Precedes cs → sum_by (times_of pairs) cs ≤ length pairs
sum_times [] cs up = rw (sum_none cs) (omega arith)
sum_times (p ∷ ps) cs up =
    let split = sum_split p ps cs in
    let one = once_at p cs up in
    let rest = sum_times ps cs up in
    omega arith

same_sum : (f g : Counted → ℕ) (cs : List Counted) → ((c : Counted) → Contains cs c → f c ≡ g c) → sum_by f cs ≡ sum_by g cs
same_sum f g [] h = refl
same_sum f g (c ∷ cs) h =
    let a = sum_by-cons f c cs in
    let b = sum_by-cons g c cs in
    let here = h c (in_head c cs) in
    let rest = same_sum f g cs (λ d i. h d (in_tail c cs d i)) in
    omega arith

pub profile_kept : (pairs : List (ℕ × ℕ)) (cs : List Counted) → length pairs < 2 ^ 62 → IsProfile pairs cs → IsKept cs
profile_kept pairs cs small p =
    let same = same_sum count_of (times_of pairs) cs (λ c h. ((p.has c).0 h).1) in
    let most = sum_times pairs cs p.ascends in
    record {
      ascends = p.ascends;
      some = λ i d l. ((p.has (get_or cs i d)).0 (Contains-get_or cs i d l)).0;
      small = omega (arith, same, most, small);
    }
