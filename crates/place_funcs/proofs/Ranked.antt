-- The last order of groups.
use Rattle.std.proofs.Common.{◌≡◌, ℕ, ◌-◌, ◌<◌, ◌^◌, List, [], ◌∷◌, ◌++◌, map, refl, sym, ap, subst, ◌∙◌, arith}
use Rattle.std.specs.Prelude.{⊤, All, AllPairs}
use Rattle.std.specs.List.{flat_map}
use Rattle.std.specs.List.Sorted.{IsPermutation}
use Rattle.std.specs.Ordering.{match_ordering}
use Rattle.std.specs.BTreeMap.{insert_entry}
use Rattle.std.specs.declared.cmp.Ordering.{Ordering}
use Rattle.std.specs.declared.cmp.Ordering.TheVariants.{Less, Equal, Greater}
use Rattle.std.proofs.lemmas.Grind.{common_steps}
use Rattle.std.proofs.lemmas.Bool.Decides.{nat_tests}
use Rattle.std.proofs.lemmas.List.Kept.{AllPairs-cons}
use Rattle.std.proofs.lemmas.List.Elements.{All-nil, All-cons}
use Rattle.std.proofs.lemmas.List.Concat.{flat_map-cons}
use Rattle.std.proofs.lemmas.List.Sorted.{IsPermutation-refl, IsPermutation-trans, IsPermutation-cons, IsPermutation-middle, IsPermutation-append_left}
use Rattle.place_funcs.specs.Groups.{name, StandsBefore}
use Rattle.place_funcs.specs.Links.{names_cmp}
use Rattle.place_funcs.specs.Grouping.{named, ranks, group_of}
use Rattle.place_funcs.proofs.Standing.{Above, Rise}

Row : Type 0
Row = (ℕ × ℕ) × List ℕ

module _ (count : List ℕ → ℕ) (low : (c : List ℕ) → count c < 2 ^ 62) where
  key : List ℕ → ℕ × ℕ
  key c = (2 ^ 64 - 1 - count c, name c)

  abbrev rowed : List ℕ → (ℕ × ℕ) × List ℕ
  rowed c = ((2 ^ 64 - 1 - count c, name c), c)

  -- a group is put before the first that it stands before
  abbrev put_row : List ℕ → List (List ℕ) → List ((ℕ × ℕ) × List ℕ)
  put_row c gs = insert_entry names_cmp (map rowed gs) (2 ^ 64 - 1 - count c, name c) c

  abbrev Behind : List ℕ → List (List ℕ) → Type 0
  Behind c [] = ⊤
  Behind c (d ∷ gs) = StandsBefore count c d × Behind c gs

  abbrev Stand : List (List ℕ) → Type 0
  Stand [] = ⊤
  Stand (c ∷ gs) = Behind c gs × Stand gs

  abbrev Apart : ℕ → List (List ℕ) → Type 0
  Apart n [] = ⊤
  Apart n (c ∷ gs) = (name c ≡ n → ⊥) × Apart n gs

  -- what becomes of groups that stand when one more is put in
  record Put (c : List ℕ) (gs : List (List ℕ)) : Type 0 where
    all : List (List ℕ)
    is : put_row c gs ≡ map rowed all
    same : IsPermutation (c ∷ gs) all
    stand : Stand all
    behind : (d : List ℕ) → StandsBefore count d c → Behind d gs → Behind d all
    apart : (n : ℕ) → (name c ≡ n → ⊥) → Apart n gs → Apart n all

  less_is : (c d : List ℕ) → names_cmp (2 ^ 64 - 1 - count c, name c) (2 ^ 64 - 1 - count d, name d) ≡ Less → StandsBefore count c d
  less_is c d e = let h = low c in let k = low d in grind (arith, nat_tests, common_steps)

  greater_is : (c d : List ℕ) → names_cmp (2 ^ 64 - 1 - count c, name c) (2 ^ 64 - 1 - count d, name d) ≡ Greater → StandsBefore count d c
  greater_is c d e = let h = low c in let k = low d in grind (arith, nat_tests, common_steps)

  equal_is : (c d : List ℕ) → names_cmp (2 ^ 64 - 1 - count c, name c) (2 ^ 64 - 1 - count d, name d) ≡ Equal → name d ≡ name c
  equal_is c d e = grind (arith, nat_tests, common_steps)

  chain : (c d e : List ℕ) → StandsBefore count c d → StandsBefore count d e → StandsBefore count c e
  chain c d e h k = grind arith

  behind_all : (c d : List ℕ) (gs : List (List ℕ)) → StandsBefore count c d → Behind d gs → Behind c gs
  behind_all c d [] h k = tt
  behind_all c d (e ∷ gs) h k = (chain c d e h k.0, behind_all c d gs h k.1)

  put : (c : List ℕ) (gs : List (List ℕ)) → Stand gs → Apart (name c) gs → Put c gs
  put c [] s a = record { all = c ∷ []; is = refl; same = IsPermutation-refl (c ∷ []); stand = (tt, tt); behind = λ d h k. (h, k); apart = λ n h k. (h, k) }
  put c (d ∷ gs) s a = by_order (names_cmp (2 ^ 64 - 1 - count c, name c) (2 ^ 64 - 1 - count d, name d)) refl (put c gs s.1 a.1)
    where
      by_order : (o : Ordering) → names_cmp (2 ^ 64 - 1 - count c, name c) (2 ^ 64 - 1 - count d, name d) ≡ o → Put c gs → Put c (d ∷ gs)
      by_order Less e p =
          let h = less_is c d e in
          record {
            all = c ∷ d ∷ gs;
            is = ap (λ (o : Ordering). match_ordering o (rowed c ∷ map rowed (d ∷ gs)) (((rowed d).0, c) ∷ map rowed gs) (rowed d ∷ put_row c gs)) e;
            same = IsPermutation-refl (c ∷ d ∷ gs);
            stand = ((h, behind_all c d gs h s.0), s);
            behind = λ x k b. (k, b);
            apart = λ n k b. (k, b);
          }
      by_order Equal e p = absurd (a.0 (equal_is c d e))
      by_order Greater e p =
          let h = greater_is c d e in
          record {
            all = d ∷ p.all;
            is = ap (λ (o : Ordering). match_ordering o (rowed c ∷ map rowed (d ∷ gs)) (((rowed d).0, c) ∷ map rowed gs) (rowed d ∷ put_row c gs)) e ∙ ap (λ (rs : List ((ℕ × ℕ) × List ℕ)). rowed d ∷ rs) p.is;
            same = IsPermutation-trans (c ∷ d ∷ gs) (d ∷ c ∷ gs) (d ∷ p.all) (IsPermutation-middle (c ∷ []) d gs) (IsPermutation-cons d (c ∷ gs) p.all p.same);
            stand = (p.behind d h s.0, p.stand);
            behind = λ x k b. (b.0, p.behind x k b.1);
            apart = λ n k b. (b.0, p.apart n k b.1);
          }

  -- all groups are put in
  record Ranked (done gs : List (List ℕ)) : Type 0 where
    all : List (List ℕ)
    is : ranks count (map rowed done) (map named gs) ≡ map rowed all
    same : IsPermutation (done ++ gs) all
    stand : Stand all

  abbrev ApartAll : List (List ℕ) → List (List ℕ) → Type 0
  ApartAll done [] = ⊤
  ApartAll done (c ∷ gs) = Apart (name c) done × ApartAll done gs

  apart_on : (c : List ℕ) (done all : List (List ℕ)) (gs : List (List ℕ)) → ((n : ℕ) → (name c ≡ n → ⊥) → Apart n done → Apart n all) → Above (name c) gs → ApartAll done gs → ApartAll all gs
  apart_on c done all [] h a k = tt
  apart_on c done all (d ∷ gs) h a k = (h (name d) (λ e. let lt = a.0 in omega (arith, lt, e)) k.0, apart_on c done all gs h a.1 k.1)

  rank_all : (done gs : List (List ℕ)) → Stand done → ApartAll done gs → Rise gs → Ranked done gs
  rank_all done [] s a r = record { all = done; is = refl; same = subst (λ (xs : List (List ℕ)). IsPermutation (done ++ []) xs) (append_nil done) (IsPermutation-refl (done ++ [])); stand = s }
    where
      append_nil : (xs : List (List ℕ)) → xs ++ [] ≡ xs
      append_nil [] = refl
      append_nil (x ∷ xs) = ap (λ (ys : List (List ℕ)). x ∷ ys) (append_nil xs)
  rank_all done (c ∷ gs) s a r =
      let p = put c done s a.0 in
      let q = rank_all p.all gs p.stand (apart_on c done p.all gs p.apart r.0 a.1) r.1 in
      record {
        all = q.all;
        is = ap (λ (rs : List ((ℕ × ℕ) × List ℕ)). ranks count rs (map named gs)) p.is ∙ q.is;
        same = IsPermutation-trans (done ++ c ∷ gs) ((c ∷ done) ++ gs) q.all (IsPermutation-middle done c gs) (IsPermutation-trans ((c ∷ done) ++ gs) (p.all ++ gs) q.all (IsPermutation-append_left gs (c ∷ done) p.all p.same) q.same);
        stand = q.stand;
      }

  all_behind : (c : List ℕ) (gs : List (List ℕ)) → Behind c gs → All (StandsBefore count c) gs
  all_behind c [] h = All-nil (StandsBefore count c)
  all_behind c (d ∷ gs) h = All-cons (StandsBefore count c) d gs h.0 (all_behind c gs h.1)

  all_stand : (gs : List (List ℕ)) → Stand gs → AllPairs (StandsBefore count) gs
  all_stand [] h = λ i j d lt within. absurd (omega (arith, within))
  all_stand (c ∷ gs) h = AllPairs-cons (StandsBefore count) c gs (all_behind c gs h.0) (all_stand gs h.1)

  flat_rows : (gs : List (List ℕ)) → flat_map group_of (map rowed gs) ≡ flat_map (λ c. c) gs
  flat_rows [] = refl
  flat_rows (c ∷ gs) = flat_map-cons group_of (rowed c) (map rowed gs) ∙ ap (λ (xs : List ℕ). c ++ xs) (flat_rows gs) ∙ sym (flat_map-cons (λ (x : List ℕ). x) c gs)

  none_apart : (gs : List (List ℕ)) → ApartAll [] gs
  none_apart [] = tt
  none_apart (c ∷ gs) = (tt, none_apart gs)

  pub record IsLast (gs : List (List ℕ)) (order : List ℕ) : Type 0 where
    pub groups : List (List ℕ)
    pub same : IsPermutation gs groups
    pub stand : AllPairs (StandsBefore count) groups
    pub is : order ≡ flat_map (λ c. c) groups

  pub last_is : (gs : List (List ℕ)) → Rise gs → IsLast gs (flat_map group_of (ranks count [] (map named gs)))
  last_is gs r =
      let q = rank_all [] gs tt (none_apart gs) r in
      record { groups = q.all; same = q.same; stand = all_stand q.all q.stand; is = ap (flat_map group_of) q.is ∙ flat_rows q.all }
