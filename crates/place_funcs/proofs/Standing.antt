-- Groups that ascend by name, and what merges do to them.
use Rattle.std.proofs.Common.{◌≡◌, ℕ, zero, suc, ◌<◌, length, take, get_or, Bool, true, false, not, cond, List, [], ◌∷◌, ◌++◌, map, ◌⊎◌, inl, inr, refl, sym, ap, subst, ◌∙◌, arith}
use Rattle.std.specs.Prelude.{⊤, Contains, AllPairs, ◌==◌, Option, Some, unwrap_or, if◌then◌else◌}
use Rattle.std.specs.List.{filter, flat_map}
use Rattle.std.specs.List.Sorted.{IsPermutation}
use Rattle.std.specs.Ordering.{nat_cmp}
use Rattle.std.specs.BTreeMap.{insert_entry, is_at}
use Rattle.std.specs.Map.{lookup, remove_entry}
use Rattle.std.specs.declared.cmp.Ordering.TheVariants.{Less, Equal, Greater}
use Rattle.std.proofs.lemmas.Grind.{common_steps}
use Rattle.std.proofs.lemmas.Bool.Decides.{nat_tests}
use Rattle.std.proofs.lemmas.List.{append_assoc}
use Rattle.std.proofs.lemmas.List.Concat.{flat_map-cons}
use Rattle.std.proofs.lemmas.List.Sorted.{IsPermutation-refl, IsPermutation-sym, IsPermutation-trans, IsPermutation-append_left, IsPermutation-append_right, IsPermutation-append_comm}
use Rattle.place_funcs.specs.Groups.{name, alone, joined, with_joined, AreTwo}
use Rattle.place_funcs.specs.Grouping.{group_at, named}
use Rattle.branch_ring.proofs.Ascending.{in_none, in_head, in_tail, split_at}
use Rattle.place_funcs.proofs.Members.{to_filter}
use Rattle.place_funcs.proofs.LinkLaws.{differ, alike, same_true, joint}
use Rattle.place_funcs.proofs.OneMerge.{joined_name}

abbrev pub Above : ℕ → List (List ℕ) → Type 0
Above k [] = ⊤
Above k (c ∷ gs) = (k < name c) × Above k gs

-- each group has a smaller name than those behind it
abbrev pub Rise : List (List ℕ) → Type 0
Rise [] = ⊤
Rise (c ∷ gs) = Above (name c) gs × Rise gs

above_in : (k : ℕ) (gs : List (List ℕ)) (c : List ℕ) → Above k gs → Contains gs c → k < name c
above_in k [] c h i = absurd (in_none c i)
above_in k (d ∷ gs) c h i =
    elim (split_at d gs c i) [
      | inl e ↦ subst (λ (x : List ℕ). k < name x) (sym e) h.0
      | inr j ↦ above_in k gs c h.1 j
    ]

pub rise_named : (gs : List (List ℕ)) → Rise gs → (c d : List ℕ) → Contains gs c → Contains gs d → name c ≡ name d → c ≡ d
rise_named [] r c d i j e = absurd (in_none c i)
rise_named (x ∷ gs) r c d i j e = by_cases (split_at x gs c i) (split_at x gs d j) (λ p q. rise_named gs r.1 c d p q e)
  where
    by_cases : (c ≡ x) ⊎ Contains gs c → (d ≡ x) ⊎ Contains gs d → (Contains gs c → Contains gs d → c ≡ d) → c ≡ d
    by_cases (inl p) (inl q) ih = p ∙ sym q
    by_cases (inl p) (inr q) ih = absurd (let lt = above_in (name x) gs d r.0 q in let s : name c ≡ name x = ap name p in omega (arith, s, lt, e))
    by_cases (inr p) (inl q) ih = absurd (let lt = above_in (name x) gs c r.0 p in let s : name d ≡ name x = ap name q in omega (arith, s, lt, e))
    by_cases (inr p) (inr q) ih = ih p q

abbrev other : ℕ → List ℕ → Bool
other k c = not (name c == k)

abbrev swap_in : ℕ → List ℕ → List ℕ → List ℕ
swap_in k j c = if name c == k then j else c

keep_all : (k : ℕ) (gs : List (List ℕ)) → Above k gs → filter (other k) gs ≡ gs
keep_all k [] h = refl
keep_all k (c ∷ gs) h = rw (differ (name c) k (λ e. omega (arith, h.0, e))) (ap (λ (xs : List (List ℕ)). c ∷ xs) (keep_all k gs h.1))

same_all : (k : ℕ) (j : List ℕ) (gs : List (List ℕ)) → Above k gs → map (swap_in k j) gs ≡ gs
same_all k j [] h = refl
same_all k j (c ∷ gs) h = rw (differ (name c) k (λ e. omega (arith, h.0, e))) (ap (λ (xs : List (List ℕ)). c ∷ xs) (same_all k j gs h.1))

at_key : (k x : ℕ) → is_at (nat_cmp k) x ≡ (x == k)
at_key k x = grind (arith, nat_tests, common_steps)

-- a name is taken out of the map
removed : (k : ℕ) (gs : List (List ℕ)) → Rise gs → remove_entry (is_at (nat_cmp k)) (map named gs) ≡ map named (filter (other k) gs)
removed k [] r = refl
removed k (c ∷ gs) r = by_test (name c == k) refl (removed k gs r.1)
  where
    by_test : (t : Bool) → (name c == k) ≡ t → (remove_entry (is_at (nat_cmp k)) (map named gs) ≡ map named (filter (other k) gs)) → remove_entry (is_at (nat_cmp k)) (map named (c ∷ gs)) ≡ map named (filter (other k) (c ∷ gs))
    by_test true e ih = rw (at_key k (name c)) (rw (e) (ap (map named) (sym (keep_all k gs (subst (λ (x : ℕ). Above x gs) (same_true (name c) k e) r.0)))))
    by_test false e ih = rw (at_key k (name c)) (rw (e) (ap (λ (xs : List (ℕ × List ℕ)). named c ∷ xs) ih))

cmp_less : (k x : ℕ) → k < x → nat_cmp k x ≡ Less
cmp_less k x h = grind (arith, nat_tests, common_steps)

cmp_greater : (k x : ℕ) → x < k → nat_cmp k x ≡ Greater
cmp_greater k x h = grind (arith, nat_tests, common_steps)

cmp_equal : (k x : ℕ) → x ≡ k → nat_cmp k x ≡ Equal
cmp_equal k x h = grind (arith, nat_tests, common_steps)

-- a group takes the place of that of its name
inserted : (k : ℕ) (j : List ℕ) (gs : List (List ℕ)) → Rise gs → name j ≡ k → (a : List ℕ) → Contains gs a → name a ≡ k → insert_entry nat_cmp (map named gs) k j ≡ map named (map (swap_in k j) gs)
inserted k j [] r n a i m = absurd (in_none a i)
inserted k j (c ∷ gs) r n a i m = by_place (split_at c gs a i) (λ p. inserted k j gs r.1 n a p m)
  where
    by_place : (a ≡ c) ⊎ Contains gs a → (Contains gs a → insert_entry nat_cmp (map named gs) k j ≡ map named (map (swap_in k j) gs)) → insert_entry nat_cmp (map named (c ∷ gs)) k j ≡ map named (map (swap_in k j) (c ∷ gs))
    by_place (inl e) ih =
        let s : name c ≡ k = sym (ap name e) ∙ m in
        rw (cmp_equal k (name c) s) (rw (s) (rw (alike k)
        (ap (λ (x : ℕ). (x, j) ∷ map named gs) (sym n) ∙ ap (λ (xs : List (List ℕ)). named j ∷ map named xs) (sym (same_all k j gs (subst (λ (x : ℕ). Above x gs) s r.0))))))
    by_place (inr p) ih =
        let lt : name c < k = let h = above_in (name c) gs a r.0 p in omega (arith, h, m) in
        rw (cmp_greater k (name c) lt) (rw (differ (name c) k (λ e. omega (arith, lt, e))) (ap (λ (xs : List (ℕ × List ℕ)). named c ∷ xs) (ih p)))

found : (gs : List (List ℕ)) → Rise gs → (c : List ℕ) → Contains gs c → lookup (is_at (nat_cmp (name c))) (map named gs) ≡ Some c
found [] r c i = absurd (in_none c i)
found (d ∷ gs) r c i = by_place (split_at d gs c i) (λ p. found gs r.1 c p)
  where
    by_place : (c ≡ d) ⊎ Contains gs c → (Contains gs c → lookup (is_at (nat_cmp (name c))) (map named gs) ≡ Some c) → lookup (is_at (nat_cmp (name c))) (map named (d ∷ gs)) ≡ Some c
    by_place (inl e) ih = rw (at_key (name c) (name d)) (ap (λ (t : Bool). cond t (Some d) (lookup (is_at (nat_cmp (name c))) (map named gs))) (ap (λ (x : ℕ). x == name c) (ap name (sym e)) ∙ alike (name c)) ∙ ap Some (sym e))
    by_place (inr p) ih = rw (at_key (name c) (name d)) (rw (differ (name d) (name c) (λ e. let h = above_in (name d) gs c r.0 p in omega (arith, h, e))) (ih p))

pub group_found : (gs : List (List ℕ)) → Rise gs → (c : List ℕ) → Contains gs c → (x : ℕ) → name c ≡ x → lookup (is_at (nat_cmp x)) (map named gs) ≡ Some c
group_found gs r c i x e = subst (λ (y : ℕ). lookup (is_at (nat_cmp y)) (map named gs) ≡ Some c) e (found gs r c i)

at_group : (gs : List (List ℕ)) → Rise gs → (c : List ℕ) → Contains gs c → group_at (map named gs) (name c) ≡ c
at_group gs r c i = ap (λ (o : Option (List ℕ)). unwrap_or o []) (found gs r c i)

above_filter : (p : List ℕ → Bool) (k : ℕ) (gs : List (List ℕ)) → Above k gs → Above k (filter p gs)
above_filter p k [] h = tt
above_filter p k (c ∷ gs) h = by_test (p c) (above_filter p k gs h.1)
  where
    by_test : (t : Bool) → Above k (filter p gs) → Above k (if t then c ∷ filter p gs else filter p gs)
    by_test true ih = (h.0, ih)
    by_test false ih = ih

rise_filter : (p : List ℕ → Bool) (gs : List (List ℕ)) → Rise gs → Rise (filter p gs)
rise_filter p [] r = tt
rise_filter p (c ∷ gs) r = by_test (p c) (rise_filter p gs r.1)
  where
    by_test : (t : Bool) → Rise (filter p gs) → Rise (if t then c ∷ filter p gs else filter p gs)
    by_test true ih = (above_filter p (name c) gs r.0, ih)
    by_test false ih = ih

swapped_name : (k : ℕ) (j c : List ℕ) → name j ≡ k → name (swap_in k j c) ≡ name c
swapped_name k j c n = by_test (name c == k) refl
  where
    by_test : (t : Bool) → (name c == k) ≡ t → name (if t then j else c) ≡ name c
    by_test true e = n ∙ sym (same_true (name c) k e)
    by_test false e = refl

above_swap : (k : ℕ) (j : List ℕ) (m : ℕ) (gs : List (List ℕ)) → name j ≡ k → Above m gs → Above m (map (swap_in k j) gs)
above_swap k j m [] n h = tt
above_swap k j m (c ∷ gs) n h = (subst (λ (x : ℕ). m < x) (sym (swapped_name k j c n)) h.0, above_swap k j m gs n h.1)

rise_swap : (k : ℕ) (j : List ℕ) (gs : List (List ℕ)) → name j ≡ k → Rise gs → Rise (map (swap_in k j) gs)
rise_swap k j [] n r = tt
rise_swap k j (c ∷ gs) n r = (subst (λ (x : ℕ). Above x (map (swap_in k j) gs)) (sym (swapped_name k j c n)) (above_swap k j (name c) gs n r.0), rise_swap k j gs n r.1)

abbrev pub flat : List (List ℕ) → List ℕ
flat gs = flat_map (λ c. c) gs

to_front : (a b c : List ℕ) → IsPermutation (a ++ (b ++ c)) (b ++ (a ++ c))
to_front a b c =
    subst (λ (xs : List ℕ). IsPermutation xs (b ++ (a ++ c))) (append_assoc a b c)
    (subst (λ (xs : List ℕ). IsPermutation ((a ++ b) ++ c) xs) (append_assoc b a c) (IsPermutation-append_left c (a ++ b) (b ++ a) (IsPermutation-append_comm a b)))

-- a group stands first, and then those of other names
taken_first : (gs : List (List ℕ)) → Rise gs → (b : List ℕ) → Contains gs b → IsPermutation (flat gs) (b ++ flat (filter (other (name b)) gs))
taken_first [] r b i = absurd (in_none b i)
taken_first (c ∷ gs) r b i = by_place (split_at c gs b i) (λ p. taken_first gs r.1 b p)
  where
    by_place : (b ≡ c) ⊎ Contains gs b → (Contains gs b → IsPermutation (flat gs) (b ++ flat (filter (other (name b)) gs))) → IsPermutation (flat (c ∷ gs)) (b ++ flat (filter (other (name b)) (c ∷ gs)))
    by_place (inl e) ih =
        let s : name c ≡ name b = ap name (sym e) in
        rw (s) (rw (alike (name b)) (rw (keep_all (name b) gs (subst (λ (x : ℕ). Above x gs) s r.0)) (rw (e) (rw (flat_map-cons (λ (x : List ℕ). x) c gs) (IsPermutation-refl (c ++ flat gs))))))
    by_place (inr p) ih =
        rw (differ (name c) (name b) (λ e. let h = above_in (name c) gs b r.0 p in omega (arith, h, e)))
        (rw (flat_map-cons (λ (x : List ℕ). x) c gs) (rw (flat_map-cons (λ (x : List ℕ). x) c (filter (other (name b)) gs))
        (IsPermutation-trans (c ++ flat gs) (c ++ (b ++ flat (filter (other (name b)) gs))) (b ++ (c ++ flat (filter (other (name b)) gs)))
        (IsPermutation-append_right c (flat gs) (b ++ flat (filter (other (name b)) gs)) (ih p)) (to_front c b (flat (filter (other (name b)) gs))))))

-- the same with j in the place of the group
swapped_first : (gs : List (List ℕ)) → Rise gs → (a j : List ℕ) → Contains gs a → IsPermutation (flat (map (swap_in (name a) j) gs)) (j ++ flat (filter (other (name a)) gs))
swapped_first [] r a j i = absurd (in_none a i)
swapped_first (c ∷ gs) r a j i = by_place (split_at c gs a i) (λ p. swapped_first gs r.1 a j p)
  where
    by_place : (a ≡ c) ⊎ Contains gs a → (Contains gs a → IsPermutation (flat (map (swap_in (name a) j) gs)) (j ++ flat (filter (other (name a)) gs))) → IsPermutation (flat (map (swap_in (name a) j) (c ∷ gs))) (j ++ flat (filter (other (name a)) (c ∷ gs)))
    by_place (inl e) ih =
        let s : name c ≡ name a = ap name (sym e) in
        let k : Above (name a) gs = subst (λ (x : ℕ). Above x gs) s r.0 in
        rw (s) (rw (alike (name a)) (rw (keep_all (name a) gs k) (rw (same_all (name a) j gs k) (rw (flat_map-cons (λ (x : List ℕ). x) j gs) (IsPermutation-refl (j ++ flat gs))))))
    by_place (inr p) ih =
        rw (differ (name c) (name a) (λ e. let h = above_in (name c) gs a r.0 p in omega (arith, h, e)))
        (rw (flat_map-cons (λ (x : List ℕ). x) c (map (swap_in (name a) j) gs)) (rw (flat_map-cons (λ (x : List ℕ). x) c (filter (other (name a)) gs))
        (IsPermutation-trans (c ++ flat (map (swap_in (name a) j) gs)) (c ++ (j ++ flat (filter (other (name a)) gs))) (j ++ (c ++ flat (filter (other (name a)) gs)))
        (IsPermutation-append_right c (flat (map (swap_in (name a) j) gs)) (j ++ flat (filter (other (name a)) gs)) (ih p)) (to_front c j (flat (filter (other (name a)) gs))))))

-- two groups of an ascending list, and a join of both
module _ (gs : List (List ℕ)) (r : Rise gs) (a b : List ℕ) (two : AreTwo gs a b) (f g : ℕ) (in_a : Contains a f) where
  abbrev pub j : List ℕ
  j = joined f g a b

  named_j : name j ≡ name a
  named_j = joined_name f g a b in_a two.named

  abbrev pub rest : List (List ℕ)
  rest = filter (other (name b)) gs

  rest_rise : Rise rest
  rest_rise = rise_filter (other (name b)) gs r

  a_stays : Contains rest a
  a_stays = to_filter (other (name b)) gs a two.one (rw (differ (name a) (name b) (λ e. let lt = two.named in omega (arith, lt, e))) refl)

  pub rise_on : Rise (with_joined gs a b j)
  rise_on = rise_swap (name a) j rest named_j rest_rise

  pub merged_at : insert_entry nat_cmp (remove_entry (is_at (nat_cmp (name b))) (map named gs)) (name a) (joined f g (group_at (map named gs) (name a)) (group_at (map named gs) (name b))) ≡ map named (with_joined gs a b j)
  merged_at =
      ap (λ (c : List ℕ). insert_entry nat_cmp (remove_entry (is_at (nat_cmp (name b))) (map named gs)) (name a) (joined f g c (group_at (map named gs) (name b)))) (at_group gs r a two.one)
      ∙ ap (λ (c : List ℕ). insert_entry nat_cmp (remove_entry (is_at (nat_cmp (name b))) (map named gs)) (name a) (joined f g a c)) (at_group gs r b two.other)
      ∙ ap (λ (es : List (ℕ × List ℕ)). insert_entry nat_cmp es (name a) j) (removed (name b) gs r)
      ∙ inserted (name a) j rest rest_rise named_j a a_stays refl

  pub same_on : IsPermutation (flat gs) (flat (with_joined gs a b j))
  same_on =
      let x : List ℕ = flat (filter (other (name a)) rest) in
      IsPermutation-trans (flat gs) (b ++ flat rest) (flat (with_joined gs a b j)) (taken_first gs r b two.other)
      (IsPermutation-trans (b ++ flat rest) (b ++ (a ++ x)) (flat (with_joined gs a b j)) (IsPermutation-append_right b (flat rest) (a ++ x) (taken_first rest rest_rise a a_stays))
      (IsPermutation-trans (b ++ (a ++ x)) ((a ++ b) ++ x) (flat (with_joined gs a b j)) (subst (λ (xs : List ℕ). IsPermutation (b ++ (a ++ x)) xs) (sym (append_assoc a b x)) (to_front b a x))
      (IsPermutation-trans ((a ++ b) ++ x) (j ++ x) (flat (with_joined gs a b j)) (IsPermutation-append_left x (a ++ b) j (joint f g a b))
      (IsPermutation-sym (flat (with_joined gs a b j)) (j ++ x) (swapped_first rest rest_rise a j a_stays)))))

-- functions that stand alone
pub tail_rises : (f : ℕ) (fs : List ℕ) → AllPairs (λ x y. x < y) (f ∷ fs) → AllPairs (λ x y. x < y) fs
tail_rises f fs up i j d lt within = up (suc i) (suc j) d (omega arith) (omega arith)

pub behind : (f : ℕ) (fs : List ℕ) (g : ℕ) → AllPairs (λ x y. x < y) (f ∷ fs) → Contains fs g → f < g
behind f fs g up h = subst (λ (y : ℕ). f < y) h.2 (up 0 (suc h.0) g (omega arith) (omega (arith, h.1)))

above_alone : (k : ℕ) (fs : List ℕ) → ((g : ℕ) → Contains fs g → k < g) → Above k (map alone fs)
above_alone k [] h = tt
above_alone k (f ∷ fs) h = (h f (in_head f fs), above_alone k fs (λ g i. h g (in_tail f fs g i)))

pub rise_alone : (fs : List ℕ) → AllPairs (λ x y. x < y) fs → Rise (map alone fs)
rise_alone [] h = tt
rise_alone (f ∷ fs) h = (above_alone f fs (λ g i. behind f fs g h i), rise_alone fs (tail_rises f fs h))

pub flat_alone : (fs : List ℕ) → flat (map alone fs) ≡ fs
flat_alone [] = refl
flat_alone (f ∷ fs) = flat_map-cons (λ (x : List ℕ). x) (f ∷ []) (map alone fs) ∙ ap (λ (xs : List ℕ). f ∷ xs) (flat_alone fs)

-- one more function behind the others
pub pushed_alone : (f : ℕ) (fs : List ℕ) → ((g : ℕ) → Contains fs g → g < f) → insert_entry nat_cmp (map named (map alone fs)) f (alone f) ≡ map named (map alone fs) ++ named (alone f) ∷ []
pushed_alone f [] h = refl
pushed_alone f (g ∷ fs) h = rw (cmp_greater f g (h g (in_head g fs))) (ap (λ (xs : List (ℕ × List ℕ)). named (alone g) ∷ xs) (pushed_alone f fs (λ k i. h k (in_tail g fs k i))))

-- those before a place are below the one there
pub taken_below : (fs : List ℕ) (i : ℕ) → i < length fs → AllPairs (λ x y. x < y) fs → (g : ℕ) → Contains (take i fs) g → g < get_or fs i 0
taken_below [] i lt up g h = absurd (omega (arith, lt))
taken_below (f ∷ fs) zero lt up g h = absurd (in_none g h)
taken_below (f ∷ fs) (suc i) lt up g h =
    elim (split_at f (take i fs) g h) [
      | inl e ↦ subst (λ (x : ℕ). x < get_or fs i 0) (sym e) (up 0 (suc i) 0 (omega arith) (omega (arith, lt)))
      | inr j ↦ taken_below fs i (omega (arith, lt)) (tail_rises f fs up) g j
    ]
