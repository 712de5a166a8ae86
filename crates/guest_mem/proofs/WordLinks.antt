-- The links among a run of words.
use Rattle.std.proofs.Common.{◌≡◌, ℕ, zero, suc, ◌+◌, ◌*◌, ◌<◌, ◌≤◌, Bool, true, false, cond, ◌&&◌, List, [], ◌∷◌, ◌++◌, map, is_some, refl, sym, ap, subst, ◌∙◌, inl, inr, arith, T}
use Rattle.std.specs.declared.cmp.Ordering.TheVariants.{Less}
use Rattle.std.specs.Ordering.{nat_cmp, is_lt}
use Rattle.std.specs.BTreeMap.{is_at}
use Rattle.std.specs.Cmp.{unsigned_tied}
use Rattle.std.specs.FinMap.{find, is_sorted}
use Rattle.std.specs.FinMap.Entries.{below_all}
use Rattle.std.proofs.lemmas.Bool.{cases_eq, eq-eqb, ne_eqb}
use Rattle.std.proofs.lemmas.Bool.Decides.{nat_tests}
use Rattle.finite.specs.Maps.{contains, within}
use Rattle.finite.proofs.MapLaws.{units, items_are, in_range, out_of_range}
use Rattle.guest_mem.specs.Memory.{Memory, number_at}
use Rattle.guest_mem.specs.Access.{links_of}
use Rattle.guest_mem.specs.Pages.{word_links}

pub none_yet : (p : ℕ → Bool) (f : ℕ → ℕ) (w : ℕ) → word_links p f w 0 ≡ []
unfolding word_links
none_yet p f w = refl

append_none : (p : ℕ → Bool) (f : ℕ → ℕ) (w n : ℕ) → word_links p f w (0 + n) ≡ word_links p f w 0 ++ word_links p f (w + 0) n
append_none p f w n =
    let a : 0 + n ≡ n = omega arith in
    let b : w ≡ w + 0 = omega arith in
    ap (word_links p f w) a ∙ ap (λ (v : ℕ). word_links p f v n) b ∙ ap (λ (xs : List (ℕ × ℕ)). xs ++ word_links p f (w + 0) n) (sym (none_yet p f w))

links_suc : (p : ℕ → Bool) (f : ℕ → ℕ) (w n : ℕ) → word_links p f w (suc n) ≡ cond (p w) ((8 * w, f w) ∷ word_links p f (w + 1) n) (word_links p f (w + 1) n)
unfolding word_links
links_suc p f w n = refl

cond_append : {X : Type 0} (b : Bool) (xs ys zs : List X) → cond b (xs ++ zs) (ys ++ zs) ≡ cond b xs ys ++ zs
cond_append true xs ys zs = refl
cond_append false xs ys zs = refl

-- two runs in a row
pub links_append : (p : ℕ → Bool) (f : ℕ → ℕ) (w m n : ℕ) → word_links p f w (m + n) ≡ word_links p f w m ++ word_links p f (w + m) n
links_append p f w zero n = append_none p f w n
links_append p f w (suc m) n =
    let a : suc m + n ≡ suc (m + n) = omega arith in
    let e : w + 1 + m ≡ w + suc m = omega arith in
    let tail = word_links p f (w + suc m) n in
    let rest : word_links p f (w + 1) (m + n) ≡ word_links p f (w + 1) m ++ word_links p f (w + suc m) n = links_append p f (w + 1) m n ∙ ap (λ (v : ℕ). word_links p f (w + 1) m ++ word_links p f v n) e in
    ap (word_links p f w) a
    ∙ links_suc p f w (m + n)
    ∙ (λ i. cond (p w) ((8 * w, f w) ∷ rest i) (rest i))
    ∙ cond_append (p w) ((8 * w, f w) ∷ word_links p f (w + 1) m) (word_links p f (w + 1) m) tail
    ∙ ap (λ (xs : List (ℕ × ℕ)). xs ++ tail) (sym (links_suc p f w m))

pub no_links : (p : ℕ → Bool) (f : ℕ → ℕ) (w n : ℕ) → ((v : ℕ) → w ≤ v → v < w + n → p v ≡ false) → word_links p f w n ≡ []
unfolding word_links
no_links p f w zero h = refl
no_links p f w (suc n) h = rw (h w (omega arith) (omega arith)) (no_links p f (w + 1) n (λ v a b. h v (omega arith) (omega arith)))

pub same_links : (p q : ℕ → Bool) (f g : ℕ → ℕ) (w n : ℕ) → ((v : ℕ) → w ≤ v → v < w + n → p v ≡ q v) → ((v : ℕ) → w ≤ v → v < w + n → f v ≡ g v) → word_links p f w n ≡ word_links q g w n
unfolding word_links
same_links p q f g w zero h k = refl
same_links p q f g w (suc n) h k =
    let a = h w (omega arith) (omega arith) in
    let b = k w (omega arith) (omega arith) in
    let rest = same_links p q f g (w + 1) n (λ v x y. h v (omega arith) (omega arith)) (λ v x y. k v (omega arith) (omega arith)) in
    λ i. cond (a i) ((8 * w, b i) ∷ rest i) (rest i)

pub one_link : (p : ℕ → Bool) (f : ℕ → ℕ) (w : ℕ) → p w ≡ true → word_links p f w 1 ≡ (8 * w, f w) ∷ []
unfolding word_links
one_link p f w e = rw e refl

pub not_link : (p : ℕ → Bool) (f : ℕ → ℕ) (w : ℕ) → p w ≡ false → word_links p f w 1 ≡ []
unfolding word_links
not_link p f w e = rw e refl

-- ---- all links
keys_from : (ℕ → Bool) → ℕ → ℕ → List ℕ
keys_from p w zero = []
keys_from p w (suc n) = cond (p w) (w ∷ keys_from p (w + 1) n) (keys_from p (w + 1) n)

by_keys : (p : ℕ → Bool) (f : ℕ → ℕ) (w n : ℕ) → word_links p f w n ≡ map (λ (v : ℕ). (8 * v, f v)) (keys_from p w n)
unfolding word_links keys_from
by_keys p f w zero = refl
by_keys p f w (suc n) =
    let rest = by_keys p f (w + 1) n in
    elim (p w) as (λ b. cond b ((8 * w, f w) ∷ word_links p f (w + 1) n) (word_links p f (w + 1) n) ≡ map (λ (v : ℕ). (8 * v, f v)) (cond b (w ∷ keys_from p (w + 1) n) (keys_from p (w + 1) n))) [
      | true ↦ ap (λ (xs : List (ℕ × ℕ)). (8 * w, f w) ∷ xs) rest
      | false ↦ rest
    ]

both : (b c : Bool) → T b → T c → T (b && c)
both true c p q = q
both false c p q = p

less : (a b : ℕ) → a < b → nat_cmp a b ≡ Less
less a b h = grind (arith, nat_tests)

is_less : (a b : ℕ) → a < b → T (is_lt (nat_cmp a b))
is_less a b h = subst (λ r. T (is_lt r)) (sym (less a b h)) tt

below : (p : ℕ → Bool) (x w n : ℕ) → x < w → T (below_all nat_cmp x (units (keys_from p w n)))
unfolding keys_from
below p x w zero h = tt
below p x w (suc n) h =
    elim (p w) as (λ b. T (below_all nat_cmp x (units (cond b (w ∷ keys_from p (w + 1) n) (keys_from p (w + 1) n))))) [
      | true ↦ both (is_lt (nat_cmp x w)) (below_all nat_cmp x (units (keys_from p (w + 1) n))) (is_less x w h) (below p x (w + 1) n (omega arith))
      | false ↦ below p x (w + 1) n (omega arith)
    ]

sorted : (p : ℕ → Bool) (w n : ℕ) → T (is_sorted nat_cmp (units (keys_from p w n)))
unfolding keys_from
sorted p w zero = tt
sorted p w (suc n) =
    elim (p w) as (λ b. T (is_sorted nat_cmp (units (cond b (w ∷ keys_from p (w + 1) n) (keys_from p (w + 1) n))))) [
      | true ↦ both (below_all nat_cmp w (units (keys_from p (w + 1) n))) (is_sorted nat_cmp (units (keys_from p (w + 1) n))) (below p w (w + 1) n (omega arith)) (sorted p (w + 1) n)
      | false ↦ sorted p (w + 1) n
    ]

next : (w n q : ℕ) → (q ≡ w → ⊥) → within (w + 1) n q ≡ within w (suc n) q
next w n q d = grind (arith, nat_tests)

found : (p : ℕ → Bool) (w n q : ℕ) → is_some (find nat_cmp q (units (keys_from p w n))) ≡ (within w n q && p q)
unfolding keys_from
found p w zero q = sym (ap (λ b. b && p q) (out_of_range w 0 q (λ a b. absurd (omega arith))))
found p w (suc n) q =
    elim (cases_eq q w) [
      | inl same ↦
          let here : (within w (suc n) q && p q) ≡ p w = (λ i. in_range w (suc n) q (omega arith) (omega arith) i && p (same i)) in
          let rest : is_some (find nat_cmp q (units (keys_from p (w + 1) n))) ≡ false = found p (w + 1) n q ∙ ap (λ b. b && p q) (out_of_range (w + 1) n q (λ a b. absurd (omega arith))) in
          let t : is_at (nat_cmp q) w ≡ true = unsigned_tied q w ∙ eq-eqb q w same in
          first (p w) t rest ∙ sym here
      | inr other ↦
          let t : is_at (nat_cmp q) w ≡ false = unsigned_tied q w ∙ ne_eqb q w other in
          later (p w) t ∙ found p (w + 1) n q ∙ ap (λ b. b && p q) (next w n q other)
    ]
  where
    first : (b : Bool) → is_at (nat_cmp q) w ≡ true → is_some (find nat_cmp q (units (keys_from p (w + 1) n))) ≡ false → is_some (find nat_cmp q (units (cond b (w ∷ keys_from p (w + 1) n) (keys_from p (w + 1) n)))) ≡ b
    first true t r = rw t refl
    first false t r = r

    later : (b : Bool) → is_at (nat_cmp q) w ≡ false → is_some (find nat_cmp q (units (cond b (w ∷ keys_from p (w + 1) n) (keys_from p (w + 1) n)))) ≡ is_some (find nat_cmp q (units (keys_from p (w + 1) n)))
    later true t = rw t refl
    later false t = refl

bounded : (b c : Bool) → (c ≡ true → b ≡ true) → c ≡ (b && c)
bounded true c h = refl
bounded false true h = sym (h refl)
bounded false false h = refl

-- the links of a memory, of which all lie below the word n
pub all_links : (m : Memory) (n : ℕ) → ((w : ℕ) → contains m.links w ≡ true → w < n) → word_links (contains m.links) (λ w. number_at m (8 * w)) 0 n ≡ links_of m
all_links m n h =
    by_keys (contains m.links) (λ w. number_at m (8 * w)) 0 n
    ∙ ap (map (λ (w : ℕ). (8 * w, number_at m (8 * w)))) (sym (items_are m.links (keys_from (contains m.links) 0 n) (sorted (contains m.links) 0 n)
    (λ q. bounded (within 0 n q) (contains m.links q) (λ e. in_range 0 n q (omega arith) (omega (arith, h q e))) ∙ sym (found (contains m.links) 0 n q))))
