-- Each kind of step keeps the rule.
use Rattle.std.proofs.Common.{◌≡◌, ◌≢◌, ℕ, zero, suc, ◌+◌, ◌≤◌, true, false, cond, nat_lt, List, [], ◌∷◌, ◌++◌, length, length-append, append_assoc, set, refl, sym, ap, ◌∙◌, subst, ⊎_elim, arith}
use mathlib.Core.List.{append-nil}
use mathlib.Core.Option.{some, some-injective, some-ne-none}
use lib.ListN.{get_elem?}
use Rattle.crossbeam_utils.specs.Register.{Turns, Forks, Merges}
use Rattle.atomic_table.proofs.Lists.{at_set, at_snoc, set_again}
use Rattle.watch.specs.declared.watch.View.{View}
use Rattle.watch.specs.Shown.{last_of, StartsWith, view, Knows, Kept, Shows, Looks, longer, reader, both}

last-snoc : (xs : List (List ℕ)) (x : List ℕ) → last_of (xs ++ x ∷ []) ≡ x
last-snoc [] x = refl
last-snoc (y ∷ []) x = refl
last-snoc (y ∷ z ∷ ys) x = last-snoc (z ∷ ys) x

whole : (log : List (List ℕ)) → StartsWith log log
whole log = ([], sym (append-nil log))

more : (log seen : List (List ℕ)) (x : List ℕ) → StartsWith log seen → StartsWith (log ++ x ∷ []) seen
more log seen x s = (s.0 ++ x ∷ [], ap (λ l. l ++ x ∷ []) s.1 ∙ append_assoc seen s.0 (x ∷ []))

begins_at : (first : List ℕ) (by : ℕ) (v : View) → get_elem? (view (first ∷ []) true ∷ []) by ≡ some v → Knows 0 (first ∷ []) by v
begins_at first zero v e = subst (λ (u : View). Knows 0 (first ∷ []) 0 u) (some-injective (view (first ∷ []) true) v e) (whole (first ∷ []), λ w. (refl, refl))
begins_at first (suc j) v e = absurd (some-ne-none v (sym e))

pub begins : (first : List ℕ) → Kept first (view (first ∷ []) true ∷ [])
begins first = (0, first ∷ [], refl, begins_at first)

pub shows : (pass : ℕ) (v : View) (val : List ℕ) → v.writes ≡ true → Turns Kept pass v (λ _. val) Shows
shows pass v val w x views kept at =
    let seat = kept.0 in
    let log = kept.1 in
    let mine = (kept.3 pass v at).1 w in
    let new = view (v.shown ++ val ∷ []) v.writes in (
      new,
      (
        seat,
        log ++ val ∷ [],
        last-snoc log val,
        λ j u e.
            ⊎_elim
            (λ (t : (j ≡ pass) × (new ≡ u)). subst (λ (z : View). Knows seat (log ++ val ∷ []) j z) t.1
            (subst (λ l. StartsWith (log ++ val ∷ []) (l ++ val ∷ [])) (sym mine.1) (whole (log ++ val ∷ [])), λ yes. (t.0 ∙ mine.0, ap (λ l. l ++ val ∷ []) mine.1)))
            (λ (t : (j ≢ pass) × (get_elem? views j ≡ some u)).
            let b = kept.3 j u t.1 in (more log u.shown val b.0, λ yes. absurd (t.0 ((b.1 yes).0 ∙ sym mine.0))))
            (at_set views pass j new u e),
      ),
      refl,
    )

pub looks : (pass : ℕ) (v : View) → Turns Kept pass v (λ x. x) Looks
looks pass v x views kept at =
    let seat = kept.0 in
    let log = kept.1 in
    let mine = kept.3 pass v at in
    let new = view log v.writes in (
      new,
      (
        seat,
        log,
        kept.2,
        λ j u e.
            ⊎_elim
            (λ (t : (j ≡ pass) × (new ≡ u)). subst (λ (z : View). Knows seat log j z) t.1 (whole log, λ yes. (t.0 ∙ (mine.1 yes).0, refl)))
            (λ (t : (j ≢ pass) × (get_elem? views j ≡ some u)). kept.3 j u t.1)
            (at_set views pass j new u e),
      ),
      (mine.0, kept.2, refl),
    )

pub forks : (pass : ℕ) (v : View) → Forks Kept pass v v (reader v)
forks pass v x views kept at = (
  kept.0,
  kept.1,
  kept.2,
  λ j u e.
      ⊎_elim (λ was. kept.3 j u (subst (λ l. get_elem? l j ≡ some u) (set_again views pass v at) was))
      (λ (same : reader v ≡ u). subst (λ (z : View). Knows kept.0 kept.1 j z) same ((kept.3 pass v at).0, λ no. cc))
      (at_snoc (set views pass v) (reader v) u j e),
)

shorter : (log seen : List (List ℕ)) → StartsWith log seen → length seen ≤ length log
shorter log seen s = let e : length log ≡ length seen + length s.0 = ap length s.1 ∙ length-append seen s.0 in omega (arith, e)

longer_starts : (log a b : List (List ℕ)) → StartsWith log a → StartsWith log b → StartsWith log (longer a b)
longer_starts log a b s t = elim (nat_lt (length a) (length b)) as (λ c. StartsWith log (cond c b a)) [ true ↦ t | false ↦ s ]

not_longer : (m n : ℕ) → n ≤ m → nat_lt m n ≡ false
not_longer m n h = grind (arith, h)

pub merges : (pass : ℕ) (v : View) (other : ℕ) (w : View) → Merges Kept pass v other w (both v w) (view [] false)
merges pass v other w x views kept at apart at_other =
    let seat = kept.0 in
    let log = kept.1 in
    let mine = kept.3 pass v at in
    let theirs = ⊎_elim (λ (t : (other ≡ pass) × (both v w ≡ w)). absurd (apart t.0)) (λ (t : (other ≢ pass) × (get_elem? views other ≡ some w)). kept.3 other w t.1) (at_set views pass other (both v w) w at_other) in (
      seat,
      log,
      kept.2,
      λ j u e.
          ⊎_elim
          (λ (t : (j ≡ other) × (view [] false ≡ u)). subst (λ (z : View). Knows seat log j z) t.1 ((log, refl), λ no. cc))
          (λ (t : (j ≢ other) × (get_elem? (set views pass (both v w)) j ≡ some u)).
          ⊎_elim
          (λ (s : (j ≡ pass) × (both v w ≡ u)). subst (λ (z : View). Knows seat log j z) s.1 (
            longer_starts log v.shown w.shown mine.0 theirs.0,
            λ yes. (
              s.0 ∙ (mine.1 yes).0,
              (let all = (mine.1 yes).1 in let less = shorter log w.shown theirs.0 in rw (not_longer (length v.shown) (length w.shown) (rw all less)) all),
            ),
          ))
          (λ (s : (j ≢ pass) × (get_elem? views j ≡ some u)). kept.3 j u s.1)
          (at_set views pass j (both v w) u t.1))
          (at_set (set views pass (both v w)) other j (view [] false) u e),
    )
