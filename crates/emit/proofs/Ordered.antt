-- Blocks in a plan's order, one after another.
use Rattle.std.proofs.Common.{◌≡◌, ℕ, zero, suc, ◌+◌, ◌<◌, List, [], ◌∷◌, ◌++◌, length, get_or, drop, append_assoc, refl, sym, ◌∙◌, subst, ap, inl, inr, arith}
use Rattle.std.specs.Prelude.{Option, Some, None, Bool, true, ◌⊎◌, ◌==◌, slice_get}
use Rattle.std.specs.List.{cons_option}
use Rattle.std.proofs.lemmas.Bool.{eqb-true, or_cases}
use Rattle.std.proofs.lemmas.Option.{slice_get_read, slice_get-get_or, slice_get_within}
use Rattle.std.proofs.lemmas.List.{drop_more}
use Rattle.image.specs.declared.ranges.Func.{Func}
use Rattle.blocks.specs.declared.run.Run.{Run}
use Rattle.blocks.specs.Sound.{Begins}
use Rattle.plans.specs.Orders.{is_among, IsOrder}
use Rattle.emit.specs.declared.entry.Entry.{Entry}
use Rattle.emit.specs.Entries.{Calls, run_entries, first_from, runs_entries, in_order}
use Rattle.emit.proofs.Leading.{IsBlock, AllBlocks}

-- the first of the blocks
ordered_first : (rs : List Run) (o : ℕ) (order : List ℕ) (r : Run) → o < length rs → r ≡ get_or rs o r → in_order rs (o ∷ order) ≡ r ∷ in_order rs order
ordered_first rs o order r lt e = ap (λ g. cons_option g (in_order rs order)) (slice_get_read rs (length rs) o r refl lt e)

pub first_is : (rs : List Run) (order : List ℕ) (o : ℕ) (d : Run) → 0 < length order → o ≡ get_or order 0 0 → o < length rs → Some (get_or rs o d).from ≡ first_from (in_order rs order)
first_is rs [] o d h e lt = absurd (omega arith)
first_is rs (n ∷ order) o d h e lt = rw (← e) (sym (ap (λ g. first_from (cons_option g (in_order rs order))) (slice_get-get_or rs o d lt)))

-- one block more
pub runs_more : (c : Calls) (f : Func) (far : ℕ → ℕ → Bool) (rs : List Run) (order : List ℕ) (i o : ℕ) (r : Run) (rest : List ℕ) (next : Option ℕ) (old new all : List Entry)
    → i < length order → o ≡ get_or order i 0 → o < length rs → r ≡ get_or rs o r → rest ≡ drop (i + 1) order
    → next ≡ first_from (in_order rs rest) → new ≡ old ++ run_entries c f far next r
    → old ++ runs_entries c f far (in_order rs (drop i order)) ≡ all
    → new ++ runs_entries c f far (in_order rs (drop (i + 1) order)) ≡ all
runs_more c f far rs order i o r rest next old new all h e lt g t m n k =
    let d : drop i order ≡ o ∷ drop (i + 1) order = drop_more order i 0 h ∙ ap (λ (m : ℕ). m ∷ drop (i + 1) order) (sym e) in
    let s : in_order rs (drop i order) ≡ r ∷ in_order rs (drop (i + 1) order) = ap (in_order rs) d ∙ ordered_first rs o (drop (i + 1) order) r lt g in
    rw (n, m, t) (append_assoc old _ _ ∙ sym (ap (λ l. old ++ runs_entries c f far l) s) ∙ k)

-- ---- blocks in another order are the same blocks
module _ (text second : ℕ → Option ℕ) (known outside : ℕ → Type 0) (c : Calls) (f : Func) where
  block_at : (rs : List Run) (k : ℕ) (r : Run) → AllBlocks text second known outside c f rs → slice_get rs k ≡ Some r → IsBlock text second known outside c f r
  block_at [] k r a e = absurd (cc)
  block_at (x ∷ rs) zero r a e = subst (λ (d : Run). IsBlock text second known outside c f d) (same e) a.0
    where
      same : Some x ≡ Some r → x ≡ r
      same p = cc
  block_at (x ∷ rs) (suc k) r a e = block_at rs k r a.1 e

  pub all_in_order : (rs : List Run) (order : List ℕ) → AllBlocks text second known outside c f rs → AllBlocks text second known outside c f (in_order rs order)
  all_in_order rs [] a = tt
  all_in_order rs (o ∷ order) a = by_get (slice_get rs o) (λ r e. block_at rs o r a e) (all_in_order rs order a)
    where
      by_get : (g : Option Run) → ((r : Run) → g ≡ Some r → IsBlock text second known outside c f r) → AllBlocks text second known outside c f (in_order rs order)
          → AllBlocks text second known outside c f (cons_option g (in_order rs order))
      by_get None b h = h
      by_get (Some r) b h = (b r refl, h)

begins_at : (rs : List Run) (y : ℕ) → Begins rs y → (k : ℕ) × ((r : Run) × (slice_get rs k ≡ Some r) × (r.from ≡ y))
begins_at [] y b = absurd b
begins_at (r ∷ rs) y (inl p) = (0, (r, refl, p))
begins_at (r ∷ rs) y (inr p) = let t = begins_at rs y p in (suc t.0, (t.1.0, t.1.1, t.1.2))

begins_listed : (rs : List Run) (order : List ℕ) (k y : ℕ) (r : Run) → slice_get rs k ≡ Some r → r.from ≡ y → is_among order k ≡ true → Begins (in_order rs order) y
begins_listed rs [] k y r e p m = absurd (cc)
begins_listed rs (o ∷ order) k y r e p m =
    by_cases (or_cases (o == k) (is_among order k) m) (λ h. begins_listed rs order k y r e p h)
  where
    later : (g : Option Run) → Begins (in_order rs order) y → Begins (cons_option g (in_order rs order)) y
    later None h = h
    later (Some d) h = inr h

    first : (g : Option Run) → g ≡ Some r → Begins (cons_option g (in_order rs order)) y
    first g q = rw q (inl p)

    by_cases : ((o == k) ≡ true) ⊎ (is_among order k ≡ true) → (is_among order k ≡ true → Begins (in_order rs order) y) → Begins (cons_option (slice_get rs o) (in_order rs order)) y
    by_cases (inl q) h = first (slice_get rs o) (ap (slice_get rs) (eqb-true o k q) ∙ e)
    by_cases (inr q) h = later (slice_get rs o) (h q)

-- a block that begins at y is there in every order
pub begins_in_order : (rs : List Run) (order : List ℕ) (y : ℕ) → IsOrder (length rs) order → Begins rs y → Begins (in_order rs order) y
begins_in_order rs order y o b =
    let t = begins_at rs y b in
    begins_listed rs order t.0 y t.1.0 t.1.1 t.1.2 (o.each t.0 (slice_get_within rs t.0 t.1.0 t.1.1))
