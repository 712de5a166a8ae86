-- One more word of a layout at its base.
use Rattle.std.proofs.Common.{◌≡◌, ℕ, zero, suc, ◌+◌, ◌*◌, ◌<◌, List, [], ◌∷◌, ◌++◌, length, get_or, refl, sym, ◌∙◌, ap, inl, inr, arith}
use Rattle.std.specs.Prelude.{Some, ◌⊎◌, slice_get}
use Rattle.std.proofs.lemmas.Option.{slice_get_read}
use Rattle.std.proofs.lemmas.Bool.{cases_eq}
use Rattle.emit.specs.declared.entry.Entry.{Entry}
use Rattle.emit.specs.declared.entry.Made.{Made}
use Rattle.emit.specs.declared.entry.Made.TheVariants as made
use Rattle.emit.specs.Placed.{IsMade, AreMade, IsOut, IsFirstOut, wanted, AreInReach}

same_some : {X : Type 0} (x y : X) → Some x ≡ Some y → x ≡ y
same_some x y e = cc

pub get_push : {X : Type 0} (xs : List X) (x y : X) (k : ℕ) → slice_get (xs ++ x ∷ []) k ≡ Some y → (slice_get xs k ≡ Some y) ⊎ ((k ≡ length xs) × (y ≡ x))
get_push [] x y zero e = inr (refl, sym (same_some x y e))
get_push [] x y (suc k) e = absurd (cc)
get_push (z ∷ xs) x y zero e = inl e
get_push (z ∷ xs) x y (suc k) e = elim (get_push xs x y k e) [ inl p ↦ inl p | inr p ↦ inr (ap suc p.0, p.1) ]

pub begun_more : (base : ℕ) (es : List Entry) (ws new : List ℕ) (i w : ℕ) (e : Entry) → length ws ≡ i → i < length es → e ≡ get_or es i e → new ≡ ws ++ w ∷ []
    → AreMade base es ws → IsMade base es (base + 4 * i) e.made w → AreMade base es new
begun_more base es ws new i w e s l g n b m = rw n (record { words = words })
  where
    here : slice_get es i ≡ Some e
    here = slice_get_read es (length es) i e refl l g

    last : (k v : ℕ) (d : Entry) → slice_get es k ≡ Some d → k ≡ length ws → v ≡ w → IsMade base es (base + 4 * k) d.made v
    last k v d p q r =
        let t : k ≡ i = q ∙ s in
        let u : d ≡ e = same_some d e (sym p ∙ ap (λ (n : ℕ). slice_get es n) t ∙ here) in
        rw (t, u, r) m

    words : (k v : ℕ) (d : Entry) → slice_get es k ≡ Some d → slice_get (ws ++ w ∷ []) k ≡ Some v → IsMade base es (base + 4 * k) d.made v
    words k v d p q = elim (get_push ws w v k q) [ inl r ↦ b.words k v d p r | inr r ↦ last k v d p r.0 r.1 ]

pub reached_more : (base : ℕ) (es : List Entry) (i : ℕ) (e : Entry) → i < length es → e ≡ get_or es i e → AreInReach base es i → (IsOut base es (base + 4 * i) e.made → ⊥)
    → AreInReach base es (i + 1)
reached_more base es i e l g b m = record { reach = λ k d h p. by_place k d h p (cases_eq k i) }
  where
    here : slice_get es i ≡ Some e
    here = slice_get_read es (length es) i e refl l g

    by_place : (k : ℕ) (d : Entry) → k < i + 1 → slice_get es k ≡ Some d → (k ≡ i) ⊎ (k ≡ i → ⊥) → IsOut base es (base + 4 * k) d.made → ⊥
    by_place k d h p (inl t) =
        let u : d ≡ e = same_some d e (sym p ∙ ap (λ (n : ℕ). slice_get es n) t ∙ here) in
        rw (t, u) m
    by_place k d h p (inr n) = b.reach k d (omega arith) p

-- what isn't said not to be out of reach is out of reach
stable : (base : ℕ) (es : List Entry) (a : ℕ) (m : Made) → ((IsOut base es a m → ⊥) → ⊥) → IsOut base es a m
stable base es a (made.Jump rd to) k = λ x. k (λ g. g x)
stable base es a (made.High rd v) k = λ x. k (λ g. g x)
stable base es a (made.Same v) k = k (λ x. x)
stable base es a (made.Branch c rs1 rs2 to) k = k (λ x. x)
stable base es a (made.Low rd v) k = k (λ x. x)

pub first_out : (base : ℕ) (es : List Entry) (i : ℕ) (e : Entry) (target : ℕ) → i < length es → e ≡ get_or es i e → target ≡ wanted base es (base + 4 * i) e.made
    → ((IsOut base es (base + 4 * i) e.made → ⊥) → ⊥) → AreInReach base es i → IsFirstOut base es (base + 4 * i) target
first_out base es i e target l g w k b =
    record { index = i; entry = e; stands = slice_get_read es (length es) i e refl l g; is_at = refl; wants = w; out = stable base es (base + 4 * i) e.made k; before = b }
