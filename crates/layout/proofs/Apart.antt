-- No address lies in two layouts that lie apart.
use Rattle.std.proofs.Common.{◌≡◌, ℕ, ◌<◌, List, get_or, Option, Some, None, inl, inr, refl, sym, subst, arith}
use Rattle.std.specs.Prelude.{AllPairs}
use Rattle.std.specs.List.{slice_get}
use Rattle.std.specs.Option.{IsSomeAnd}
use Rattle.std.proofs.lemmas.Bool.{cases_order}
use Rattle.std.proofs.lemmas.Option.{slice_get_within, get_or_from_slice_get}
use Rattle.layout.specs.Laid.{Laid}
use Rattle.layout.specs.Apart.{LieApart, AreApart, Covers}

-- what stands at a place
pub there : {X : Type 0} (xs : List X) (k : ℕ) (P : X → Type 0) → IsSomeAnd (slice_get xs k) P → (x : X) × (slice_get xs k ≡ Some x) × P x
there {X} xs k P h = by_option (slice_get xs k) refl h
  where
    by_option : (o : Option X) → slice_get xs k ≡ o → IsSomeAnd o P → (x : X) × (slice_get xs k ≡ Some x) × P x
    by_option None e h = absurd h
    by_option (Some x) e h = (x, e, h)

pub from_there : {X : Type 0} (xs : List X) (k : ℕ) (P : X → Type 0) (x : X) → slice_get xs k ≡ Some x → P x → IsSomeAnd (slice_get xs k) P
from_there {X} xs k P x e p = subst (λ (o : Option X). IsSomeAnd o P) (sym e) p

pub same_place : {X : Type 0} (xs : List X) (k : ℕ) (x y : X) → slice_get xs k ≡ Some x → slice_get xs k ≡ Some y → x ≡ y
same_place xs k x y e f = cc

apart_at : (lives : List Laid) (j k : ℕ) (l m : Laid) → AllPairs LieApart lives → j < k → slice_get lives j ≡ Some l → slice_get lives k ≡ Some m → LieApart l m
apart_at lives j k l m apart lt e f =
    let within = slice_get_within lives k m f in
    let h : LieApart (get_or lives j l) (get_or lives k l) = apart j k l lt within in
    subst (λ (x : Laid). LieApart l x) (get_or_from_slice_get lives k m l f) (subst (λ (x : Laid). LieApart x (get_or lives k l)) (get_or_from_slice_get lives j l l e) h)

not_both : (l m : Laid) (a : ℕ) → LieApart l m → Covers a l → Covers a m → ⊥
not_both l m a (inl h) p q = omega (arith, h, p.1, q.0)
not_both l m a (inr h) p q = omega (arith, h, p.0, q.1)

pub are_apart : (lives : List Laid) → AllPairs LieApart lives → AreApart lives
are_apart lives apart a j k p q =
    let l = there lives j (Covers a) p in
    let m = there lives k (Covers a) q in
    elim (cases_order j k) [
      | inl same ↦ same
      | inr (inl lt) ↦ absurd (not_both l.0 m.0 a (apart_at lives j k l.0 m.0 apart lt l.1 m.1) l.2 m.2)
      | inr (inr gt) ↦ absurd (not_both m.0 l.0 a (apart_at lives k j m.0 l.0 apart gt m.1 l.1) m.2 l.2)
    ]
