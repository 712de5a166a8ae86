-- The layouts that are referred to are a least set, and those that aren't are in one list.
use Rattle.std.proofs.Common.{◌≡◌, ℕ, Bool, true, List}
use Rattle.std.specs.Prelude.{◌≢◌, Contains}
use Rattle.std.proofs.lemmas.Option.{slice_get_within}
use Rattle.finite.proofs.OneList.{one_rising}
use Rattle.layout.specs.Laid.{Laid}
use Rattle.retire.specs.References.{PointInto, CallsInto, Refers, by_pointer, by_call, AreUnreferenced}
use Rattle.retire.proofs.Closing.{called}
use Rattle.layout.proofs.Apart.{there}

pub least_set : (lives : List Laid) (held : List ℕ) (set : ℕ → Bool) → ((k : ℕ) → PointInto lives held k → set k ≡ true)
    → ((j k : ℕ) → j ≢ k → set j ≡ true → CallsInto lives j k → set k ≡ true) → (k : ℕ) → Refers lives held k → set k ≡ true
least_set lives held set pointers calls k (by_pointer _ h) = pointers k h
least_set lives held set pointers calls k (by_call j _ other r h) = calls j k other (least_set lives held set pointers calls j r) h

pub one_list : (lives : List Laid) (held xs ys : List ℕ) → AreUnreferenced lives held xs → AreUnreferenced lives held ys → xs ≡ ys
one_list lives held xs ys u v =
    one_rising (λ (n : ℕ). n) xs ys u.ascending v.ascending (λ k h. (v.exact k).1 ((u.exact k).0 h)) (λ k h. (u.exact k).1 ((v.exact k).0 h))

pub no_pointer : (lives : List Laid) (held positions : List ℕ) (k : ℕ) → AreUnreferenced lives held positions → Contains positions k → PointInto lives held k → ⊥
no_pointer lives held positions k u h p = ((u.exact k).0 h).1 (by_pointer k p)

pub no_call : (lives : List Laid) (held positions : List ℕ) (j k : ℕ) → AreUnreferenced lives held positions → Contains positions k → (Contains positions j → ⊥) → CallsInto lives j k → ⊥
no_call lives held positions j k u h stays calls =
    let l = there lives j _ calls in
    ((u.exact k).0 h).1 (called lives held j k (u.others j (slice_get_within lives j l.0 l.1) stays) calls)
