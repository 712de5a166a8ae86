-- Laws of what is told.
use Rattle.std.proofs.Common.{◌≡◌, ℕ, ◌+◌, ◌-◌, ◌≤◌, ◌<◌, List, [], ◌++◌, length, take, drop, Option, Some, None, refl, ap, sym, ◌∙◌, append_assoc, arith, length-drop, length-take}
use Rattle.std.proofs.Math.Seq.{take-add}
use Rattle.std.proofs.lemmas.List.{drop-drop, take-append-drop}
use Rattle.std.specs.Option.{ForSome}
use Rattle.std.proofs.lemmas.Grind.{common_steps}
use Rattle.oc_base.specs.Outside.{gained, dropped, LostPart}

-- two gains are one
pub gained-gained : {A : Type 0} (told : Option (List A)) (xs ys : List A) → gained (gained told xs) ys ≡ gained told (xs ++ ys)
gained-gained None xs ys = refl
gained-gained (Some t) xs ys = ap Some (append_assoc t xs ys)

-- a first part, and then a first part of the rest
pub gained-take : {A : Type 0} (told : Option (List A)) (n m : ℕ) (xs : List A) → gained (gained told (take n xs)) (take m (drop n xs)) ≡ gained told (take (n + m) xs)
gained-take told n m xs = gained-gained told (take n xs) (take m (drop n xs)) ∙ ap (gained told) (sym (take-add n m xs))

-- two losses are one
pub dropped-dropped : {A : Type 0} (told : Option (List A)) (n m : ℕ) → dropped m (dropped n told) ≡ dropped (n + m) told
dropped-dropped None n m = refl
dropped-dropped (Some t) n m = ap Some (drop-drop m n t)

-- a loss after another is one loss
pub lost_more : {A : Type 0} (before now next : Option (List A)) (n m : ℕ) → now ≡ dropped n before → next ≡ dropped m now → LostPart before next
lost_more before now next n m first second = record { count = n + m; part = second ∙ ap (dropped m) first ∙ dropped-dropped before n m }

-- the slice from a place on is the rest
pub rest_from : (xs : List ℕ) (at : ℕ) → take (length xs - at) (drop at xs) ≡ drop at xs
rest_from xs at = grind (arith, common_steps)

-- a further part of a piece that is written
pub gained_more : (before now next : Option (List ℕ)) (xs : List ℕ) (at n : ℕ) → now ≡ gained before (take at xs) → next ≡ gained now (take n (take (length xs - at) (drop at xs))) → next ≡ gained before (take (at + n) xs)
gained_more before now next xs at n h k =
    k ∙ ap (λ ys. gained now (take n ys)) (rest_from xs at) ∙ ap (λ told. gained told (take n (drop at xs))) h ∙ gained-take before at n xs

-- At the end of what was there, all is read.
pub all_read : (before now : Option (List ℕ)) (all x : List ℕ) → before ≡ Some x → now ≡ dropped (length all) before → all ≡ take (length all) x → ForSome now (λ bytes. bytes ≡ []) → all ≡ x
all_read before now all x told left first end =
    let none : drop (length all) x ≡ [] = end (drop (length all) x) (left ∙ ap (dropped (length all)) told) in
    let whole : take (length all) x ++ drop (length all) x ≡ x = take-append-drop (length all) x in
    grind (arith, common_steps)

-- what a read took is the next part of what was there
pub next_part : (before now : Option (List ℕ)) (all x buffer : List ℕ) (count : ℕ) → before ≡ Some x → now ≡ dropped (length all) before → ForSome now (λ bytes. take count buffer ≡ take count bytes) → take count buffer ≡ take count (drop (length all) x)
next_part before now all x buffer count told left bytes = bytes (drop (length all) x) (left ∙ ap (dropped (length all)) told)

-- so there was that much
pub was_longer : (all x buffer : List ℕ) (count limit : ℕ) → take count buffer ≡ take count (drop (length all) x) → count ≤ length buffer → limit - length all < count → limit < length x
was_longer all x buffer count limit part room over =
    let lens : length (take count buffer) ≡ length (take count (drop (length all) x)) = ap length part in
    omega (arith, length-take {A = ℕ}, length-drop {A = ℕ}, lens)

-- and it joins what was read before
pub longer_part : (all x buffer : List ℕ) (count : ℕ) → all ≡ take (length all) x → take count buffer ≡ take count (drop (length all) x) → all ++ take count buffer ≡ take (length all + count) x
longer_part all x buffer count first part = ap (λ ys. ys ++ take count buffer) first ∙ ap (λ ys. take (length all) x ++ ys) part ∙ sym (take-add (length all) count x)
