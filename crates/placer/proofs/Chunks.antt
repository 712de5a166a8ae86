-- Parts that were worked out chunk by chunk.
use Rattle.std.proofs.Common.{◌≡◌, ℕ, suc, ◌+◌, ◌*◌, ◌/◌, ◌%◌, ◌<◌, ◌≤◌, min, List, [], ◌∷◌, ◌++◌, length, map, get_or, take, drop, refl, sym, ap, subst, ◌∙◌, arith}
use Rattle.std.specs.Prelude.{Option, Some, None, Result, Ok, Err, IfOk, Vec, option_map}
use Rattle.std.specs.declared.alloc.Global.{Global}
use Rattle.std.proofs.Math.Seq.{take-add}
use Rattle.std.proofs.lemmas.Grind.{div_ceil_times}
use Rattle.std.proofs.lemmas.List.{drop-drop, map-append, take_all, take_more}
use Rattle.std.proofs.lemmas.List.Elements.{All-append, All-cons, All-nil}
use Rattle.image.specs.Picture.{Picture}
use Rattle.blocks.specs.Blocks.{blocks_of}
use Rattle.plans.specs.declared.plan.Moved.{Moved}
use Rattle.plans.specs.Plans.{moved_func}
use Rattle.branch_ring.specs.declared.counted.Counted.{Counted}
use Rattle.place_blocks.specs.Orders.{IsChain}
use Rattle.placer.specs.Joined.{joined}
use Rattle.placer.specs.Planned.{AreParts}

some_is : {X : Type 0} (x y : X) → Some x ≡ Some y → x ≡ y
some_is x y e = cc

module _ (p : Picture) (profile : List Counted) where
  parts-append : (fs gs : List ℕ) (xs ys : List Moved) → AreParts p profile fs xs → AreParts p profile gs ys → AreParts p profile (fs ++ gs) (xs ++ ys)
  parts-append fs gs xs ys a b =
      record {
        moved = map-append moved_func xs ys ∙ ap (λ (hs : List ℕ). hs ++ map moved_func ys) a.moved ∙ ap (λ (hs : List ℕ). fs ++ hs) b.moved;
        orders = All-append (λ m. IsChain (blocks_of p m.func) profile m.order) xs ys a.orders b.orders;
      }

  pub none_yet : AreParts p profile [] []
  none_yet = record { moved = refl; orders = All-nil (λ m. IsChain (blocks_of p m.func) profile m.order) }

  -- one function more
  pub parts-push : (funcs : List ℕ) (parts : List Moved) (m : Moved) (i : ℕ) → AreParts p profile (take i funcs) parts → m.func ≡ get_or funcs i 0 → IsChain (blocks_of p m.func) profile m.order → i < length funcs
      → AreParts p profile (take (i + 1) funcs) (parts ++ m ∷ [])
  parts-push funcs parts m i are is chain within =
      let one : AreParts p profile (get_or funcs i 0 ∷ []) (m ∷ []) = record {
        moved = ap (λ (f : ℕ). f ∷ []) is;
        orders = All-cons (λ m. IsChain (blocks_of p m.func) profile m.order) m [] chain (All-nil (λ m. IsChain (blocks_of p m.func) profile m.order));
      } in
      subst (λ (fs : List ℕ). AreParts p profile fs (parts ++ m ∷ [])) (sym (take_more funcs i 0 within)) (parts-append (take i funcs) (get_or funcs i 0 ∷ []) parts (m ∷ []) are one)

  -- the chunks of a list from one place on
  are_joined : {E : Type 0} (size : ℕ) (funcs : List ℕ) (answers : List (Result (Vec Moved Global) E)) (all : List Moved) (at : ℕ)
      → ((n : ℕ) (d : Result (Vec Moved Global) E) → n < length answers → IfOk (get_or answers n d) (λ v. AreParts p profile (take size (drop (at + n * size) funcs)) v.items))
      → joined answers ≡ Some all → AreParts p profile (take (length answers * size) (drop at funcs)) all
  are_joined size funcs [] all at each e =
      let none : 0 ≡ 0 * size = omega arith in
      subst (λ (k : ℕ). AreParts p profile (take k (drop at funcs)) all) none (subst (AreParts p profile []) (some_is [] all e) none_yet)
  are_joined size funcs (Err e ∷ answers) all at each is = absurd cc
  are_joined {E = E} size funcs (Ok list ∷ answers) all at each is = by_rest (joined answers) refl is (λ rest e. are_joined size funcs answers rest (at + size) next e)
    where
      first : AreParts p profile (take size (drop at funcs)) list.items
      first = let here : at + 0 * size ≡ at = omega arith in subst (λ (k : ℕ). AreParts p profile (take size (drop k funcs)) list.items) here (each 0 (Ok list) (omega arith))

      next : (n : ℕ) (d : Result (Vec Moved Global) E) → n < length answers → IfOk (get_or answers n d) (λ v. AreParts p profile (take size (drop (at + size + n * size) funcs)) v.items)
      next n d l =
          let there : at + suc n * size ≡ at + size + n * size = omega arith in
          subst (λ (k : ℕ). IfOk (get_or answers n d) (λ v. AreParts p profile (take size (drop k funcs)) v.items)) there (each (suc n) d (omega (arith, l)))

      by_rest : (o : Option (List Moved)) → joined answers ≡ o → option_map (λ rest. list.items ++ rest) o ≡ Some all
          → ((rest : List Moved) → joined answers ≡ Some rest → AreParts p profile (take (length answers * size) (drop (at + size) funcs)) rest)
          → AreParts p profile (take (suc (length answers) * size) (drop at funcs)) all
      by_rest None e h tail = absurd cc
      by_rest (Some rest) e h tail =
          let both = parts-append (take size (drop at funcs)) (take (length answers * size) (drop (at + size) funcs)) list.items rest first (tail rest e) in
          let cut : take (size + length answers * size) (drop at funcs) ≡ take size (drop at funcs) ++ take (length answers * size) (drop (at + size) funcs) =
          take-add size (length answers * size) (drop at funcs) ∙ ap (λ (fs : List ℕ). take size (drop at funcs) ++ take (length answers * size) fs) (drop-drop size at funcs) in
          let count : size + length answers * size ≡ suc (length answers) * size = omega arith in
          subst (AreParts p profile (take (suc (length answers) * size) (drop at funcs))) (some_is (list.items ++ rest) all h)
          (subst (λ (k : ℕ). AreParts p profile (take k (drop at funcs)) (list.items ++ rest)) count (subst (λ (fs : List ℕ). AreParts p profile fs (list.items ++ rest)) (sym cut) both))

  -- the parts of all chunks are those of the whole list
  pub all_chunks : {E : Type 0} (size : ℕ) (funcs : List ℕ) (answers : List (Result (Vec Moved Global) E)) (all : List Moved) → 0 < size
      → length answers ≡ length funcs / size + min 1 (length funcs % size)
      → ((n : ℕ) (d : Result (Vec Moved Global) E) → n < length answers
      → (chunk : List ℕ) × (chunk ≡ take size (drop (n * size) funcs)) × IfOk (get_or answers n d) (λ v. AreParts p profile chunk v.items))
      → joined answers ≡ Some all → AreParts p profile funcs all
  all_chunks {E = E} size funcs answers all some count each is =
      let bounds = div_ceil_times (length funcs) size some in
      let long : length funcs ≤ length answers * size = rw count bounds.0 in
      let here : (n : ℕ) → n * size ≡ 0 + n * size = λ n. omega arith in
      let from_start : (n : ℕ) (d : Result (Vec Moved Global) E) → n < length answers → IfOk (get_or answers n d) (λ v. AreParts p profile (take size (drop (0 + n * size) funcs)) v.items) =
      λ n d l.
      let given = each n d l in
      subst (λ (chunk : List ℕ). IfOk (get_or answers n d) (λ v. AreParts p profile chunk v.items)) (given.1 ∙ ap (λ (k : ℕ). take size (drop k funcs)) (here n)) given.2 in
      subst (λ (fs : List ℕ). AreParts p profile fs all) (take_all (length answers * size) funcs long) (are_joined size funcs answers all 0 from_start is)
