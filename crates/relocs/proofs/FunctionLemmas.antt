-- Functions, one symbol more.
use Rattle.std.proofs.Common.{◌≡◌, ℕ, suc, ◌+◌, ◌<◌, ◌≤◌, ◌-◌, Bool, true, false, cond, leb, ltb, max, List, [], ◌∷◌, ◌++◌, length, map, take, get_or, Some, None, refl, sym, ap, subst, ◌∙◌, arith}
use Rattle.std.specs.Prelude.{◌&&◌, ◌||◌, ◌==◌}
use Rattle.std.specs.Option.{option_map_or}
use Rattle.std.specs.List.{All, AllPairs, filter, list_any, reduce}
use Rattle.std.proofs.lemmas.Bool.{lt-leb, leb-true, ltb-true, ltb-false, and_left, and_right, and_parts}
use Rattle.std.proofs.lemmas.Bool.Decides.{nat_tests}
use Rattle.std.proofs.lemmas.List.{map-append}
use Rattle.std.proofs.lemmas.List.Elements.{filter_more, All-tail}
use Rattle.std.proofs.lemmas.List.Folds.{list_any_none}
use Rattle.std.proofs.lemmas.List.Sums.{fold_push}
use Rattle.std.proofs.lemmas.Grind.{common_steps}
use Rattle.elf_read.specs.declared.elf.Symbol.{Symbol}
use Rattle.image.specs.declared.ranges.TextRange.{TextRange}
use Rattle.image.specs.Texts.{text_end, covers, text_at}
use Rattle.image.specs.Picture.{IsText}
use Rattle.relocs.specs.Functions.{holds, is_code, is_function, symbol_end, greater, end_at}

abbrev Rise : List TextRange → Type 0
Rise ts = AllPairs (λ s t. text_end s ≤ t.from) ts

tail_rises : (t : TextRange) (ts : List TextRange) → Rise (t ∷ ts) → Rise ts
tail_rises t ts up i j d lt within = up (suc i) (suc j) d (omega arith) (omega arith)

-- no later text range holds what starts before the first ends
later_none : (t : TextRange) (ts : List TextRange) (from to : ℕ) → Rise (t ∷ ts) → from < text_end t → list_any (holds from to) ts ≡ false
later_none t ts from to up lt = list_any_none (holds from to) ts (λ k d h. (
    let e : text_end t ≤ (get_or ts k d).from = up 0 (suc k) d (omega arith) (omega (arith, h)) in
    and_left _ _ (lt-leb (get_or ts k d).from from (omega (arith, e, lt)))))

or_nothing : (a : Bool) → (a || false) ≡ a
or_nothing true = refl
or_nothing false = refl

-- what doesn't cover the first byte doesn't hold the range
not_held : (b : Bool) (t : TextRange) (from to : ℕ) → from < to → leb t.from from ≡ b → covers from t ≡ false → holds from to t ≡ false
not_held true t from to lt is e =
    let past = ltb-false from (text_end t) (rw is at e) in
    and_right _ _ (lt-leb to (text_end t) (omega (arith, past)))
not_held false t from to lt is e = and_left _ _ is

hold_case : (b : Bool) (t : TextRange) (ts : List TextRange) (from to : ℕ) → covers from t ≡ b → from < to → Rise (t ∷ ts) → list_any (holds from to) ts ≡ option_map_or (λ u. leb to (text_end u)) (text_at ts from) false → (holds from to t || list_any (holds from to) ts) ≡ option_map_or (λ u. leb to (text_end u)) (cond b (Some t) (text_at ts from)) false
hold_case true t ts from to is lt up rest =
    let parts = and_parts (leb t.from from) (ltb from (text_end t)) is in
    let none = later_none t ts from to up (ltb-true _ _ parts.1) in
    rw (none, parts.0) (or_nothing (leb to (text_end t)))
hold_case false t ts from to is lt up rest =
    let none : holds from to t ≡ false = not_held (leb t.from from) t from to lt refl is in
    rw none rest

pub in_one_by_find : (ts : List TextRange) (from to : ℕ) → Rise ts → from < to → list_any (holds from to) ts ≡ option_map_or (λ u. leb to (text_end u)) (text_at ts from) false
in_one_by_find [] from to up lt = refl
in_one_by_find (t ∷ ts) from to up lt = hold_case (covers from t) t ts from to refl lt up (in_one_by_find ts from to (tail_rises t ts up) lt)

pub in_one : (ts : List TextRange) (from to : ℕ) (t : TextRange) → Rise ts → from < to → Some t ≡ text_at ts from → list_any (holds from to) ts ≡ leb to (text_end t)
in_one ts from to t up lt is = in_one_by_find ts from to up lt ∙ sym (ap (λ o. option_map_or (λ u. leb to (text_end u)) o false) is)

pub in_none : (ts : List TextRange) (from to : ℕ) → Rise ts → from < to → None ≡ text_at ts from → list_any (holds from to) ts ≡ false
in_none ts from to up lt is = in_one_by_find ts from to up lt ∙ sym (ap (λ o. option_map_or (λ u. leb to (text_end u)) o false) is)

second_of : (a b : Bool) → (a && b) ≡ true → b ≡ true
second_of true b e = e
second_of false b e = absurd cc

either_of : (a b : Bool) → (a || b) ≡ true → a ≡ false → b ≡ true
either_of true b e h = absurd cc
either_of false b e h = e

held_step : (b : Bool) (t : TextRange) (from to : ℕ) (rest : Bool) → (holds from to t || rest) ≡ true → holds from to t ≡ b → text_end t ≤ 0x08000000 → (rest ≡ true → to ≤ 0x08000000) → to ≤ 0x08000000
held_step true t from to rest e is lt h = omega (arith, lt, leb-true to (text_end t) (second_of _ _ is))
held_step false t from to rest e is lt h = h (either_of _ _ e is)

-- a range that one text range holds ends in the guest's space
pub held_fits : (texts : List TextRange) (from to : ℕ) → All IsText texts → list_any (holds from to) texts ≡ true → to ≤ 0x08000000
held_fits [] from to h e = absurd cc
held_fits (t ∷ texts) from to h e = held_step (holds from to t) t from to (list_any (holds from to) texts) e refl (h 0 t (omega arith)).high (held_fits texts from to (All-tail IsText t texts h))

pub function_fits : (texts : List TextRange) (s : Symbol) → All IsText texts → is_function texts s ≡ true → s.value + s.size ≤ 0x08000000
unfolding is_function
function_fits texts s h e = held_fits texts s.value (symbol_end s) h (second_of (is_code s) (list_any (holds s.value (symbol_end s)) texts) e)

-- the greatest, with one more
reduce_push : (xs : List ℕ) (y : ℕ) → reduce max (xs ++ y ∷ []) ≡ greater (reduce max xs) y
reduce_push [] y = refl
reduce_push (x ∷ xs) y = ap (λ (n : ℕ). Some n) (fold_push max x xs y)

one_more : (b : Bool) (xs : List Symbol) (s : Symbol) → reduce max (map symbol_end (xs ++ cond b (s ∷ []) [])) ≡ cond b (greater (reduce max (map symbol_end xs)) (symbol_end s)) (reduce max (map symbol_end xs))
one_more true xs s = rw (map-append symbol_end xs (s ∷ [])) (reduce_push (map symbol_end xs) (symbol_end s))
one_more false xs s = grind (arith, common_steps)

pub end_at_none : (texts : List TextRange) (q : ℕ) → end_at texts [] q ≡ None
unfolding end_at
end_at_none texts q = refl

pub end_at_more : (texts : List TextRange) (ss : List Symbol) (q i : ℕ) (d : Symbol) → i < length ss → end_at texts (take (i + 1) ss) q ≡ cond (is_function texts (get_or ss i d) && (get_or ss i d).value == q) (greater (end_at texts (take i ss) q) (symbol_end (get_or ss i d))) (end_at texts (take i ss) q)
unfolding end_at
end_at_more texts ss q i d lt =
    let p : Symbol → Bool = λ s. is_function texts s && s.value == q in
    rw (filter_more p ss i d lt) (one_more (p (get_or ss i d)) (filter p (take i ss)) (get_or ss i d))

-- the same for an element that was read
pub end_at_read : (texts : List TextRange) (ss : List Symbol) (q i : ℕ) (s : Symbol) → i < length ss → s ≡ get_or ss i s → end_at texts (take (i + 1) ss) q ≡ cond (is_function texts s && s.value == q) (greater (end_at texts (take i ss) q) (symbol_end s)) (end_at texts (take i ss) q)
end_at_read texts ss q i s lt is =
    subst (λ (x : Symbol). end_at texts (take (i + 1) ss) q ≡ cond (is_function texts x && x.value == q) (greater (end_at texts (take i ss) q) (symbol_end x)) (end_at texts (take i ss) q)) (sym is) (end_at_more texts ss q i s lt)

pub shifted : (s from e : ℕ) → from ≤ e → leb s (e - from) ≡ leb (from + s) e
shifted s from e le = grind (arith, nat_tests)
