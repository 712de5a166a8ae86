-- Pages that are taken, one step after another.
use Rattle.std.proofs.Common.{◌≡◌, ◌∙◌, ℕ, zero, suc, ◌+◌, ◌*◌, ◌/◌, ◌<◌, ◌≤◌, ◌⊎◌, ◌↔◌, inl, inr, Bool, true, false, List, [], ◌∷◌, ◌++◌, length, slice_get, Option, Some, None, get_or, take, min, arith, refl, sym, ap, subst}
use Rattle.std.proofs.Math.ListN.{set}
use Rattle.std.specs.Int.{div_ceil}
use Rattle.std.proofs.lemmas.Bool.{cases_lt}
use Rattle.std.proofs.lemmas.List.{length-set, get_or-set_same, get_or-set_other, get_or_default, take_more, append-nil, length-take-le}
use Rattle.std.proofs.lemmas.List.Elements.{filter_map-append}
use Rattle.std.proofs.lemmas.Grind.{flat_map-append}
use Rattle.std.proofs.lemmas.Option.{slice_get_past, slice_get-get_or, slice_get_within}
use Rattle.std.specs.List.{Any, filter_map, flat_map, cons_option}
use Rattle.image.specs.declared.ranges.TextRange.{TextRange}
use Rattle.image.specs.declared.ranges.Part.{Part}
use Rattle.image.specs.Texts.{text_end, text_words, words_from, targets, aim_of}
use Rattle.image.specs.Jumps.{direct_target}
use Rattle.near_region.specs.Pages.{Touches, IsBetween, AreIn, IsAimed, Takes, TakesRun, TakesRange, TakesAims, TakesTexts, TakesParts}

neither : (P Q : Type 0) → (P → ⊥) → (Q → ⊥) → P ⊎ Q → ⊥
neither P Q p q (inl x) = p x
neither P Q p q (inr x) = q x

pub none_taken : (P : ℕ → Type 0) (b : List Bool) → ((page : ℕ) → P page → ⊥) → Takes P b b
none_taken P b none = record { size = refl; each = λ page. ((λ free. (free, none page)), (λ s. s.0)) }

pub both_taken : (P Q R : ℕ → Type 0) (b m a : List Bool) → Takes P b m → Takes Q m a → ((page : ℕ) → R page ↔ (P page ⊎ Q page)) → Takes R b a
both_taken P Q R b m a one two or = record {
  size = two.size ∙ one.size;
  each = λ page. let o = one.each page in let t = two.each page in let r = or page in (
    (λ free. let s = t.0 free in let u = o.0 s.0 in (u.0, λ it. neither (P page) (Q page) u.1 s.1 (r.0 it))),
    (λ s. t.1 (o.1 (s.0, λ p. s.1 (r.1 (inl p))), λ q. s.1 (r.1 (inr q)))),
  );
}

-- pages past the end of the list don't count
pub taken_alike : (P Q : ℕ → Type 0) (b a : List Bool) → Takes P b a → ((page : ℕ) → page < length b → P page ↔ Q page) → Takes Q b a
taken_alike P Q b a takes alike = record {
  size = takes.size;
  each = λ page. let t = takes.each page in (
    (λ free. let s = t.0 free in (s.0, λ q. s.1 ((alike page (slice_get_within b page false s.0)).1 q))),
    (λ s. t.1 (s.0, λ p. s.1 ((alike page (slice_get_within b page false s.0)).0 p))),
  );
}

-- ---- a run of pages
is_free : Option Bool → Bool
is_free (Some false) = true
is_free _ = false

pub not_both : (o : Option Bool) → o ≡ Some true → o ≡ Some false → ⊥
unfolding is_free
not_both o t f = (let e : false ≡ true = sym (ap is_free t) ∙ ap is_free f in cc)

set_same : (n : List Bool) (p : ℕ) → p < length n → slice_get (set n p true) p ≡ Some true
set_same n p lt =
    let e = length-set n p true in
    slice_get-get_or (set n p true) p true (omega (arith, e, lt)) ∙ ap Some (get_or-set_same n p true true lt)

set_other : (n : List Bool) (p page : ℕ) → (page ≡ p → ⊥) → slice_get (set n p true) page ≡ slice_get n page
set_other n p page other = let e = length-set n p true in elim (cases_lt page (length n)) [
  | inl lt ↦ slice_get-get_or (set n p true) page true (omega (arith, e, lt)) ∙ ap Some (get_or-set_other n p page true true other) ∙ sym (slice_get-get_or n page true lt)
  | inr past ↦ slice_get_past (set n p true) page (omega (arith, e, past)) ∙ sym (slice_get_past n page past)
]

set_taken : (n : List Bool) (p : ℕ) → p < length n → Takes (λ page. page ≡ p) n (set n p true)
set_taken n p lt = record {
  size = length-set n p true;
  each = λ page. (
    (λ free. let other : page ≡ p → ⊥ = (λ e. not_both (slice_get (set n p true) page) (ap (λ k. slice_get (set n p true) k) e ∙ set_same n p lt) free) in
        (sym (set_other n p page other) ∙ free, other)),
    (λ s. set_other n p page s.1 ∙ s.0),
  );
}

pub run_none : (first : ℕ) (b : List Bool) → TakesRun first first b b
run_none first b = none_taken (IsBetween first first) b (λ page s. let l = s.0 in let h = s.1 in omega (arith, l, h))

one_more : (first p page : ℕ) → first ≤ p → IsBetween first (p + 1) page ↔ (IsBetween first p page ⊎ (page ≡ p))
one_more first p page from = (to, back)
  where
    to : IsBetween first (p + 1) page → IsBetween first p page ⊎ (page ≡ p)
    to s = let l = s.0 in let h = s.1 in elim (cases_lt page p) [
      | inl lt ↦ inl (l, lt)
      | inr at ↦ inr (omega (arith, h, at))
    ]

    back : IsBetween first p page ⊎ (page ≡ p) → IsBetween first (p + 1) page
    back (inl s) = let h = s.1 in (s.0, omega (arith, h))
    back (inr e) = (omega (arith, e, from), omega (arith, e))

pub run_more : (first p : ℕ) (b n : List Bool) → first ≤ p → p < length n → TakesRun first p b n → TakesRun first (p + 1) b (set n p true)
run_more first p b n from lt takes = both_taken (IsBetween first p) (λ page. page ≡ p) (IsBetween first (p + 1)) b n (set n p true) takes (set_taken n p lt) (λ page. one_more first p page from)

pub run_done : (first last p : ℕ) (b n : List Bool) → min last (length b) ≤ p → (p ≤ min last (length b)) ⊎ (p ≤ first) → TakesRun first p b n → TakesRun first last b n
run_done first last p b n past until takes = taken_alike (IsBetween first p) (IsBetween first last) b n takes alike
  where
    to : (page : ℕ) → page < length b → (p ≤ min last (length b)) ⊎ (p ≤ first) → IsBetween first p page → IsBetween first last page
    to page lt (inl u) s = let h = s.1 in (s.0, omega (arith, lt, u, h))
    to page lt (inr u) s = let l = s.0 in let h = s.1 in (s.0, omega (arith, l, h, u))

    alike : (page : ℕ) → page < length b → IsBetween first p page ↔ IsBetween first last page
    alike page lt = (to page lt until, (λ s. let h = s.1 in (s.0, omega (arith, lt, past, h))))

pub range_run : (from to : ℕ) (b n : List Bool) → TakesRun (from / 4096) (div_ceil to 4096) b n → TakesRange from to b n
range_run from to b n takes = taken_alike (IsBetween (from / 4096) (div_ceil to 4096)) (Touches from to) b n takes (λ page lt. (
  (λ s. let l = s.0 in let h = s.1 in (omega (arith, l), omega (arith, h))),
  (λ s. let l = s.0 in let h = s.1 in (omega (arith, l), omega (arith, h))),
))

-- ---- some element
pub any_nil : {X : Type 0} (P : X → Type 0) → Any P [] → ⊥
any_nil P s = let lt = s.2 in omega (arith, lt)

pub any_at : {X : Type 0} (P : X → Type 0) (xs : List X) (k : ℕ) (d : X) → k < length xs → P (get_or xs k d) → Any P xs
any_at P xs k d lt holds = (k, get_or xs k d, lt, get_or_default xs k (get_or xs k d) d lt, holds)

any_cons : {X : Type 0} (P : X → Type 0) (x : X) (xs : List X) → Any P (x ∷ xs) ↔ (P x ⊎ Any P xs)
any_cons {X} P x xs = (to, back)
  where
    to : Any P (x ∷ xs) → P x ⊎ Any P xs
    to (zero, y, lt, e, holds) = inl (subst P (sym e) holds)
    to (suc k, y, lt, e, holds) = inr (k, y, omega (arith, lt), e, holds)

    back : P x ⊎ Any P xs → Any P (x ∷ xs)
    back (inl holds) = (0, x, omega arith, refl, holds)
    back (inr (k, y, lt, e, holds)) = (suc k, y, omega (arith, lt), e, holds)

-- one element more on both sides
more_any : {X : Type 0} (P : X → Type 0) (x : X) (xs ys zs : List X) → Any P zs ↔ (Any P xs ⊎ Any P ys) → Any P (x ∷ zs) ↔ (Any P (x ∷ xs) ⊎ Any P ys)
more_any {X} P x xs ys zs rest = (to, back)
  where
    later : Any P xs ⊎ Any P ys → Any P (x ∷ xs) ⊎ Any P ys
    later (inl s) = inl ((any_cons P x xs).1 (inr s))
    later (inr s) = inr s

    split : P x ⊎ Any P zs → Any P (x ∷ xs) ⊎ Any P ys
    split (inl holds) = inl ((any_cons P x xs).1 (inl holds))
    split (inr s) = later (rest.0 s)

    to : Any P (x ∷ zs) → Any P (x ∷ xs) ⊎ Any P ys
    to s = split ((any_cons P x zs).0 s)

    join : P x ⊎ Any P xs → Any P (x ∷ zs)
    join (inl holds) = (any_cons P x zs).1 (inl holds)
    join (inr s) = (any_cons P x zs).1 (inr (rest.1 (inl s)))

    back : Any P (x ∷ xs) ⊎ Any P ys → Any P (x ∷ zs)
    back (inl s) = join ((any_cons P x xs).0 s)
    back (inr s) = (any_cons P x zs).1 (inr (rest.1 (inr s)))

any_append : {X : Type 0} (P : X → Type 0) (xs ys : List X) → Any P (xs ++ ys) ↔ (Any P xs ⊎ Any P ys)
any_append P [] ys = ((λ s. inr s), back)
  where
    back : Any P [] ⊎ Any P ys → Any P ys
    back (inl s) = absurd (any_nil P s)
    back (inr s) = s
any_append P (x ∷ xs) ys = more_any P x xs ys (xs ++ ys) (any_append P xs ys)

-- ---- targets
pub aim_taken : (w a : ℕ) (b n : List Bool) (to : ℕ) → direct_target w a ≡ Some to → TakesRun (to / 4096) (to / 4096 + 1) b n → TakesAims ((a, w) ∷ []) b n
aim_taken w a b n to e takes = subst (λ o. Takes (AreIn (cons_option o [])) b n) (sym e)
    (taken_alike (IsBetween (to / 4096) (to / 4096 + 1)) (AreIn (to ∷ [])) b n takes (λ page lt. (inside page, between page)))
  where
    inside : (page : ℕ) → IsBetween (to / 4096) (to / 4096 + 1) page → AreIn (to ∷ []) page
    inside page s = let l = s.0 in let h = s.1 in (any_cons (λ a. a / 4096 ≡ page) to []).1 (inl (omega (arith, l, h)))

    of : (page : ℕ) → (to / 4096 ≡ page) ⊎ AreIn [] page → IsBetween (to / 4096) (to / 4096 + 1) page
    of page (inl e) = (omega (arith, e), omega (arith, e))
    of page (inr s) = absurd (any_nil (λ a. a / 4096 ≡ page) s)

    between : (page : ℕ) → AreIn (to ∷ []) page → IsBetween (to / 4096) (to / 4096 + 1) page
    between page s = of page ((any_cons (λ a. a / 4096 ≡ page) to []).0 s)

pub no_aim : (w a : ℕ) (b : List Bool) → direct_target w a ≡ None → TakesAims ((a, w) ∷ []) b b
no_aim w a b e = subst (λ o. Takes (AreIn (cons_option o [])) b b) (sym e) (none_taken (AreIn []) b (λ page s. any_nil (λ a. a / 4096 ≡ page) s))

pub no_words : (b : List Bool) → TakesAims [] b b
no_words b = none_taken (AreIn []) b (λ page s. any_nil (λ a. a / 4096 ≡ page) s)

more_aims : (xs ys : List ℕ) (b m a : List Bool) → Takes (AreIn xs) b m → Takes (AreIn ys) m a → Takes (AreIn (xs ++ ys)) b a
more_aims xs ys b m a one two = both_taken (AreIn xs) (AreIn ys) (AreIn (xs ++ ys)) b m a one two (λ page. any_append (λ a. a / 4096 ≡ page) xs ys)

words_append : (a : ℕ) (ws vs : List ℕ) → words_from a (ws ++ vs) ≡ words_from a ws ++ words_from (a + 4 * length ws) vs
words_append a [] vs = (let e : a ≡ a + 4 * length {A = ℕ} [] = omega arith in ap (λ k. words_from k vs) e)
words_append a (w ∷ ws) vs =
    let e : a + 4 + 4 * length ws ≡ a + 4 * length (w ∷ ws) = omega arith in
    ap (λ l. (a, w) ∷ l) (words_append (a + 4) ws vs ∙ ap (λ k. words_from (a + 4) ws ++ words_from k vs) e)

one_word : (a i : ℕ) (ws : List ℕ) (d : ℕ) → i < length ws → words_from a (take (i + 1) ws) ≡ words_from a (take i ws) ++ ((a + 4 * i, get_or ws i d) ∷ [])
one_word a i ws d lt =
    ap (words_from a) (take_more ws i d lt) ∙ words_append a (take i ws) (get_or ws i d ∷ []) ∙ ap (λ k. words_from a (take i ws) ++ ((a + 4 * k, get_or ws i d) ∷ [])) (length-take-le i ws (omega (arith, lt)))

pub word_more : (a i : ℕ) (ws : List ℕ) (d : ℕ) (b m n : List Bool) → i < length ws → TakesAims (words_from a (take i ws)) b m → TakesAims ((a + 4 * i, get_or ws i d) ∷ []) m n → TakesAims (words_from a (take (i + 1) ws)) b n
word_more a i ws d b m n lt one two =
    subst (λ (l : List (ℕ × ℕ)). TakesAims l b n) (sym (one_word a i ws d lt))
    (subst (λ (l : List ℕ). Takes (AreIn l) b n) (sym (filter_map-append aim_of (words_from a (take i ws)) ((a + 4 * i, get_or ws i d) ∷ [])))
    (more_aims (filter_map aim_of (words_from a (take i ws))) (filter_map aim_of ((a + 4 * i, get_or ws i d) ∷ [])) b m n one two))

-- ---- text ranges
targets_append : (xs ys : List TextRange) → targets (xs ++ ys) ≡ targets xs ++ targets ys
unfolding targets
targets_append xs ys = ap (filter_map aim_of) (flat_map-append text_words xs ys) ∙ filter_map-append aim_of (flat_map text_words xs) (flat_map text_words ys)

targets_one : (t : TextRange) → targets (t ∷ []) ≡ filter_map aim_of (text_words t)
unfolding targets
targets_one t = ap (filter_map aim_of) (append-nil (text_words t))

no_targets : targets [] ≡ []
unfolding targets
no_targets = refl

abbrev TouchesText : ℕ → TextRange → Type 0
TouchesText page t = Touches t.from (text_end t + 4) page

-- what `take_texts` takes
abbrev IsOfTexts : List TextRange → ℕ → Type 0
IsOfTexts texts page = Any (TouchesText page) texts ⊎ IsAimed texts page

pub text_taken : (t : TextRange) (b m a : List Bool) → TakesRange t.from (text_end t + 4) b m → TakesAims (text_words t) m a → TakesTexts (t ∷ []) b a
text_taken t b m a one two = both_taken (Touches t.from (text_end t + 4)) (AreIn (filter_map aim_of (text_words t))) (IsOfTexts (t ∷ [])) b m a one two (λ page. (to page, back page))
  where
    single : (page : ℕ) → TouchesText page t ⊎ Any (TouchesText page) [] → TouchesText page t
    single page (inl s) = s
    single page (inr s) = absurd (any_nil (TouchesText page) s)

    to : (page : ℕ) → IsOfTexts (t ∷ []) page → Touches t.from (text_end t + 4) page ⊎ AreIn (filter_map aim_of (text_words t)) page
    to page (inl s) = inl (single page ((any_cons (TouchesText page) t []).0 s))
    to page (inr s) = inr (subst (λ (l : List ℕ). AreIn l page) (targets_one t) s)

    back : (page : ℕ) → Touches t.from (text_end t + 4) page ⊎ AreIn (filter_map aim_of (text_words t)) page → IsOfTexts (t ∷ []) page
    back page (inl s) = inl ((any_cons (TouchesText page) t []).1 (inl s))
    back page (inr s) = inr (subst (λ (l : List ℕ). AreIn l page) (sym (targets_one t)) s)

pub no_texts : (b : List Bool) → TakesTexts [] b b
no_texts b = none_taken (IsOfTexts []) b none
  where
    none : (page : ℕ) → IsOfTexts [] page → ⊥
    none page (inl s) = any_nil (TouchesText page) s
    none page (inr s) = any_nil (λ a. a / 4096 ≡ page) (subst (λ (l : List ℕ). AreIn l page) no_targets s)

texts_append : (xs ys : List TextRange) (b m a : List Bool) → TakesTexts xs b m → TakesTexts ys m a → TakesTexts (xs ++ ys) b a
texts_append xs ys b m a one two = both_taken (IsOfTexts xs) (IsOfTexts ys) (IsOfTexts (xs ++ ys)) b m a one two (λ page. (to page, back page))
  where
    touched : (page : ℕ) → Any (TouchesText page) xs ⊎ Any (TouchesText page) ys → IsOfTexts xs page ⊎ IsOfTexts ys page
    touched page (inl s) = inl (inl s)
    touched page (inr s) = inr (inl s)

    aimed : (page : ℕ) → IsAimed xs page ⊎ IsAimed ys page → IsOfTexts xs page ⊎ IsOfTexts ys page
    aimed page (inl s) = inl (inr s)
    aimed page (inr s) = inr (inr s)

    to : (page : ℕ) → IsOfTexts (xs ++ ys) page → IsOfTexts xs page ⊎ IsOfTexts ys page
    to page (inl s) = touched page ((any_append (TouchesText page) xs ys).0 s)
    to page (inr s) = aimed page ((any_append (λ a. a / 4096 ≡ page) (targets xs) (targets ys)).0 (subst (λ (l : List ℕ). AreIn l page) (targets_append xs ys) s))

    join : (page : ℕ) → IsAimed xs page ⊎ IsAimed ys page → IsOfTexts (xs ++ ys) page
    join page s = inr (subst (λ (l : List ℕ). AreIn l page) (sym (targets_append xs ys)) ((any_append (λ a. a / 4096 ≡ page) (targets xs) (targets ys)).1 s))

    back : (page : ℕ) → IsOfTexts xs page ⊎ IsOfTexts ys page → IsOfTexts (xs ++ ys) page
    back page (inl (inl s)) = inl ((any_append (TouchesText page) xs ys).1 (inl s))
    back page (inr (inl s)) = inl ((any_append (TouchesText page) xs ys).1 (inr s))
    back page (inl (inr s)) = join page (inl s)
    back page (inr (inr s)) = join page (inr s)

pub text_more : (ts : List TextRange) (i : ℕ) (d : TextRange) (b m a : List Bool) → i < length ts → TakesTexts (take i ts) b m → TakesTexts (get_or ts i d ∷ []) m a → TakesTexts (take (i + 1) ts) b a
text_more ts i d b m a lt one two = subst (λ (l : List TextRange). TakesTexts l b a) (sym (take_more ts i d lt)) (texts_append (take i ts) (get_or ts i d ∷ []) b m a one two)

-- ---- parts
abbrev TouchesPart : ℕ → Part → Type 0
TouchesPart page s = Touches s.range.from s.range.to page

pub no_parts : (b : List Bool) → TakesParts [] b b
no_parts b = none_taken (λ page. Any (TouchesPart page) []) b (λ page s. any_nil (TouchesPart page) s)

pub part_more : (ps : List Part) (i : ℕ) (d : Part) (b m a : List Bool) → i < length ps → TakesParts (take i ps) b m → TakesRange (get_or ps i d).range.from (get_or ps i d).range.to m a → TakesParts (take (i + 1) ps) b a
part_more ps i d b m a lt one two = subst (λ (l : List Part). TakesParts l b a) (sym (take_more ps i d lt))
    (both_taken (λ page. Any (TouchesPart page) (take i ps)) (λ page. TouchesPart page (get_or ps i d)) (λ page. Any (TouchesPart page) (take i ps ++ (get_or ps i d ∷ []))) b m a one two (λ page. (to page, back page)))
  where
    single : (page : ℕ) → TouchesPart page (get_or ps i d) ⊎ Any (TouchesPart page) [] → TouchesPart page (get_or ps i d)
    single page (inl s) = s
    single page (inr s) = absurd (any_nil (TouchesPart page) s)

    split : (page : ℕ) → Any (TouchesPart page) (take i ps) ⊎ Any (TouchesPart page) (get_or ps i d ∷ []) → Any (TouchesPart page) (take i ps) ⊎ TouchesPart page (get_or ps i d)
    split page (inl s) = inl s
    split page (inr s) = inr (single page ((any_cons (TouchesPart page) (get_or ps i d) []).0 s))

    to : (page : ℕ) → Any (TouchesPart page) (take i ps ++ (get_or ps i d ∷ [])) → Any (TouchesPart page) (take i ps) ⊎ TouchesPart page (get_or ps i d)
    to page s = split page ((any_append (TouchesPart page) (take i ps) (get_or ps i d ∷ [])).0 s)

    back : (page : ℕ) → Any (TouchesPart page) (take i ps) ⊎ TouchesPart page (get_or ps i d) → Any (TouchesPart page) (take i ps ++ (get_or ps i d ∷ []))
    back page (inl s) = (any_append (TouchesPart page) (take i ps) (get_or ps i d ∷ [])).1 (inl s)
    back page (inr s) = (any_append (TouchesPart page) (take i ps) (get_or ps i d ∷ [])).1 (inr ((any_cons (TouchesPart page) (get_or ps i d) []).1 (inl s)))
