-- The blocks of a function without a fault are sound.
use Rattle.std.proofs.Common.{◌≡◌, ℕ, zero, suc, ◌+◌, ◌-◌, ◌*◌, ◌/◌, ◌%◌, ◌<◌, ◌≤◌, ◌==◌, Bool, true, false, not, List, [], ◌∷◌, ◌++◌, map, length, get_or, append_assoc, refl, sym, ◌∙◌, subst, ap, inl, inr, arith}
use Rattle.std.specs.Prelude.{Option, Some, None, ◌⊎◌, ◌&&◌, nat_le, nat_lt, if◌then◌else◌, option_and_then, All, AllPairs, slice_get, position}
use Rattle.std.specs.List.{list_any, filter_map}
use Rattle.std.specs.Option.{option_map}
use Rattle.std.proofs.lemmas.Bool.{eq-eqb, eqb-true, and_from, and_parts, or_left, or_right, cases_eq, cases_lt, le-leb, lt-ltb, leb-true, ltb-true}
use Rattle.std.proofs.lemmas.List.Folds.{list_any-append}
use Rattle.std.proofs.lemmas.Option.{get_or_from_slice_get, slice_get_within}
use Rattle.std.proofs.lemmas.List.Elements.{All-cons, All-weaker}
use Rattle.std.proofs.lemmas.List.Kept.{AllPairs-cons}
use Rattle.finite.proofs.Finding.{any_none, nowhere_any}
use Rattle.finite.specs.First.{first_of, when}
use Rattle.rv_isa.specs.Decoded.{decoded}
use Rattle.rv_isa.specs.declared.instr.Instr.{Instr}
use Rattle.rv_isa.specs.declared.instr.Instr.TheVariants as instr
use Rattle.image.specs.declared.ranges.TextRange.{TextRange}
use Rattle.image.specs.declared.ranges.Func.{Func}
use Rattle.image.specs.Aims.{is_inside}
use Rattle.image.specs.Picture.{Picture, IsFunc, IsKept}
use Rattle.image.specs.Targets.{target}
use Rattle.image.specs.Texts.{word_at}
use Rattle.blocks.specs.declared.word.Word.{Word}
use Rattle.blocks.specs.declared.run.Run.{Run}
use Rattle.blocks.specs.declared.fault.Unreadable.{Unreadable}
use Rattle.blocks.specs.declared.fault.Unreadable.TheVariants as why
use Rattle.blocks.specs.Words.{word_of, word_read, addresses, places_of, words_of, falls_of}
use Rattle.blocks.specs.Faults.{overlaps, aim_fault, read_fault, word_fault, fault_in, fault_of}
use Rattle.blocks.specs.Blocks.{aims_at, marks, is_start, first_at, run_to, cut, runs_in, runs_of}
use Rattle.blocks.specs.Sound.{Begins, Aims, IsWord, IsRun, AreRuns, IsSound, IsAlone}

-- the word at a reads, and nothing is wrong with it
record IsClean (texts : List TextRange) (f : Func) (a : ℕ) (w : Word) : Type 0 where
  at : w.at ≡ a
  is : word_at texts a ≡ Some w.word
  reads : decoded w.word ≡ Some w.instr
  fault : aim_fault f a w.instr ≡ None

-- these are the words from a to b
abbrev AreClean : List TextRange → Func → ℕ → List Word → ℕ → Type 0
AreClean texts f a [] b = a ≡ b
AreClean texts f a (w ∷ ws) b = IsClean texts f a w × AreClean texts f (a + 4) ws b

clean_read : (texts : List TextRange) (f : Func) (a : ℕ) → word_fault texts f a ≡ None → (w : Word) × (word_read texts a ≡ Some w) × IsClean texts f a w
unfolding word_fault word_read
clean_read texts f a e = by_word (word_at texts a) refl e
  where
    by_instr : (v : ℕ) (i : Option Instr) → word_at texts a ≡ Some v → decoded v ≡ i → read_fault f a (option_map (word_of a v) i) ≡ None
        → (w : Word) × (option_map (word_of a v) i ≡ Some w) × IsClean texts f a w
    by_instr v None p q e = absurd cc
    by_instr v (Some i) p q e = (word_of a v i, refl, record { at = refl; is = p; reads = q; fault = e })

    by_word : (o : Option ℕ) → word_at texts a ≡ o → read_fault f a (option_and_then (λ w. option_map (word_of a w) (decoded w)) o) ≡ None
        → (w : Word) × (option_and_then (λ w. option_map (word_of a w) (decoded w)) o ≡ Some w) × IsClean texts f a w
    by_word None p e = absurd cc
    by_word (Some v) p e = by_instr v (decoded v) p refl e

-- where no word has a fault, all of them read
clean_words : (texts : List TextRange) (f : Func) (a n b : ℕ) → first_of (map (word_fault texts f) (addresses a n)) ≡ None → b ≡ a + 4 * n
    → AreClean texts f a (filter_map (word_read texts) (addresses a n)) b
clean_words texts f a zero b e p = omega (arith, p)
clean_words texts f a (suc n) b e p = by_fault (word_fault texts f a) refl e (λ h. clean_words texts f (a + 4) n b h (omega (arith, p)))
  where
    by_fault : (o : Option Unreadable) → word_fault texts f a ≡ o → first_of (o ∷ map (word_fault texts f) (addresses (a + 4) n)) ≡ None
        → (first_of (map (word_fault texts f) (addresses (a + 4) n)) ≡ None → AreClean texts f (a + 4) (filter_map (word_read texts) (addresses (a + 4) n)) b)
        → AreClean texts f a (filter_map (word_read texts) (addresses a (suc n))) b
    by_fault (Some x) q h k = absurd cc
    by_fault None q h k = let c = clean_read texts f a q in rw (c.1) (c.2, k h)

-- the address of one of the words
abbrev IsAt : List Word → ℕ → Type 0
IsAt [] y = ⊥
IsAt (w ∷ ws) y = (w.at ≡ y) ⊎ IsAt ws y

-- each whole address between the first and the end is that of a word
at_inside : (texts : List TextRange) (f : Func) (a : ℕ) (ws : List Word) (b y : ℕ) → AreClean texts f a ws b → a % 4 ≡ 0 → y % 4 ≡ 0 → a ≤ y → y < b → IsAt ws y
at_inside texts f a [] b y c p q l h = absurd (omega (arith, c, l, h))
at_inside texts f a (w ∷ ws) b y c p q l h =
    elim (cases_eq y a) [
      | inl e ↦ inl (c.0.at ∙ sym e)
      | inr n ↦ inr (at_inside texts f (a + 4) ws b y c.1 (omega (arith, p)) q (omega (arith, p, q, l, n)) h)
    ]

aligned : (n : ℕ) (e : Unreadable) → when (not (n % 4 == 0)) e ≡ None → n % 4 ≡ 0
aligned n e h = by_test (n % 4 == 0) (λ q. eqb-true (n % 4) 0 q) h
  where
    by_test : (b : Bool) → (b ≡ true → n % 4 ≡ 0) → when (not b) e ≡ None → n % 4 ≡ 0
    by_test true k h = k refl
    by_test false k h = absurd cc

inside_and_aligned : (f : Func) (n : ℕ) (d e : Unreadable) → (if not (is_inside n f) then Some d else when (not (n % 4 == 0)) e) ≡ None → (is_inside n f ≡ true) × (n % 4 ≡ 0)
inside_and_aligned f n d e h = by_test (is_inside n f) h
  where
    by_test : (b : Bool) → (if not b then Some d else when (not (n % 4 == 0)) e) ≡ None → (b ≡ true) × (n % 4 ≡ 0)
    by_test true h = (refl, aligned n e h)
    by_test false h = absurd cc

both : {b : Bool} → b ≡ true → b ≡ false → ⊥
both p q = absurd cc

inside_from : (n : ℕ) (f : Func) → f.from ≤ n → n < f.to → is_inside n f ≡ true
inside_from n f l h = and_from (nat_le f.from n) (nat_lt n f.to) (le-leb f.from n l) (lt-ltb n f.to h)

inside_low : (n : ℕ) (f : Func) → is_inside n f ≡ true → f.from ≤ n
inside_low n f h = leb-true f.from n (and_parts (nat_le f.from n) (nat_lt n f.to) h).0

inside_high : (n : ℕ) (f : Func) → is_inside n f ≡ true → n < f.to
inside_high n f h = ltb-true n f.to (and_parts (nat_le f.from n) (nat_lt n f.to) h).1

-- a word of the function that marks y makes a block start there
marked : (f : Func) (all pre ws : List Word) (w : Word) (y : ℕ) → all ≡ pre ++ w ∷ ws → marks f y w ≡ true → is_start f all y ≡ true
marked f all pre ws w y e m =
    or_right (f.from == y) (list_any (marks f y) all)
    (rw e (list_any-append (marks f y) pre (w ∷ ws) ∙ or_right (list_any (marks f y) pre) (list_any (marks f y) (w ∷ ws)) (or_left (marks f y w) (list_any (marks f y) ws) m)))

-- the first block begins with the words that are there
cut_first : (s : ℕ → Bool) (v : Word) (vs : List Word) (w : Word) (ws : List Word) → Begins (cut s (v ∷ vs) (w ∷ ws)) v.at
cut_first s v vs w [] = inl refl
cut_first s v vs w (x ∷ ws) = by_test (s (w.at + 4)) (cut_first s v (vs ++ w ∷ []) x ws)
  where
    by_test : (b : Bool) → Begins (cut s (v ∷ (vs ++ w ∷ [])) (x ∷ ws)) v.at → Begins (if b then run_to (v ∷ vs) w ∷ cut s [] (x ∷ ws) else cut s (v ∷ (vs ++ w ∷ [])) (x ∷ ws)) v.at
    by_test true h = inl refl
    by_test false h = h

-- a block begins at each start after the first word, and at the first word where no words are open
cut_begins : (s : ℕ → Bool) (texts : List TextRange) (f : Func) (vs : List Word) (a : ℕ) (ws : List Word) (b y : ℕ) → AreClean texts f a ws b → s y ≡ true → IsAt ws y
    → (vs ≡ []) ⊎ (y ≡ a → ⊥) → Begins (cut s vs ws) y
cut_begins s texts f vs a [] b y c m i n = absurd i
cut_begins s texts f vs a (w ∷ []) b y c m i n = by_open vs i n
  where
    by_open : (us : List Word) → IsAt (w ∷ []) y → (us ≡ []) ⊎ (y ≡ a → ⊥) → Begins (run_to us w ∷ []) y
    by_open [] (inl p) n = inl p
    by_open us (inr p) n = absurd p
    by_open (u ∷ us) (inl p) (inl q) = absurd cc
    by_open (u ∷ us) (inl p) (inr q) = absurd (q (sym p ∙ c.0.at))
cut_begins s texts f vs a (w ∷ x ∷ ws) b y c m i n =
    by_place i (λ j. cut_begins s texts f [] (a + 4) (x ∷ ws) b y c.1 m j (inl refl)) (λ j k. cut_begins s texts f (vs ++ w ∷ []) (a + 4) (x ∷ ws) b y c.1 m j (inr k))
  where
    at_end : s (w.at + 4) ≡ true → Begins (cut s [] (x ∷ ws)) y → Begins (cut s vs (w ∷ x ∷ ws)) y
    at_end e h = by_test (s (w.at + 4)) e
      where
        by_test : (t : Bool) → t ≡ true → Begins (if t then run_to vs w ∷ cut s [] (x ∷ ws) else cut s (vs ++ w ∷ []) (x ∷ ws)) y
        by_test true e = inr h
        by_test false e = absurd cc

    later : Begins (cut s [] (x ∷ ws)) y → Begins (cut s (vs ++ w ∷ []) (x ∷ ws)) y → Begins (cut s vs (w ∷ x ∷ ws)) y
    later h k = by_test (s (w.at + 4))
      where
        by_test : (t : Bool) → Begins (if t then run_to vs w ∷ cut s [] (x ∷ ws) else cut s (vs ++ w ∷ []) (x ∷ ws)) y
        by_test true = inr h
        by_test false = k

    first : (us : List Word) → (us ≡ []) ⊎ (y ≡ a → ⊥) → w.at ≡ y → Begins (cut s us (w ∷ x ∷ ws)) y
    first [] n p = by_test (s (w.at + 4))
      where
        by_test : (t : Bool) → Begins (if t then run_to [] w ∷ cut s [] (x ∷ ws) else cut s (w ∷ []) (x ∷ ws)) y
        by_test true = inl p
        by_test false = subst (λ (z : ℕ). Begins (cut s (w ∷ []) (x ∷ ws)) z) p (cut_first s w [] x ws)
    first (u ∷ us) (inl q) p = absurd cc
    first (u ∷ us) (inr q) p = absurd (q (sym p ∙ c.0.at))

    by_place : IsAt (w ∷ x ∷ ws) y → (IsAt (x ∷ ws) y → Begins (cut s [] (x ∷ ws)) y) → (IsAt (x ∷ ws) y → (y ≡ a + 4 → ⊥) → Begins (cut s (vs ++ w ∷ []) (x ∷ ws)) y)
        → Begins (cut s vs (w ∷ x ∷ ws)) y
    by_place (inl p) h k = first vs n p
    by_place (inr j) h k =
        elim (cases_eq y (a + 4)) [
          | inl q ↦ at_end (subst (λ (z : ℕ). s z ≡ true) (q ∙ ap (λ (z : ℕ). z + 4) (sym c.0.at)) m) (h j)
          | inr q ↦ later (h j) (k j q)
        ]

-- a block begins at a start alone: from is where the open words begin
cut_only : (s : ℕ → Bool) (texts : List TextRange) (f : Func) (vs : List Word) (a : ℕ) (ws : List Word) (b y from : ℕ) → AreClean texts f a ws b → s from ≡ true
    → ((w : Word) → w.at ≡ a → first_at vs w ≡ from) → Begins (cut s vs ws) y → s y ≡ true
cut_only s texts f vs a [] b y from c m o h = absurd h
cut_only s texts f vs a (w ∷ []) b y from c m o (inl p) = subst (λ (z : ℕ). s z ≡ true) (sym (o w c.0.at) ∙ p) m
cut_only s texts f vs a (w ∷ []) b y from c m o (inr p) = absurd p
cut_only s texts f vs a (w ∷ x ∷ ws) b y from c m o h =
    by_test (s (w.at + 4)) refl
    (λ e. cut_only s texts f [] (a + 4) (x ∷ ws) b y (w.at + 4) c.1 e (λ u p. p ∙ ap (λ (z : ℕ). z + 4) (sym c.0.at)))
    (cut_only s texts f (vs ++ w ∷ []) (a + 4) (x ∷ ws) b y from c.1 m (λ u p. opened u vs (o w c.0.at)))
    h
  where
    opened : (u : Word) (us : List Word) → first_at us w ≡ from → first_at (us ++ w ∷ []) u ≡ from
    opened u [] e = e
    opened u (v ∷ us) e = e

    by_test : (t : Bool) → s (w.at + 4) ≡ t → (s (w.at + 4) ≡ true → Begins (cut s [] (x ∷ ws)) y → s y ≡ true) → (Begins (cut s (vs ++ w ∷ []) (x ∷ ws)) y → s y ≡ true)
        → Begins (if t then run_to vs w ∷ cut s [] (x ∷ ws) else cut s (vs ++ w ∷ []) (x ∷ ws)) y → s y ≡ true
    by_test true e k j (inl p) = subst (λ (z : ℕ). s z ≡ true) (sym (o w c.0.at) ∙ p) m
    by_test true e k j (inr p) = k e p
    by_test false e k j p = j p

-- f and its words, of which the word before ws is w; runs are its blocks
module _ (texts : List TextRange) (f : Func) (all : List Word) (whole : f.from % 4 ≡ 0) (filled : f.from < f.to) (clean : AreClean texts f f.from all f.to) where
  abbrev runs : List Run
  runs = cut (is_start f all) [] all

  begins : (y : ℕ) → is_start f all y ≡ true → is_inside y f ≡ true → y % 4 ≡ 0 → Begins runs y
  begins y s i q =
      cut_begins (is_start f all) texts f [] f.from all f.to y clean s (at_inside texts f f.from all f.to y clean whole q (inside_low y f i) (inside_high y f i)) (inl refl)

  starts_at_begin : is_start f all f.from ≡ true
  starts_at_begin = or_left (f.from == f.from) (list_any (marks f f.from) all) (eq-eqb f.from f.from refl)

  entry : Begins runs f.from
  entry = begins f.from starts_at_begin (inside_from f.from f (omega arith) filled) whole

  begins_only : (y : ℕ) → Begins runs y → is_start f all y ≡ true
  begins_only y h = cut_only (is_start f all) texts f [] f.from all f.to y f.from clean starts_at_begin (λ w p. p) h

  aims_of : (pre ws : List Word) (w : Word) (a : ℕ) → all ≡ pre ++ w ∷ ws → IsClean texts f a w → a % 4 ≡ 0 → Aims texts f runs a w.instr
  aims_of pre ws w a e k p = by_instr w.instr refl k.fault
    where
      by_instr : (i : Instr) → w.instr ≡ i → aim_fault f a i ≡ None → Aims texts f runs a i
      by_instr (instr.Branch o rs1 rs2 off) q t =
          let u = inside_and_aligned f (target a off) (why.BranchOut a) (why.Misaimed a) t in
          let ends : marks f (a + 4) w ≡ true = rw (q, k.at) (or_left (a + 4 == a + 4) ((target a off == (a + 4)) && is_inside (a + 4) f) (eq-eqb (a + 4) (a + 4) refl)) in
          let aims : marks f (target a off) w ≡ true =
          or_right (not (falls_of w.instr) && (w.at + 4 == target a off)) (aims_at f w.at w.instr (target a off))
          (rw (q, k.at) (and_from (target a off == target a off) (is_inside (target a off) f) (eq-eqb (target a off) (target a off) refl) u.0)) in (
            u.0,
            u.1,
            begins (target a off) (marked f all pre ws w (target a off) e aims) u.0 u.1,
            λ i. begins (a + 4) (marked f all pre ws w (a + 4) e ends) i (omega (arith, p)),
          )
      by_instr (instr.Jal rd off) q t =
          let m : target a off % 4 ≡ 0 = aligned (target a off) (why.Misaimed a) t in (
            m,
            λ i. begins (target a off) (marked f all pre ws w (target a off) e
                (or_right (not (falls_of w.instr) && (w.at + 4 == target a off)) (aims_at f w.at w.instr (target a off))
                (rw (q, k.at) (and_from (target a off == target a off) (is_inside (target a off) f) (eq-eqb (target a off) (target a off) refl) i)))) i m,
          )
      by_instr i q t = tt

  word_is : (pre ws : List Word) (w : Word) (a : ℕ) → all ≡ pre ++ w ∷ ws → IsClean texts f a w → a % 4 ≡ 0 → f.from ≤ a → a < f.to → IsWord texts f runs a w
  word_is pre ws w a e k p l h = record { at = k.at; whole = p; inside = inside_from a f l h; is = k.is; reads = k.reads; aims = aims_of pre ws w a e k p }

  -- the words from a on that are in the block so far
  abbrev IsOpen : ℕ → List Word → ℕ → Type 0
  IsOpen from [] a = from ≡ a
  IsOpen from (v ∷ []) a = IsWord texts f runs from v × (falls_of v.instr ≡ true) × (Begins runs (from + 4) → ⊥) × (from + 4 ≡ a)
  IsOpen from (v ∷ u ∷ vs) a = IsWord texts f runs from v × (falls_of v.instr ≡ true) × (Begins runs (from + 4) → ⊥) × IsOpen (from + 4) (u ∷ vs) a

  open_push : (from : ℕ) (vs : List Word) (a : ℕ) (w : Word) → IsOpen from vs a → IsWord texts f runs a w → falls_of w.instr ≡ true → (Begins runs (a + 4) → ⊥)
      → IsOpen from (vs ++ w ∷ []) (a + 4)
  open_push from [] a w o k h n = rw o (k, h, n, refl)
  open_push from (v ∷ []) a w o k h n = rw (o.3) (o.0, o.1, subst (λ (z : ℕ). Begins runs z → ⊥) o.3 o.2, (k, h, n, refl))
  open_push from (v ∷ u ∷ vs) a w o k h n = (o.0, o.1, o.2, open_push (from + 4) (u ∷ vs) a w o.3 k h n)

  run_close : (from : ℕ) (vs : List Word) (a : ℕ) (w : Word) → IsOpen from vs a → IsWord texts f runs a w → IsRun texts f runs from (vs ++ w ∷ []) (w.at + 4) (falls_of w.instr)
  run_close from [] a w o k = rw o (k, ap (λ (n : ℕ). n + 4) (sym k.at), refl)
  run_close from (v ∷ []) a w o k = (o.0, o.1, o.2, (subst (λ (z : ℕ). IsWord texts f runs z w) (sym o.3) k, ap (λ (n : ℕ). n + 4) (o.3 ∙ sym k.at), refl))
  run_close from (v ∷ u ∷ us) a w o k = (o.0, o.1, o.2, run_close (from + 4) (u ∷ us) a w o.3 k)

  first_is : (from : ℕ) (vs : List Word) (a : ℕ) (w : Word) → IsOpen from vs a → w.at ≡ a → first_at vs w ≡ from
  first_is from [] a w o k = k ∙ sym o
  first_is from (v ∷ []) a w o k = o.0.at
  first_is from (v ∷ u ∷ vs) a w o k = o.0.at

  -- a word after which no block starts may be followed by the next
  falls_on : (pre ws : List Word) (w : Word) → all ≡ pre ++ w ∷ ws → is_start f all (w.at + 4) ≡ false → falls_of w.instr ≡ true
  falls_on pre ws w e s = by_test (falls_of w.instr) refl
    where
      by_test : (b : Bool) → falls_of w.instr ≡ b → b ≡ true
      by_test true q = refl
      by_test false q =
          let m : marks f (w.at + 4) w ≡ true =
          or_left (not (falls_of w.instr) && (w.at + 4 == w.at + 4)) (aims_at f w.at w.instr (w.at + 4)) (rw q (eq-eqb (w.at + 4) (w.at + 4) refl)) in
          absurd (both (marked f all pre ws w (w.at + 4) e m) s)

  -- a block that ends here
  closed : (pre ws : List Word) (from : ℕ) (vs : List Word) (a : ℕ) (w : Word) → all ≡ pre ++ w ∷ ws → IsOpen from vs a → IsWord texts f runs a w
      → IsRun texts f runs (run_to vs w).from (run_to vs w).words (run_to vs w).to (run_to vs w).falls
  closed pre ws from vs a w e o k =
      subst (λ (n : ℕ). IsRun texts f runs n (vs ++ w ∷ []) (w.at + 4) (falls_of w.instr)) (sym (first_is from vs a w o k.at)) (run_close from vs a w o k)

  clean_end : (a : ℕ) (ws : List Word) (b : ℕ) → AreClean texts f a ws b → a ≤ b
  clean_end a [] b c = omega (arith, c)
  clean_end a (w ∷ ws) b c = omega (arith, clean_end (a + 4) ws b c.1)

  -- the blocks that are cut from w on
  cut_runs : (pre : List Word) (from : ℕ) (vs : List Word) (a : ℕ) (w : Word) (ws : List Word) → all ≡ pre ++ w ∷ ws → AreClean texts f a (w ∷ ws) f.to → IsOpen from vs a
      → a % 4 ≡ 0 → f.from ≤ a → AreRuns texts f runs from (cut (is_start f all) vs (w ∷ ws)) f.to
  cut_runs pre from vs a w [] e c o p l =
      let k = word_is pre [] w a e c.0 p l (omega (arith, c.1)) in
      let last : w.at + 4 ≡ f.to = ap (λ (n : ℕ). n + 4) c.0.at ∙ c.1 in
      (first_is from vs a w o c.0.at, closed pre [] from vs a w e o k, λ i. absurd (omega (arith, last, inside_high (w.at + 4) f i)), last)
  cut_runs pre from vs a w (x ∷ ws) e c o p l =
      let h : a < f.to = omega (arith, clean_end (a + 4) (x ∷ ws) f.to c.1) in
      let k = word_is pre (x ∷ ws) w a e c.0 p l h in
      let next : all ≡ (pre ++ w ∷ []) ++ x ∷ ws = e ∙ sym (append_assoc pre (w ∷ []) (x ∷ ws)) in
      by_test (is_start f all (w.at + 4)) refl k
      (cut_runs (pre ++ w ∷ []) (a + 4) [] (a + 4) x ws next c.1 refl (omega (arith, p)) (omega (arith, l)))
      (λ s. cut_runs (pre ++ w ∷ []) from (vs ++ w ∷ []) (a + 4) x ws next c.1
      (open_push from vs a w o k (falls_on pre (x ∷ ws) w e s)
      (λ b. both (begins_only (a + 4) b) (subst (λ (n : ℕ). is_start f all (n + 4) ≡ false) c.0.at s)))
      (omega (arith, p)) (omega (arith, l)))
    where
      by_test : (b : Bool) → is_start f all (w.at + 4) ≡ b → IsWord texts f runs a w
          → AreRuns texts f runs (a + 4) (cut (is_start f all) [] (x ∷ ws)) f.to
          → (is_start f all (w.at + 4) ≡ false → AreRuns texts f runs from (cut (is_start f all) (vs ++ w ∷ []) (x ∷ ws)) f.to)
          → AreRuns texts f runs from (if b then run_to vs w ∷ cut (is_start f all) [] (x ∷ ws) else cut (is_start f all) (vs ++ w ∷ []) (x ∷ ws)) f.to
      by_test true s k h j = (
        first_is from vs a w o c.0.at,
        closed pre (x ∷ ws) from vs a w e o k,
        λ i. begins (w.at + 4) s i (rw (c.0.at) (omega (arith, p))),
        subst (λ (n : ℕ). AreRuns texts f runs (n + 4) (cut (is_start f all) [] (x ∷ ws)) f.to) (sym c.0.at) h,
      )
      by_test false s k h j = j s

  all_runs : AreRuns texts f runs f.from runs f.to
  all_runs = by_words all refl clean
    where
      by_words : (ws : List Word) → all ≡ ws → AreClean texts f f.from ws f.to → AreRuns texts f runs f.from (cut (is_start f all) [] ws) f.to
      by_words [] e c = c
      by_words (w ∷ ws) e c = cut_runs [] f.from [] f.from w ws e c refl whole (omega arith)

run_filled : (texts : List TextRange) (f : Func) (runs : List Run) (a : ℕ) (ws : List Word) (b : ℕ) (falls : Bool) → IsRun texts f runs a ws b falls → a < b
run_filled texts f runs a [] b falls i = absurd i
run_filled texts f runs a (w ∷ []) b falls i = omega (arith, i.1)
run_filled texts f runs a (w ∷ v ∷ ws) b falls i = omega (arith, run_filled texts f runs (a + 4) (v ∷ ws) b falls i.3)

runs_from : (texts : List TextRange) (f : Func) (all : List Run) (a low : ℕ) (rs : List Run) (b : ℕ) → AreRuns texts f all a rs b → low ≤ a → All (λ r. low ≤ r.from) rs
runs_from texts f all a low [] b h l = λ k d i. absurd (omega (arith, i))
runs_from texts f all a low (r ∷ rs) b h l =
    All-cons (λ (s : Run). low ≤ s.from) r rs (omega (arith, h.0, l)) (runs_from texts f all r.to low rs b h.3 (omega (arith, h.0, l, run_filled texts f all r.from r.words r.to r.falls h.1)))

runs_ascend : (texts : List TextRange) (f : Func) (all : List Run) (a : ℕ) (rs : List Run) (b : ℕ) → AreRuns texts f all a rs b → AllPairs (λ r s. r.from < s.from) rs
runs_ascend texts f all a [] b h = λ i j d l k. absurd (omega (arith, k))
runs_ascend texts f all a (r ∷ rs) b h =
    AllPairs-cons (λ (r s : Run). r.from < s.from) r rs
    (All-weaker (λ (s : Run). r.to ≤ s.from) (λ (s : Run). r.from < s.from)
    (λ s l. omega (arith, l, run_filled texts f all r.from r.words r.to r.falls h.1)) rs
    (runs_from texts f all r.to r.to rs b h.3 (omega arith)))
    (runs_ascend texts f all r.to rs b h.3)

-- the words of a function of an image without a fault
words_clean : (texts : List TextRange) (funcs : List Func) (f : Func) → IsFunc texts f → fault_in texts funcs f ≡ None → AreClean texts f f.from (words_of texts f) f.to
unfolding fault_in words_of
words_clean texts funcs f i e =
    clean_words texts f f.from ((f.to - f.from) / 4) f.to (by_overlap (position (overlaps f) funcs) e) (omega (arith, i.some, i.whole, i.even))
  where
    by_overlap : (o : Option ℕ) → first_of (option_map why.Overlap o ∷ map (word_fault texts f) (places_of f)) ≡ None → first_of (map (word_fault texts f) (places_of f)) ≡ None
    by_overlap None h = h
    by_overlap (Some g) h = absurd cc

-- a function without a fault has sound blocks
pub sound : (p : Picture) (n : ℕ) (f : Func) → IsKept p → slice_get p.funcs n ≡ Some f → fault_of p n ≡ None → IsSound p.texts f (runs_of p n)
unfolding fault_of runs_of runs_in
sound p n f k g e =
    let d : get_or p.funcs n f ≡ f = get_or_from_slice_get p.funcs n f f g in
    let l : n < length p.funcs = slice_get_within p.funcs n f g in
    let i : IsFunc p.texts f = subst (IsFunc p.texts) d (k.funcs_fit n f l) in
    let none : fault_in p.texts p.funcs f ≡ None = subst (λ (o : Option Func). option_and_then (fault_in p.texts p.funcs) o ≡ None) g e in
    let c = words_clean p.texts p.funcs f i none in
    let rs = all_runs p.texts f (words_of p.texts f) i.whole i.some c in
    rw g (record {
      words = rs;
      starts = λ y a q. (
        begins_only p.texts f (words_of p.texts f) i.whole i.some c y,
        λ s. begins p.texts f (words_of p.texts f) i.whole i.some c y s a q,
      );
      entry = entry p.texts f (words_of p.texts f) i.whole i.some c;
      ascend = runs_ascend p.texts f _ f.from _ f.to rs;
    })

apart_from : (f g : Func) → overlaps f g ≡ false → (g.from ≡ f.from → ⊥) → (g.to ≤ f.from) ⊎ (f.to ≤ g.from)
apart_from f g e n =
    elim (cases_lt g.from f.to) [
      | inr l ↦ inr l
      | inl l ↦ elim (cases_lt f.from g.to) [
        | inr h ↦ inl h
        | inl h ↦ absurd (both (and_from (not (g.from == f.from)) (nat_lt g.from f.to && nat_lt f.from g.to) (differ (g.from == f.from) (λ q. n (eqb-true g.from f.from q)))
            (and_from (nat_lt g.from f.to) (nat_lt f.from g.to) (lt-ltb g.from f.to l) (lt-ltb f.from g.to h))) e)
      ]
    ]
  where
    differ : (b : Bool) → (b ≡ true → ⊥) → not b ≡ true
    differ true h = absurd (h refl)
    differ false h = refl

-- and shares no address with another function
pub alone : (p : Picture) (n : ℕ) (f : Func) → IsKept p → slice_get p.funcs n ≡ Some f → fault_of p n ≡ None → IsAlone p.funcs n f
unfolding fault_of fault_in
alone p n f k g e m h l o =
    by_overlap (position (overlaps f) p.funcs) refl (subst (λ (x : Option Func). option_and_then (fault_in p.texts p.funcs) x ≡ None) g e)
  where
    m_in : m < length p.funcs
    m_in = slice_get_within p.funcs m h l

    n_in : n < length p.funcs
    n_in = slice_get_within p.funcs n f g

    m_is : (d : Func) → get_or p.funcs m d ≡ h
    m_is d = get_or_from_slice_get p.funcs m h d l

    n_is : (d : Func) → get_or p.funcs n d ≡ f
    n_is d = get_or_from_slice_get p.funcs n f d g

    other : h.from ≡ f.from → ⊥
    other q =
        elim (cases_lt m n) [
          | inl a ↦ omega (arith, q, subst (λ (x : Func). x.from < f.from) (m_is f) (subst (λ (x : Func). (get_or p.funcs m f).from < x.from) (n_is f) (k.funcs_rise m n f a n_in)))
          | inr a ↦ omega (arith, q, subst (λ (x : Func). f.from < x.from) (m_is f) (subst (λ (x : Func). x.from < (get_or p.funcs m f).from) (n_is f) (k.funcs_rise n m f (omega (arith, a, o)) m_in)))
        ]

    by_overlap : (x : Option ℕ) → position (overlaps f) p.funcs ≡ x → first_of (option_map why.Overlap x ∷ map (word_fault p.texts f) (places_of f)) ≡ None → (h.to ≤ f.from) ⊎ (f.to ≤ h.from)
    by_overlap (Some x) q r = absurd cc
    by_overlap None q r = apart_from f h (subst (λ (x : Func). overlaps f x ≡ false) (m_is f) (any_none (overlaps f) p.funcs m f (nowhere_any (overlaps f) p.funcs q) m_in)) other
