-- In a layout no address has two Starts.
use Rattle.std.proofs.Common.{◌≡◌, ◌≢◌, ℕ, zero, suc, ◌+◌, ◌<◌, ◌≤◌, ◌==◌, Bool, true, false, not, List, [], ◌∷◌, ◌++◌, map, length, refl, sym, ◌∙◌, subst, ap, inl, inr, arith}
use Rattle.std.specs.Prelude.{Option, Some, None, ◌⊎◌, ◌&&◌, ◌||◌, AllPairs, slice_get, unwrap_or, if◌then◌else◌}
use Rattle.std.specs.List.{flat_map, cons_option}
use Rattle.std.proofs.lemmas.Bool.{eq-eqb, false≢true}
use Rattle.std.proofs.lemmas.Option.{slice_get_within, get_or_from_slice_get}
use Rattle.rv_isa.specs.declared.instr.Cond.{Cond}
use Rattle.rv_isa.specs.declared.instr.Instr.{Instr}
use Rattle.rv_isa.specs.declared.instr.Instr.TheVariants as instr
use Rattle.image.specs.declared.ranges.TextRange.{TextRange}
use Rattle.image.specs.declared.ranges.Func.{Func}
use Rattle.image.specs.Targets.{target, made_by}
use Rattle.image.specs.Picture.{Picture, IsKept}
use Rattle.blocks.specs.declared.word.Word.{Word}
use Rattle.blocks.specs.declared.run.Run.{Run}
use Rattle.blocks.specs.Blocks.{runs_of}
use Rattle.blocks.specs.Sound.{AreRuns}
use Rattle.blocks.specs.Sound as found
use Rattle.blocks.proofs.Soundness.{sound, alone}
use Rattle.plans.specs.declared.plan.Moved.{Moved}
use Rattle.plans.specs.Orders.{is_among, repeats}
use Rattle.layout.specs.declared.point.Point.TheVariants.{Start}
use Rattle.emit.specs.declared.entry.Made.{Made}
use Rattle.emit.specs.declared.entry.Made.TheVariants.{Same, High, Low}
use Rattle.emit.specs.declared.entry.Entry.{Entry}
use Rattle.emit.specs.Entries.{Calls, start, mid, hop, is_next, branch_of, rendered, word_entries, fall, run_entries, first_from, runs_entries, in_order, is_far, function_entries, is_start, place}
use Rattle.emit.proofs.Branches.{branch_cases}
use Rattle.emit.proofs.Leading.{function_of, emitted}
use Rattle.emit.proofs.Places.{Occurs, occurs_left, occurs_right, is_start-true, is_start-own}
use Rattle.emit.proofs.Assembled.{IsReady, AreReady, no_func, moving}

abbrev pub Distinct : List Entry → Type 0
Distinct [] = Unit {0}
Distinct (e ∷ es) = ((x : ℕ) → e.point ≡ Start x → Occurs x es → ⊥) × Distinct es

-- ---- lists
occurs_cases : (x : ℕ) (xs ys : List Entry) → Occurs x (xs ++ ys) → Occurs x xs ⊎ Occurs x ys
occurs_cases x [] ys o = inr o
occurs_cases x (e ∷ xs) ys (inl p) = inl (inl p)
occurs_cases x (e ∷ xs) ys (inr o) = elim (occurs_cases x xs ys o) [ inl h ↦ inl (inr h) | inr h ↦ inr h ]

distinct_append : (xs ys : List Entry) → Distinct xs → Distinct ys → ((x : ℕ) → Occurs x xs → Occurs x ys → ⊥) → Distinct (xs ++ ys)
distinct_append [] ys d e apart = e
distinct_append (x ∷ xs) ys d e apart =
    (λ z q o. elim (occurs_cases z xs ys o) [ inl h ↦ d.0 z q h | inr h ↦ apart z (inl q) h ], distinct_append xs ys d.1 e (λ z o p. apart z (inr o) p))

pub distinct_left : (xs ys : List Entry) → Distinct (xs ++ ys) → Distinct xs
distinct_left [] ys d = tt
distinct_left (x ∷ xs) ys d = (λ z q o. d.0 z q (occurs_left z xs ys o), distinct_left xs ys d.1)

pub distinct_right : (xs ys : List Entry) → Distinct (xs ++ ys) → Distinct ys
distinct_right [] ys d = d
distinct_right (x ∷ xs) ys d = distinct_right xs ys d.1

pub distinct_apart : (xs ys : List Entry) (x : ℕ) → Distinct (xs ++ ys) → Occurs x xs → Occurs x ys → ⊥
distinct_apart [] ys x d o p = absurd o
distinct_apart (e ∷ xs) ys x d (inl q) p = d.0 x q (occurs_right x xs ys p)
distinct_apart (e ∷ xs) ys x d (inr o) p = distinct_apart xs ys x d.1 o p

pub occurs_at : (es : List Entry) (k x : ℕ) (e : Entry) → slice_get es k ≡ Some e → e.point ≡ Start x → Occurs x es
occurs_at [] k x e s p = absurd (cc)
occurs_at (d ∷ es) zero x e s p = let same : d ≡ e = cc in inl (ap (λ (y : Entry). y.point) same ∙ p)
occurs_at (d ∷ es) (suc k) x e s p = inr (occurs_at es k x e s p)

-- a Start stands in its place
pub place_own : (es : List Entry) (k x : ℕ) (e : Entry) → Distinct es → slice_get es k ≡ Some e → e.point ≡ Start x → place x es ≡ k
place_own [] k x e d s p = absurd (cc)
place_own (c ∷ es) zero x e d s p = let same : c ≡ e = cc in rw (is_start-own x c.point (ap (λ (y : Entry). y.point) same ∙ p)) refl
place_own (c ∷ es) (suc k) x e d s p = by_test (is_start x c.point) (λ q. d.0 x (is_start-true x c.point q) (occurs_at es k x e s p)) (place_own es k x e d.1 s p)
  where
    by_test : (b : Bool) → (b ≡ true → ⊥) → place x es ≡ k → (if b then 0 else (1 + place x es)) ≡ suc k
    by_test true h i = absurd (h refl)
    by_test false h i = rw i (omega arith)

pub place_left : (x : ℕ) (xs ys : List Entry) → Occurs x xs → place x (xs ++ ys) ≡ place x xs
place_left x [] ys o = absurd o
place_left x (e ∷ xs) ys (inl p) = rw (is_start-own x e.point p) refl
place_left x (e ∷ xs) ys (inr o) = by_test (is_start x e.point) (place_left x xs ys o)
  where
    by_test : (b : Bool) → place x (xs ++ ys) ≡ place x xs → (if b then 0 else (1 + place x (xs ++ ys))) ≡ (if b then 0 else (1 + place x xs))
    by_test true h = refl
    by_test false h = rw h refl

pub place_skip : (x : ℕ) (xs ys : List Entry) → (Occurs x xs → ⊥) → place x (xs ++ ys) ≡ length xs + place x ys
place_skip x [] ys n = omega arith
place_skip x (e ∷ xs) ys n = by_test (is_start x e.point) (λ q. n (inl (is_start-true x e.point q))) (place_skip x xs ys (λ o. n (inr o)))
  where
    by_test : (b : Bool) → (b ≡ true → ⊥) → place x (xs ++ ys) ≡ length xs + place x ys → (if b then 0 else (1 + place x (xs ++ ys))) ≡ suc (length xs) + place x ys
    by_test true h i = absurd (h refl)
    by_test false h i = rw i (omega arith)

-- ---- words
abbrev NoStarts : List Entry → Type 0
NoStarts es = (z : ℕ) → Occurs z es → ⊥

none_hop : (f : Func) (y : ℕ) (es : List Entry) → NoStarts es → NoStarts (hop f y ∷ es)
none_hop f y es n z (inl p) = absurd (cc)
none_hop f y es n z (inr o) = n z o

none_mid : (x : ℕ) (m : Made) (es : List Entry) → NoStarts es → NoStarts (mid x m ∷ es)
none_mid x m es n z (inl p) = absurd (cc)
none_mid x m es n z (inr o) = n z o

none_nil : NoStarts []
none_nil z o = o

distinct_none : (es : List Entry) → NoStarts es → Distinct es
distinct_none [] n = tt
distinct_none (e ∷ es) n = (λ x p o. n x (inl p), distinct_none es (λ z o. n z (inr o)))

-- one Start, of x, and what follows it
abbrev Single : ℕ → List Entry → Type 0
Single x es = (m : Made) × (rest : List Entry) × (es ≡ start x m ∷ rest) × NoStarts rest

single_branch : (f : Func) (next : Option ℕ) (far : ℕ → Bool) (x : ℕ) (o : Cond) (rs1 rs2 t y : ℕ) → Single x (branch_of f next far x o rs1 rs2 t y)
single_branch f next far x o rs1 rs2 t y =
    branch_cases (Single x) f next far x o rs1 rs2 t y (λ e. (_, _, refl, one t)) (λ e g. (_, _, refl, none_nil)) (λ e. (_, _, refl, one y)) (λ e g. (_, _, refl, none_nil)) (_, _, refl, two) (λ g. (_, _, refl, one y))
  where
    one : (z : ℕ) → NoStarts (hop f z ∷ [])
    one z = none_hop f z [] none_nil

    two : NoStarts (hop f t ∷ hop f y ∷ [])
    two = none_hop f t (hop f y ∷ []) (one y)

single_word : (c : Calls) (f : Func) (next : Option ℕ) (far : ℕ → Bool) (x w : ℕ) (i : Instr) → Single x (rendered c f next far x w i)
single_word c f next far x w (instr.Branch o rs1 rs2 off) = single_branch f next far x o rs1 rs2 (target x off) (x + 4)
single_word c f next far x w (instr.Auipc rd imm) = by_test (rd == 0)
  where
    by_test : (b : Bool) → Single x (if b then start x (Same w) ∷ [] else start x (High rd (made_by x imm)) ∷ mid x (Low rd (made_by x imm)) ∷ [])
    by_test true = (_, _, refl, none_nil)
    by_test false = (_, _, refl, none_mid x (Low rd (made_by x imm)) [] none_nil)
single_word c f next far x w (instr.Alu op rd rs1 rs2) = (_, _, refl, none_nil)
single_word c f next far x w i = (_, _, refl, none_nil)

single_only : (x z : ℕ) (es : List Entry) → Single x es → Occurs z es → x ≡ z
single_only x z es (m, rest, e, n) o = by_head (subst (Occurs z) e o)
  where
    by_head : Occurs z (start x m ∷ rest) → x ≡ z
    by_head (inl p) = cc
    by_head (inr h) = absurd (n z h)

single_distinct : (x : ℕ) (es : List Entry) → Single x es → Distinct es
single_distinct x es (m, rest, e, n) = rw e (λ z p o. n z o, distinct_none rest n)

-- ---- blocks
module _ (texts : List TextRange) (c : Calls) (f : Func) (rs : List Run) (far : ℕ → ℕ → Bool) where
  one_only : (next : Option ℕ) (a z : ℕ) (w : Word) → found.IsWord texts f rs a w → Occurs z (word_entries c f far next w) → a ≡ z
  one_only next a z w s o = sym s.at ∙ single_only w.at z (word_entries c f far next w) (single_word c f next (far w.at) w.at w.word w.instr) o

  one_distinct : (next : Option ℕ) (w : Word) → Distinct (word_entries c f far next w)
  one_distinct next w = single_distinct w.at (word_entries c f far next w) (single_word c f next (far w.at) w.at w.word w.instr)

  run_span : (a : ℕ) (ws : List Word) (b : ℕ) (falls : Bool) → found.IsRun texts f rs a ws b falls → a + 4 ≤ b
  run_span a [] b falls r = absurd r
  run_span a (w ∷ []) b falls r = let e = r.1 in omega (arith, e)
  run_span a (w ∷ v ∷ ws) b falls r = let h = run_span (a + 4) (v ∷ ws) b falls r.3 in omega (arith, h)

  words_range : (next : Option ℕ) (a : ℕ) (ws : List Word) (b : ℕ) (falls : Bool) (z : ℕ) → found.IsRun texts f rs a ws b falls → Occurs z (flat_map (word_entries c f far next) ws) → (a ≤ z) × (z < b)
  words_range next a [] b falls z r o = absurd r
  words_range next a (w ∷ []) b falls z r o = by_case (occurs_cases z (word_entries c f far next w) [] o)
    where
      by_case : Occurs z (word_entries c f far next w) ⊎ Occurs z [] → (a ≤ z) × (z < b)
      by_case (inl h) = let e = one_only next a z w r.0 h in let g = r.1 in (omega (arith, e), omega (arith, e, g))
      by_case (inr h) = absurd h
  words_range next a (w ∷ v ∷ ws) b falls z r o =
      by_case (occurs_cases z (word_entries c f far next w) (flat_map (word_entries c f far next) (v ∷ ws)) o) (words_range next (a + 4) (v ∷ ws) b falls z r.3)
    where
      by_case : Occurs z (word_entries c f far next w) ⊎ Occurs z (flat_map (word_entries c f far next) (v ∷ ws))
          → (Occurs z (flat_map (word_entries c f far next) (v ∷ ws)) → (a + 4 ≤ z) × (z < b)) → (a ≤ z) × (z < b)
      by_case (inl h) g = let e = one_only next a z w r.0 h in let s = run_span (a + 4) (v ∷ ws) b falls r.3 in (omega (arith, e), omega (arith, e, s))
      by_case (inr h) g = let t = (g h).0 in (omega (arith, t), (g h).1)

  words_distinct : (next : Option ℕ) (a : ℕ) (ws : List Word) (b : ℕ) (falls : Bool) → found.IsRun texts f rs a ws b falls → Distinct (flat_map (word_entries c f far next) ws)
  words_distinct next a [] b falls r = absurd r
  words_distinct next a (w ∷ []) b falls r = distinct_append (word_entries c f far next w) [] (one_distinct next w) tt (λ x o p. absurd p)
  words_distinct next a (w ∷ v ∷ ws) b falls r =
      distinct_append (word_entries c f far next w) (flat_map (word_entries c f far next) (v ∷ ws)) (one_distinct next w) (words_distinct next (a + 4) (v ∷ ws) b falls r.3)
      (λ x o p. clash x (one_only next a x w r.0 o) (words_range next (a + 4) (v ∷ ws) b falls x r.3 p).0)
    where
      clash : (x : ℕ) → a ≡ x → a + 4 ≤ x → ⊥
      clash x e h = omega (arith, e, h)

  none_fall : (next : Option ℕ) (r : Run) → NoStarts (fall f next r)
  none_fall next r = by_test (r.falls && not (is_next next r.to))
    where
      by_test : (b : Bool) → NoStarts (if b then hop f r.to ∷ [] else [])
      by_test true = none_hop f r.to [] none_nil
      by_test false = none_nil

  -- an address is in a block
  abbrev IsIn : ℕ → Run → Type 0
  IsIn z r = (r.from ≤ z) × (z < r.to)

  abbrev IsRunOf : Run → Type 0
  IsRunOf r = found.IsRun texts f rs r.from r.words r.to r.falls

  run_range : (next : Option ℕ) (r : Run) (z : ℕ) → IsRunOf r → Occurs z (run_entries c f far next r) → IsIn z r
  unfolding run_entries
  run_range next r z h o = by_case (occurs_cases z (flat_map (word_entries c f far next) r.words) (fall f next r) o)
    where
      by_case : Occurs z (flat_map (word_entries c f far next) r.words) ⊎ Occurs z (fall f next r) → IsIn z r
      by_case (inl g) = words_range next r.from r.words r.to r.falls z h g
      by_case (inr g) = absurd (none_fall next r z g)

  run_distinct : (next : Option ℕ) (r : Run) → IsRunOf r → Distinct (run_entries c f far next r)
  unfolding run_entries
  run_distinct next r h =
      distinct_append (flat_map (word_entries c f far next) r.words) (fall f next r) (words_distinct next r.from r.words r.to r.falls h) (distinct_none (fall f next r) (none_fall next r))
      (λ x o p. none_fall next r x p)

  abbrev InSome : ℕ → List Run → Type 0
  InSome z [] = ⊥
  InSome z (q ∷ qs) = IsIn z q ⊎ InSome z qs

  -- no two of the blocks share an address
  abbrev Clear : List Run → Type 0
  Clear [] = Unit {0}
  Clear (q ∷ qs) = ((z : ℕ) → IsIn z q → InSome z qs → ⊥) × Clear qs

  abbrev AllRuns : List Run → Type 0
  AllRuns [] = Unit {0}
  AllRuns (q ∷ qs) = IsRunOf q × AllRuns qs

  runs_range : (qs : List Run) (z : ℕ) → AllRuns qs → Occurs z (runs_entries c f far qs) → InSome z qs
  runs_range [] z h o = o
  runs_range (q ∷ qs) z h o =
      elim (occurs_cases z (run_entries c f far (first_from qs) q) (runs_entries c f far qs) o) [ inl g ↦ inl (run_range (first_from qs) q z h.0 g) | inr g ↦ inr (runs_range qs z h.1 g) ]

  runs_distinct : (qs : List Run) → AllRuns qs → Clear qs → Distinct (runs_entries c f far qs)
  runs_distinct [] h k = tt
  runs_distinct (q ∷ qs) h k =
      distinct_append (run_entries c f far (first_from qs) q) (runs_entries c f far qs) (run_distinct (first_from qs) q h.0) (runs_distinct qs h.1 k.1)
      (λ x o p. k.0 x (run_range (first_from qs) q x h.0 o) (runs_range qs x h.1 p))

  -- ---- a function's blocks
  runs_end : (a : ℕ) (qs : List Run) (b : ℕ) → AreRuns texts f rs a qs b → a ≤ b
  runs_end a [] b r = omega (arith, r)
  runs_end a (q ∷ qs) b r =
      let start = r.0 in
      let span = run_span q.from q.words q.to q.falls r.1 in
      let rest = runs_end q.to qs b r.3 in
      omega (arith, start, span, rest)

  run_at : (a : ℕ) (qs : List Run) (b j : ℕ) (s : Run) → AreRuns texts f rs a qs b → slice_get qs j ≡ Some s → IsRunOf s × (a ≤ s.from) × (s.to ≤ b)
  run_at a [] b j s r e = absurd (cc)
  run_at a (q ∷ qs) b zero s r e =
      let same : q ≡ s = cc in
      let le = runs_end q.to qs b r.3 in
      let start = r.0 in
      subst (λ (t : Run). IsRunOf t × (a ≤ t.from) × (t.to ≤ b)) same (r.1, omega (arith, start), le)
  run_at a (q ∷ qs) b (suc j) s r e =
      let t = run_at q.to qs b j s r.3 e in
      let start = r.0 in
      let span = run_span q.from q.words q.to q.falls r.1 in
      let low = t.1 in
      (t.0, omega (arith, start, span, low), t.2)

  -- an address is in one block
  in_one : (a : ℕ) (qs : List Run) (b i j z : ℕ) (r s : Run) → AreRuns texts f rs a qs b → slice_get qs i ≡ Some r → slice_get qs j ≡ Some s → IsIn z r → IsIn z s → i ≡ j
  in_one a [] b i j z r s h e g m n = absurd (cc)
  in_one a (q ∷ qs) b zero zero z r s h e g m n = refl
  in_one a (q ∷ qs) b zero (suc j) z r s h e g m n =
      let same : q ≡ r = cc in
      let low = (run_at q.to qs b j s h.3 g).1 in
      let to = ap (λ (t : Run). t.to) same in
      absurd (clash low to m.1 n.0)
    where
      clash : q.to ≤ s.from → q.to ≡ r.to → z < r.to → s.from ≤ z → ⊥
      clash l t u v = omega arith
  in_one a (q ∷ qs) b (suc i) zero z r s h e g m n =
      let same : q ≡ s = cc in
      let low = (run_at q.to qs b i r h.3 e).1 in
      let to = ap (λ (t : Run). t.to) same in
      absurd (clash low to n.1 m.0)
    where
      clash : q.to ≤ r.from → q.to ≡ s.to → z < s.to → r.from ≤ z → ⊥
      clash l t u v = omega arith
  in_one a (q ∷ qs) b (suc i) (suc j) z r s h e g m n = ap suc (in_one q.to qs b i j z r s h.3 e g m n)

  module _ (a b : ℕ) (qs : List Run) (h : AreRuns texts f rs a qs b) where
    all_runs : (order : List ℕ) → AllRuns (in_order qs order)
    all_runs [] = tt
    all_runs (o ∷ order) = by_get (slice_get qs o) refl (all_runs order)
      where
        by_get : (g : Option Run) → slice_get qs o ≡ g → AllRuns (in_order qs order) → AllRuns (cons_option g (in_order qs order))
        by_get None e k = k
        by_get (Some r) e k = ((run_at a qs b o r h e).0, k)

    -- whose block an address is in
    owner : (order : List ℕ) (z : ℕ) → InSome z (in_order qs order) → (j : ℕ) × (s : Run) × (is_among order j ≡ true) × (slice_get qs j ≡ Some s) × IsIn z s
    owner [] z o = absurd o
    owner (n ∷ order) z o = by_get (slice_get qs n) refl o (owner order z)
      where
        later : (t : (j : ℕ) × (s : Run) × (is_among order j ≡ true) × (slice_get qs j ≡ Some s) × IsIn z s) → (j : ℕ) × (s : Run) × (is_among (n ∷ order) j ≡ true) × (slice_get qs j ≡ Some s) × IsIn z s
        later t = (t.0, t.1, or_true (n == t.0) (is_among order t.0) t.2, t.3, t.4)
          where
            or_true : (x y : Bool) → y ≡ true → (x || y) ≡ true
            or_true true y e = refl
            or_true false y e = e

        first : (r : Run) → slice_get qs n ≡ Some r → IsIn z r → (j : ℕ) × (s : Run) × (is_among (n ∷ order) j ≡ true) × (slice_get qs j ≡ Some s) × IsIn z s
        first r e k = (n, r, rw (eq-eqb n n refl) refl, e, k)

        by_get : (g : Option Run) → slice_get qs n ≡ g → InSome z (cons_option g (in_order qs order))
            → (InSome z (in_order qs order) → (j : ℕ) × (s : Run) × (is_among order j ≡ true) × (slice_get qs j ≡ Some s) × IsIn z s)
            → (j : ℕ) × (s : Run) × (is_among (n ∷ order) j ≡ true) × (slice_get qs j ≡ Some s) × IsIn z s
        by_get None e k rest = later (rest k)
        by_get (Some r) e (inl k) rest = first r e k
        by_get (Some r) e (inr k) rest = later (rest k)

    or_false : (x y : Bool) → (x || y) ≡ false → (x ≡ false) × (y ≡ false)
    or_false true y e = absurd (cc)
    or_false false y e = (refl, e)

    all_clear : (order : List ℕ) → repeats order ≡ false → Clear (in_order qs order)
    all_clear [] e = tt
    all_clear (n ∷ order) e = by_get (slice_get qs n) refl (all_clear order (or_false (is_among order n) (repeats order) e).1)
      where
        clash : (r : Run) (z : ℕ) → slice_get qs n ≡ Some r → IsIn z r → InSome z (in_order qs order) → ⊥
        clash r z g m o =
            let t = owner order z o in
            let same = in_one a qs b n t.0 z r t.1 h g t.3 m t.4 in
            false≢true (sym (or_false (is_among order n) (repeats order) e).0 ∙ ap (is_among order) same ∙ t.2)

        by_get : (g : Option Run) → slice_get qs n ≡ g → Clear (in_order qs order) → Clear (cons_option g (in_order qs order))
        by_get None g k = k
        by_get (Some r) g k = (λ z m o. clash r z g m o, k)

    pub ordered_distinct : (order : List ℕ) → repeats order ≡ false → Distinct (runs_entries c f far (in_order qs order))
    ordered_distinct order e = runs_distinct (in_order qs order) (all_runs order) (all_clear order e)

    pub ordered_range : (order : List ℕ) (z : ℕ) → Occurs z (runs_entries c f far (in_order qs order)) → (a ≤ z) × (z < b)
    ordered_range order z o =
        let t = owner order z (runs_range (in_order qs order) z (all_runs order) o) in
        let u = run_at a qs b t.0 t.1 h t.3 in
        let m = t.4.0 in
        let n = t.4.1 in
        let low = u.1 in
        let high = u.2 in
        (omega (arith, m, low), omega (arith, n, high))

-- ---- functions
module _ (p : Picture) (kept : IsKept p) (c : Calls) where
  part_facts : (m : Moved) (r : IsReady p m) → Distinct (function_of c (moving p m)) × ((z : ℕ) → Occurs z (function_of c (moving p m)) → (r.func.from ≤ z) × (z < r.func.to))
  unfolding function_entries
  part_facts m r =
      let s = sound p m.func r.func kept r.there r.clean in
      let f : unwrap_or (slice_get p.funcs m.func) no_func ≡ r.func = ap (λ o. unwrap_or o no_func) r.there in
      let far = is_far c r.func (in_order (runs_of p m.func) m.order) in
      rw f (
        ordered_distinct p.texts c r.func (runs_of p m.func) far r.func.from r.func.to (runs_of p m.func) s.words m.order r.order.once,
        λ z o. ordered_range p.texts c r.func (runs_of p m.func) far r.func.from r.func.to (runs_of p m.func) s.words m.order z o,
      )

  -- whose function a Start is in
  part_owner : (ms : List Moved) (z : ℕ) → AreReady p ms → Occurs z (emitted c (map (moving p) ms))
      → (j : ℕ) × (m : Moved) × (g : Func) × (slice_get ms j ≡ Some m) × (slice_get p.funcs m.func ≡ Some g) × (g.from ≤ z) × (z < g.to)
  part_owner [] z r o = absurd o
  part_owner (m ∷ ms) z r o = by_case (occurs_cases z (function_of c (moving p m)) (emitted c (map (moving p) ms)) o) (part_owner ms z r.1)
    where
      by_case : Occurs z (function_of c (moving p m)) ⊎ Occurs z (emitted c (map (moving p) ms))
          → (Occurs z (emitted c (map (moving p) ms)) → (j : ℕ) × (n : Moved) × (g : Func) × (slice_get ms j ≡ Some n) × (slice_get p.funcs n.func ≡ Some g) × (g.from ≤ z) × (z < g.to))
          → (j : ℕ) × (n : Moved) × (g : Func) × (slice_get (m ∷ ms) j ≡ Some n) × (slice_get p.funcs n.func ≡ Some g) × (g.from ≤ z) × (z < g.to)
      by_case (inl h) rest = let t = (part_facts m r.0).1 z h in (0, m, r.0.func, refl, r.0.there, t.0, t.1)
      by_case (inr h) rest = let t = rest h in (suc t.0, t.1, t.2, t.3, t.4, t.5, t.6)

  pub all_distinct : (ms : List Moved) → AreReady p ms → AllPairs (λ m n. m.func ≢ n.func) ms → Distinct (emitted c (map (moving p) ms))
  all_distinct [] r once = tt
  all_distinct (m ∷ ms) r once =
      distinct_append (function_of c (moving p m)) (emitted c (map (moving p) ms)) (part_facts m r.0).0
      (all_distinct ms r.1 (λ i j d lt within. once (suc i) (suc j) d (omega arith) (omega arith))) (λ x o q. clash x ((part_facts m r.0).1 x o) (part_owner ms x r.1 q))
    where
      clash : (x : ℕ) → (r.0.func.from ≤ x) × (x < r.0.func.to) → ((j : ℕ) × (n : Moved) × (g : Func) × (slice_get ms j ≡ Some n) × (slice_get p.funcs n.func ≡ Some g) × (g.from ≤ x) × (x < g.to)) → ⊥
      clash x u (j, n, g, s, t, v, w) =
          let lt = slice_get_within ms j n s in
          let differ = once 0 (suc j) n (omega arith) (omega (arith, lt)) in
          let is = get_or_from_slice_get ms j n n s in
          apart (alone p m.func r.0.func kept r.0.there r.0.clean n.func g t (λ e. differ (sym e ∙ ap (λ (y : Moved). y.func) (sym is))))
        where
          apart : (g.to ≤ r.0.func.from) ⊎ (r.0.func.to ≤ g.from) → ⊥
          apart (inl h) = let low = u.0 in omega (arith, low, w)
          apart (inr h) = let high = u.1 in omega (arith, high, v)
