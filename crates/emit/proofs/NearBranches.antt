-- A short branch reaches its target wherever the layout stands: what is in reach when every branch of the function is long is in reach.
use Rattle.std.proofs.Common.{◌≡◌, ℕ, zero, suc, ◌+◌, ◌==◌, Bool, true, false, not, List, [], ◌∷◌, ◌++◌, append_assoc, map, length, length-append, refl, sym, ◌∙◌, subst, ap, inl, inr, arith}
use Rattle.std.specs.Prelude.{Option, Some, None, ◌⊎◌, ◌&&◌, nat_le, slice_get, unwrap_or, option_and_then, if◌then◌else◌}
use Rattle.std.specs.List.{flat_map, cons_option}
use Rattle.std.proofs.lemmas.Bool.{and_parts, and_from, leb-true, le-leb}
use Rattle.rv_isa.specs.declared.instr.Cond.{Cond}
use Rattle.rv_isa.specs.declared.instr.Instr.{Instr}
use Rattle.rv_isa.specs.declared.instr.Instr.TheVariants as instr
use Rattle.image.specs.declared.ranges.TextRange.{TextRange}
use Rattle.image.specs.declared.ranges.Func.{Func}
use Rattle.image.specs.Aims.{is_inside}
use Rattle.image.specs.Targets.{target, made_by}
use Rattle.image.specs.Texts.{word_at}
use Rattle.image.specs.Picture.{Picture, IsKept}
use Rattle.blocks.specs.declared.word.Word.{Word}
use Rattle.blocks.specs.declared.run.Run.{Run}
use Rattle.blocks.specs.Blocks.{runs_of}
use Rattle.blocks.specs.Sound.{Begins, BeginsInside, AreRuns}
use Rattle.blocks.specs.Sound as found
use Rattle.blocks.proofs.Soundness.{sound}
use Rattle.plans.specs.declared.plan.Moved.{Moved}
use Rattle.plans.specs.Given.{IsPlanOf}
use Rattle.layout.specs.Points.{second_of, start_of}
use Rattle.layout.specs.declared.point.Point.{Point}
use Rattle.layout.specs.declared.point.Point.TheVariants.{Start, Hop, Mid}
use Rattle.emit.specs.declared.entry.To.{To}
use Rattle.emit.specs.declared.entry.To.TheVariants.{Here, There, Over}
use Rattle.emit.specs.declared.entry.Made.{Made}
use Rattle.emit.specs.declared.entry.Made.TheVariants.{Same, Jump, Branch, High, Low}
use Rattle.emit.specs.declared.entry.Entry.{Entry}
use Rattle.emit.specs.Entries.{Calls, calls_of, second_word, second_by, aimed, start, mid, hop, is_next, branch_of, rendered, word_entries, fall, run_entries, first_from, runs_entries, in_order, longest, is_far, function_entries, place, reaches, entries_of}
use Rattle.emit.specs.Placed.{IsNear, MadeNear, AreNear}
use Rattle.emit.specs.Emitted.{plan_unreadable}
use Rattle.emit.proofs.Branches.{branch_cases}
use Rattle.emit.proofs.Leading.{function_of, emitted, IsOutside, AllBlocks, AllFunctions, StartsIn}
use Rattle.emit.proofs.Places.{Occurs, occurs_left}
use Rattle.emit.proofs.Ordered.{begins_in_order}
use Rattle.emit.proofs.PlanRows.{runs_occur}
use Rattle.emit.proofs.Thinner.{reaches_still, thin_runs}
use Rattle.emit.proofs.Assembled.{IsReady, AreReady, no_func, moving, ready, entries_are, assembled}
use Rattle.emit.proofs.Distinct.{Distinct, distinct_left, distinct_right, distinct_apart, place_own, place_left, place_skip, all_distinct}

-- each branch of these words is a Start, and goes to a place of which P holds
abbrev IsForked : (ℕ → To → Type 0) → Point → Made → Type 0
IsForked P (Start x) (Branch c rs1 rs2 to) = P x to
IsForked P (Hop x) (Branch c rs1 rs2 to) = ⊥
IsForked P (Mid x) (Branch c rs1 rs2 to) = ⊥
IsForked P q m = Unit {0}

abbrev Forked : (ℕ → To → Type 0) → List Entry → Type 0
Forked P [] = Unit {0}
Forked P (e ∷ es) = IsForked P e.point e.made × Forked P es

forked_append : (P : ℕ → To → Type 0) (xs ys : List Entry) → Forked P xs → Forked P ys → Forked P (xs ++ ys)
forked_append P [] ys h g = g
forked_append P (x ∷ xs) ys h g = (h.0, forked_append P xs ys h.1 g)

forked_at : (P : ℕ → To → Type 0) (es : List Entry) (k : ℕ) (e : Entry) → Forked P es → slice_get es k ≡ Some e → IsForked P e.point e.made
forked_at P [] k e h s = absurd (cc)
forked_at P (d ∷ es) zero e h s = let same : d ≡ e = cc in subst (λ (y : Entry). IsForked P y.point y.made) same h.0
forked_at P (d ∷ es) (suc k) e h s = forked_at P es k e h.1 s

-- a short form goes to a block of the function that isn't too far
abbrev IsShort : (ℕ → ℕ → Bool) → List Run → ℕ → To → Type 0
IsShort far rs x (Here y) = (far x y ≡ false) × Begins rs y
IsShort far rs x (There y) = ⊥
IsShort far rs x Over = Unit {0}

module _ (c : Calls) (f : Func) (rs : List Run) (far : ℕ → ℕ → Bool) (inside : (x y : ℕ) → far x y ≡ false → is_inside y f ≡ true) where
  short_within : (x y : ℕ) → far x y ≡ false → BeginsInside f rs y → IsShort far rs x (aimed f y)
  short_within x y e b = by_test (is_inside y f) (inside x y e) refl
    where
      by_test : (i : Bool) → i ≡ true → is_inside y f ≡ i → IsShort far rs x (if i then Here y else There y)
      by_test true q s = (e, b s)
      by_test false q s = absurd (cc)

  short_branch : (next : Option ℕ) (x : ℕ) (o : Cond) (rs1 rs2 t y : ℕ) → BeginsInside f rs t → BeginsInside f rs y → Forked (IsShort far rs) (branch_of f next (far x) x o rs1 rs2 t y)
  short_branch next x o rs1 rs2 t y bt by =
      branch_cases (Forked (IsShort far rs)) f next (far x) x o rs1 rs2 t y (λ e. (tt, (tt, tt))) (λ e g. (short_within x t g bt, tt)) (λ e. (tt, (tt, tt))) (λ e g. (short_within x y g by, tt))
      (tt, (tt, (tt, tt))) (λ g. (short_within x t g bt, (tt, tt)))

  second_short : (x rd w : ℕ) → IsForked (IsShort far rs) (Start x) (second_word c x rd w)
  second_short x rd w = by_second (c.second x)
    where
      by_moved : (g : ℕ) (b : Bool) → IsForked (IsShort far rs) (Start x) (if b then Jump rd (Here g) else Same w)
      by_moved g true = tt
      by_moved g false = tt

      by_second : (s : Option ℕ) → IsForked (IsShort far rs) (Start x) (second_by c s rd w)
      by_second None = tt
      by_second (Some g) = by_moved g (c.moved g)

  short_word : (texts : List TextRange) (next : Option ℕ) (x w : ℕ) (i : Instr) → found.Aims texts f rs x i → Forked (IsShort far rs) (rendered c f next (far x) x w i)
  short_word texts next x w (instr.Branch o rs1 rs2 off) a = short_branch next x o rs1 rs2 (target x off) (x + 4) (λ e. a.2) a.3
  short_word texts next x w (instr.Auipc rd imm) a = by_test (rd == 0)
    where
      by_test : (b : Bool) → Forked (IsShort far rs) (if b then start x (Same w) ∷ [] else start x (High rd (made_by x imm)) ∷ mid x (Low rd (made_by x imm)) ∷ [])
      by_test true = (tt, tt)
      by_test false = (tt, (tt, tt))
  short_word texts next x w (instr.Jalr rd rs1 off) a = (second_short x rd w, tt)
  short_word texts next x w (instr.Alu op rd rs1 rs2) a = (tt, tt)
  short_word texts next x w i a = (tt, tt)

  module _ (texts : List TextRange) where
    short_one : (next : Option ℕ) (a : ℕ) (w : Word) → found.IsWord texts f rs a w → Forked (IsShort far rs) (word_entries c f far next w)
    short_one next a w s = short_word texts next w.at w.word w.instr (subst (λ (n : ℕ). found.Aims texts f rs n w.instr) (sym s.at) s.aims)

    short_words : (next : Option ℕ) (a : ℕ) (ws : List Word) (b : ℕ) (falls : Bool) → found.IsRun texts f rs a ws b falls → Forked (IsShort far rs) (flat_map (word_entries c f far next) ws)
    short_words next a [] b falls r = absurd r
    short_words next a (w ∷ []) b falls r = forked_append (IsShort far rs) (word_entries c f far next w) [] (short_one next a w r.0) tt
    short_words next a (w ∷ v ∷ ws) b falls r =
        forked_append (IsShort far rs) (word_entries c f far next w) (flat_map (word_entries c f far next) (v ∷ ws)) (short_one next a w r.0) (short_words next (a + 4) (v ∷ ws) b falls r.3)

    short_fall : (next : Option ℕ) (r : Run) → Forked (IsShort far rs) (fall f next r)
    short_fall next r = by_test (r.falls && not (is_next next r.to))
      where
        by_test : (b : Bool) → Forked (IsShort far rs) (if b then hop f r.to ∷ [] else [])
        by_test true = (tt, tt)
        by_test false = tt

    short_run : (next : Option ℕ) (r : Run) → found.IsRun texts f rs r.from r.words r.to r.falls → Forked (IsShort far rs) (run_entries c f far next r)
    unfolding run_entries
    short_run next r h = forked_append (IsShort far rs) (flat_map (word_entries c f far next) r.words) (fall f next r) (short_words next r.from r.words r.to r.falls h) (short_fall next r)

    run_found : (a : ℕ) (qs : List Run) (b j : ℕ) (s : Run) → AreRuns texts f rs a qs b → slice_get qs j ≡ Some s → found.IsRun texts f rs s.from s.words s.to s.falls
    run_found a [] b j s r e = absurd (cc)
    run_found a (q ∷ qs) b zero s r e = let same : q ≡ s = cc in subst (λ (t : Run). found.IsRun texts f rs t.from t.words t.to t.falls) same r.1
    run_found a (q ∷ qs) b (suc j) s r e = run_found q.to qs b j s r.3 e

    short_runs : (a : ℕ) (qs : List Run) (b : ℕ) (order : List ℕ) → AreRuns texts f rs a qs b → Forked (IsShort far rs) (runs_entries c f far (in_order qs order))
    short_runs a qs b [] h = tt
    short_runs a qs b (o ∷ order) h = by_get (slice_get qs o) refl (short_runs a qs b order h)
      where
        by_get : (g : Option Run) → slice_get qs o ≡ g → Forked (IsShort far rs) (runs_entries c f far (in_order qs order)) → Forked (IsShort far rs) (runs_entries c f far (cons_option g (in_order qs order)))
        by_get None e k = k
        by_get (Some r) e k =
            forked_append (IsShort far rs) (run_entries c f far (first_from (in_order qs order)) r) (runs_entries c f far (in_order qs order)) (short_run (first_from (in_order qs order)) r (run_found a qs b o r h e)) k

-- ---- reach
far_inside : (c : Calls) (f : Func) (rs : List Run) (x y : ℕ) → is_far c f rs x y ≡ false → (is_inside y f ≡ true) × (reaches (place x (longest c f rs)) (place y (longest c f rs)) ≡ true)
unfolding is_far
far_inside c f rs x y e = and_parts (is_inside y f) (reaches (place x (longest c f rs)) (place y (longest c f rs))) (not_not _ e)
  where
    not_not : (b : Bool) → not b ≡ false → b ≡ true
    not_not true e = refl
    not_not false e = absurd (cc)

reaches_on : (n a b k m : ℕ) → k ≡ n + a → m ≡ n + b → reaches a b ≡ true → reaches k m ≡ true
reaches_on n a b k m p q e =
    let t = and_parts (nat_le a (b + 1024)) (nat_le b (a + 1023)) e in
    let u = leb-true a (b + 1024) t.0 in
    let v = leb-true b (a + 1023) t.1 in
    and_from (nat_le k (m + 1024)) (nat_le m (k + 1023)) (le-leb k (m + 1024) (omega arith)) (le-leb m (k + 1023) (omega arith))

get_split : {X : Type 0} (xs ys : List X) (k : ℕ) (e : X) → slice_get (xs ++ ys) k ≡ Some e → (slice_get xs k ≡ Some e) ⊎ ((j : ℕ) × (k ≡ length xs + j) × (slice_get ys j ≡ Some e))
get_split [] ys k e s = inr (k, omega arith, s)
get_split (x ∷ xs) ys zero e s = inl s
get_split (x ∷ xs) ys (suc k) e s = elim (get_split xs ys k e s) [ inl h ↦ inl h | inr h ↦ inr (h.0, (let q = h.1 in omega (arith, q)), h.2) ]

module _ (p : Picture) (kept : IsKept p) (c : Calls) (known : ℕ → Type 0) where
  abbrev second : ℕ → Option ℕ
  second = λ x. option_and_then (start_of p) (second_of p x)

  abbrev words : (m : Moved) → IsReady p m → List Entry
  words m r = function_entries c r.func (in_order (runs_of p m.func) m.order)

  -- the branches of a part, where its words stand behind others
  module _ (m : Moved) (r : IsReady p m) (all : AllBlocks (word_at p.texts) second known (IsOutside p) c r.func (in_order (runs_of p m.func) m.order))
      (pre post es : List Entry) (is : es ≡ pre ++ (words m r ++ post)) (d : Distinct es) where
    own : Distinct (words m r)
    own = distinct_left (words m r) post (distinct_right pre (words m r ++ post) (subst Distinct is d))

    place_at : (z : ℕ) → Occurs z (words m r) → place z es ≡ length pre + place z (words m r)
    place_at z o =
        ap (place z) is
        ∙ place_skip z pre (words m r ++ post) (λ q. distinct_apart pre (words m r ++ post) z (subst Distinct is d) q (occurs_left z (words m r) post o))
        ∙ ap (λ n. length pre + n) (place_left z (words m r) post o)

    forked : Forked (IsShort (is_far c r.func (in_order (runs_of p m.func) m.order)) (runs_of p m.func)) (words m r)
    unfolding function_entries
    forked =
        short_runs c r.func (runs_of p m.func) (is_far c r.func (in_order (runs_of p m.func) m.order)) (λ x y e. (far_inside c r.func (in_order (runs_of p m.func) m.order) x y e).0) p.texts
        r.func.from (runs_of p m.func) r.func.to m.order (sound p m.func r.func kept r.there r.clean).words

    block_occurs : (y : ℕ) → Begins (runs_of p m.func) y → Occurs y (words m r)
    unfolding function_entries
    block_occurs y b =
        runs_occur (word_at p.texts) second known (IsOutside p) c r.func (is_far c r.func (in_order (runs_of p m.func) m.order)) (in_order (runs_of p m.func) m.order) y all
        (begins_in_order (runs_of p m.func) m.order y r.order b)

    short_reaches : (x y : ℕ) → is_far c r.func (in_order (runs_of p m.func) m.order) x y ≡ false → reaches (place x (words m r)) (place y (words m r)) ≡ true
    unfolding function_entries
    short_reaches x y e =
        reaches_still x y (words m r) (longest c r.func (in_order (runs_of p m.func) m.order))
        (thin_runs c r.func (is_far c r.func (in_order (runs_of p m.func) m.order)) (in_order (runs_of p m.func) m.order)) (far_inside c r.func (in_order (runs_of p m.func) m.order) x y e).1

    near_part : (k : ℕ) (e : Entry) → slice_get (words m r) k ≡ Some e → MadeNear es (length pre + k) e.made
    near_part k e s = by_entry e.point e.made refl (forked_at (IsShort (is_far c r.func (in_order (runs_of p m.func) m.order)) (runs_of p m.func)) (words m r) k e forked s)
      where
        by_to : (x : ℕ) (to : To) → e.point ≡ Start x → IsShort (is_far c r.func (in_order (runs_of p m.func) m.order)) (runs_of p m.func) x to → IsNear es (length pre + k) to
        by_to x (Here y) q h =
            reaches_on (length pre) (place x (words m r)) (place y (words m r)) (length pre + k) (place y es)
            (ap (λ n. length pre + n) (sym (place_own (words m r) k x e own s q))) (place_at y (block_occurs y h.1)) (short_reaches x y h.0)
        by_to x (There y) q h = h
        by_to x Over q h = tt

        by_entry : (q : Point) (n : Made) → e.point ≡ q → IsForked (IsShort (is_far c r.func (in_order (runs_of p m.func) m.order)) (runs_of p m.func)) q n → MadeNear es (length pre + k) n
        by_entry (Start x) (Branch o rs1 rs2 to) q h = by_to x to q h
        by_entry (Hop x) (Branch o rs1 rs2 to) q h = absurd h
        by_entry (Mid x) (Branch o rs1 rs2 to) q h = absurd h
        by_entry q (Same v) e h = tt
        by_entry q (Jump rd to) e h = tt
        by_entry q (High rd v) e h = tt
        by_entry q (Low rd v) e h = tt

  near_parts : (ms : List Moved) → AreReady p ms → AllFunctions (word_at p.texts) second known (IsOutside p) c (map (moving p) ms)
      → (pre es : List Entry) → es ≡ pre ++ emitted c (map (moving p) ms) → Distinct es → (k : ℕ) (e : Entry) → slice_get (emitted c (map (moving p) ms)) k ≡ Some e → MadeNear es (length pre + k) e.made
  near_parts [] r all pre es is d k e s = absurd (cc)
  near_parts (m ∷ ms) r all pre es is d k e s =
      by_side (get_split (function_of c (moving p m)) (emitted c (map (moving p) ms)) k e s)
      (near_parts ms r.1 all.1 (pre ++ function_of c (moving p m)) es (is ∙ sym (append_assoc pre (function_of c (moving p m)) (emitted c (map (moving p) ms)))) d)
    where
      same : unwrap_or (slice_get p.funcs m.func) no_func ≡ r.0.func
      same = ap (λ o. unwrap_or o no_func) r.0.there

      part : function_of c (moving p m) ≡ words m r.0
      part = ap (λ g. function_entries c g (in_order (runs_of p m.func) m.order)) same

      by_side : (slice_get (function_of c (moving p m)) k ≡ Some e) ⊎ ((j : ℕ) × (k ≡ length (function_of c (moving p m)) + j) × (slice_get (emitted c (map (moving p) ms)) j ≡ Some e))
          → ((j : ℕ) (e : Entry) → slice_get (emitted c (map (moving p) ms)) j ≡ Some e → MadeNear es (length (pre ++ function_of c (moving p m)) + j) e.made) → MadeNear es (length pre + k) e.made
      by_side (inl h) rest =
          near_part m r.0 (subst (λ (g : Func). AllBlocks (word_at p.texts) second known (IsOutside p) c g (in_order (runs_of p m.func) m.order)) same all.0) pre (emitted c (map (moving p) ms)) es
          (is ∙ ap (λ x. pre ++ (x ++ emitted c (map (moving p) ms))) part) d k e (ap (λ x. slice_get x k) (sym part) ∙ h)
      by_side (inr h) rest =
          let at = h.1 in
          let n : length (pre ++ function_of c (moving p m)) + h.0 ≡ length pre + k = omega (arith, length-append pre (function_of c (moving p m)), at) in
          subst (λ (n : ℕ). MadeNear es n e.made) n (rest h.0 e h.2)

-- each short branch of a plan's layout reaches
pub are_near : (p : Picture) (parts : List Moved) → IsKept p → IsPlanOf p parts → plan_unreadable p parts ≡ None → AreNear (entries_of p parts)
are_near p parts kept plan clean =
    let r = ready p parts plan clean in
    let all = assembled p parts kept r in
    let es = emitted (calls_of p parts) (map (moving p) parts) in
    rw (entries_are p parts r)
    (record {
      each = λ k e s. subst (λ (n : ℕ). MadeNear es n e.made) (omega arith)
          (near_parts p kept (calls_of p parts) (StartsIn (map (moving p) parts)) parts r all [] es refl (all_distinct p kept (calls_of p parts) parts r plan.once) k e s);
    })
