-- A function's words are no further apart than when every branch is long.
use Rattle.std.proofs.Common.{◌≡◌, ℕ, ◌+◌, ◌<◌, ◌≤◌, Bool, true, false, List, [], ◌∷◌, ◌++◌, refl, inl, inr, arith}
use Rattle.std.specs.Prelude.{Option, nat_le, if◌then◌else◌}
use Rattle.std.specs.List.{flat_map}
use Rattle.std.proofs.lemmas.Bool.{and_parts, and_from, leb-true, le-leb, cases_lt}
use Rattle.rv_isa.specs.Conditions.{opposite}
use Rattle.rv_isa.specs.declared.instr.Cond.{Cond}
use Rattle.rv_isa.specs.declared.instr.Instr.{Instr}
use Rattle.rv_isa.specs.declared.instr.Instr.TheVariants as instr
use Rattle.image.specs.declared.ranges.Func.{Func}
use Rattle.image.specs.Targets.{target}
use Rattle.emit.specs.declared.entry.To.TheVariants.{Over}
use Rattle.emit.specs.declared.entry.Made.TheVariants.{Same, Branch}
use Rattle.emit.specs.declared.entry.Entry.{Entry}
use Rattle.blocks.specs.declared.word.Word.{Word}
use Rattle.blocks.specs.declared.run.Run.{Run}
use Rattle.emit.specs.Entries.{Calls, aimed, start, hop, is_next, branch_of, rendered, word_entries, fall, run_entries, first_from, runs_entries, is_start, place, reaches}

-- the points of es are those of ds, without some Hops
pub data Thinned : List Entry → List Entry → Type 0 where
  ends : Thinned [] []
  keeps : (e d : Entry) (es ds : List Entry) → e.point ≡ d.point → Thinned es ds → Thinned (e ∷ es) (d ∷ ds)
  drops : (d : Entry) (es ds : List Entry) → ((x : ℕ) → is_start x d.point ≡ false) → Thinned es ds → Thinned es (d ∷ ds)

thin_same : (es : List Entry) → Thinned es es
thin_same [] = ends
thin_same (e ∷ es) = keeps e e es es refl (thin_same es)

thin_append : (es ds fs gs : List Entry) → Thinned es ds → Thinned fs gs → Thinned (es ++ fs) (ds ++ gs)
thin_append _ _ fs gs ends u = u
thin_append _ _ fs gs (keeps e d es ds p t) u = keeps e d (es ++ fs) (ds ++ gs) p (thin_append es ds fs gs t u)
thin_append _ _ fs gs (drops d es ds p t) u = drops d (es ++ fs) (ds ++ gs) p (thin_append es ds fs gs t u)

-- a Start is no further from the front
place_le : (x : ℕ) (es ds : List Entry) → Thinned es ds → place x es ≤ place x ds
place_le x _ _ ends = omega arith
place_le x _ _ (keeps e d es ds p t) = rw p (by_test (is_start x d.point) (place_le x es ds t))
  where
    by_test : (b : Bool) → place x es ≤ place x ds → (if b then 0 else (1 + place x es)) ≤ (if b then 0 else (1 + place x ds))
    by_test true h = omega arith
    by_test false h = omega arith
place_le x _ _ (drops d es ds p t) = rw (p x) (let h = place_le x es ds t in omega arith)

-- and two Starts are no further apart
pub apart_le : (x y : ℕ) (es ds : List Entry) → Thinned es ds → place x es ≤ place y es → place y es + place x ds ≤ place y ds + place x es
apart_le x y _ _ ends h = omega arith
apart_le x y _ _ (keeps e d es ds p t) h =
    rw p (by_test (is_start x d.point) (is_start y d.point) (apart_le x y es ds t) (place_le y es ds t) (rw p at h))
  where
    by_test : (b k : Bool) → (place x es ≤ place y es → place y es + place x ds ≤ place y ds + place x es) → place y es ≤ place y ds
        → (if b then 0 else (1 + place x es)) ≤ (if k then 0 else (1 + place y es))
        → (if k then 0 else (1 + place y es)) + (if b then 0 else (1 + place x ds)) ≤ (if k then 0 else (1 + place y ds)) + (if b then 0 else (1 + place x es))
    by_test true true g l h = omega arith
    by_test true false g l h = omega arith
    by_test false true g l h = omega arith
    by_test false false g l h = let k = g (omega arith) in omega arith
apart_le x y _ _ (drops d es ds p t) h = rw (p x, p y) (let k = apart_le x y es ds t h in omega arith)

-- so a branch that reaches there reaches here
pub reaches_still : (x y : ℕ) (es ds : List Entry) → Thinned es ds → reaches (place x ds) (place y ds) ≡ true → reaches (place x es) (place y es) ≡ true
reaches_still x y es ds t r =
    let u = and_parts (nat_le (place x ds) (place y ds + 1024)) (nat_le (place y ds) (place x ds + 1023)) r in
    let l = leb-true (place x ds) (place y ds + 1024) u.0 in
    let m = leb-true (place y ds) (place x ds + 1023) u.1 in
    elim (cases_lt (place x es) (place y es)) [ inl h ↦ up h m | inr h ↦ down h l ]
  where
    up : place x es < place y es → place y ds ≤ place x ds + 1023 → reaches (place x es) (place y es) ≡ true
    up h m =
        let k : place x es ≤ place y es = omega arith in
        let g = apart_le x y es ds t k in
        and_from (nat_le (place x es) (place y es + 1024)) (nat_le (place y es) (place x es + 1023)) (le-leb (place x es) (place y es + 1024) (omega arith))
        (le-leb (place y es) (place x es + 1023) (omega arith))

    down : place y es ≤ place x es → place x ds ≤ place y ds + 1024 → reaches (place x es) (place y es) ≡ true
    down h l =
        let g = apart_le y x es ds t h in
        and_from (nat_le (place x es) (place y es + 1024)) (nat_le (place y es) (place x es + 1023)) (le-leb (place x es) (place y es + 1024) (omega arith))
        (le-leb (place y es) (place x es + 1023) (omega arith))

every : ℕ → Bool
every y = true

thin_branch : (f : Func) (next : Option ℕ) (far : ℕ → Bool) (x : ℕ) (o : Cond) (rs1 rs2 t y : ℕ)
    → Thinned (branch_of f next far x o rs1 rs2 t y) (branch_of f next (λ z. true) x o rs1 rs2 t y)
unfolding branch_of
thin_branch f next far x o rs1 rs2 t y = by_test (is_next next y) (is_next next t) (far t) (far y)
  where
    by_test : (falls takes l m : Bool) → Thinned (if falls then
        (if l then start x (Branch (opposite o) rs1 rs2 Over) ∷ hop f t ∷ [] else start x (Branch o rs1 rs2 (aimed f t)) ∷ [])
        else (if takes then
        (if m then start x (Branch o rs1 rs2 Over) ∷ hop f y ∷ [] else start x (Branch (opposite o) rs1 rs2 (aimed f y)) ∷ [])
        else
        (if l then start x (Branch (opposite o) rs1 rs2 Over) ∷ hop f t ∷ hop f y ∷ []
        else start x (Branch o rs1 rs2 (aimed f t)) ∷ hop f y ∷ [])))
        (if falls then start x (Branch (opposite o) rs1 rs2 Over) ∷ hop f t ∷ []
        else (if takes then start x (Branch o rs1 rs2 Over) ∷ hop f y ∷ []
        else start x (Branch (opposite o) rs1 rs2 Over) ∷ hop f t ∷ hop f y ∷ []))
    by_test true k true m = thin_same (start x (Branch (opposite o) rs1 rs2 Over) ∷ hop f t ∷ [])
    by_test true k false m =
        keeps (start x (Branch o rs1 rs2 (aimed f t))) (start x (Branch (opposite o) rs1 rs2 Over)) [] (hop f t ∷ []) refl (drops (hop f t) [] [] (λ z. refl) ends)
    by_test false true l true = thin_same (start x (Branch o rs1 rs2 Over) ∷ hop f y ∷ [])
    by_test false true l false =
        keeps (start x (Branch (opposite o) rs1 rs2 (aimed f y))) (start x (Branch o rs1 rs2 Over)) [] (hop f y ∷ []) refl (drops (hop f y) [] [] (λ z. refl) ends)
    by_test false false true m = thin_same (start x (Branch (opposite o) rs1 rs2 Over) ∷ hop f t ∷ hop f y ∷ [])
    by_test false false false m =
        keeps (start x (Branch o rs1 rs2 (aimed f t))) (start x (Branch (opposite o) rs1 rs2 Over)) (hop f y ∷ []) (hop f t ∷ hop f y ∷ []) refl
        (drops (hop f t) (hop f y ∷ []) (hop f y ∷ []) (λ z. refl) (thin_same (hop f y ∷ [])))

thin_word : (c : Calls) (f : Func) (next : Option ℕ) (far : ℕ → Bool) (x w : ℕ) (i : Instr) → Thinned (rendered c f next far x w i) (rendered c f next (λ z. true) x w i)
thin_word c f next far x w (instr.Branch o rs1 rs2 off) = thin_branch f next far x o rs1 rs2 (target x off) (x + 4)
thin_word c f next far x w (instr.Alu op rd rs1 rs2) = thin_same (start x (Same w) ∷ [])
thin_word c f next far x w i = thin_same (rendered c f next far x w i)

module _ (c : Calls) (f : Func) (far : ℕ → ℕ → Bool) where
  thin_words : (next : Option ℕ) (ws : List Word) → Thinned (flat_map (word_entries c f far next) ws) (flat_map (word_entries c f (λ x y. true) next) ws)
  thin_words next [] = ends
  thin_words next (w ∷ ws) =
      thin_append (word_entries c f far next w) (word_entries c f (λ x y. true) next w) (flat_map (word_entries c f far next) ws) (flat_map (word_entries c f (λ x y. true) next) ws)
      (thin_word c f next (far w.at) w.at w.word w.instr) (thin_words next ws)

  thin_run : (next : Option ℕ) (r : Run) → Thinned (run_entries c f far next r) (run_entries c f (λ x y. true) next r)
  unfolding run_entries
  thin_run next r =
      thin_append (flat_map (word_entries c f far next) r.words) (flat_map (word_entries c f (λ x y. true) next) r.words) (fall f next r) (fall f next r)
      (thin_words next r.words) (thin_same (fall f next r))

  -- a function's words are those where every branch is long, without some Hops
  pub thin_runs : (rs : List Run) → Thinned (runs_entries c f far rs) (runs_entries c f (λ x y. true) rs)
  thin_runs [] = ends
  thin_runs (r ∷ rs) =
      thin_append (run_entries c f far (first_from rs) r) (run_entries c f (λ x y. true) (first_from rs) r) (runs_entries c f far rs) (runs_entries c f (λ x y. true) rs)
      (thin_run (first_from rs) r) (thin_runs rs)
