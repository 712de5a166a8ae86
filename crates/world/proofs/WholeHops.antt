-- In the words of a plan each Hop goes to a whole word: where a branch goes or falls to, or where a block ends.
use Rattle.std.proofs.Common.{◌≡◌, ℕ, zero, suc, ◌+◌, ◌%◌, ◌==◌, Bool, true, false, not, List, [], ◌∷◌, ◌++◌, map, refl, sym, ◌∙◌, subst, ap, arith}
use Rattle.std.specs.Prelude.{Option, Some, None, slice_get, All, ◌&&◌, if◌then◌else◌}
use Rattle.std.specs.List.{flat_map, cons_option}
use Rattle.std.proofs.lemmas.List.Elements.{All-nil, All-cons}
use Rattle.rv_isa.specs.declared.instr.Cond.{Cond}
use Rattle.rv_isa.specs.declared.instr.Instr.{Instr}
use Rattle.rv_isa.specs.declared.instr.Instr.TheVariants as instr
use Rattle.image.specs.declared.ranges.Func.{Func}
use Rattle.image.specs.Targets.{target, made_by}
use Rattle.image.specs.Picture.{Picture, IsKept}
use Rattle.blocks.specs.declared.word.Word.{Word}
use Rattle.blocks.specs.declared.run.Run.{Run}
use Rattle.blocks.specs.Blocks.{runs_of}
use Rattle.blocks.specs.Sound as found
use Rattle.blocks.proofs.Soundness.{sound}
use Rattle.plans.specs.declared.plan.Moved.{Moved}
use Rattle.plans.specs.Given.{plan_fault}
use Rattle.layout.specs.Laid.{Laid}
use Rattle.emit.specs.declared.entry.Made.TheVariants.{Same, High, Low}
use Rattle.emit.specs.declared.entry.Entry.{Entry}
use Rattle.emit.specs.Entries.{Calls, calls_of, entries_of, start, mid, hop, is_next, branch_of, rendered, word_entries, fall, run_entries, first_from, runs_entries, is_far, function_entries, in_order}
use Rattle.emit.specs.Placed.{point_of}
use Rattle.emit.specs.Emitted.{IsEmitted, plan_unreadable}
use Rattle.emit.proofs.Branches.{branch_cases}
use Rattle.emit.proofs.Leading.{Moving, function_of, emitted}
use Rattle.emit.proofs.Assembled.{AreReady, ready, moving, entries_are}
use Rattle.plans.proofs.Planned.{planned}
use Rattle.sim_laws.specs.Codes.{GoesToWord}

abbrev Wholes : List Entry → Type 0
Wholes [] = Unit {0}
Wholes (e ∷ es) = GoesToWord e.point × Wholes es

whole_append : (xs ys : List Entry) → Wholes xs → Wholes ys → Wholes (xs ++ ys)
whole_append [] ys h g = g
whole_append (x ∷ xs) ys h g = (h.0, whole_append xs ys h.1 g)

whole_branch : (f : Func) (next : Option ℕ) (far : ℕ → Bool) (x : ℕ) (o : Cond) (rs1 rs2 t y : ℕ) → t % 4 ≡ 0 → y % 4 ≡ 0 → Wholes (branch_of f next far x o rs1 rs2 t y)
whole_branch f next far x o rs1 rs2 t y a b =
    branch_cases Wholes f next far x o rs1 rs2 t y (λ e. (tt, (a, tt))) (λ e g. (tt, tt)) (λ e. (tt, (b, tt))) (λ e g. (tt, tt)) (tt, (a, (b, tt))) (λ g. (tt, (b, tt)))

-- where a branch at x goes is a whole word
abbrev AimsWhole : ℕ → Instr → Type 0
AimsWhole x (instr.Branch o rs1 rs2 off) = target x off % 4 ≡ 0
AimsWhole x _ = Unit {0}

whole_word : (c : Calls) (f : Func) (next : Option ℕ) (far : ℕ → Bool) (x w : ℕ) (i : Instr) → x % 4 ≡ 0 → AimsWhole x i → Wholes (rendered c f next far x w i)
whole_word c f next far x w (instr.Branch o rs1 rs2 off) a b = whole_branch f next far x o rs1 rs2 (target x off) (x + 4) b (omega (arith, a))
whole_word c f next far x w (instr.Auipc rd imm) a b = by_test (rd == 0)
  where
    by_test : (t : Bool) → Wholes (if t then start x (Same w) ∷ [] else start x (High rd (made_by x imm)) ∷ mid x (Low rd (made_by x imm)) ∷ [])
    by_test true = (tt, tt)
    by_test false = (tt, (tt, tt))
whole_word c f next far x w (instr.Alu op rd rs1 rs2) a b = (tt, tt)
whole_word c f next far x w i a b = (tt, tt)

-- a block whose words and whose end are whole
abbrev AreWhole : List Word → Type 0
AreWhole [] = Unit {0}
AreWhole (w ∷ ws) = (w.at % 4 ≡ 0) × AimsWhole w.at w.instr × AreWhole ws

record IsWhole (r : Run) : Type 0 where
  words : AreWhole r.words
  end : r.to % 4 ≡ 0

abbrev EachWhole : List Run → Type 0
EachWhole [] = Unit {0}
EachWhole (r ∷ rs) = IsWhole r × EachWhole rs

whole_words : (c : Calls) (f : Func) (far : ℕ → ℕ → Bool) (next : Option ℕ) (ws : List Word) → AreWhole ws → Wholes (flat_map (word_entries c f far next) ws)
whole_words c f far next [] h = tt
whole_words c f far next (w ∷ ws) h =
    whole_append (word_entries c f far next w) (flat_map (word_entries c f far next) ws) (whole_word c f next (far w.at) w.at w.word w.instr h.0 h.1) (whole_words c f far next ws h.2)

whole_fall : (f : Func) (next : Option ℕ) (r : Run) → r.to % 4 ≡ 0 → Wholes (fall f next r)
whole_fall f next r e = by_test (r.falls && not (is_next next r.to))
  where
    by_test : (b : Bool) → Wholes (if b then hop f r.to ∷ [] else [])
    by_test true = (e, tt)
    by_test false = tt

whole_run : (c : Calls) (f : Func) (far : ℕ → ℕ → Bool) (next : Option ℕ) (r : Run) → IsWhole r → Wholes (run_entries c f far next r)
unfolding run_entries
whole_run c f far next r h = whole_append (flat_map (word_entries c f far next) r.words) (fall f next r) (whole_words c f far next r.words h.words) (whole_fall f next r h.end)

whole_runs : (c : Calls) (f : Func) (far : ℕ → ℕ → Bool) (rs : List Run) → EachWhole rs → Wholes (runs_entries c f far rs)
whole_runs c f far [] h = tt
whole_runs c f far (r ∷ rs) h = whole_append (run_entries c f far (first_from rs) r) (runs_entries c f far rs) (whole_run c f far (first_from rs) r h.0) (whole_runs c f far rs h.1)

abbrev AllMoving : List Moving → Type 0
AllMoving [] = Unit {0}
AllMoving (m ∷ ms) = EachWhole m.runs × AllMoving ms

whole_all : (c : Calls) (ms : List Moving) → AllMoving ms → Wholes (emitted c ms)
unfolding function_entries
whole_all c [] h = tt
whole_all c (m ∷ ms) h = whole_append (function_of c m) (emitted c ms) (whole_runs c m.func (is_far c m.func m.runs) m.runs h.0) (whole_all c ms h.1)

-- ---- the blocks of an image's functions
module _ (p : Picture) (f : Func) (rs : List Run) where
  aims_whole : (a : ℕ) (w : Word) → found.IsWord p.texts f rs a w → (w.at % 4 ≡ 0) × AimsWhole w.at w.instr
  aims_whole a w s = (ap (λ n. n % 4) s.at ∙ s.whole, subst (λ n. AimsWhole n w.instr) (sym s.at) (by_instr w.instr s.aims))
    where
      by_instr : (i : Instr) → found.Aims p.texts f rs a i → AimsWhole a i
      by_instr (instr.Branch o rs1 rs2 off) h = h.1
      by_instr (instr.Alu op rd rs1 rs2) h = tt
      by_instr i h = tt

  run_whole : (a : ℕ) (ws : List Word) (b : ℕ) (falls : Bool) → found.IsRun p.texts f rs a ws b falls → AreWhole ws × (b % 4 ≡ 0)
  run_whole a [] b falls r = absurd r
  run_whole a (w ∷ []) b falls r =
      let one = aims_whole a w r.0 in
      let at = r.0.whole in
      let to = r.1 in
      ((one.0, one.1, tt), omega (arith, at, to))
  run_whole a (w ∷ v ∷ ws) b falls r =
      let one = aims_whole a w r.0 in
      let rest = run_whole (a + 4) (v ∷ ws) b falls r.3 in
      ((one.0, one.1, rest.0), rest.1)

  runs_whole : (a : ℕ) (qs : List Run) (b : ℕ) → found.AreRuns p.texts f rs a qs b → EachWhole qs
  runs_whole a [] b r = tt
  runs_whole a (q ∷ qs) b r =
      let one = run_whole q.from q.words q.to q.falls r.1 in
      (record { words = one.0; end = one.1 }, runs_whole q.to qs b r.3)

whole_at : (rs : List Run) (k : ℕ) (r : Run) → EachWhole rs → slice_get rs k ≡ Some r → IsWhole r
whole_at [] k r h e = absurd (cc)
whole_at (q ∷ qs) zero r h e = subst IsWhole same h.0
  where
    same : q ≡ r
    same = cc
whole_at (q ∷ qs) (suc k) r h e = whole_at qs k r h.1 e

ordered_whole : (rs : List Run) (order : List ℕ) → EachWhole rs → EachWhole (in_order rs order)
ordered_whole rs [] h = tt
ordered_whole rs (k ∷ order) h = by_run (slice_get rs k) (λ r e. whole_at rs k r h e) (ordered_whole rs order h)
  where
    by_run : (o : Option Run) → ((r : Run) → o ≡ Some r → IsWhole r) → EachWhole (in_order rs order) → EachWhole (cons_option o (in_order rs order))
    by_run None g t = t
    by_run (Some r) g t = (g r refl, t)

parts_whole : (p : Picture) (ms : List Moved) → IsKept p → AreReady p ms → AllMoving (map (moving p) ms)
parts_whole p [] kept r = tt
parts_whole p (m ∷ ms) kept r =
    let s = sound p m.func r.0.func kept r.0.there r.0.clean in
    (ordered_whole (runs_of p m.func) m.order (runs_whole p r.0.func (runs_of p m.func) r.0.func.from (runs_of p m.func) r.0.func.to s.words), parts_whole p ms kept r.1)

points_whole : (es : List Entry) → Wholes es → All GoesToWord (map point_of es)
points_whole [] h = All-nil GoesToWord
points_whole (e ∷ es) h = All-cons GoesToWord e.point (map point_of es) h.0 (points_whole es h.1)

-- an emitted layout's Hops go to whole words
pub hops_whole : (p : Picture) (plan : List Moved) (l : Laid) → IsKept p → plan_fault p plan ≡ None → plan_unreadable p plan ≡ None → IsEmitted p plan l.base l → All GoesToWord l.points
hops_whole p plan l kept fault clean made =
    let r = ready p plan (planned p plan fault) clean in
    subst (All GoesToWord) (sym made.points)
    (points_whole (entries_of p plan) (subst Wholes (sym (entries_are p plan r)) (whole_all (calls_of p plan) (map (moving p) plan) (parts_whole p plan kept r))))
