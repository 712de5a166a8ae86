-- Blocks and functions of a layout that isn't placed: each word renders the word that it stands for.
use Rattle.std.proofs.Common.{◌≡◌, ◌≢◌, ℕ, ◌+◌, ◌==◌, Bool, true, false, not, List, [], ◌∷◌, ◌++◌, append_assoc, refl, sym, ◌∙◌, subst}
use Rattle.std.specs.Prelude.{Option, ◌&&◌, if◌then◌else◌}
use Rattle.std.specs.List.{flat_map}
use Rattle.std.proofs.lemmas.Bool.{eqb-true}
use Rattle.rv_isa.specs.declared.instr.Instr.{Instr}
use Rattle.rv_isa.specs.declared.instr.Instr.TheVariants as instr
use Rattle.layout.specs.declared.point.Point.TheVariants.{Start}
use Rattle.image.specs.declared.ranges.Func.{Func}
use Rattle.image.specs.Targets.{target, made_by}
use Rattle.emit.specs.declared.entry.Made.TheVariants.{Same, High, Low}
use Rattle.emit.specs.declared.entry.Entry.{Entry}
use Rattle.blocks.specs.declared.word.Word.{Word}
use Rattle.blocks.specs.declared.run.Run.{Run}
use Rattle.emit.proofs.Branches.{branch_cases}
use Rattle.emit.proofs.Leading.{Leads, IsWord, IsRun, IsBlock, AllBlocks}
use Rattle.emit.specs.Entries.{Calls, start, mid, hop, is_next, rendered, word_entries, fall, run_entries, first_from, runs_entries}
use Rattle.blocks.specs.Words.{falls_of}
use Rattle.emit.proofs.EntryRows.{Ahead, Rows, rows_append, NextIs, hop_row, Continues, word_rows}

-- the words of an instruction begin with its Start
pub rendered_first : (c : Calls) (f : Func) (next : Option ℕ) (far : ℕ → Bool) (x w : ℕ) (i : Instr) (more : List Entry)
    → (e : Entry) × (es : List Entry) × (rendered c f next far x w i ++ more ≡ e ∷ es) × (e.point ≡ Start x)
rendered_first c f next far x w (instr.Branch o rs1 rs2 off) more =
    branch_cases (λ es. (e : Entry) × (rest : List Entry) × (es ++ more ≡ e ∷ rest) × (e.point ≡ Start x)) f next far x o rs1 rs2 (target x off) (x + 4)
    (λ e. (_, _, refl, refl)) (λ e g. (_, _, refl, refl)) (λ e. (_, _, refl, refl)) (λ e g. (_, _, refl, refl)) (_, _, refl, refl) (λ g. (_, _, refl, refl))
rendered_first c f next far x w (instr.Auipc rd imm) more = by_test (rd == 0)
  where
    by_test : (b : Bool) → (e : Entry) × (es : List Entry) × ((if b then start x (Same w) ∷ [] else start x (High rd (made_by x imm)) ∷ mid x (Low rd (made_by x imm)) ∷ []) ++ more ≡ e ∷ es) × (e.point ≡ Start x)
    by_test true = (_, _, refl, refl)
    by_test false = (_, _, refl, refl)
rendered_first c f next far x w (instr.Alu op rd rs1 rs2) more = (_, _, refl, refl)
rendered_first c f next far x w i more = (_, _, refl, refl)

ahead_first : (e : Entry) (es xs : List Entry) (x : ℕ) → xs ≡ e ∷ es → e.point ≡ Start x → Ahead xs x
ahead_first e es xs x p q = rw (p, q) refl

pub begins : (c : Calls) (f : Func) (next : Option ℕ) (far : ℕ → Bool) (x w : ℕ) (i : Instr) (more : List Entry) → Ahead (rendered c f next far x w i ++ more) x
begins c f next far x w i more = let r = rendered_first c f next far x w i more in ahead_first r.0 r.1 _ x r.2 r.3

module _ (text second : ℕ → Option ℕ) (known outside : ℕ → Type 0) (c : Calls) (f : Func) (far : ℕ → ℕ → Bool) where
  not_zero : (rd : ℕ) → rd ≢ 0 → not (rd == 0) ≡ true
  not_zero rd n = by_test (rd == 0) (λ e. eqb-true rd 0 e)
    where
      by_test : (b : Bool) → (b ≡ true → rd ≡ 0) → not b ≡ true
      by_test true h = absurd (n (h refl))
      by_test false h = refl

  continues : (next : Option ℕ) (rest : List Entry) (x : ℕ) (i : Instr) → (falls_of i ≡ true → Ahead rest (x + 4)) → (falls_of i ≡ false → NextIs text second known outside rest next)
      → Continues text second known outside rest next x i
  continues next rest x (instr.Branch o rs1 rs2 off) h k = k refl
  continues next rest x (instr.Jal rd off) h k = λ n. h (not_zero rd n)
  continues next rest x (instr.Jalr rd rs off) h k = λ n. h (not_zero rd n)
  continues next rest x (instr.Alu op rd rs1 rs2) h k = h refl
  continues next rest x i h k = h refl

  one_word : (next : Option ℕ) (a : ℕ) (w : Word) (rest : List Entry) → IsWord text second known outside c f a w → (falls_of w.instr ≡ true → Ahead rest (a + 4))
      → (falls_of w.instr ≡ false → NextIs text second known outside rest next) → Rows text second known outside (word_entries c f far next w) rest
  one_word next a w rest s h k =
      rw s.at (word_rows text second known outside c f next (far a) a w.word w.instr rest s.is s.reads s.aims (continues next rest a w.instr h k))

  first_word : (next : Option ℕ) (a : ℕ) (w : Word) (more : List Entry) → IsWord text second known outside c f a w → Ahead (word_entries c f far next w ++ more) a
  first_word next a w more s = subst (λ (n : ℕ). Ahead (word_entries c f far next w ++ more) n) s.at (begins c f next (far w.at) w.at w.word w.instr more)

  run_first : (next : Option ℕ) (a : ℕ) (ws : List Word) (b : ℕ) (falls : Bool) (more : List Entry) → IsRun text second known outside c f a ws b falls
      → Ahead (flat_map (word_entries c f far next) ws ++ more) a
  run_first next a [] b falls more r = absurd r
  run_first next a (w ∷ []) b falls more r = rw (append_assoc (word_entries c f far next w) [] more) (first_word next a w more r.0)
  run_first next a (w ∷ v ∷ ws) b falls more r =
      rw (append_assoc (word_entries c f far next w) (flat_map (word_entries c f far next) (v ∷ ws)) more) (first_word next a w _ r.0)

  body_rows : (next : Option ℕ) (a : ℕ) (ws : List Word) (b : ℕ) (falls : Bool) (rest : List Entry) → IsRun text second known outside c f a ws b falls
      → (falls ≡ true → Ahead rest b) → (falls ≡ false → NextIs text second known outside rest next) → Rows text second known outside (flat_map (word_entries c f far next) ws) rest
  body_rows next a [] b falls rest r h k = absurd r
  body_rows next a (w ∷ []) b falls rest r h k =
      rows_append text second known outside (word_entries c f far next w) [] rest
      (one_word next a w rest r.0 (λ e. rw r.1 (h (sym r.2 ∙ e))) (λ e. k (sym r.2 ∙ e))) tt
  body_rows next a (w ∷ v ∷ ws) b falls rest r h k =
      rows_append text second known outside (word_entries c f far next w) (flat_map (word_entries c f far next) (v ∷ ws)) rest
      (one_word next a w _ r.0 (λ e. run_first next (a + 4) (v ∷ ws) b falls rest r.2) (λ e. absurd (true_false (sym r.1 ∙ e))))
      (body_rows next (a + 4) (v ∷ ws) b falls rest r.2 h k)
    where
      true_false : true ≡ false → ⊥
      true_false e = cc

  fall_ahead : (next : Option ℕ) (r : Run) (rest : List Entry) → NextIs text second known outside rest next → r.falls ≡ true → Ahead (fall f next r ++ rest) r.to
  fall_ahead next r rest n e = by_test r.falls (is_next next r.to) e (n r.to)
    where
      by_test : (b m : Bool) → b ≡ true → (m ≡ true → Ahead rest r.to) → Ahead ((if b && not m then hop f r.to ∷ [] else []) ++ rest) r.to
      by_test true true e k = k refl
      by_test true false e k = refl
      by_test false m e k = absurd (cc)

  fall_next : (next : Option ℕ) (r : Run) (rest : List Entry) → NextIs text second known outside rest next → r.falls ≡ false → NextIs text second known outside (fall f next r ++ rest) next
  fall_next next r rest n e = by_test r.falls (is_next next r.to) e
    where
      by_test : (b m : Bool) → b ≡ false → NextIs text second known outside ((if b && not m then hop f r.to ∷ [] else []) ++ rest) next
      by_test true m e = absurd (cc)
      by_test false m e = n

  fall_rows : (next : Option ℕ) (r : Run) (rest : List Entry) → (r.falls ≡ true → Leads known outside f r.to) → Rows text second known outside (fall f next r) rest
  fall_rows next r rest l = by_test r.falls (is_next next r.to) l
    where
      by_test : (b m : Bool) → (b ≡ true → Leads known outside f r.to) → Rows text second known outside (if b && not m then hop f r.to ∷ [] else []) rest
      by_test true true k = tt
      by_test true false k = (hop_row text second known outside f r.to rest (k refl), tt)
      by_test false m k = tt

  run_rows : (next : Option ℕ) (r : Run) (rest : List Entry) → IsBlock text second known outside c f r → NextIs text second known outside rest next → Rows text second known outside (run_entries c f far next r) rest
  unfolding run_entries
  run_rows next r rest b n =
      rows_append text second known outside (flat_map (word_entries c f far next) r.words) (fall f next r) rest
      (body_rows next r.from r.words r.to r.falls (fall f next r ++ rest) b.words (fall_ahead next r rest n) (fall_next next r rest n))
      (fall_rows next r rest b.leads)

  run_ahead : (next : Option ℕ) (r : Run) (rest : List Entry) → IsBlock text second known outside c f r → Ahead (run_entries c f far next r ++ rest) r.from
  unfolding run_entries
  run_ahead next r rest b =
      rw (append_assoc (flat_map (word_entries c f far next) r.words) (fall f next r) rest) (run_first next r.from r.words r.to r.falls (fall f next r ++ rest) b.words)

  next_is : (rs : List Run) (rest : List Entry) → AllBlocks text second known outside c f rs → NextIs text second known outside (runs_entries c f far rs ++ rest) (first_from rs)
  next_is [] rest b = λ y e. absurd (cc)
  next_is (r ∷ rs) rest b = λ y e.
      subst (λ (n : ℕ). Ahead ((run_entries c f far (first_from rs) r ++ runs_entries c f far rs) ++ rest) n) (eqb-true r.from y e)
      (rw (append_assoc (run_entries c f far (first_from rs) r) (runs_entries c f far rs) rest) (run_ahead (first_from rs) r (runs_entries c f far rs ++ rest) b.0))

  pub runs_rows : (rs : List Run) (rest : List Entry) → AllBlocks text second known outside c f rs → Rows text second known outside (runs_entries c f far rs) rest
  runs_rows [] rest b = tt
  runs_rows (r ∷ rs) rest b =
      rows_append text second known outside (run_entries c f far (first_from rs) r) (runs_entries c f far rs) rest
      (run_rows (first_from rs) r (runs_entries c f far rs ++ rest) b.0 (next_is rs rest b.1)) (runs_rows rs rest b.1)
