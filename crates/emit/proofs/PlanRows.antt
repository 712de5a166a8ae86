-- A plan's layout renders the original program, at each base in reach.
use Rattle.std.proofs.Common.{◌≡◌, ℕ, Bool, List, [], ◌∷◌, ◌++◌, sym, ◌∙◌, subst, inl, inr}
use Rattle.std.specs.Prelude.{Option}
use Rattle.std.specs.List.{flat_map}
use Rattle.std.proofs.lemmas.List.{append-nil}
use Rattle.rv_isa.specs.declared.instr.Instr.{Instr}
use Rattle.layout.specs.declared.point.Point.TheVariants.{Start}
use Rattle.image.specs.declared.ranges.Func.{Func}
use Rattle.emit.specs.declared.entry.Entry.{Entry}
use Rattle.blocks.specs.declared.word.Word.{Word}
use Rattle.blocks.specs.declared.run.Run.{Run}
use Rattle.blocks.specs.Sound.{Begins}
use Rattle.emit.specs.Entries.{Calls, rendered, word_entries, fall, run_entries, first_from, runs_entries, is_far, function_entries}
use Rattle.emit.proofs.Leading.{Moving, function_of, emitted, IsRun, IsBlock, AllBlocks, AllFunctions, StartsIn}
use Rattle.emit.proofs.EntryRows.{Rows, rows_append}
use Rattle.emit.proofs.RunRows.{rendered_first, runs_rows}
use Rattle.emit.proofs.Places.{Occurs, occurs_left, occurs_right}

first_occurs : (xs : List Entry) (e : Entry) (es : List Entry) (x : ℕ) → xs ≡ e ∷ es → e.point ≡ Start x → Occurs x xs
first_occurs xs e es x p q = rw p (inl q)

rendered_occurs : (c : Calls) (f : Func) (next : Option ℕ) (far : ℕ → Bool) (x w : ℕ) (i : Instr) → Occurs x (rendered c f next far x w i)
rendered_occurs c f next far x w i =
    let r = rendered_first c f next far x w i [] in
    first_occurs (rendered c f next far x w i) r.0 r.1 x (sym (append-nil (rendered c f next far x w i)) ∙ r.2) r.3

module _ (text second : ℕ → Option ℕ) (known outside : ℕ → Type 0) (c : Calls) where
  words_occur : (f : Func) (far : ℕ → ℕ → Bool) (next : Option ℕ) (a : ℕ) (ws : List Word) (b : ℕ) (falls : Bool) → IsRun text second known outside c f a ws b falls
      → Occurs a (flat_map (word_entries c f far next) ws)
  words_occur f far next a [] b falls r = absurd r
  words_occur f far next a (w ∷ []) b falls r =
      occurs_left a (word_entries c f far next w) [] (subst (λ (n : ℕ). Occurs n (word_entries c f far next w)) r.0.at (rendered_occurs c f next (far w.at) w.at w.word w.instr))
  words_occur f far next a (w ∷ v ∷ ws) b falls r =
      occurs_left a (word_entries c f far next w) (flat_map (word_entries c f far next) (v ∷ ws))
      (subst (λ (n : ℕ). Occurs n (word_entries c f far next w)) r.0.at (rendered_occurs c f next (far w.at) w.at w.word w.instr))

  run_occurs : (f : Func) (far : ℕ → ℕ → Bool) (next : Option ℕ) (r : Run) → IsBlock text second known outside c f r → Occurs r.from (run_entries c f far next r)
  unfolding run_entries
  run_occurs f far next r b =
      occurs_left r.from (flat_map (word_entries c f far next) r.words) (fall f next r) (words_occur f far next r.from r.words r.to r.falls b.words)

  pub runs_occur : (f : Func) (far : ℕ → ℕ → Bool) (rs : List Run) (y : ℕ) → AllBlocks text second known outside c f rs → Begins rs y → Occurs y (runs_entries c f far rs)
  runs_occur f far [] y b o = absurd o
  runs_occur f far (r ∷ rs) y b (inl p) =
      occurs_left y (run_entries c f far (first_from rs) r) (runs_entries c f far rs)
      (subst (λ (n : ℕ). Occurs n (run_entries c f far (first_from rs) r)) p (run_occurs f far (first_from rs) r b.0))
  runs_occur f far (r ∷ rs) y b (inr p) =
      occurs_right y (run_entries c f far (first_from rs) r) (runs_entries c f far rs) (runs_occur f far rs y b.1 p)

  pub starts_occur : (ms : List Moving) (y : ℕ) → AllFunctions text second known outside c ms → StartsIn ms y → Occurs y (emitted c ms)
  unfolding function_entries
  starts_occur [] y a s = absurd s
  starts_occur (m ∷ ms) y a (inl p) = occurs_left y (function_of c m) (emitted c ms) (runs_occur m.func (is_far c m.func m.runs) m.runs y a.0 p)
  starts_occur (m ∷ ms) y a (inr p) = occurs_right y (function_of c m) (emitted c ms) (starts_occur ms y a.1 p)

  pub plan_rows : (ms : List Moving) (rest : List Entry) → AllFunctions text second known outside c ms → Rows text second known outside (emitted c ms) rest
  unfolding function_entries
  plan_rows [] rest a = tt
  plan_rows (m ∷ ms) rest a =
      rows_append text second known outside (function_of c m) (emitted c ms) rest
      (runs_rows text second known outside c m.func (is_far c m.func m.runs) m.runs (emitted c ms ++ rest) a.0) (plan_rows ms rest a.1)
