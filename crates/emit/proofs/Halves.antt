-- The second word for an AUIPC stands after the first, and nowhere else.
use Rattle.std.proofs.Common.{◌≡◌, ℕ, zero, suc, ◌+◌, ◌==◌, Bool, true, false, not, List, [], ◌∷◌, ◌++◌, get_or, refl, sym, ◌∙◌, subst, ap, arith}
use Rattle.std.specs.Prelude.{Option, Some, None, slice_get, ◌&&◌, if◌then◌else◌}
use Rattle.std.specs.List.{flat_map}
use Rattle.std.proofs.lemmas.Option.{slice_get_within, slice_get-get_or}
use Rattle.rv_isa.specs.declared.instr.Cond.{Cond}
use Rattle.rv_isa.specs.declared.instr.Instr.{Instr}
use Rattle.rv_isa.specs.declared.instr.Instr.TheVariants as instr
use Rattle.image.specs.declared.ranges.Func.{Func}
use Rattle.image.specs.Targets.{target, made_by}
use Rattle.blocks.specs.declared.word.Word.{Word}
use Rattle.blocks.specs.declared.run.Run.{Run}
use Rattle.layout.specs.declared.point.Point.{Point}
use Rattle.layout.specs.declared.point.Point.TheVariants.{Start, Hop, Mid}
use Rattle.emit.specs.declared.entry.Made.TheVariants.{Same, High, Low}
use Rattle.emit.specs.declared.entry.Entry.{Entry}
use Rattle.emit.specs.Entries.{Calls, start, mid, hop, is_next, branch_of, rendered, word_entries, fall, run_entries, first_from, runs_entries, is_far, function_entries}
use Rattle.emit.proofs.Branches.{branch_cases}
use Rattle.emit.proofs.Leading.{Moving, function_of, emitted}

-- what stands before a word of this point, if it is a second one
abbrev pub IsHalf : Option Entry → Point → Type 0
IsHalf before (Start x) = Unit {0}
IsHalf before (Hop x) = Unit {0}
IsHalf before (Mid x) = (rd : ℕ) × (v : ℕ) × (before ≡ Some (start x (High rd v)))

abbrev pub Halves : Option Entry → List Entry → Type 0
Halves before [] = Unit {0}
Halves before (e ∷ es) = IsHalf before e.point × Halves (Some e) es

half_append : (xs ys : List Entry) (q : Option Entry) → Halves q xs → ((r : Option Entry) → Halves r ys) → Halves q (xs ++ ys)
half_append [] ys q h g = g q
half_append (x ∷ xs) ys q h g = (h.0, half_append xs ys (Some x) h.1 g)

half_branch : (f : Func) (next : Option ℕ) (far : ℕ → Bool) (x : ℕ) (o : Cond) (rs1 rs2 t y : ℕ) (q : Option Entry) → Halves q (branch_of f next far x o rs1 rs2 t y)
half_branch f next far x o rs1 rs2 t y q =
    branch_cases (Halves q) f next far x o rs1 rs2 t y (λ e. (tt, (tt, tt))) (λ e g. (tt, tt)) (λ e. (tt, (tt, tt))) (λ e g. (tt, tt)) (tt, (tt, (tt, tt))) (λ g. (tt, (tt, tt)))

half_word : (c : Calls) (f : Func) (next : Option ℕ) (far : ℕ → Bool) (x w : ℕ) (i : Instr) (q : Option Entry) → Halves q (rendered c f next far x w i)
half_word c f next far x w (instr.Branch o rs1 rs2 off) q = half_branch f next far x o rs1 rs2 (target x off) (x + 4) q
half_word c f next far x w (instr.Auipc rd imm) q = by_test (rd == 0)
  where
    by_test : (b : Bool) → Halves q (if b then start x (Same w) ∷ [] else start x (High rd (made_by x imm)) ∷ mid x (Low rd (made_by x imm)) ∷ [])
    by_test true = (tt, tt)
    by_test false = (tt, ((rd, made_by x imm, refl), tt))
half_word c f next far x w (instr.Alu op rd rs1 rs2) q = (tt, tt)
half_word c f next far x w i q = (tt, tt)

half_words : (c : Calls) (f : Func) (far : ℕ → ℕ → Bool) (next : Option ℕ) (ws : List Word) (q : Option Entry) → Halves q (flat_map (word_entries c f far next) ws)
half_words c f far next [] q = tt
half_words c f far next (w ∷ ws) q =
    half_append (word_entries c f far next w) (flat_map (word_entries c f far next) ws) q (half_word c f next (far w.at) w.at w.word w.instr q) (half_words c f far next ws)

half_fall : (f : Func) (next : Option ℕ) (r : Run) (q : Option Entry) → Halves q (fall f next r)
half_fall f next r q = by_test (r.falls && not (is_next next r.to))
  where
    by_test : (b : Bool) → Halves q (if b then hop f r.to ∷ [] else [])
    by_test true = (tt, tt)
    by_test false = tt

half_run : (c : Calls) (f : Func) (far : ℕ → ℕ → Bool) (next : Option ℕ) (r : Run) (q : Option Entry) → Halves q (run_entries c f far next r)
unfolding run_entries
half_run c f far next r q = half_append (flat_map (word_entries c f far next) r.words) (fall f next r) q (half_words c f far next r.words q) (half_fall f next r)

half_runs : (c : Calls) (f : Func) (far : ℕ → ℕ → Bool) (rs : List Run) (q : Option Entry) → Halves q (runs_entries c f far rs)
half_runs c f far [] q = tt
half_runs c f far (r ∷ rs) q = half_append (run_entries c f far (first_from rs) r) (runs_entries c f far rs) q (half_run c f far (first_from rs) r q) (half_runs c f far rs)

pub all_halves : (c : Calls) (ms : List Moving) (q : Option Entry) → Halves q (emitted c ms)
unfolding function_entries
all_halves c [] q = tt
all_halves c (m ∷ ms) q = half_append (function_of c m) (emitted c ms) q (half_runs c m.func (is_far c m.func m.runs) m.runs q) (all_halves c ms)

-- what stands before place k, where q stands before the list
abbrev previous : Option Entry → List Entry → ℕ → Option Entry
previous q es zero = q
previous q [] (suc k) = None
previous q (e ∷ es) (suc k) = previous (Some e) es k

half_before : (es : List Entry) (q : Option Entry) (k x : ℕ) (e : Entry) → Halves q es → slice_get es k ≡ Some e → e.point ≡ Mid x → IsHalf (previous q es k) (Mid x)
half_before [] q k x e h s p = absurd (cc)
half_before (d ∷ es) q zero x e h s p = subst (IsHalf q) (ap (λ y. y.point) same ∙ p) h.0
  where
    same : d ≡ e
    same = cc
half_before (d ∷ es) q (suc k) x e h s p = half_before es (Some d) k x e h.1 s p

previous_is : (es : List Entry) (q : Option Entry) (j : ℕ) (d : Entry) → slice_get es j ≡ Some d → previous q es (suc j) ≡ Some d
previous_is [] q j d s = absurd (cc)
previous_is (e ∷ es) q zero d s = s
previous_is (e ∷ es) q (suc j) d s = previous_is es (Some e) j d s

-- a second word has a first before it
pub first_half : (es : List Entry) (k x : ℕ) (e : Entry) → Halves None es → slice_get es k ≡ Some e → e.point ≡ Mid x
    → (j : ℕ) × (rd : ℕ) × (v : ℕ) × (k ≡ suc j) × (slice_get es j ≡ Some (start x (High rd v)))
first_half es zero x e h s p = let t = half_before es None zero x e h s p in none_some t.2
  where
    none_some : {A : Type 0} {d : Entry} → None ≡ Some d → A
    none_some e = absurd (cc)
first_half es (suc j) x e h s p =
    let t = half_before es None (suc j) x e h s p in
    let lt = slice_get_within es (suc j) e s in
    let d = slice_get-get_or es j e (omega (arith, lt)) in
    (j, t.0, t.1, refl, d ∙ sym (previous_is es None j (get_or es j e) d) ∙ t.2)
