-- The parts of a plan, one after another.
use Rattle.std.proofs.Common.{◌≡◌, ℕ, ◌+◌, ◌^◌, ◌<◌, ◌≤◌, List, [], ◌∷◌, ◌++◌, map, length, get_or, drop, append_assoc, sym, ◌∙◌, ap, arith}
use Rattle.std.specs.Prelude.{Some, None, All, slice_get}
use Rattle.std.specs.List.{flat_map}
use Rattle.std.specs.Option.{option_map}
use Rattle.std.proofs.lemmas.List.{drop_more, drop_all}
use Rattle.std.proofs.lemmas.List.Elements.{All-nil, All-cons}
use Rattle.finite.specs.First.{first_of}
use Rattle.image.specs.declared.ranges.Func.{Func}
use Rattle.image.specs.Picture.{Picture, IsKept}
use Rattle.blocks.specs.declared.fault.Unreadable.{Unreadable}
use Rattle.blocks.specs.declared.word.Word.{Word}
use Rattle.blocks.specs.declared.run.Run.{Run}
use Rattle.blocks.specs.Faults.{fault_of}
use Rattle.blocks.specs.Blocks.{runs_of}
use Rattle.blocks.specs.Sound.{IsWord, IsRun, AreRuns}
use Rattle.blocks.proofs.Soundness.{sound}
use Rattle.plans.specs.declared.plan.Moved.{Moved}
use Rattle.plans.specs.Given.{block_count}
use Rattle.plans.specs.Orders.{IsOrder}
use Rattle.layout.proofs.TextWords.{text_high}
use Rattle.emit.specs.declared.entry.Entry.{Entry}
use Rattle.emit.specs.declared.fault.EmitFault.{EmitFault}
use Rattle.emit.specs.declared.fault.EmitFault.TheVariants as fault
use Rattle.emit.specs.Entries.{Calls, part_entries}
use Rattle.emit.specs.Emitted.{unreadable_as, part_fault, IsFault, plan_unreadable, ExplainsSize}

-- ---- words lie in the guest's space
abbrev pub IsLow : Word → Type 0
IsLow w = w.at + 4 < 2 ^ 64

word_low : (p : Picture) (f : Func) (all : List Run) (a : ℕ) (w : Word) → IsKept p → IsWord p.texts f all a w → IsLow w
word_low p f all a w k s =
    let at = s.at in
    let high = text_high p k a w.word s.is in
    omega (arith, at, high)

run_low : (p : Picture) (f : Func) (all : List Run) (a : ℕ) (ws : List Word) (b : ℕ) (falls : _) → IsKept p → IsRun p.texts f all a ws b falls → All IsLow ws
run_low p f all a [] b falls k r = absurd r
run_low p f all a (w ∷ []) b falls k r = All-cons IsLow w [] (word_low p f all a w k r.0) (All-nil IsLow)
run_low p f all a (w ∷ v ∷ ws) b falls k r = All-cons IsLow w (v ∷ ws) (word_low p f all a w k r.0) (run_low p f all (a + 4) (v ∷ ws) b falls k r.3)

runs_low : (p : Picture) (f : Func) (all : List Run) (a : ℕ) (rs : List Run) (b : ℕ) → IsKept p → AreRuns p.texts f all a rs b → All (λ r. All IsLow r.words) rs
runs_low p f all a [] b k r = All-nil (λ r. All IsLow r.words)
runs_low p f all a (x ∷ rs) b k r = All-cons (λ r. All IsLow r.words) x rs (run_low p f all x.from x.words x.to x.falls k r.1) (runs_low p f all x.to rs b k r.3)

pub words_low : (p : Picture) (n : ℕ) (f : Func) → IsKept p → slice_get p.funcs n ≡ Some f → fault_of p n ≡ None → All (λ r. All IsLow r.words) (runs_of p n)
words_low p n f k e h = runs_low p f (runs_of p n) f.from (runs_of p n) f.to k (sound p n f k e h).words

-- each number of an order is that of a block
pub order_below : (p : Picture) (m : Moved) → fault_of p m.func ≡ None → IsOrder (block_count p m) m.order → All (λ o. o < length (runs_of p m.func)) m.order
unfolding block_count
order_below p m e o = (rw e at o).below

-- ---- one part more
pub parts_more : (p : Picture) (c : Calls) (parts : List Moved) (i : ℕ) (m : Moved) (old new all : List Entry) → i < length parts → m ≡ get_or parts i m → new ≡ old ++ part_entries p c m
    → old ++ flat_map (part_entries p c) (drop i parts) ≡ all → new ++ flat_map (part_entries p c) (drop (i + 1) parts) ≡ all
parts_more p c parts i m old new all lt g n k =
    let d : drop i parts ≡ m ∷ drop (i + 1) parts = drop_more parts i m lt ∙ ap (λ x. x ∷ drop (i + 1) parts) (sym g) in
    rw n (append_assoc old _ _ ∙ sym (ap (λ l. old ++ flat_map (part_entries p c) l) d) ∙ k)

-- the fault of a plan is that of the parts that are left, while those before have none
pub fault_more : (p : Picture) (parts : List Moved) (i : ℕ) (m : Moved) → i < length parts → m ≡ get_or parts i m → fault_of p m.func ≡ None
    → plan_unreadable p parts ≡ plan_unreadable p (drop i parts) → plan_unreadable p parts ≡ plan_unreadable p (drop (i + 1) parts)
unfolding plan_unreadable
fault_more p parts i m lt g e k =
    let d : drop i parts ≡ m ∷ drop (i + 1) parts = drop_more parts i m lt ∙ ap (λ x. x ∷ drop (i + 1) parts) (sym g) in
    k ∙ ap (λ l. first_of (map (part_fault p) l)) d ∙ ap (λ o. first_of (option_map (unreadable_as m.func) o ∷ map (part_fault p) (drop (i + 1) parts))) e

pub fault_here : (p : Picture) (parts : List Moved) (i h : ℕ) (m : Moved) (why : Unreadable) → i < length parts → m ≡ get_or parts i m → h ≡ m.func → fault_of p m.func ≡ Some why
    → plan_unreadable p parts ≡ plan_unreadable p (drop i parts) → plan_unreadable p parts ≡ Some (fault.Unreadable h why)
unfolding plan_unreadable
fault_here p parts i h m why lt g s e k =
    let d : drop i parts ≡ m ∷ drop (i + 1) parts = drop_more parts i m lt ∙ ap (λ x. x ∷ drop (i + 1) parts) (sym g) in
    k ∙ ap (λ l. first_of (map (part_fault p) l)) d ∙ ap (λ o. first_of (option_map (unreadable_as m.func) o ∷ map (part_fault p) (drop (i + 1) parts))) e ∙ ap (λ n. Some (fault.Unreadable n why)) (sym s)

pub fault_explains : (p : Picture) (parts : List Moved) (i : ℕ) (m : Moved) (e : EmitFault) → i < length parts → m ≡ get_or parts i m → IsFault p m.func e
    → plan_unreadable p parts ≡ plan_unreadable p (drop i parts) → ExplainsSize p parts e
fault_explains p parts i m (fault.Unreadable h why) lt g s k = fault_here p parts i h m why lt g s.0 s.1 k
fault_explains p parts i m (fault.BranchReach at target) lt g s k = absurd s
fault_explains p parts i m fault.NoMemory lt g s k = tt

pub none_left : (p : Picture) (parts : List Moved) (i : ℕ) → length parts ≤ i → plan_unreadable p (drop i parts) ≡ None
unfolding plan_unreadable
none_left p parts i le = ap (λ l. first_of (map (part_fault p) l)) (drop_all i parts le)
