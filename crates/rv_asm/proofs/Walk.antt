-- One statement more.
use Rattle.std.proofs.Common.{◌≡◌, ℕ, ◌+◌, ◌<◌, ◌≤◌, List, [], ◌∷◌, ◌++◌, length, drop, get_or, Bool, true, false, cond, Option, Some, None, refl, ap, sym, ◌∙◌, arith, append_assoc}
use Rattle.std.proofs.lemmas.Bool.Decides.{nat_tests}
use Rattle.std.proofs.lemmas.List.{at_drop_more, at_drop_all}
use Rattle.asm_text.specs.declared.statement.Statement.{Statement}
use Rattle.rv_asm.specs.declared.fault.LineFault.{LineFault}
use Rattle.rv_asm.specs.declared.meaning.Meaning.{Meaning}
use Rattle.rv_asm.specs.declared.meaning.Meaning.TheVariants.{Label}
use Rattle.rv_asm.specs.declared.state.State.{State}
use Rattle.rv_asm.specs.Order.{is_early, rank, earlier, first_of_two, first_fault}
use Rattle.rv_asm.specs.State.{step, collect, after}
use Rattle.rv_asm.specs.Names.{add, again, names_after, names_from, name_faults, name_faults_from, add_labels, labels_again}
use Rattle.rv_asm.specs.declared.code.Code.{Code}
use Rattle.rv_asm.specs.declared.symbol.Named.{Named}
use Rattle.rv_asm.specs.declared.symbol.Fixup.{Fixup}
use Rattle.rv_asm.specs.Emission.{code, bytes, func, object, fixup, entry}
use Rattle.rv_asm.specs.Faults.{faults, faults_from, end_faults}

-- no later than, over lines and ranks: it passes on, and so does its opposite
early_on : (l r m s n t : ℕ) → is_early l r m s ≡ true → is_early m s n t ≡ true → is_early l r n t ≡ true
early_on l r m s n t e h = grind (arith, nat_tests, e, h)

late_on : (l r m s n t : ℕ) → is_early l r m s ≡ false → is_early m s n t ≡ false → is_early l r n t ≡ false
late_on l r m s n t e h = grind (arith, nat_tests, e, h)

module _ (p : LineFault → LineFault → Bool) (on : (f g h : LineFault) → p f g ≡ true → p g h ≡ true → p f h ≡ true) (off : (f g h : LineFault) → p f g ≡ false → p g h ≡ false → p f h ≡ false) where
  pick_assoc : (f g h : LineFault) (a b : Bool) → p f g ≡ a → p g h ≡ b → cond (p (cond a f g) h) (cond a f g) h ≡ cond (p f (cond b g h)) f (cond b g h)
  pick_assoc f g h true true e k = rw (on f g h e k) (rw e refl)
  pick_assoc f g h true false e k = refl
  pick_assoc f g h false true e k = rw k (rw e refl)
  pick_assoc f g h false false e k = rw (off f g h e k) (rw k refl)

  assoc : (f g h : LineFault) → cond (p (cond (p f g) f g) h) (cond (p f g) f g) h ≡ cond (p f (cond (p g h) g h)) f (cond (p g h) g h)
  assoc f g h = pick_assoc f g h (p f g) (p g h) refl refl

earlier_assoc : (f g h : LineFault) → earlier (earlier f g) h ≡ earlier f (earlier g h)
earlier_assoc = assoc (λ f g. is_early f.line (rank f.kind) g.line (rank g.kind)) (λ f g h. early_on f.line (rank f.kind) g.line (rank g.kind) h.line (rank h.kind)) (λ f g h. late_on f.line (rank f.kind) g.line (rank g.kind) h.line (rank h.kind))

first_of_two_assoc : (a b c : Option LineFault) → first_of_two (first_of_two a b) c ≡ first_of_two a (first_of_two b c)
first_of_two_assoc None b c = refl
first_of_two_assoc (Some x) None c = refl
first_of_two_assoc (Some x) (Some y) None = refl
first_of_two_assoc (Some x) (Some y) (Some z) = ap (λ f. Some f) (earlier_assoc x y z)

pub first_fault_append : (xs ys : List LineFault) → first_fault (xs ++ ys) ≡ first_of_two (first_fault xs) (first_fault ys)
first_fault_append [] ys = refl
first_fault_append (x ∷ xs) ys = ap (first_of_two (Some x)) (first_fault_append xs ys) ∙ sym (first_of_two_assoc (Some x) (first_fault xs) (first_fault ys))

-- the first fault so far, and of two lists that follow
pub first_fault_more : (w : Option LineFault) (xs ys : List LineFault) → first_of_two w (first_fault (xs ++ ys)) ≡ first_of_two (first_of_two w (first_fault xs)) (first_fault ys)
first_fault_more w xs ys = ap (first_of_two w) (first_fault_append xs ys) ∙ sym (first_of_two_assoc w (first_fault xs) (first_fault ys))

pub names_step : (xs : List Statement) (i : ℕ) (names : List (List ℕ × Meaning)) (s : State) (x : Statement) → i < length xs → x ≡ get_or xs i x → names_from names s (drop i xs) ≡ names_from (names_after names s x) (step s x) (drop (i + 1) xs)
names_step xs i names s x lt is = at_drop_more (names_from names s) xs i x lt ∙ ap (λ y. names_from (names_after names s y) (step s y) (drop (i + 1) xs)) (sym is)

pub names_done : (xs : List Statement) (i : ℕ) (names : List (List ℕ × Meaning)) (s : State) → length xs ≤ i → names_from names s (drop i xs) ≡ names
names_done xs i names s le = at_drop_all (names_from names s) xs i le

pub name_faults_step : (xs : List Statement) (i : ℕ) (names : List (List ℕ × Meaning)) (s : State) (x : Statement) (w : Option LineFault) → i < length xs → x ≡ get_or xs i x → first_of_two w (first_fault (name_faults_from names s (drop i xs))) ≡ first_of_two (first_of_two w (first_fault (name_faults names s x))) (first_fault (name_faults_from (names_after names s x) (step s x) (drop (i + 1) xs)))
name_faults_step xs i names s x w lt is =
    let more = at_drop_more (name_faults_from names s) xs i x lt ∙ ap (λ y. name_faults names s y ++ name_faults_from (names_after names s y) (step s y) (drop (i + 1) xs)) (sym is) in
    ap (λ fs. first_of_two w (first_fault fs)) more ∙ first_fault_more w (name_faults names s x) (name_faults_from (names_after names s x) (step s x) (drop (i + 1) xs))

first_of_two_none : (w : Option LineFault) → first_of_two w None ≡ w
first_of_two_none None = refl
first_of_two_none (Some x) = refl

pub name_faults_done : (xs : List Statement) (i : ℕ) (names : List (List ℕ × Meaning)) (s : State) (w : Option LineFault) → length xs ≤ i → first_of_two w (first_fault (name_faults_from names s (drop i xs))) ≡ w
name_faults_done xs i names s w le = ap (λ fs. first_of_two w (first_fault fs)) (at_drop_all (name_faults_from names s) xs i le) ∙ first_of_two_none w

pub faults_step : (xs : List Statement) (i : ℕ) (names : List (List ℕ × Meaning)) (s : State) (x : Statement) (w : Option LineFault) → i < length xs → x ≡ get_or xs i x → first_of_two w (first_fault (faults_from names s (drop i xs))) ≡ first_of_two (first_of_two w (first_fault (faults names s x))) (first_fault (faults_from names (step s x) (drop (i + 1) xs)))
faults_step xs i names s x w lt is =
    let more = at_drop_more (faults_from names s) xs i x lt ∙ ap (λ y. faults names s y ++ faults_from names (step s y) (drop (i + 1) xs)) (sym is) in
    ap (λ fs. first_of_two w (first_fault fs)) more ∙ first_fault_more w (faults names s x) (faults_from names (step s x) (drop (i + 1) xs))

pub faults_done : (xs : List Statement) (i : ℕ) (names : List (List ℕ × Meaning)) (s : State) → length xs ≤ i → faults_from names s (drop i xs) ≡ end_faults s
faults_done xs i names s le = at_drop_all (faults_from names s) xs i le

pub collect_step : {X : Type 0} (f : State → Statement → List X) (xs : List Statement) (i : ℕ) (s : State) (x : Statement) (all : List X) → i < length xs → x ≡ get_or xs i x → all ++ collect f s (drop i xs) ≡ (all ++ f s x) ++ collect f (step s x) (drop (i + 1) xs)
collect_step f xs i s x all lt is =
    let more = at_drop_more (collect f s) xs i x lt ∙ ap (λ y. f s y ++ collect f (step s y) (drop (i + 1) xs)) (sym is) in
    ap (λ cs. all ++ cs) more ∙ sym (append_assoc all (f s x) (collect f (step s x) (drop (i + 1) xs)))

pub collect_done : {X : Type 0} (f : State → Statement → List X) (xs : List Statement) (i : ℕ) (s : State) → length xs ≤ i → collect f s (drop i xs) ≡ []
collect_done f xs i s le = at_drop_all (collect f s) xs i le

pub first_fault_both : (xs ys : List LineFault) → first_of_two (first_fault xs) (first_fault ys) ≡ first_fault (xs ++ ys)
first_fault_both xs ys = sym (first_fault_append xs ys)

pub after_step : (xs : List Statement) (i : ℕ) (s : State) (x : Statement) → i < length xs → x ≡ get_or xs i x → after s (drop i xs) ≡ after (step s x) (drop (i + 1) xs)
after_step xs i s x lt is = at_drop_more (after s) xs i x lt ∙ ap (λ y. after (step s y) (drop (i + 1) xs)) (sym is)

pub after_done : (xs : List Statement) (i : ℕ) (s : State) → length xs ≤ i → after s (drop i xs) ≡ s
after_done xs i s le = at_drop_all (after s) xs i le

-- ---- labels

pub labels_step : (ls : List (List ℕ)) (i : ℕ) (names : List (List ℕ × Meaning)) (at : ℕ) (l : List ℕ) → i < length ls → l ≡ get_or ls i l → add_labels names at (drop i ls) ≡ add_labels (add names l (Label at)) at (drop (i + 1) ls)
labels_step ls i names at l lt is = at_drop_more (add_labels names at) ls i l lt ∙ ap (λ y. add_labels (add names y (Label at)) at (drop (i + 1) ls)) (sym is)

pub labels_done : (ls : List (List ℕ)) (i : ℕ) (names : List (List ℕ × Meaning)) (at : ℕ) → length ls ≤ i → add_labels names at (drop i ls) ≡ names
labels_done ls i names at le = at_drop_all (add_labels names at) ls i le

pub labels_again_step : (ls : List (List ℕ)) (i line at : ℕ) (names : List (List ℕ × Meaning)) (l : List ℕ) (w : Option LineFault) → i < length ls → l ≡ get_or ls i l → first_of_two w (first_fault (labels_again names line at (drop i ls))) ≡ first_of_two (first_of_two w (first_fault (again names line l))) (first_fault (labels_again (add names l (Label at)) line at (drop (i + 1) ls)))
labels_again_step ls i line at names l w lt is =
    let more = at_drop_more (labels_again names line at) ls i l lt ∙ ap (λ y. again names line y ++ labels_again (add names y (Label at)) line at (drop (i + 1) ls)) (sym is) in
    ap (λ fs. first_of_two w (first_fault fs)) more ∙ first_fault_more w (again names line l) (labels_again (add names l (Label at)) line at (drop (i + 1) ls))

pub labels_again_done : (ls : List (List ℕ)) (i line at : ℕ) (names : List (List ℕ × Meaning)) (w : Option LineFault) → length ls ≤ i → first_of_two w (first_fault (labels_again names line at (drop i ls))) ≡ w
labels_again_done ls i line at names w le = ap (λ fs. first_of_two w (first_fault fs)) (at_drop_all (labels_again names line at) ls i le) ∙ first_of_two_none w

-- ---- each list of its own, one statement more

pub code_step : (xs : List Statement) (i : ℕ) (names : List (List ℕ × Meaning)) (s : State) (x : Statement) (all : List Code) → i < length xs → x ≡ get_or xs i x → all ++ collect (code names) s (drop i xs) ≡ (all ++ code names s x) ++ collect (code names) (step s x) (drop (i + 1) xs)
code_step xs i names s x all lt is = collect_step (code names) xs i s x all lt is

pub code_done : (xs : List Statement) (i : ℕ) (names : List (List ℕ × Meaning)) (s : State) → length xs ≤ i → collect (code names) s (drop i xs) ≡ []
code_done xs i names s le = collect_done (code names) xs i s le

pub bytes_step : (xs : List Statement) (i : ℕ) (names : List (List ℕ × Meaning)) (s : State) (x : Statement) (all : List ℕ) → i < length xs → x ≡ get_or xs i x → all ++ collect (bytes names) s (drop i xs) ≡ (all ++ bytes names s x) ++ collect (bytes names) (step s x) (drop (i + 1) xs)
bytes_step xs i names s x all lt is = collect_step (bytes names) xs i s x all lt is

pub bytes_done : (xs : List Statement) (i : ℕ) (names : List (List ℕ × Meaning)) (s : State) → length xs ≤ i → collect (bytes names) s (drop i xs) ≡ []
bytes_done xs i names s le = collect_done (bytes names) xs i s le

pub func_step : (xs : List Statement) (i : ℕ) (s : State) (x : Statement) (all : List Named) → i < length xs → x ≡ get_or xs i x → all ++ collect func s (drop i xs) ≡ (all ++ func s x) ++ collect func (step s x) (drop (i + 1) xs)
func_step xs i s x all lt is = collect_step func xs i s x all lt is

pub func_done : (xs : List Statement) (i : ℕ) (s : State) → length xs ≤ i → collect func s (drop i xs) ≡ []
func_done xs i s le = collect_done func xs i s le

pub object_step : (xs : List Statement) (i : ℕ) (base : ℕ) (s : State) (x : Statement) (all : List Named) → i < length xs → x ≡ get_or xs i x → all ++ collect (object base) s (drop i xs) ≡ (all ++ object base s x) ++ collect (object base) (step s x) (drop (i + 1) xs)
object_step xs i base s x all lt is = collect_step (object base) xs i s x all lt is

pub object_done : (xs : List Statement) (i : ℕ) (base : ℕ) (s : State) → length xs ≤ i → collect (object base) s (drop i xs) ≡ []
object_done xs i base s le = collect_done (object base) xs i s le

pub fixup_step : (xs : List Statement) (i : ℕ) (names : List (List ℕ × Meaning)) (base : ℕ) (s : State) (x : Statement) (all : List Fixup) → i < length xs → x ≡ get_or xs i x → all ++ collect (fixup names base) s (drop i xs) ≡ (all ++ fixup names base s x) ++ collect (fixup names base) (step s x) (drop (i + 1) xs)
fixup_step xs i names base s x all lt is = collect_step (fixup names base) xs i s x all lt is

pub fixup_done : (xs : List Statement) (i : ℕ) (names : List (List ℕ × Meaning)) (base : ℕ) (s : State) → length xs ≤ i → collect (fixup names base) s (drop i xs) ≡ []
fixup_done xs i names base s le = collect_done (fixup names base) xs i s le

pub entry_step : (xs : List Statement) (i : ℕ) (names : List (List ℕ × Meaning)) (s : State) (x : Statement) (all : List ℕ) → i < length xs → x ≡ get_or xs i x → all ++ collect (entry names) s (drop i xs) ≡ (all ++ entry names s x) ++ collect (entry names) (step s x) (drop (i + 1) xs)
entry_step xs i names s x all lt is = collect_step (entry names) xs i s x all lt is

pub entry_done : (xs : List Statement) (i : ℕ) (names : List (List ℕ × Meaning)) (s : State) → length xs ≤ i → collect (entry names) s (drop i xs) ≡ []
entry_done xs i names s le = collect_done (entry names) xs i s le
