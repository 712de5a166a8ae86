-- The sizes of what statements give, and what a text without a fault keeps.
use Rattle.std.proofs.Common.{◌≡◌, ℕ, ◌+◌, ◌*◌, ◌/◌, ◌<◌, ◌≤◌, Bool, true, false, not, cond, arith, refl, sym, ◌∙◌, length, List, [], ◌∷◌, ◌++◌, Option, Some, None, is_some}
use Rattle.std.specs.Prelude.{nat_lt, ℤ, ◌||◌}
use Rattle.std.specs.List.{All, sum_by}
use Rattle.std.proofs.lemmas.Bool.{ltb-false}
use Rattle.std.proofs.lemmas.List.{length-append, length-replicate}
use Rattle.std.proofs.lemmas.List.Elements.{All-append, All-push}
use Rattle.std.proofs.lemmas.List.Sums.{sum_by-cons, sum_by-append}
use Rattle.rv_isa.specs.declared.instr.Cond.{Cond}
use Rattle.asm_text.specs.Keywords.{lookup}
use Rattle.std.specs.Str.{bytes_eq}
use Rattle.asm_text.specs.Statements.{weight, name_size}
use Rattle.asm_text.specs.declared.operand.Target.{Target}
use Rattle.asm_text.specs.declared.operand.Target.TheVariants.{Name, Address}
use Rattle.asm_text.specs.declared.body.Body.{Body}
use Rattle.asm_text.specs.declared.body.Body.TheVariants as says
use Rattle.asm_text.specs.declared.statement.Statement.{Statement}
use Rattle.rv_asm.specs.declared.code.Code.{Code}
use Rattle.rv_asm.specs.declared.fault.FaultKind.{FaultKind}
use Rattle.rv_asm.specs.declared.fault.FaultKind.TheVariants.{TooLarge}
use Rattle.rv_asm.specs.declared.fault.LineFault.{LineFault}
use Rattle.rv_asm.specs.declared.meaning.Meaning.{Meaning}
use Rattle.rv_asm.specs.declared.meaning.Meaning.TheVariants.{Label, Function, Object}
use Rattle.rv_asm.specs.declared.symbol.Named.{Named}
use Rattle.rv_asm.specs.declared.symbol.Fixup.{Fixup}
use Rattle.rv_asm.specs.declared.state.Open.{Open}
use Rattle.rv_asm.specs.declared.state.State.{State}
use Rattle.rv_asm.specs.Order.{first_of_two, first_fault, fault_if}
use Rattle.rv_asm.specs.State.{is_data, is_void, size, step, placed_step, after, collect, opened, func_after, object_after, funcs_after}
use Rattle.rv_asm.specs.Names.{add, add_labels, add_own, names_after, names_from, text_at}
use Rattle.rv_asm.specs.Faults.{faults, faults_from, void_faults, nesting_faults, aim_faults, size_faults, end_faults, left_open, len_of, jal_reaches, branch_reaches, aim}
use Rattle.rv_asm.specs.Emission.{AreWords, jal_code, branch_code, call_code, text_code, code, slot_bytes, data_bytes, bytes, named, own_func, func, own_object, object, to_function, jal_fixup, own_fixup, fixup, nop}
use Rattle.rv_asm.specs.Kept.{symbol_size}
use Rattle.rv_asm.proofs.Walk.{first_fault_append}

-- ---- words are no more than the bytes that their statement takes

one_if : (b : Bool) (c : Code) → length (cond b (c ∷ []) []) ≤ 1
one_if true c = omega arith
one_if false c = omega arith

jal_len : (rd here : ℕ) (a : Option ℤ) → length (jal_code rd here a) ≤ 1
jal_len rd here None = omega arith
jal_len rd here (Some a) = one_if (jal_reaches here a) _

branch_len : (c : Cond) (r1 r2 here : ℕ) (a : Option ℤ) → length (branch_code c r1 r2 here a) ≤ 1
branch_len c r1 r2 here None = omega arith
branch_len c r1 r2 here (Some a) = one_if (branch_reaches here a) _

call_len : (here : ℕ) (m : Option Meaning) → length (call_code here m) ≤ 2
call_len here None = omega arith
call_len here (Some (Label at)) = omega arith
call_len here (Some (Function n at)) = omega arith
call_len here (Some Object) = omega arith

text_le : (names : List (List ℕ × Meaning)) (s : State) (body : Body) → 4 * length (text_code names s body) ≤ size body
text_le names s says.Nothing = omega arith
text_le names s says.Unknown = omega arith
text_le names s (says.Bad p) = omega arith
text_le names s (says.OutOfRange p n) = omega arith
text_le names s says.ToText = omega arith
text_le names s says.ToData = omega arith
text_le names s (says.Func name) = omega arith
text_le names s says.End = omega arith
text_le names s (says.Object name) = omega arith
text_le names s says.EndObject = omega arith
text_le names s (says.Entry name) = omega arith
text_le names s (says.Instr i) = omega arith
text_le names s (says.Jal rd t) = omega (arith, jal_len rd (text_at s) (aim names t))
text_le names s (says.Branch c r1 r2 t) = omega (arith, branch_len c r1 r2 (text_at s) (aim names t))
text_le names s (says.Call name) = omega (arith, call_len (text_at s) (lookup names name))
text_le names s (says.Word w) = omega arith
text_le names s (says.Nops n) = omega (arith, length-replicate (size (says.Nops n) / 4) nop)
text_le names s (says.Bytes bs) = omega arith
text_le names s (says.Space n) = omega arith
text_le names s (says.Slot name) = omega arith

text_cond : (v d : Bool) (c : List Code) (s t : State) (n : ℕ) → 4 * length c ≤ n → t.text_len ≡ s.text_len + cond d 0 n → 4 * length (cond (v || d) [] c) + s.text_len ≤ (cond v s t).text_len
text_cond true d c s t n le is = omega arith
text_cond false true c s t n le is = omega (arith, is)
text_cond false false c s t n le is = omega (arith, le, is)

text_step : (names : List (List ℕ × Meaning)) (s : State) (x : Statement) → 4 * length (code names s x) + s.text_len ≤ (step s x).text_len
text_step names s x = text_cond (is_void s.section x) (is_data s.section) (text_code names s x.body) s (placed_step s x.line x.body) (size x.body) (text_le names s x.body) refl

pub text_sum : (names : List (List ℕ × Meaning)) (s : State) (xs : List Statement) → 4 * length (collect (code names) s xs) + s.text_len ≤ (after s xs).text_len
text_sum names s [] = omega arith
text_sum names s (x ∷ xs) = omega (arith, length-append (code names s x) (collect (code names) (step s x) xs), text_step names s x, text_sum names (step s x) xs)

-- ---- bytes of data too, where they are within the limit

slot_len : (m : Option Meaning) → length (slot_bytes m) ≤ 8
slot_len None = omega arith
slot_len (Some (Label at)) = omega arith
slot_len (Some (Function n at)) = omega arith
slot_len (Some Object) = omega arith

data_le : (names : List (List ℕ × Meaning)) (body : Body) → size body ≤ 16777216 → length (data_bytes names body) ≤ size body
data_le names says.Nothing le = omega arith
data_le names says.Unknown le = omega arith
data_le names (says.Bad p) le = omega arith
data_le names (says.OutOfRange p n) le = omega arith
data_le names says.ToText le = omega arith
data_le names says.ToData le = omega arith
data_le names (says.Func name) le = omega arith
data_le names says.End le = omega arith
data_le names (says.Object name) le = omega arith
data_le names says.EndObject le = omega arith
data_le names (says.Entry name) le = omega arith
data_le names (says.Instr i) le = omega arith
data_le names (says.Jal rd t) le = omega arith
data_le names (says.Branch c r1 r2 t) le = omega arith
data_le names (says.Call name) le = omega arith
data_le names (says.Word w) le = omega arith
data_le names (says.Nops n) le = omega arith
data_le names (says.Bytes bs) le = omega (arith, le)
data_le names (says.Space n) le = omega (arith, length-replicate {A = ℕ} (size (says.Space n)) 0)
data_le names (says.Slot name) le = omega (arith, slot_len (lookup names name))

data_cond : (v d : Bool) (c : List ℕ) (s t : State) (n : ℕ) → (n ≤ 16777216 → length c ≤ n) → t.data_len ≡ s.data_len + cond d n 0 → (cond v s t).data_len ≤ 16777216 → length (cond (v || not d) [] c) + s.data_len ≤ (cond v s t).data_len
data_cond true d c s t n le is small = omega arith
data_cond false false c s t n le is small = omega (arith, is)
data_cond false true c s t n le is small = omega (arith, le (omega (arith, is, small)), is)

data_up_cond : (v d : Bool) (s t : State) (n : ℕ) → t.data_len ≡ s.data_len + cond d n 0 → s.data_len ≤ (cond v s t).data_len
data_up_cond true d s t n is = omega arith
data_up_cond false d s t n is = omega (arith, is)

data_up : (s : State) (xs : List Statement) → s.data_len ≤ (after s xs).data_len
data_up s [] = omega arith
data_up s (x ∷ xs) = omega (arith, data_up_cond (is_void s.section x) (is_data s.section) s (placed_step s x.line x.body) (size x.body) refl, data_up (step s x) xs)

pub data_sum : (names : List (List ℕ × Meaning)) (s : State) (xs : List Statement) → (after s xs).data_len ≤ 16777216 → length (collect (bytes names) s xs) + s.data_len ≤ (after s xs).data_len
data_sum names s [] small = omega arith
data_sum names s (x ∷ xs) small =
    let here = data_cond (is_void s.section x) (is_data s.section) (data_bytes names x.body) s (placed_step s x.line x.body) (size x.body) (data_le names x.body) refl (omega (arith, small, data_up (step s x) xs)) in
    omega (arith, length-append (bytes names s x) (collect (bytes names) (step s x) xs), here, data_sum names (step s x) xs small)

-- ---- a text without a fault is within the limits

none_of : (a b : Option LineFault) → first_of_two a b ≡ None → (a ≡ None) × (b ≡ None)
none_of None b e = (refl, e)
none_of (Some a) None e = absurd cc
none_of (Some a) (Some b) e = absurd cc

pub none_parts : (xs ys : List LineFault) → first_fault (xs ++ ys) ≡ None → (first_fault xs ≡ None) × (first_fault ys ≡ None)
none_parts xs ys e = none_of (first_fault xs) (first_fault ys) (sym (first_fault_append xs ys) ∙ e)

no_fault_if : (b : Bool) (line : ℕ) (k : FaultKind) → first_fault (fault_if b line k) ≡ None → b ≡ false
no_fault_if true line k e = absurd cc
no_fault_if false line k e = refl

pub record IsSmall (s : State) : Type 0 where
  pub in_text : s.text_len ≤ 16777216
  pub in_data : s.data_len ≤ 16777216

small_cond : (d : Bool) (s t : State) (n : ℕ) → t.text_len ≡ s.text_len + cond d 0 n → t.data_len ≡ s.data_len + cond d n 0 → cond d s.data_len s.text_len + n ≤ 16777216 → IsSmall s → IsSmall t
small_cond true s t n ts ds le small = record { in_text = omega (arith, ts, small.in_text); in_data = omega (arith, ds, le) }
small_cond false s t n ts ds le small = record { in_text = omega (arith, ts, le); in_data = omega (arith, ds, small.in_data) }

small_step_cond : (v : Bool) (fs gs hs ks : List LineFault) (s t : State) → IsSmall s → (first_fault ks ≡ None → IsSmall t) → first_fault (cond v fs (gs ++ (hs ++ ks))) ≡ None → IsSmall (cond v s t)
small_step_cond true fs gs hs ks s t small then e = small
small_step_cond false fs gs hs ks s t small then e = then (none_parts hs ks (none_parts gs (hs ++ ks) e).1).1

small_step : (names : List (List ℕ × Meaning)) (s : State) (x : Statement) → IsSmall s → first_fault (faults names s x) ≡ None → IsSmall (step s x)
small_step names s x small e =
    let t = placed_step s x.line x.body in
    let sized = λ (none : first_fault (size_faults s x.line x.body) ≡ None). small_cond (is_data s.section) s t (size x.body) refl refl (ltb-false 16777216 (len_of s + size x.body) (no_fault_if (nat_lt 16777216 (len_of s + size x.body)) x.line TooLarge none)) small in
    small_step_cond (is_void s.section x) (void_faults s x) (nesting_faults s x.line x.body) (aim_faults names s x.line x.body) (size_faults s x.line x.body) s t small sized e

pub small_after : (names : List (List ℕ × Meaning)) (s : State) (xs : List Statement) → IsSmall s → first_fault (faults_from names s xs) ≡ None → IsSmall (after s xs)
small_after names s [] small e = small
small_after names s (x ∷ xs) small e =
    let parts = none_parts (faults names s x) (faults_from names (step s x) xs) e in
    small_after names (step s x) xs (small_step names s x small parts.0) parts.1

pub end_after : (names : List (List ℕ × Meaning)) (s : State) (xs : List Statement) → first_fault (faults_from names s xs) ≡ None → first_fault (end_faults (after s xs)) ≡ None
end_after names s [] e = e
end_after names s (x ∷ xs) e = end_after names (step s x) xs (none_parts (faults names s x) (faults_from names (step s x) xs) e).1

left_none : (o : Option Open) → first_fault (left_open o) ≡ None → o ≡ None
left_none None e = refl
left_none (Some o) e = absurd cc

pub closed_after : (s : State) → first_fault (end_faults s) ≡ None → s.func ≡ None
closed_after s e = left_none s.func (none_parts (left_open s.func) _ e).0

-- ---- functions: their numbers are below their count

abbrev pub open_count : Option Open → ℕ
open_count None = 0
open_count (Some o) = 1

abbrev pub limit : State → ℕ
limit s = s.funcs + open_count s.func

opened_count : (o : Option Open) (x : Open) → open_count (opened o x) ≡ 1
opened_count None x = refl
opened_count (Some o) x = refl

count_le : (o : Option Open) → open_count o ≤ 1
count_le None = omega arith
count_le (Some o) = omega arith

ended_count : (o : Option Open) (n : ℕ) → cond (is_some o) (n + 1) n ≡ n + open_count o
ended_count None n = omega arith
ended_count (Some o) n = omega arith

limit_up : (s : State) (line : ℕ) (body : Body) → s.funcs + open_count s.func ≤ funcs_after s body + open_count (func_after s line body)
limit_up s line says.Nothing = omega arith
limit_up s line says.Unknown = omega arith
limit_up s line (says.Bad p) = omega arith
limit_up s line (says.OutOfRange p n) = omega arith
limit_up s line says.ToText = omega arith
limit_up s line says.ToData = omega arith
limit_up s line (says.Func name) = omega (arith, count_le s.func, opened_count s.func (record { line = line; name = name; from = s.text_len }))
limit_up s line says.End = omega (arith, ended_count s.func s.funcs)
limit_up s line (says.Object name) = omega arith
limit_up s line says.EndObject = omega arith
limit_up s line (says.Entry name) = omega arith
limit_up s line (says.Instr i) = omega arith
limit_up s line (says.Jal rd t) = omega arith
limit_up s line (says.Branch c r1 r2 t) = omega arith
limit_up s line (says.Call name) = omega arith
limit_up s line (says.Word w) = omega arith
limit_up s line (says.Nops n) = omega arith
limit_up s line (says.Bytes bs) = omega arith
limit_up s line (says.Space n) = omega arith
limit_up s line (says.Slot name) = omega arith

abbrev pub MeaningBelow : ℕ → Meaning → Type 0
MeaningBelow k (Function n at) = n < k
MeaningBelow k _ = Unit {0}

abbrev pub Below : ℕ → List (List ℕ × Meaning) → Type 0
Below k [] = Unit {0}
Below k (e ∷ es) = MeaningBelow k e.1 × Below k es

meaning_up : (k m : ℕ) (e : Meaning) → k ≤ m → MeaningBelow k e → MeaningBelow m e
meaning_up k m (Label at) le h = h
meaning_up k m (Function n at) le h = omega (arith, le, h)
meaning_up k m Object le h = h

pub below_up : (k m : ℕ) (names : List (List ℕ × Meaning)) → k ≤ m → Below k names → Below m names
below_up k m [] le h = h
below_up k m (e ∷ es) le h = (meaning_up k m e.1 le h.0, below_up k m es le h.1)

below_more : (k : ℕ) (names : List (List ℕ × Meaning)) (e : List ℕ × Meaning) → Below k names → MeaningBelow k e.1 → Below k (names ++ e ∷ [])
below_more k [] e h one = (one, h)
below_more k (f ∷ fs) e h one = (h.0, below_more k fs e h.1 one)

add_cond : (b : Bool) (k : ℕ) (xs ys : List (List ℕ × Meaning)) → Below k xs → Below k ys → Below k (cond b xs ys)
add_cond true k xs ys x y = x
add_cond false k xs ys x y = y

below_add : (k : ℕ) (names : List (List ℕ × Meaning)) (name : List ℕ) (m : Meaning) → Below k names → MeaningBelow k m → Below k (add names name m)
below_add k names name m h one = add_cond (is_some (lookup names name)) k names (names ++ (name, m) ∷ []) h (below_more k names (name, m) h one)

below_labels : (k at : ℕ) (names : List (List ℕ × Meaning)) (ls : List (List ℕ)) → Below k names → Below k (add_labels names at ls)
below_labels k at names [] h = h
below_labels k at names (l ∷ ls) h = below_labels k at (add names l (Label at)) ls (below_add k names l (Label at) h (record {}))

below_own : (s : State) (line : ℕ) (body : Body) (names : List (List ℕ × Meaning)) → Below (funcs_after s body + open_count (func_after s line body)) names → Below (funcs_after s body + open_count (func_after s line body)) (add_own names s body)
below_own s line says.Nothing names h = h
below_own s line says.Unknown names h = h
below_own s line (says.Bad p) names h = h
below_own s line (says.OutOfRange p n) names h = h
below_own s line says.ToText names h = h
below_own s line says.ToData names h = h
below_own s line (says.Func name) names h = below_add _ names name (Function s.funcs (text_at s)) h (omega (arith, opened_count s.func (record { line = line; name = name; from = s.text_len })))
below_own s line says.End names h = h
below_own s line (says.Object name) names h = below_add _ names name Object h (record {})
below_own s line says.EndObject names h = h
below_own s line (says.Entry name) names h = h
below_own s line (says.Instr i) names h = h
below_own s line (says.Jal rd t) names h = h
below_own s line (says.Branch c r1 r2 t) names h = h
below_own s line (says.Call name) names h = h
below_own s line (says.Word w) names h = h
below_own s line (says.Nops n) names h = h
below_own s line (says.Bytes bs) names h = h
below_own s line (says.Space n) names h = h
below_own s line (says.Slot name) names h = h

below_cond : (v : Bool) (s t : State) (xs ys : List (List ℕ × Meaning)) → Below (limit s) xs → Below (limit t) ys → Below (limit (cond v s t)) (cond v xs ys)
below_cond true s t xs ys x y = x
below_cond false s t xs ys x y = y

below_step : (names : List (List ℕ × Meaning)) (s : State) (x : Statement) → Below (limit s) names → Below (limit (step s x)) (names_after names s x)
below_step names s x h =
    let t = placed_step s x.line x.body in
    let named = below_labels (limit s) (text_at s) names x.labels h in
    let up = below_up (limit s) (limit t) (add_labels names (text_at s) x.labels) (limit_up s x.line x.body) named in
    below_cond (is_void s.section x) s t (add_labels names (text_at s) x.labels) (add_own (add_labels names (text_at s) x.labels) s x.body) named (below_own s x.line x.body (add_labels names (text_at s) x.labels) up)

pub below_from : (names : List (List ℕ × Meaning)) (s : State) (xs : List Statement) → Below (limit s) names → Below (limit (after s xs)) (names_from names s xs)
below_from names s [] h = h
below_from names s (x ∷ xs) h = below_from (names_after names s x) (step s x) xs (below_step names s x h)

abbrev pub FoundBelow : ℕ → Option Meaning → Type 0
FoundBelow k None = Unit {0}
FoundBelow k (Some m) = MeaningBelow k m

found_cond : (b : Bool) (k : ℕ) (m : Meaning) (o : Option Meaning) → MeaningBelow k m → FoundBelow k o → FoundBelow k (cond b (Some m) o)
found_cond true k m o x y = x
found_cond false k m o x y = y

found_below : (k : ℕ) (names : List (List ℕ × Meaning)) (name : List ℕ) → Below k names → FoundBelow k (lookup names name)
found_below k [] name h = record {}
found_below k (e ∷ es) name h = found_cond (bytes_eq name e.0) k e.1 (lookup es name) h.0 (found_below k es name h.1)

abbrev pub AreBelow : ℕ → List Fixup → Type 0
AreBelow k fs = All (λ f. f.func < k) fs

none_below : (k : ℕ) → AreBelow k []
none_below k i d lt = absurd (omega arith)

to_function_below : (k at kind : ℕ) (m : Option Meaning) → FoundBelow k m → AreBelow k (to_function at kind m)
to_function_below k at kind None h = none_below k
to_function_below k at kind (Some (Label a)) h = none_below k
to_function_below k at kind (Some (Function n a)) h = All-push (λ f. f.func < k) [] (record { at = at; kind = kind; func = n }) (none_below k) h
to_function_below k at kind (Some Object) h = none_below k

jal_below : (k at : ℕ) (names : List (List ℕ × Meaning)) (t : Target) → Below k names → AreBelow k (jal_fixup names at t)
jal_below k at names (Name name) h = to_function_below k at 17 (lookup names name) (found_below k names name h)
jal_below k at names (Address a) h = none_below k

own_below : (k base : ℕ) (names : List (List ℕ × Meaning)) (s : State) (body : Body) → Below k names → AreBelow k (own_fixup names base s body)
own_below k base names s says.Nothing h = none_below k
own_below k base names s says.Unknown h = none_below k
own_below k base names s (says.Bad p) h = none_below k
own_below k base names s (says.OutOfRange p n) h = none_below k
own_below k base names s says.ToText h = none_below k
own_below k base names s says.ToData h = none_below k
own_below k base names s (says.Func name) h = none_below k
own_below k base names s says.End h = none_below k
own_below k base names s (says.Object name) h = none_below k
own_below k base names s says.EndObject h = none_below k
own_below k base names s (says.Entry name) h = none_below k
own_below k base names s (says.Instr i) h = none_below k
own_below k base names s (says.Jal rd t) h = jal_below k (text_at s) names t h
own_below k base names s (says.Branch c r1 r2 t) h = none_below k
own_below k base names s (says.Call name) h = to_function_below k (text_at s) 19 (lookup names name) (found_below k names name h)
own_below k base names s (says.Word w) h = none_below k
own_below k base names s (says.Nops n) h = none_below k
own_below k base names s (says.Bytes bs) h = none_below k
own_below k base names s (says.Space n) h = none_below k
own_below k base names s (says.Slot name) h = to_function_below k (base + s.data_len) 2 (lookup names name) (found_below k names name h)

fixup_cond : (v : Bool) (k : ℕ) (fs : List Fixup) → AreBelow k fs → AreBelow k (cond v [] fs)
fixup_cond true k fs h = none_below k
fixup_cond false k fs h = h

pub fixups_below : (k base : ℕ) (names : List (List ℕ × Meaning)) (s : State) (xs : List Statement) → Below k names → AreBelow k (collect (fixup names base) s xs)
fixups_below k base names s [] h = none_below k
fixups_below k base names s (x ∷ xs) h = All-append (λ f. f.func < k) (fixup names base s x) (collect (fixup names base) (step s x) xs) (fixup_cond (is_void s.section x) k (own_fixup names base s x.body) (own_below k base names s x.body h)) (fixups_below k base names (step s x) xs h)

named_len : (base to : ℕ) (o : Option Open) → length (named base to o) ≡ open_count o
named_len base to None = refl
named_len base to (Some o) = refl

func_len : (s : State) (body : Body) → length (own_func s body) + s.funcs ≡ funcs_after s body
func_len s says.Nothing = omega arith
func_len s says.Unknown = omega arith
func_len s (says.Bad p) = omega arith
func_len s (says.OutOfRange p n) = omega arith
func_len s says.ToText = omega arith
func_len s says.ToData = omega arith
func_len s (says.Func name) = omega arith
func_len s says.End = omega (arith, named_len 65536 s.text_len s.func, ended_count s.func s.funcs)
func_len s (says.Object name) = omega arith
func_len s says.EndObject = omega arith
func_len s (says.Entry name) = omega arith
func_len s (says.Instr i) = omega arith
func_len s (says.Jal rd t) = omega arith
func_len s (says.Branch c r1 r2 t) = omega arith
func_len s (says.Call name) = omega arith
func_len s (says.Word w) = omega arith
func_len s (says.Nops n) = omega arith
func_len s (says.Bytes bs) = omega arith
func_len s (says.Space n) = omega arith
func_len s (says.Slot name) = omega arith

func_len_cond : (v : Bool) (s t : State) (fs : List Named) → length fs + s.funcs ≡ t.funcs → length (cond v [] fs) + s.funcs ≡ (cond v s t).funcs
func_len_cond true s t fs e = omega arith
func_len_cond false s t fs e = e

pub funcs_len : (s : State) (xs : List Statement) → length (collect func s xs) + s.funcs ≡ (after s xs).funcs
funcs_len s [] = omega arith
funcs_len s (x ∷ xs) =
    let here = func_len_cond (is_void s.section x) s (placed_step s x.line x.body) (own_func s x.body) (func_len s x.body) in
    omega (arith, length-append (func s x) (collect func (step s x) xs), here, funcs_len (step s x) xs)

-- ---- the names of functions and objects are short

abbrev pub open_size : Option Open → ℕ
open_size None = 0
open_size (Some o) = length o.name + 1

opened_size : (o : Option Open) (x : Open) → open_size (opened o x) ≤ open_size o + (length x.name + 1)
opened_size None x = omega arith
opened_size (Some o) x = omega arith

named_size : (base to : ℕ) (o : Option Open) → sum_by symbol_size (named base to o) ≡ open_size o
named_size base to None = refl
named_size base to (Some o) = omega (arith, sum_by-cons symbol_size (record { name = o.name; from = base + o.from; to = base + to }) [])

func_size : (s : State) (line : ℕ) (body : Body) → sum_by symbol_size (own_func s body) + open_size (func_after s line body) ≤ open_size s.func + name_size body
func_size s line says.Nothing = omega arith
func_size s line says.Unknown = omega arith
func_size s line (says.Bad p) = omega arith
func_size s line (says.OutOfRange p n) = omega arith
func_size s line says.ToText = omega arith
func_size s line says.ToData = omega arith
func_size s line (says.Func name) = omega (arith, opened_size s.func (record { line = line; name = name; from = s.text_len }))
func_size s line says.End = omega (arith, named_size 65536 s.text_len s.func)
func_size s line (says.Object name) = omega arith
func_size s line says.EndObject = omega arith
func_size s line (says.Entry name) = omega arith
func_size s line (says.Instr i) = omega arith
func_size s line (says.Jal rd t) = omega arith
func_size s line (says.Branch c r1 r2 t) = omega arith
func_size s line (says.Call name) = omega arith
func_size s line (says.Word w) = omega arith
func_size s line (says.Nops n) = omega arith
func_size s line (says.Bytes bs) = omega arith
func_size s line (says.Space n) = omega arith
func_size s line (says.Slot name) = omega arith

object_size : (base : ℕ) (s : State) (line : ℕ) (body : Body) → sum_by symbol_size (own_object base s body) + open_size (object_after s line body) ≤ open_size s.object + name_size body
object_size base s line says.Nothing = omega arith
object_size base s line says.Unknown = omega arith
object_size base s line (says.Bad p) = omega arith
object_size base s line (says.OutOfRange p n) = omega arith
object_size base s line says.ToText = omega arith
object_size base s line says.ToData = omega arith
object_size base s line (says.Func name) = omega arith
object_size base s line says.End = omega arith
object_size base s line (says.Object name) = omega (arith, opened_size s.object (record { line = line; name = name; from = s.data_len }))
object_size base s line says.EndObject = omega (arith, named_size base s.data_len s.object)
object_size base s line (says.Entry name) = omega arith
object_size base s line (says.Instr i) = omega arith
object_size base s line (says.Jal rd t) = omega arith
object_size base s line (says.Branch c r1 r2 t) = omega arith
object_size base s line (says.Call name) = omega arith
object_size base s line (says.Word w) = omega arith
object_size base s line (says.Nops n) = omega arith
object_size base s line (says.Bytes bs) = omega arith
object_size base s line (says.Space n) = omega arith
object_size base s line (says.Slot name) = omega arith

func_size_cond : (v : Bool) (s t : State) (fs : List Named) (n : ℕ) → sum_by symbol_size fs + open_size t.func ≤ open_size s.func + n → sum_by symbol_size (cond v [] fs) + open_size (cond v s t).func ≤ open_size s.func + n
func_size_cond true s t fs n e = omega arith
func_size_cond false s t fs n e = e

object_size_cond : (v : Bool) (s t : State) (fs : List Named) (n : ℕ) → sum_by symbol_size fs + open_size t.object ≤ open_size s.object + n → sum_by symbol_size (cond v [] fs) + open_size (cond v s t).object ≤ open_size s.object + n
object_size_cond true s t fs n e = omega arith
object_size_cond false s t fs n e = e

pub funcs_size : (s : State) (xs : List Statement) → sum_by symbol_size (collect func s xs) ≤ open_size s.func + sum_by weight xs
funcs_size s [] = omega arith
funcs_size s (x ∷ xs) =
    let here = func_size_cond (is_void s.section x) s (placed_step s x.line x.body) (own_func s x.body) (name_size x.body) (func_size s x.line x.body) in
    omega (arith, sum_by-append symbol_size (func s x) (collect func (step s x) xs), here, funcs_size (step s x) xs, sum_by-cons weight x xs)

pub objects_size : (base : ℕ) (s : State) (xs : List Statement) → sum_by symbol_size (collect (object base) s xs) ≤ open_size s.object + sum_by weight xs
objects_size base s [] = omega arith
objects_size base s (x ∷ xs) =
    let here = object_size_cond (is_void s.section x) s (placed_step s x.line x.body) (own_object base s x.body) (name_size x.body) (object_size base s x.line x.body) in
    omega (arith, sum_by-append symbol_size (object base s x) (collect (object base) (step s x) xs), here, objects_size base (step s x) xs, sum_by-cons weight x xs)

pub count_weight : (xs : List Statement) → length xs ≤ sum_by weight xs
count_weight [] = omega arith
count_weight (x ∷ xs) = omega (arith, count_weight xs, sum_by-cons weight x xs)

pub words_len : (words : List ℕ) (codes : List Code) → AreWords words codes → length words ≡ length codes
words_len [] [] h = refl
words_len [] (c ∷ codes) h = absurd h
words_len (w ∷ words) [] h = absurd h
words_len (w ∷ words) (c ∷ codes) h = omega (arith, words_len words codes h.1)
