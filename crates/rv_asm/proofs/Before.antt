-- What is open begins no later than the place of the next statement.
use Rattle.std.proofs.Common.{◌≡◌, ℕ, zero, suc, ◌≤◌, ◌&&◌, Bool, true, false, not, cond, arith, refl, length, List, [], ◌∷◌, ◌++◌, Option, Some, None}
use Rattle.std.specs.Prelude.{nat_lt}
use Rattle.std.specs.List.{All, list_all}
use Rattle.std.proofs.lemmas.Bool.{and_parts, lt-ltb}
use Rattle.std.proofs.lemmas.List.Elements.{All-push}
use Rattle.texts.specs.Texts.{is_digit}
use Rattle.asm_text.specs.Tokens.{is_name, is_name_byte, byte_at}
use Rattle.rv_asm.specs.declared.symbol.Named.{Named}
use Rattle.asm_text.specs.declared.body.Body.{Body}
use Rattle.asm_text.specs.declared.body.Body.TheVariants as says
use Rattle.asm_text.specs.declared.statement.Statement.{Statement}
use Rattle.rv_asm.specs.declared.state.Open.{Open}
use Rattle.rv_asm.specs.declared.state.State.{State}
use Rattle.rv_asm.specs.State.{is_void, step, placed_step, opened, func_after, object_after}
use Rattle.rv_asm.specs.Kept.{IsBefore, IsSound, has_no_zero}

later : (o : Option Open) (m n : ℕ) → m ≤ n → IsBefore o m → IsBefore o n
later None m n le h = h
later (Some o) m n le h = omega (arith, le, h)

opened_before : (o : Option Open) (x : Open) (m : ℕ) → x.from ≤ m → IsBefore o m → IsBefore (opened o x) m
opened_before None x m le h = le
opened_before (Some o) x m le h = h

func_kept : (s : State) (line : ℕ) (body : Body) → IsBefore s.func s.text_len → IsBefore (func_after s line body) s.text_len
func_kept s line says.Nothing h = h
func_kept s line says.Unknown h = h
func_kept s line (says.Bad p) h = h
func_kept s line (says.OutOfRange p n) h = h
func_kept s line says.ToText h = h
func_kept s line says.ToData h = h
func_kept s line (says.Func name) h = opened_before s.func _ s.text_len (omega arith) h
func_kept s line says.End h = record {}
func_kept s line (says.Object name) h = h
func_kept s line says.EndObject h = h
func_kept s line (says.Entry name) h = h
func_kept s line (says.Instr i) h = h
func_kept s line (says.Jal rd t) h = h
func_kept s line (says.Branch c r1 r2 t) h = h
func_kept s line (says.Call name) h = h
func_kept s line (says.Word w) h = h
func_kept s line (says.Nops n) h = h
func_kept s line (says.Bytes bs) h = h
func_kept s line (says.Space n) h = h
func_kept s line (says.Slot name) h = h

object_kept : (s : State) (line : ℕ) (body : Body) → IsBefore s.object s.data_len → IsBefore (object_after s line body) s.data_len
object_kept s line says.Nothing h = h
object_kept s line says.Unknown h = h
object_kept s line (says.Bad p) h = h
object_kept s line (says.OutOfRange p n) h = h
object_kept s line says.ToText h = h
object_kept s line says.ToData h = h
object_kept s line (says.Func name) h = h
object_kept s line says.End h = h
object_kept s line (says.Object name) h = opened_before s.object _ s.data_len (omega arith) h
object_kept s line says.EndObject h = record {}
object_kept s line (says.Entry name) h = h
object_kept s line (says.Instr i) h = h
object_kept s line (says.Jal rd t) h = h
object_kept s line (says.Branch c r1 r2 t) h = h
object_kept s line (says.Call name) h = h
object_kept s line (says.Word w) h = h
object_kept s line (says.Nops n) h = h
object_kept s line (says.Bytes bs) h = h
object_kept s line (says.Space n) h = h
object_kept s line (says.Slot name) h = h

func_cond : (b : Bool) (s t : State) → IsBefore s.func s.text_len → IsBefore t.func t.text_len → IsBefore (cond b s t).func (cond b s t).text_len
func_cond true s t x y = x
func_cond false s t x y = y

object_cond : (b : Bool) (s t : State) → IsBefore s.object s.data_len → IsBefore t.object t.data_len → IsBefore (cond b s t).object (cond b s t).data_len
object_cond true s t x y = x
object_cond false s t x y = y

pub func_before : (s : State) (x : Statement) → IsBefore s.func s.text_len → IsBefore (step s x).func (step s x).text_len
func_before s x h = func_cond (is_void s.section x) s (placed_step s x.line x.body) h (later (func_after s x.line x.body) s.text_len (placed_step s x.line x.body).text_len (omega arith) (func_kept s x.line x.body h))

pub object_before : (s : State) (x : Statement) → IsBefore s.object s.data_len → IsBefore (step s x).object (step s x).data_len
object_before s x h = object_cond (is_void s.section x) s (placed_step s x.line x.body) h (later (object_after s x.line x.body) s.data_len (placed_step s x.line x.body).data_len (omega arith) (object_kept s x.line x.body h))

-- ---- names

byte_whole : (b : ℕ) → is_name_byte b ≡ true → nat_lt 0 b ≡ true
byte_whole zero h = absurd cc
byte_whole (suc b) h = lt-ltb 0 (suc b) (omega arith)

bytes_whole : (name : List ℕ) → list_all is_name_byte name ≡ true → has_no_zero name ≡ true
bytes_whole [] h = refl
bytes_whole (b ∷ name) h =
    let parts = and_parts (is_name_byte b) (list_all is_name_byte name) h in
    rw (byte_whole b parts.0, bytes_whole name parts.1) refl

pub name_whole : (name : List ℕ) → is_name name ≡ true → has_no_zero name ≡ true
unfolding is_name
name_whole name h =
    let some = and_parts (nat_lt 0 (length name)) (not (is_digit (byte_at name 0)) && list_all is_name_byte name) h in
    bytes_whole name (and_parts (not (is_digit (byte_at name 0))) (list_all is_name_byte name) some.1).1

pub sound_more : (all : List Named) (n : Named) → All IsSound all → IsSound n → All IsSound (all ++ n ∷ [])
sound_more all n h one = All-push IsSound all n h one
