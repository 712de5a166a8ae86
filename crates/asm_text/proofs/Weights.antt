-- A text has few statements, and short names: sums of sizes, from bytes to tokens to statements.
use Rattle.std.proofs.Common.{rules, ◌≡◌, ℕ, ◌+◌, ◌-◌, ◌*◌, ◌≤◌, Bool, true, false, cond, arith, refl, length, take, List, [], ◌∷◌, ◌++◌, Option, Some, None}
use Rattle.std.specs.Prelude.{◌==◌}
use Rattle.std.specs.List.{sum_by, count_by, slice_split, slice_index_or, onto_first, flat_map, list_all}
use Rattle.std.specs.Option.{option_map, option_map_or}
use Rattle.std.proofs.lemmas.List.{length-append, length-take}
use Rattle.std.proofs.lemmas.List.Sums.{sum_by-cons, sum_by-append, sum_by-take-le}
use Rattle.std.proofs.lemmas.List.Splits.{length-slice_split}
use Rattle.texts.specs.Texts.{lines_of}
use Rattle.rv_isa.specs.declared.instr.Instr.{Instr}
use Rattle.asm_text.specs.Tokens.{tokens, tokens_of, flush, is_blank, is_name_byte, is_name}
use Rattle.asm_text.specs.Operands.{◌>>=◌, operands, is_comma, name_in, text_in}
use Rattle.asm_text.specs.Keywords.{keyword_of, section_of}
use Rattle.rv_isa.specs.declared.instr.AluOp.{AluOp}
use Rattle.rv_isa.specs.declared.instr.ImmOp.{ImmOp}
use Rattle.rv_isa.specs.declared.instr.ShiftOp.{ShiftOp}
use Rattle.rv_isa.specs.declared.instr.AmoOp.{AmoOp}
use Rattle.rv_isa.specs.declared.instr.Cond.{Cond}
use Rattle.rv_isa.specs.declared.instr.Width.{Width}
use Rattle.asm_text.specs.Bodies.{a_word, alu_of, imm_of, shift_of, branch_of, load_of, store_of, jalr_of, lr_of, sc_of, amo_of, lui_of, auipc_of, jal_of, call_of, fixed_of, word_of, byte_of, dword_of, nops_of, space_of, func_of, entry_of, object_of, slot_of, ascii_of, arity, read_as, read}
use Rattle.asm_text.specs.declared.body.Body.{Body}
use Rattle.asm_text.specs.declared.body.Body.TheVariants as says
use Rattle.asm_text.specs.declared.keyword.Keyword.{Keyword}
use Rattle.asm_text.specs.declared.keyword.Keyword.TheVariants as word
use Rattle.asm_text.specs.declared.keyword.Section.{Section}
use Rattle.asm_text.specs.Statements.{after_labels, labels_of, whole, statement_of, part_statements, is_semicolon, line_statements, statements_from, statements, name_size, weight}
use Rattle.asm_text.specs.declared.token.Token.{Token}
use Rattle.asm_text.specs.declared.token.Token.TheVariants.{Word, Text, Comma, Colon, Semicolon, Open, Close, Broken}
use Rattle.asm_text.specs.declared.token.Mode.{Mode}
use Rattle.asm_text.specs.declared.token.Mode.TheVariants.{Plain, Quoted, Comment}

-- ---- bytes to tokens

abbrev pub token_size : Token → ℕ
token_size (Word word) = length word + 1
token_size (Text text) = length text + 1
token_size _ = 1

abbrev pub size_of : List Token → ℕ
size_of ts = sum_by token_size ts

abbrev open_size : Mode → List ℕ → ℕ
open_size Plain word = 2 * length word
open_size Quoted text = 2 * length text + 1
open_size Comment word = 0

either : (b : Bool) (xs ys : List Token) (n : ℕ) → size_of xs ≤ n → size_of ys ≤ n → size_of (cond b xs ys) ≤ n
either true xs ys n x y = x
either false xs ys n x y = y

flushed : (word : List ℕ) (ts : List Token) (n : ℕ) → size_of ts ≤ n → size_of (flush word ++ ts) ≤ 2 * length word + n
flushed [] ts n le = omega (arith, le)
flushed (c ∷ word) ts n le = omega (arith, le, sum_by-cons token_size (Word (c ∷ word)) ts)

marked : (word : List ℕ) (t : Token) (ts : List Token) (n : ℕ) → token_size t ≡ 1 → size_of ts ≤ n → size_of (flush word ++ t ∷ ts) ≤ 2 * length word + (1 + n)
marked word t ts n one le = flushed word (t ∷ ts) (1 + n) (omega (arith, one, le, sum_by-cons token_size t ts))

flush_le : (word : List ℕ) → size_of (flush word) ≤ 2 * length word
flush_le [] = omega arith
flush_le (c ∷ word) = omega (arith, sum_by-cons token_size (Word (c ∷ word)) [])

tokens_le : (m : Mode) (word rest : List ℕ) → size_of (tokens m word rest) ≤ open_size m word + 2 * length rest
tokens_le Plain word [] = omega (arith, flush_le word)
tokens_le Quoted text [] = omega (arith, sum_by-cons token_size Broken [])
tokens_le Comment word [] = omega arith
tokens_le Plain word (c ∷ rest) =
    let n = 2 + 2 * length rest in
    let plain = tokens_le Plain [] rest in
    let after : size_of (tokens Plain [] rest) ≤ n = omega (arith, plain) in
    let mark = λ (t : Token) (one : token_size t ≡ 1). marked word t (tokens Plain [] rest) (2 * length rest) one (omega (arith, plain)) in
    let most = 2 * length word + n in
    let all : size_of (tokens Plain word (c ∷ rest)) ≤ most =
    either (c == 35) _ _ most (flushed word (tokens Comment [] rest) n (omega (arith, tokens_le Comment [] rest)))
    (either (c == 34) _ _ most (flushed word (tokens Quoted [] rest) n (omega (arith, tokens_le Quoted [] rest)))
    (either (is_blank c) _ _ most (flushed word (tokens Plain [] rest) n after)
    (either (c == 44) _ _ most (omega (arith, mark Comma refl))
    (either (c == 58) _ _ most (omega (arith, mark Colon refl))
    (either (c == 59) _ _ most (omega (arith, mark Semicolon refl))
    (either (c == 40) _ _ most (omega (arith, mark Open refl))
    (either (c == 41) _ _ most (omega (arith, mark Close refl))
    (either (is_name_byte c) _ _ most (omega (arith, tokens_le Plain (word ++ c ∷ []) rest, length-append word (c ∷ [])))
    (flushed word (tokens Plain (c ∷ []) rest) n (omega (arith, tokens_le Plain (c ∷ []) rest))))))))))) in
    omega (arith, all)
tokens_le Quoted text (c ∷ rest) =
    let most = 2 * length text + 1 + (2 + 2 * length rest) in
    let all : size_of (tokens Quoted text (c ∷ rest)) ≤ most =
    either (c == 34) _ _ most (omega (arith, sum_by-cons token_size (Text text) (tokens Plain [] rest), tokens_le Plain [] rest))
    (omega (arith, tokens_le Quoted (text ++ c ∷ []) rest, length-append text (c ∷ []))) in
    omega (arith, all)
tokens_le Comment word (c ∷ rest) = omega (arith, tokens_le Comment word rest)

-- ---- parts of a list

module _ {X : Type 0} (p : X → Bool) (w : X → ℕ) (m : List X → ℕ) (none : m [] ≡ 0) (more : (x : X) (xs : List X) → m (x ∷ xs) ≡ w x + m xs) where
  sum_first : (x : X) (parts : List (List X)) → sum_by m (onto_first x parts) ≡ w x + sum_by m parts
  sum_first x [] = omega (arith, sum_by-cons m (x ∷ []) [], more x [], none)
  sum_first x (part ∷ parts) = omega (arith, sum_by-cons m (x ∷ part) parts, sum_by-cons m part parts, more x part)

  sum_cond : (x : X) (parts : List (List X)) (b : Bool) → sum_by m (cond b ([] ∷ parts) (onto_first x parts)) ≤ w x + sum_by m parts
  sum_cond x parts true = omega (arith, sum_by-cons m [] parts, none)
  sum_cond x parts false = omega (arith, sum_first x parts)

  pub split_le : (xs : List X) → sum_by m (slice_split p xs) ≤ m xs
  split_le [] = omega (arith, sum_by-cons m [] [], none)
  split_le (x ∷ xs) = omega (arith, sum_cond x (slice_split p xs) (p x), split_le xs, more x xs)

parts_le : (p : Token → Bool) (ts : List Token) → sum_by size_of (slice_split p ts) ≤ size_of ts
parts_le p ts = split_le p token_size size_of refl (λ t xs. sum_by-cons token_size t xs) ts

lengths_le : (p : ℕ → Bool) (bytes : List ℕ) → sum_by length (slice_split p bytes) ≤ length bytes
lengths_le p bytes = split_le p (λ _. 1) length refl (λ x xs. omega arith) bytes

-- ---- the size of the name that a statement gives

abbrev given : Option Body → ℕ
given body = option_map_or name_size body 0

zero_le : 0 ≤ 0
zero_le = omega arith

then_le : {A : Type 0} (o : Option A) (f : A → Option Body) (n : ℕ) → ((x : A) → given (f x) ≤ n) → given (o >>= f) ≤ n
then_le None f n le = omega arith
then_le (Some x) f n le = le x

word_none : (i : Option Instr) → name_size (a_word i) ≤ 0
word_none None = omega arith
word_none (Some i) = omega arith

-- a number that fits, or one that is out of range
fits_none : {A : Type 0} (o : Option A) (f : A → Body) (other : Body) → ((x : A) → name_size (f x) ≤ 0) → name_size other ≤ 0 → name_size (option_map_or f o other) ≤ 0
fits_none None f other some none = none
fits_none (Some x) f other some none = some x

sign_none : (b : Bool) (x y : Body) → name_size x ≤ 0 → name_size y ≤ 0 → name_size (cond b x y) ≤ 0
sign_none true x y l r = l
sign_none false x y l r = r

map_none : {A : Type 0} (o : Option A) (f : A → Body) → ((x : A) → name_size (f x) ≤ 0) → given (option_map f o) ≤ 0
map_none None f le = omega arith
map_none (Some x) f le = le x

name_le : (b : Bool) (word : List ℕ) (f : List ℕ → Body) → ((x : List ℕ) → name_size (f x) ≤ length x + 1) → given (option_map f (cond b (Some word) None)) ≤ length word + 1
name_le true word f le = le word
name_le false word f le = omega arith

-- a name is no longer than the operand that it is
name_in_le : (op : List Token) (f : List ℕ → Body) → ((x : List ℕ) → name_size (f x) ≤ length x + 1) → given (option_map f (name_in op)) ≤ size_of op
name_in_le [] f le = omega arith
name_in_le (Word word ∷ []) f le = omega (arith, name_le (is_name word) word f le, sum_by-cons token_size (Word word) [])
name_in_le (Word word ∷ t ∷ ts) f le = omega arith
name_in_le (Text text ∷ ts) f le = omega arith
name_in_le (Comma ∷ ts) f le = omega arith
name_in_le (Colon ∷ ts) f le = omega arith
name_in_le (Semicolon ∷ ts) f le = omega arith
name_in_le (Open ∷ ts) f le = omega arith
name_in_le (Close ∷ ts) f le = omega arith
name_in_le (Broken ∷ ts) f le = omega arith

first_le : (ops : List (List Token)) → size_of (slice_index_or ops 0 []) ≤ sum_by size_of ops
first_le [] = omega arith
first_le (op ∷ ops) = omega (arith, sum_by-cons size_of op ops)

named_le : (ops : List (List Token)) (f : List ℕ → Body) → ((x : List ℕ) → name_size (f x) ≤ length x + 1) → given (option_map f (name_in (slice_index_or ops 0 []))) ≤ sum_by size_of ops
named_le ops f le = omega (arith, name_in_le (slice_index_or ops 0 []) f le, first_le ops)

alu_of_none : (op : AluOp) (ops : List (List Token)) → given (alu_of op ops) ≤ 0
unfolding alu_of
alu_of_none op ops = search rules

imm_of_none : (op : ImmOp) (ops : List (List Token)) → given (imm_of op ops) ≤ 0
unfolding imm_of
imm_of_none op ops = search rules

shift_of_none : (op : ShiftOp) (ops : List (List Token)) → given (shift_of op ops) ≤ 0
unfolding shift_of
shift_of_none op ops = search rules

branch_of_none : (cond_ : Cond) (ops : List (List Token)) → given (branch_of cond_ ops) ≤ 0
unfolding branch_of
branch_of_none cond_ ops = search rules

load_of_none : (width : Width) (ops : List (List Token)) → given (load_of width ops) ≤ 0
unfolding load_of
load_of_none width ops = search rules

store_of_none : (width : Width) (ops : List (List Token)) → given (store_of width ops) ≤ 0
unfolding store_of
store_of_none width ops = search rules

jalr_of_none : (ops : List (List Token)) → given (jalr_of ops) ≤ 0
unfolding jalr_of
jalr_of_none ops = search rules

lr_of_none : (wide : Bool) (ops : List (List Token)) → given (lr_of wide ops) ≤ 0
unfolding lr_of
lr_of_none wide ops = search rules

sc_of_none : (wide : Bool) (ops : List (List Token)) → given (sc_of wide ops) ≤ 0
unfolding sc_of
sc_of_none wide ops = search rules

amo_of_none : (op : AmoOp) (wide : Bool) (ops : List (List Token)) → given (amo_of op wide ops) ≤ 0
unfolding amo_of
amo_of_none op wide ops = search rules

lui_of_none : (ops : List (List Token)) → given (lui_of ops) ≤ 0
unfolding lui_of
lui_of_none ops = search rules

auipc_of_none : (ops : List (List Token)) → given (auipc_of ops) ≤ 0
unfolding auipc_of
auipc_of_none ops = search rules

jal_of_none : (ops : List (List Token)) → given (jal_of ops) ≤ 0
unfolding jal_of
jal_of_none ops = search rules

word_of_none : (ops : List (List Token)) → given (word_of ops) ≤ 0
unfolding word_of
word_of_none ops = search rules

byte_of_none : (ops : List (List Token)) → given (byte_of ops) ≤ 0
unfolding byte_of
byte_of_none ops = search rules

dword_of_none : (ops : List (List Token)) → given (dword_of ops) ≤ 0
unfolding dword_of
dword_of_none ops = search rules

nops_of_none : (ops : List (List Token)) → given (nops_of ops) ≤ 0
unfolding nops_of
nops_of_none ops = search rules

space_of_none : (ops : List (List Token)) → given (space_of ops) ≤ 0
unfolding space_of
space_of_none ops = search rules

fixed_none : (k : Keyword) → given (fixed_of k) ≤ 0
unfolding fixed_of
fixed_none (word.Alu op) = omega arith
fixed_none (word.AluImm op) = omega arith
fixed_none (word.Shift op) = omega arith
fixed_none (word.Branch c) = omega arith
fixed_none (word.Load w) = omega arith
fixed_none (word.Store w) = omega arith
fixed_none (word.Lr b) = omega arith
fixed_none (word.Sc b) = omega arith
fixed_none (word.Amo op b) = omega arith
fixed_none word.Lui = omega arith
fixed_none word.Auipc = omega arith
fixed_none word.Jal = omega arith
fixed_none word.Jalr = omega arith
fixed_none word.Call = omega arith
fixed_none word.Fence = omega arith
fixed_none word.Ecall = omega arith
fixed_none word.Ebreak = omega arith
fixed_none word.Nop = omega arith
fixed_none word.Ret = omega arith
fixed_none word.ToText = omega arith
fixed_none word.ToData = omega arith
fixed_none word.Func = omega arith
fixed_none word.End = omega arith
fixed_none word.Entry = omega arith
fixed_none word.Word = omega arith
fixed_none word.Nops = omega arith
fixed_none word.Byte = omega arith
fixed_none word.Dword = omega arith
fixed_none word.Space = omega arith
fixed_none word.Ascii = omega arith
fixed_none word.Object = omega arith
fixed_none word.EndObject = omega arith
fixed_none word.Slot = omega arith

read_as_le : (k : Keyword) (ops : List (List Token)) → given (read_as k ops) ≤ sum_by size_of ops
unfolding read_as func_of object_of call_of entry_of slot_of ascii_of
read_as_le (word.Alu op) ops = omega (arith, alu_of_none op ops)
read_as_le (word.AluImm op) ops = omega (arith, imm_of_none op ops)
read_as_le (word.Shift op) ops = omega (arith, shift_of_none op ops)
read_as_le (word.Branch c) ops = omega (arith, branch_of_none c ops)
read_as_le (word.Load w) ops = omega (arith, load_of_none w ops)
read_as_le (word.Store w) ops = omega (arith, store_of_none w ops)
read_as_le (word.Lr b) ops = omega (arith, lr_of_none b ops)
read_as_le (word.Sc b) ops = omega (arith, sc_of_none b ops)
read_as_le (word.Amo op b) ops = omega (arith, amo_of_none op b ops)
read_as_le word.Lui ops = omega (arith, lui_of_none ops)
read_as_le word.Auipc ops = omega (arith, auipc_of_none ops)
read_as_le word.Jal ops = omega (arith, jal_of_none ops)
read_as_le word.Jalr ops = omega (arith, jalr_of_none ops)
read_as_le word.Call ops = omega (arith, map_none (name_in (slice_index_or ops 0 [])) (λ name. says.Call name) (λ x. omega arith))
read_as_le word.Fence ops = omega (arith, fixed_none word.Fence)
read_as_le word.Ecall ops = omega (arith, fixed_none word.Ecall)
read_as_le word.Ebreak ops = omega (arith, fixed_none word.Ebreak)
read_as_le word.Nop ops = omega (arith, fixed_none word.Nop)
read_as_le word.Ret ops = omega (arith, fixed_none word.Ret)
read_as_le word.ToText ops = omega arith
read_as_le word.ToData ops = omega arith
read_as_le word.Func ops = named_le ops (λ name. says.Func name) (λ x. omega arith)
read_as_le word.End ops = omega arith
read_as_le word.Entry ops = omega (arith, map_none (name_in (slice_index_or ops 0 [])) (λ name. says.Entry name) (λ x. omega arith))
read_as_le word.Word ops = omega (arith, word_of_none ops)
read_as_le word.Nops ops = omega (arith, nops_of_none ops)
read_as_le word.Byte ops = omega (arith, byte_of_none ops)
read_as_le word.Dword ops = omega (arith, dword_of_none ops)
read_as_le word.Space ops = omega (arith, space_of_none ops)
read_as_le word.Ascii ops = omega (arith, map_none (text_in (slice_index_or ops 0 [])) (λ bytes. says.Bytes bytes) (λ x. omega arith))
read_as_le word.Object ops = named_le ops (λ name. says.Object name) (λ x. omega arith)
read_as_le word.EndObject ops = omega arith
read_as_le word.Slot ops = omega (arith, map_none (name_in (slice_index_or ops 0 [])) (λ name. says.Slot name) (λ x. omega arith))

else_bad : (o : Option Body) (place : Option Section) → name_size (option_map_or (λ body. body) o (says.Bad place)) ≡ given o
else_bad None place = refl
else_bad (Some body) place = refl

read_cond : (b : Bool) (x : Body) (place : Option Section) (n : ℕ) → name_size x ≤ n → name_size (cond b x (says.Bad place)) ≤ n
read_cond true x place n le = le
read_cond false x place n le = omega arith

read_le : (k : Keyword) (ops : List (List Token)) → name_size (read k ops) ≤ sum_by size_of ops
unfolding read
read_le k ops = read_cond (length ops == arity k) _ (section_of k) _ (omega (arith, else_bad (read_as k ops) (section_of k), read_as_le k ops))

operands_cond : (b : Bool) (ts : List Token) → sum_by size_of (cond b [] (slice_split is_comma ts)) ≤ size_of ts
operands_cond true ts = omega arith
operands_cond false ts = parts_le is_comma ts

keyword_le : (k : Option Keyword) (ts : List Token) → name_size (option_map_or (λ keyword. read keyword (operands ts)) k says.Unknown) ≤ size_of ts
keyword_le None ts = omega arith
keyword_le (Some k) ts = omega (arith, read_le k (operands ts), operands_cond (length ts == 0) ts)

whole_le : (ts : List Token) → name_size (whole ts) ≤ size_of ts - 1
unfolding whole
whole_le [] = omega arith
whole_le (Word name ∷ ts) = omega (arith, keyword_le (keyword_of name) ts, sum_by-cons token_size (Word name) ts)
whole_le (Text text ∷ ts) = omega arith
whole_le (Comma ∷ ts) = omega arith
whole_le (Colon ∷ ts) = omega arith
whole_le (Semicolon ∷ ts) = omega arith
whole_le (Open ∷ ts) = omega arith
whole_le (Close ∷ ts) = omega arith
whole_le (Broken ∷ ts) = omega arith

after_le : (ts : List Token) → size_of (after_labels ts) ≤ size_of ts
after_le [] = omega arith
after_le (Word name ∷ []) = omega arith
after_le (Word name ∷ Colon ∷ ts) = omega (arith, after_le ts, sum_by-cons token_size (Word name) (Colon ∷ ts), sum_by-cons token_size Colon ts)
after_le (Word name ∷ (Word w) ∷ ts) = omega arith
after_le (Word name ∷ (Text text) ∷ ts) = omega arith
after_le (Word name ∷ Comma ∷ ts) = omega arith
after_le (Word name ∷ Semicolon ∷ ts) = omega arith
after_le (Word name ∷ Open ∷ ts) = omega arith
after_le (Word name ∷ Close ∷ ts) = omega arith
after_le (Word name ∷ Broken ∷ ts) = omega arith
after_le (Text text ∷ ts) = omega arith
after_le (Comma ∷ ts) = omega arith
after_le (Colon ∷ ts) = omega arith
after_le (Semicolon ∷ ts) = omega arith
after_le (Open ∷ ts) = omega arith
after_le (Close ∷ ts) = omega arith
after_le (Broken ∷ ts) = omega arith

-- ---- statements

known_cond : (b : Bool) (x : Body) (n : ℕ) → name_size x ≤ n → name_size (cond b x says.Unknown) ≤ n
known_cond true x n le = le
known_cond false x n le = omega arith

some_token : (t : Token) → 1 ≤ token_size t
some_token (Word w) = omega arith
some_token (Text text) = omega arith
some_token (Comma) = omega arith
some_token (Colon) = omega arith
some_token (Semicolon) = omega arith
some_token (Open) = omega arith
some_token (Close) = omega arith
some_token (Broken) = omega arith

part_le : (n : ℕ) (ts : List Token) → sum_by weight (part_statements n ts) ≤ size_of ts
part_le n [] = omega arith
part_le n (t ∷ ts) =
    let all = t ∷ ts in
    let body = known_cond (list_all is_name (labels_of all)) (whole (after_labels all)) (size_of all - 1) (omega (arith, whole_le (after_labels all), after_le all)) in
    omega (arith, sum_by-cons weight (statement_of n all) [], body, some_token t, sum_by-cons token_size t ts)

flat_le : (n : ℕ) (parts : List (List Token)) → sum_by weight (flat_map (part_statements n) parts) ≤ sum_by size_of parts
flat_le n [] = omega arith
flat_le n (part ∷ parts) = omega (arith, sum_by-append weight (part_statements n part) (flat_map (part_statements n) parts), part_le n part, flat_le n parts, sum_by-cons size_of part parts)

line_le : (n : ℕ) (line : List ℕ) → sum_by weight (line_statements n line) ≤ 2 * length line
unfolding tokens_of
line_le n line = omega (arith, flat_le n (slice_split is_semicolon (tokens Plain [] line)), parts_le is_semicolon (tokens Plain [] line), tokens_le Plain [] line)

from_le : (n : ℕ) (ls : List (List ℕ)) → sum_by weight (statements_from n ls) ≤ 2 * sum_by length ls
from_le n [] = omega arith
from_le n (l ∷ ls) = omega (arith, sum_by-append weight (line_statements n l) (statements_from (n + 1) ls), line_le n l, from_le (n + 1) ls, sum_by-cons length l ls)

-- ---- texts

without_cond : (b : Bool) (parts : List (List ℕ)) (n : ℕ) → sum_by length (cond b (take n parts) parts) ≤ sum_by length parts
without_cond true parts n = sum_by-take-le length parts n
without_cond false parts n = omega arith

lines_sum : (text : List ℕ) → sum_by length (lines_of text) ≤ length text
unfolding lines_of
lines_sum text =
    let parts = slice_split (λ b. b == 10) text in
    omega (arith, without_cond (length (slice_index_or parts (length parts - 1) []) == 0) parts (length parts - 1), lengths_le (λ b. b == 10) text)

-- the sizes of all statements of a text
pub statements_le : (text : List ℕ) → sum_by weight (statements text) ≤ 2 * length text
unfolding statements
statements_le text = omega (arith, from_le 1 (lines_of text), lines_sum text)

one_le : (b : Bool) → cond b 1 0 ≤ 1
one_le true = omega arith
one_le false = omega arith

count_le : {X : Type 0} (p : X → Bool) (xs : List X) → count_by p xs ≤ length xs
count_le p [] = omega arith
count_le p (x ∷ xs) = omega (arith, sum_by-cons (λ y. cond (p y) 1 0) x xs, one_le (p x), count_le p xs)

taken : (b : Bool) (parts : List (List ℕ)) (n : ℕ) → length (cond b (take n parts) parts) ≤ length parts
taken true parts n = omega (arith, length-take n parts)
taken false parts n = omega arith

-- the number of lines
pub lines_le : (text : List ℕ) → length (lines_of text) ≤ length text + 1
unfolding lines_of
lines_le text =
    let parts = slice_split (λ b. b == 10) text in
    omega (arith, taken (length (slice_index_or parts (length parts - 1) []) == 0) parts (length parts - 1), length-slice_split (λ b. b == 10) text, count_le (λ b. b == 10) text)
