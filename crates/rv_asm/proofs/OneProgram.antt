-- A text stands for one program at most.
use Rattle.std.proofs.Common.{◌≡◌, ℕ, ◌+◌, ◌*◌, ◌^◌, ◌<◌, ◌≤◌, List, [], ◌∷◌, length, subst, sym, ap, refl, ◌∙◌}
use Rattle.std.proofs.Math.Bool.{Bool-set}
use Rattle.std.proofs.Math.Bridge.{le_prop}
use Rattle.std.specs.List.{All, sum_by}
use Rattle.rv_encode.proofs.OneWord.{one_word}
use Rattle.rv_asm.specs.declared.code.Code.{Code}
use Rattle.rv_asm.specs.declared.code.Code.TheVariants.{Instruction, Raw}
use Rattle.rv_asm.specs.declared.program.Program.{Program}
use Rattle.rv_asm.specs.declared.symbol.Fixup.{Fixup}
use Rattle.rv_asm.specs.declared.symbol.Named.{Named}
use Rattle.rv_asm.specs.Assembly.{IsProgramOf}
use Rattle.rv_asm.specs.Emission.{Stands, AreWords}
use Rattle.rv_asm.specs.Kept.{IsSound, symbol_size}

stands_once : (v w : ℕ) (c : Code) → Stands v c → Stands w c → v ≡ w
stands_once v w (Instruction i) a b = one_word v w i a.0 b.0 a.1 b.1
stands_once v w (Raw x) a b = a ∙ sym b

pub words_once : (v w : List ℕ) (codes : List Code) → AreWords v codes → AreWords w codes → v ≡ w
words_once [] [] [] a b = refl
words_once [] [] (c ∷ codes) a b = refl
words_once [] (y ∷ w) [] a b = absurd b
words_once [] (y ∷ w) (c ∷ codes) a b = absurd a
words_once (x ∷ v) [] [] a b = absurd a
words_once (x ∷ v) [] (c ∷ codes) a b = absurd b
words_once (x ∷ v) (y ∷ w) [] a b = absurd a
words_once (x ∷ v) (y ∷ w) (c ∷ codes) a b = ap (λ z. z ∷ v) (stands_once x y c a.0 b.0) ∙ ap (λ ws. y ∷ ws) (words_once v w codes a.1 b.1)

-- ---- a program is its lists and its entry: what it keeps of them has one proof

abbrev Lists : Type 0
Lists = List ℕ × List ℕ × ℕ × List Named × List Named × List Fixup

abbrev Facts : Lists → Type 0
Facts l =
    (4 * length l.0 ≤ 16777216) × (length l.1 ≤ 16777216) × All IsSound l.3 × All IsSound l.4
    × (sum_by symbol_size l.3 + sum_by symbol_size l.4 < 2 ^ 31) × All (λ f. f.func < length l.3) l.5

facts_once : (l : Lists) → IsProp (Facts l)
facts_once l = hlevel (le_prop, Bool-set)

abbrev lists_of : Program → Lists
lists_of p = (p.text, p.bytes, p.entry, p.funcs, p.objects, p.fixups)

abbrev facts_of : (p : Program) → Facts (lists_of p)
facts_of p = (p.text_limit, p.data_limit, p.sound_funcs, p.sound_objects, p.short_names, p.aims)

abbrev made_of : (l : Lists) → Facts l → Program
made_of l f = record {
  text = l.0;
  bytes = l.1;
  entry = l.2;
  funcs = l.3;
  objects = l.4;
  fixups = l.5;
  text_limit = f.0;
  data_limit = f.1;
  sound_funcs = f.2;
  sound_objects = f.3;
  short_names = f.4;
  aims = f.5;
}

made_once : (l k : Lists) (f : Facts l) (g : Facts k) → l ≡ k → made_of l f ≡ made_of k g
made_once l k f g e = subst (λ m. (h : Facts m) → made_of l f ≡ made_of m h) e (λ h. ap (made_of l) (facts_once l f h)) g

abbrev lists : List ℕ → List ℕ → ℕ → List Named → List Named → List Fixup → Lists
lists a b n c d e = (a, b, n, c, d, e)

same_lists : (a a' b b' : List ℕ) (n n' : ℕ) (c c' d d' : List Named) (e e' : List Fixup) → a ≡ a' → b ≡ b' → n ≡ n' → c ≡ c' → d ≡ d' → e ≡ e' → lists a b n c d e ≡ lists a' b' n' c' d' e'
same_lists a a' b b' n n' c c' d d' e e' p q r s t u = cc

pub same_program : (p q : Program) → p.text ≡ q.text → p.bytes ≡ q.bytes → p.entry ≡ q.entry → p.funcs ≡ q.funcs → p.objects ≡ q.objects → p.fixups ≡ q.fixups → p ≡ q
same_program p q words in_data start_at functions all_objects relocations =
    made_once (lists_of p) (lists_of q) (facts_of p) (facts_of q)
    (same_lists p.text q.text p.bytes q.bytes p.entry q.entry p.funcs q.funcs p.objects q.objects p.fixups q.fixups words in_data start_at functions all_objects relocations)

pub one_program : (text : List ℕ) (p q : Program) → IsProgramOf text p → IsProgramOf text q → p ≡ q
one_program text p q a b =
    same_program p q (words_once p.text q.text _ a.words b.words) (a.in_data ∙ sym b.in_data) (a.start_at ∙ sym b.start_at)
    (a.functions ∙ sym b.functions) (a.all_objects ∙ sym b.all_objects) (a.relocations ∙ sym b.relocations)
