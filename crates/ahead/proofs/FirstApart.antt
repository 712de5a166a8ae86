-- The first two of some numbers that differ, part by part.
use Rattle.std.proofs.Common.{◌≡◌, ℕ, suc, ◌+◌, ◌<◌, ◌==◌, Bool, true, false, cond, List, [], ◌∷◌, ◌++◌, length, drop, get_or, drop-cons, add-one, refl, sym, ap, ◌∙◌, arith}
use Rattle.std.specs.Prelude.{Option, Some, None, not}
use Rattle.std.specs.Option.{option_map, option_or}
use Rattle.std.proofs.lemmas.List.Folds.{find-append}
use Rattle.std.proofs.Math.Seq.{drop-length}
use Rattle.finite.proofs.Finding.{none_by_map}
use Rattle.image.specs.Picture.{Picture}
use Rattle.layout.specs.Points.{Code}
use Rattle.link_tags.specs.declared.value.Value.{Value}
use Rattle.ahead.specs.declared.home.Stranger.{Stranger}
use Rattle.ahead.specs.declared.note.Note.{Note}
use Rattle.ahead.specs.Notes.{tag_number, first_apart, compared_note, compared_notes}
use Rattle.ahead.specs.Flown.{compared_values, stranger_of}

abbrev pub told : List (ℕ × ℕ) → Option Stranger
told pairs = option_map stranger_of (first_apart pairs)

map_or : (o q : Option (ℕ × ℕ)) → option_map stranger_of (option_or o q) ≡ option_or (option_map stranger_of o) (option_map stranger_of q)
map_or None q = refl
map_or (Some c) q = refl

-- some pairs, and then others
pub then_told : (xs ys : List (ℕ × ℕ)) → option_or (told xs) (told ys) ≡ told (xs ++ ys)
then_told xs ys = sym (ap (option_map stranger_of) (find-append (λ c. not (c.0 == c.1)) xs ys) ∙ map_or (first_apart xs) (first_apart ys))

pub then_differ : (x : ℕ × ℕ) (ys : List (ℕ × ℕ)) → option_or (told (x ∷ [])) (told ys) ≡ told (x ∷ ys)
then_differ x ys = then_told (x ∷ []) ys

-- what is found in the first of them is the first of all, and where nothing is found the rest decides
pub found_first : (xs ys : List (ℕ × ℕ)) (s : Stranger) → Some s ≡ told xs → Some s ≡ told (xs ++ ys)
found_first xs ys s e = ap (λ (o : Option Stranger). option_or o (told ys)) e ∙ then_told xs ys

pub none_first : (xs ys : List (ℕ × ℕ)) → None ≡ told xs → told ys ≡ told (xs ++ ys)
none_first xs ys e = ap (λ (o : Option Stranger). option_or o (told ys)) e ∙ then_told xs ys

-- ---- in a loop, where what is left of all begins with some pairs
pub part_found : (all here rest : List (ℕ × ℕ)) (o : Option Stranger) (s : Stranger) → told all ≡ told (here ++ rest) → o ≡ told here → o ≡ Some s → Some s ≡ told all
part_found all here rest o s e f is = found_first here rest s (sym is ∙ f) ∙ sym e

pub part_none : (all here rest : List (ℕ × ℕ)) (o : Option Stranger) → told all ≡ told (here ++ rest) → o ≡ told here → o ≡ None → told all ≡ told rest
part_none all here rest o e f is = e ∙ sym (none_first here rest (sym is ∙ f))

-- ---- registers
abbrev pub on_value : Value → Value → List (ℕ × ℕ)
on_value v w = (v.number, w.number) ∷ (tag_number v.tag, tag_number w.tag) ∷ []

pub values_at : (vs ws : List Value) (i : ℕ) (d : Value) → i < length vs → i < length ws
    → compared_values (drop i vs) (drop i ws) ≡ on_value (get_or vs i d) (get_or ws i d) ++ compared_values (drop (i + 1) vs) (drop (i + 1) ws)
values_at vs ws i d h g = rw (add-one, drop-cons vs i d, drop-cons ws i d) refl

pub values_end : (vs ws : List Value) → length vs ≡ length ws → told (compared_values (drop (length vs) vs) (drop (length vs) ws)) ≡ None
values_end vs ws e = rw (drop-length vs, e, drop-length ws) refl

-- ---- notes
pub notes_at : (p : Picture) (c : Code) (ns : List Note) (i : ℕ) (d : Note) → i < length ns
    → compared_notes p c (drop i ns) ≡ compared_note p c (get_or ns i d) ++ compared_notes p c (drop (i + 1) ns)
notes_at p c ns i d h = rw (add-one, drop-cons ns i d) refl

pub notes_end : (p : Picture) (c : Code) (ns : List Note) → told (compared_notes p c (drop (length ns) ns)) ≡ None
notes_end p c ns = rw (drop-length ns) refl

-- ---- all of them in turn
pub all_told : (x y z : ℕ × ℕ) (vs ns : List (ℕ × ℕ))
    → option_or (option_or (option_or (option_or (told (x ∷ [])) (told (y ∷ []))) (told (z ∷ []))) (told vs)) (told ns) ≡ told (x ∷ y ∷ z ∷ vs ++ ns)
all_told x y z vs ns =
    ap (λ (o : Option Stranger). option_or (option_or (option_or o (told (z ∷ []))) (told vs)) (told ns)) (then_told (x ∷ []) (y ∷ []))
    ∙ ap (λ (o : Option Stranger). option_or (option_or o (told vs)) (told ns)) (then_told (x ∷ y ∷ []) (z ∷ []))
    ∙ ap (λ (o : Option Stranger). option_or o (told ns)) (then_told (x ∷ y ∷ z ∷ []) vs)
    ∙ then_told (x ∷ y ∷ z ∷ vs) ns

pub none_told : (o : Option Stranger) (pairs : List (ℕ × ℕ)) → o ≡ told pairs → o ≡ None → first_apart pairs ≡ None
none_told o pairs e n = none_by_map stranger_of (first_apart pairs) (sym e ∙ n)

pub chained : (o p q v n r s t u : Option Stranger) (x y z : ℕ × ℕ) (vs ns : List (ℕ × ℕ)) → o ≡ told (x ∷ []) → p ≡ told (y ∷ []) → q ≡ told (z ∷ []) → v ≡ told vs → n ≡ told ns
    → r ≡ option_or o p → s ≡ option_or r q → t ≡ option_or s v → u ≡ option_or t n → u ≡ told (x ∷ y ∷ z ∷ vs ++ ns)
chained o p q v n r s t u x y z vs ns eo ep eq ev en er es et eu =
    let first : r ≡ option_or (told (x ∷ [])) (told (y ∷ [])) = er ∙ (λ i. option_or (eo i) (ep i)) in
    let second : s ≡ option_or (option_or (told (x ∷ [])) (told (y ∷ []))) (told (z ∷ [])) = es ∙ (λ i. option_or (first i) (eq i)) in
    let third : t ≡ option_or (option_or (option_or (told (x ∷ [])) (told (y ∷ []))) (told (z ∷ []))) (told vs) = et ∙ (λ i. option_or (second i) (ev i)) in
    eu ∙ (λ i. option_or (third i) (en i)) ∙ all_told x y z vs ns
