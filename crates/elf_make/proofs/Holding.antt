-- What a file holds at a place, and what is read from there.
use Rattle.std.proofs.Common.{◌≡◌, ℕ, ◌+◌, ◌-◌, ◌^◌, ◌<◌, ◌≤◌, List, [], ◌∷◌, ◌++◌, length, take, drop, replicate, refl, sym, ap, ◌∙◌, arith, append_assoc, length-append}
use Rattle.std.proofs.lemmas.List.{drop-drop, drop_at, drop-append-le, append-nil, take_at, length-replicate}
use Rattle.byteorder.specs.Endian.{little_number}
use Rattle.byteorder.specs.Numbers.{little_number-reads_back}
use Rattle.elf_make.specs.Bytes.{number, fields, placed, laid}
use Rattle.elf_make.proofs.Lengths.{length-number}

-- these bytes stand in the file at this place
pub record Holds (file : List ℕ) (at : ℕ) (part : List ℕ) : Type 0 where
  pub rest : List ℕ
  pub is : drop at file ≡ part ++ rest
  pub within : at + length part ≤ length file

pub held_first : (file : List ℕ) (at : ℕ) (xs ys : List ℕ) → Holds file at (xs ++ ys) → Holds file at xs
held_first file at xs ys h = record {
  rest = ys ++ h.rest;
  is = h.is ∙ append_assoc xs ys h.rest;
  within = (let w = h.within in omega (arith, length-append xs ys));
}

pub held_next : (file : List ℕ) (at : ℕ) (xs ys : List ℕ) (next : ℕ) → next ≡ at + length xs → Holds file at (xs ++ ys) → Holds file next ys
held_next file at xs ys next place h = record {
  rest = h.rest;
  is = ap (λ n. drop n file) place ∙ sym (drop-drop (length xs) at file) ∙ ap (drop (length xs)) (h.is ∙ append_assoc xs ys h.rest) ∙ drop_at xs (ys ++ h.rest) (length xs) refl;
  within = (let w = h.within in omega (arith, length-append xs ys));
}

-- the bytes of a part, cut out
pub cut : (file : List ℕ) (at : ℕ) (xs : List ℕ) → Holds file at xs → take (length xs) (drop at file) ≡ xs
cut file at xs h = ap (take (length xs)) h.is ∙ take_at xs h.rest (length xs) refl

-- what stands in a file stays where it is as the file grows
grown : (file : List ℕ) (at : ℕ) (xs more : List ℕ) → Holds file at xs → Holds (file ++ more) at xs
grown file at xs more h = record {
  rest = h.rest ++ more;
  is = drop-append-le at file more (let w = h.within in omega arith) ∙ ap (λ bs. bs ++ more) h.is ∙ append_assoc xs h.rest more;
  within = (let w = h.within in omega (arith, length-append file more));
}

pub held_laid : (file : List ℕ) (at : ℕ) (xs : List ℕ) (parts : List (ℕ × List ℕ)) → Holds file at xs → Holds (laid file parts) at xs
unfolding laid
held_laid file at xs [] h = h
held_laid file at xs (p ∷ parts) h = held_laid (placed file p.0 p.1) at xs parts (grown file at xs _ h)

length-placed : (file : List ℕ) (at : ℕ) (part : List ℕ) → length file ≤ at → length (placed file at part) ≡ at + length part
length-placed file at part le = omega (arith, length-append file (replicate (at - length file) 0 ++ part), length-append (replicate (at - length file) 0) part, length-replicate {A = ℕ} (at - length file) 0)

held_placed : (file : List ℕ) (at : ℕ) (part : List ℕ) → length file ≤ at → Holds (placed file at part) at part
held_placed file at part le = record {
  rest = [];
  is = (
      let zeros : List ℕ = replicate (at - length file) 0 in
      let len : length (file ++ zeros) ≡ at = omega (arith, length-append file zeros, length-replicate {A = ℕ} (at - length file) 0) in
      ap (drop at) (sym (append_assoc file zeros part)) ∙ drop_at (file ++ zeros) part at len ∙ sym (append-nil part));
  within = (let e = length-placed file at part le in omega arith);
}

-- the parts stand one after another, the first not before `here`
abbrev pub InOrder : ℕ → List (ℕ × List ℕ) → Type 0
InOrder here [] = Unit {0}
InOrder here (p ∷ parts) = (here ≤ p.0) × InOrder (p.0 + length p.1) parts

abbrev pub HoldsEach : List ℕ → List (ℕ × List ℕ) → Type 0
HoldsEach file [] = Unit {0}
HoldsEach file (p ∷ parts) = Holds file p.0 p.1 × HoldsEach file parts

abbrev pub end_of : ℕ → List (ℕ × List ℕ) → ℕ
end_of here [] = here
end_of here (p ∷ parts) = end_of (p.0 + length p.1) parts

pub held_each : (file : List ℕ) (here : ℕ) (parts : List (ℕ × List ℕ)) → length file ≡ here → InOrder here parts → HoldsEach (laid file parts) parts
unfolding laid
held_each file here [] len order = record {}
held_each file here (p ∷ parts) len order =
    let le : length file ≤ p.0 = omega (arith, order.0) in
    (held_laid (placed file p.0 p.1) p.0 p.1 parts (held_placed file p.0 p.1 le), held_each (placed file p.0 p.1) (p.0 + length p.1) parts (length-placed file p.0 p.1 le) order.1)

pub length-laid : (file : List ℕ) (here : ℕ) (parts : List (ℕ × List ℕ)) → length file ≡ here → InOrder here parts → length (laid file parts) ≡ end_of here parts
unfolding laid
length-laid file here [] len order = len
length-laid file here (p ∷ parts) len order =
    let le : length file ≤ p.0 = omega (arith, order.0) in
    length-laid (placed file p.0 p.1) (p.0 + length p.1) parts (length-placed file p.0 p.1 le) order.1

-- the parts lie the same after another beginning of the same length
pub laid_after : (a b xs : List ℕ) (parts : List (ℕ × List ℕ)) → length a ≡ length b → laid (b ++ xs) parts ≡ b ++ drop (length a) (laid (a ++ xs) parts)
unfolding laid
laid_after a b xs [] same = ap (λ ys. b ++ ys) (sym (drop_at a xs (length a) refl))
laid_after a b xs (p ∷ parts) same =
    let la = length-append a xs in
    let lb = length-append b xs in
    let e : length (b ++ xs) ≡ length (a ++ xs) = omega arith in
    let more : List ℕ = replicate (p.0 - length (a ++ xs)) 0 ++ p.1 in
    let left : placed (b ++ xs) p.0 p.1 ≡ b ++ (xs ++ more) = ap (λ n. (b ++ xs) ++ (replicate (p.0 - n) 0 ++ p.1)) e ∙ append_assoc b xs more in
    let right : placed (a ++ xs) p.0 p.1 ≡ a ++ (xs ++ more) = append_assoc a xs more in
    ap (λ f. laid f parts) left ∙ laid_after a b (xs ++ more) parts same ∙ ap (λ f. b ++ drop (length a) (laid f parts)) (sym right)

-- the numbers of fields, read at `from + at`
abbrev pub Reads : List ℕ → ℕ → ℕ → List (ℕ × ℕ) → Type 0
Reads file from at [] = Unit {0}
Reads file from at (f ∷ fs) = (f.1 < 256 ^ f.0 → little_number f.0 (drop (from + at) file) ≡ f.1) × Reads file from (at + f.0) fs

one_number : (file : List ℕ) (at size value : ℕ) (rest : List ℕ) → Holds file at (number size value ++ rest) → value < 256 ^ size → little_number size (drop at file) ≡ value
unfolding number
one_number file at size value rest h lt = ap (little_number size) (h.is ∙ append_assoc (number size value) rest h.rest) ∙ little_number-reads_back size value (rest ++ h.rest) lt

pub reads : (file : List ℕ) (from at : ℕ) (fs : List (ℕ × ℕ)) → Holds file (from + at) (fields fs) → Reads file from at fs
reads file from at [] h = record {}
reads file from at (f ∷ fs) h =
    (one_number file (from + at) f.0 f.1 (fields fs) h, reads file from (at + f.0) fs (held_next file (from + at) (number f.0 f.1) (fields fs) (from + (at + f.0)) (omega (arith, length-number f.0 f.1)) h))
