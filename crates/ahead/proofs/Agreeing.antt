-- What it says that numbers compared don't differ.
use Rattle.std.proofs.Common.{◌≡◌, ℕ, ◌<◌, ◌==◌, Bool, true, false, cond, List, [], ◌∷◌, ◌++◌, refl, sym, ap, ◌∙◌, arith}
use Rattle.std.specs.Prelude.{Option, Some, None, not}
use Rattle.std.proofs.lemmas.Bool.{eqb-true, eq-eqb}
use Rattle.std.specs.List.{list_any}
use Rattle.std.proofs.lemmas.Grind.{flat_map-append}
use Rattle.image.specs.Picture.{Picture, is_second}
use Rattle.image.specs.Texts.{covers}
use Rattle.layout.specs.declared.point.Point.{Point}
use Rattle.layout.specs.declared.point.Point.TheVariants.{Start, Hop, Mid}
use Rattle.layout.specs.Points.{Code}
use Rattle.link_tags.specs.declared.value.Tag.{Tag}
use Rattle.sim_laws.specs.Origins.{origin, origin_of}
use Rattle.ahead.specs.declared.note.Aimed.{Aimed}
use Rattle.ahead.specs.declared.note.Note.{Note}
use Rattle.ahead.specs.Notes.{yes_no, word_number, kind_number, first_apart, aimed_at, compared_aim, compared_note, compared_notes}
use Rattle.ahead.specs.Making.{aimed}

-- ---- lists of pairs
pub first_same : (a b : ℕ) (qs : List (ℕ × ℕ)) → first_apart ((a, b) ∷ qs) ≡ None → (a ≡ b) × (first_apart qs ≡ None)
first_same a b qs e = by_test (a == b) refl e
  where
    by_test : (t : Bool) → (a == b) ≡ t → cond (not t) (Some (a, b)) (first_apart qs) ≡ None → (a ≡ b) × (first_apart qs ≡ None)
    by_test true is e = (eqb-true a b is, e)
    by_test false is e = absurd (cc)

pub same_first : (a b : ℕ) (qs : List (ℕ × ℕ)) → a ≡ b → first_apart qs ≡ None → first_apart ((a, b) ∷ qs) ≡ None
same_first a b qs e n = rw (eq-eqb a b e) n

-- lists one after the other
pub both_same : (xs ys : List (ℕ × ℕ)) → first_apart (xs ++ ys) ≡ None → (first_apart xs ≡ None) × (first_apart ys ≡ None)
both_same [] ys e = (refl, e)
both_same (q ∷ xs) ys e =
    let t = first_same q.0 q.1 (xs ++ ys) e in
    let more = both_same xs ys t.1 in
    (same_first q.0 q.1 xs t.0 more.0, more.1)

pub same_both : (xs ys : List (ℕ × ℕ)) → first_apart xs ≡ None → first_apart ys ≡ None → first_apart (xs ++ ys) ≡ None
same_both [] ys e f = f
same_both (q ∷ xs) ys e f =
    let t = first_same q.0 q.1 xs e in
    same_first q.0 q.1 (xs ++ ys) t.0 (same_both xs ys t.1 f)

pub notes_more : (p : Picture) (c : Code) (ns ms : List Note) → compared_notes p c (ns ++ ms) ≡ compared_notes p c ns ++ compared_notes p c ms
notes_more p c ns ms = flat_map-append (compared_note p c) ns ms

pub notes_both : (p : Picture) (c : Code) (ns ms : List Note) → first_apart (compared_notes p c (ns ++ ms)) ≡ None
    → (first_apart (compared_notes p c ns) ≡ None) × (first_apart (compared_notes p c ms) ≡ None)
notes_both p c ns ms e = both_same (compared_notes p c ns) (compared_notes p c ms) (sym (ap first_apart (notes_more p c ns ms)) ∙ e)

pub both_notes : (p : Picture) (c : Code) (ns ms : List Note) → first_apart (compared_notes p c ns) ≡ None → first_apart (compared_notes p c ms) ≡ None
    → first_apart (compared_notes p c (ns ++ ms)) ≡ None
both_notes p c ns ms e f = ap first_apart (notes_more p c ns ms) ∙ same_both (compared_notes p c ns) (compared_notes p c ms) e f

pub one_note : (p : Picture) (c : Code) (n : Note) → first_apart (compared_note p c n) ≡ None → first_apart (compared_notes p c (n ∷ [])) ≡ None
one_note p c n e = same_both (compared_note p c n) [] e refl

-- ---- what the numbers stand for
pub word_back : (o : Option ℕ) (w : ℕ) → w < 4294967296 → word_number o ≡ w → o ≡ Some w
word_back None w low e = absurd (omega arith)
word_back (Some v) w low e = ap (λ (n : ℕ). Some n) e

pub bool_back : (b t : Bool) → yes_no b ≡ yes_no t → b ≡ t
bool_back true true e = refl
bool_back false false e = refl
bool_back true false e = absurd (omega arith)
bool_back false true e = absurd (omega arith)

pub point_back : (a : ℕ) (o : Option Point) (q : Point) → origin_of a o ≡ origin_of a (Some q) → kind_number o ≡ kind_number (Some q) → o ≡ Some q
point_back a (Some (Start x)) (Start y) e k = ap (λ (n : ℕ). Some (Start n)) e
point_back a (Some (Hop x)) (Hop y) e k = ap (λ (n : ℕ). Some (Hop n)) e
point_back a (Some (Mid x)) (Mid y) e k = ap (λ (n : ℕ). Some (Mid n)) e
point_back a (Some (Start x)) (Hop y) e k = absurd (omega arith)
point_back a (Some (Start x)) (Mid y) e k = absurd (omega arith)
point_back a (Some (Hop x)) (Start y) e k = absurd (omega arith)
point_back a (Some (Hop x)) (Mid y) e k = absurd (omega arith)
point_back a (Some (Mid x)) (Start y) e k = absurd (omega arith)
point_back a (Some (Mid x)) (Hop y) e k = absurd (omega arith)
point_back a None (Start y) e k = absurd (omega arith)
point_back a None (Hop y) e k = absurd (omega arith)
point_back a None (Mid y) e k = absurd (omega arith)

-- what is compared of a note after its word, and after its original place
abbrev kind_on : Picture → Code → Note → List (ℕ × ℕ)
kind_on p c n = (kind_number (c.point n.at), kind_number (Some n.point)) ∷ compared_aim p c n.aim

abbrev place_on : Picture → Code → Note → List (ℕ × ℕ)
place_on p c n = (origin c n.at, origin_of n.at (Some n.point)) ∷ kind_on p c n

-- a note that agrees with what stands
pub record Agrees (p : Picture) (c : Code) (n : Note) : Type 0 where
  pub word : c.word n.at ≡ Some n.word
  pub point : c.point n.at ≡ Some n.point
  pub origin : origin c n.at ≡ origin_of n.at (Some n.point)
  pub aim : first_apart (compared_aim p c n.aim) ≡ None

pub agrees : (p : Picture) (c : Code) (n : Note) → n.word < 4294967296 → first_apart (compared_note p c n) ≡ None → Agrees p c n
unfolding origin
agrees p c n low e =
    let t = first_same (word_number (c.word n.at)) n.word (place_on p c n) e in
    let u = first_same (origin c n.at) (origin_of n.at (Some n.point)) (kind_on p c n) t.1 in
    let v = first_same (kind_number (c.point n.at)) (kind_number (Some n.point)) (compared_aim p c n.aim) u.1 in
    record {
      word = word_back (c.word n.at) n.word low t.0;
      point = point_back n.at (c.point n.at) n.point u.0 v.0;
      origin = u.0;
      aim = v.1;
    }

-- where a note agrees, so does its original place
pub place_agrees : (p : Picture) (c : Code) (n : Note) → first_apart (compared_note p c n) ≡ None → origin c n.at ≡ origin_of n.at (Some n.point)
place_agrees p c n e =
    let t = first_same (word_number (c.word n.at)) n.word (place_on p c n) e in
    (first_same (origin c n.at) (origin_of n.at (Some n.point)) (kind_on p c n) t.1).0

-- what stands makes a note that agrees
pub seen_note : (p : Picture) (c : Code) (n : Note) → c.word n.at ≡ Some n.word → c.point n.at ≡ Some n.point → first_apart (compared_aim p c n.aim) ≡ None
    → first_apart (compared_note p c n) ≡ None
unfolding origin
seen_note p c n w q a =
    same_first (word_number (c.word n.at)) n.word (place_on p c n) (ap word_number w)
    (same_first (origin c n.at) (origin_of n.at (Some n.point)) (kind_on p c n) (ap (origin_of n.at) q)
    (same_first (kind_number (c.point n.at)) (kind_number (Some n.point)) (compared_aim p c n.aim) (ap kind_number q) a))

-- ---- where an indirect jump goes
-- what is compared of an aim after its original place, and after that
abbrev second_of : Picture → ℕ → Aimed → List (ℕ × ℕ)
second_of p x a = (yes_no (is_second p.pairs x), yes_no a.is_second) ∷ []

abbrev text_of : Picture → ℕ → Aimed → List (ℕ × ℕ)
text_of p x a = (yes_no (list_any (covers x) p.texts), yes_no a.in_text) ∷ second_of p x a

pub aim_agrees : (p p' : Picture) (org : ℕ → ℕ) (c : Code) (to : ℕ) (by : Tag) → first_apart (compared_aim p' c (Some (aimed org p to by))) ≡ None → aimed (origin c) p' to by ≡ aimed org p to by
aim_agrees p p' org c to by e =
    let a = aimed org p to by in
    let x = aimed_at c a in
    let t = first_same x a.original (text_of p' x a) e in
    let u = first_same (yes_no (list_any (covers x) p'.texts)) (yes_no a.in_text) (second_of p' x a) t.1 in
    let v = first_same (yes_no (is_second p'.pairs x)) (yes_no a.is_second) [] u.1 in
    (λ i. record {
      to = to;
      tag = by;
      original = t.0 i;
      in_text = bool_back (list_any (covers x) p'.texts) a.in_text u.0 i;
      is_second = bool_back (is_second p'.pairs x) a.is_second v.0 i;
    })

pub aim_seen : (p : Picture) (c : Code) (to : ℕ) (by : Tag) → first_apart (compared_aim p c (Some (aimed (origin c) p to by))) ≡ None
aim_seen p c to by =
    let a = aimed (origin c) p to by in
    let x = aimed_at c a in
    same_first x a.original (text_of p x a) refl
    (same_first (yes_no a.in_text) (yes_no a.in_text) (second_of p x a) refl
    (same_first (yes_no a.is_second) (yes_no a.is_second) [] refl refl))
