-- Parts fit, lie apart, and lie apart from the text ranges.
use Rattle.std.proofs.Common.{◌≡◌, ℕ, zero, suc, ◌-◌, ◌<◌, ◌≤◌, Bool, true, false, cond, leb, ltb, List, [], ◌∷◌, ◌++◌, length, drop, get_or, ◌⊎◌, inl, inr, refl, arith}
use Rattle.std.specs.List.{All, AllPairs, flat_map, list_any}
use Rattle.std.proofs.lemmas.Bool.{leb-true, ltb-true, le-leb, and_parts, and_from}
use Rattle.std.proofs.lemmas.List.{length-take}
use Rattle.std.proofs.lemmas.List.Elements.{All-tail, All-append, All-map, All-nil}
use Rattle.std.proofs.lemmas.List.Folds.{list_any_none}
use Rattle.finite.proofs.Arranged.{clash, no_clash, IsApart, apart_append, apart_map}
use Rattle.finite.proofs.Searching.{tail_pairs}
use Rattle.elf_read.specs.declared.elf.Segment.{Segment}
use Rattle.elf_read.specs.Whole.{IsSegment, AreApart, segment_end}
use Rattle.image.specs.declared.ranges.Part.{Part}
use Rattle.image.specs.declared.ranges.TextRange.{TextRange}
use Rattle.image.specs.Texts.{text_end}
use Rattle.image.specs.Aims.{part_start, part_end}
use Rattle.image.specs.Picture.{IsPart, LiesApart}
use Rattle.relocs.specs.Built.{piece, is_within, gaps, part_of, parts_in}

abbrev pub Rise : List TextRange → Type 0
Rise ts = AllPairs (λ s t. text_end s ≤ t.from) ts

-- ---- pieces of a range

-- of at least one number, from a up to `to`
abbrev pub Within : ℕ → ℕ → ℕ × ℕ → Type 0
Within a to r = (a ≤ r.0) × (r.0 < r.1) × (r.1 ≤ to)

abbrev start_of : ℕ × ℕ → ℕ
start_of r = r.0

abbrev end_of : ℕ × ℕ → ℕ
end_of r = r.1

one : {X : Type 0} (P : X → Type 0) (x : X) → P x → All P (x ∷ [])
one P x h zero d lt = h
one P x h (suc i) d lt = absurd (omega arith)

piece_case : (P : ℕ × ℕ → Type 0) (a b : ℕ) (c : Bool) → ltb a b ≡ c → (a < b → P (a, b)) → All P (cond c ((a, b) ∷ []) [])
piece_case P a b true e h = one P (a, b) (h (ltb-true a b e))
piece_case P a b false e h = All-nil P

in_piece : (P : ℕ × ℕ → Type 0) (a b : ℕ) → (a < b → P (a, b)) → All P (piece a b)
in_piece P a b h = piece_case P a b (ltb a b) refl h

All-weaken : {X : Type 0} (P Q : X → Type 0) (xs : List X) → ((x : X) → P x → Q x) → All P xs → All Q xs
All-weaken P Q xs f h i d lt = f (get_or xs i d) (h i d lt)

within_case : (c : Bool) (a to : ℕ) (t : TextRange) (ts : List TextRange) → is_within a to t ≡ c → ((b : ℕ) → All (Within b to) (gaps b to ts)) → All (Within a to) (cond c (piece a t.from ++ gaps (text_end t) to ts) (gaps a to ts))
within_case true a to t ts e h =
    let parts = and_parts (leb a t.from) (leb (text_end t) to) e in
    let low = leb-true _ _ parts.0 in
    let high = leb-true _ _ parts.1 in
    All-append (Within a to) (piece a t.from) (gaps (text_end t) to ts)
    (in_piece (Within a to) a t.from (λ lt. (omega arith, lt, omega (arith, high))))
    (All-weaken (Within (text_end t) to) (Within a to) (gaps (text_end t) to ts) (λ r w. (omega (arith, w.0, low), w.1, w.2)) (h (text_end t)))
within_case false a to t ts e h = h a

gaps_within : (a to : ℕ) (ts : List TextRange) → All (Within a to) (gaps a to ts)
gaps_within a to [] = in_piece (Within a to) a to (λ lt. (omega arith, lt, omega arith))
gaps_within a to (t ∷ ts) = within_case (is_within a to t) a to t ts refl (λ b. gaps_within b to ts)

piece_apart : (a b : ℕ) (c : Bool) → IsApart (clash start_of end_of) (cond c ((a, b) ∷ []) [])
piece_apart a b true = (refl, tt)
piece_apart a b false = tt

apart_case : (c : Bool) (a to : ℕ) (t : TextRange) (ts : List TextRange) → ((b : ℕ) → IsApart (clash start_of end_of) (gaps b to ts)) → IsApart (clash start_of end_of) (cond c (piece a t.from ++ gaps (text_end t) to ts) (gaps a to ts))
apart_case true a to t ts h =
    apart_append (clash start_of end_of) (piece a t.from) (gaps (text_end t) to ts) (piece_apart a t.from (ltb a t.from)) (h (text_end t))
    (in_piece (λ x. list_any (clash start_of end_of x) (gaps (text_end t) to ts) ≡ false) a t.from (λ lt. list_any_none (clash start_of end_of (a, t.from)) (gaps (text_end t) to ts) (λ k d k_lt. (
    let w = gaps_within (text_end t) to ts k d k_lt in
    no_clash start_of end_of (a, t.from) (get_or (gaps (text_end t) to ts) k d) (inl (omega (arith, w.0)))))))
apart_case false a to t ts h = h a

gaps_apart : (a to : ℕ) (ts : List TextRange) → IsApart (clash start_of end_of) (gaps a to ts)
gaps_apart a to [] = piece_apart a to (ltb a to)
gaps_apart a to (t ∷ ts) = apart_case (is_within a to t) a to t ts (λ b. gaps_apart b to ts)

-- a text range lies before a range, past it or in it
abbrev pub Cuts : ℕ → ℕ → TextRange → Type 0
Cuts a to t = (text_end t ≤ a) ⊎ ((to ≤ t.from) ⊎ ((a ≤ t.from) × (text_end t ≤ to)))

-- a piece and a text range share no address
abbrev pub IsClear : TextRange → ℕ × ℕ → Type 0
IsClear t r = (r.1 ≤ t.from) ⊎ (text_end t ≤ r.0)

later_cut : (a to : ℕ) (t u : TextRange) → a ≤ text_end t → text_end t ≤ u.from → Cuts a to u → Cuts (text_end t) to u
later_cut a to t u le up (inl before) = inl (omega arith)
later_cut a to t u le up (inr (inl past)) = inr (inl past)
later_cut a to t u le up (inr (inr inside)) = inr (inr (up, inside.1))

clear_here : (c : Bool) (a to : ℕ) (t : TextRange) (ts : List TextRange) → is_within a to t ≡ c → Cuts a to t → All (IsClear t) (cond c (piece a t.from ++ gaps (text_end t) to ts) (gaps a to ts))
clear_here true a to t ts e cut =
    All-append (IsClear t) (piece a t.from) (gaps (text_end t) to ts)
    (in_piece (IsClear t) a t.from (λ lt. inl (omega arith)))
    (All-weaken (Within (text_end t) to) (IsClear t) (gaps (text_end t) to ts) (λ r w. inr w.0) (gaps_within (text_end t) to ts))
clear_here false a to t ts e (inl before) = All-weaken (Within a to) (IsClear t) (gaps a to ts) (λ r w. inr (omega (arith, w.0, before))) (gaps_within a to ts)
clear_here false a to t ts e (inr (inl past)) = All-weaken (Within a to) (IsClear t) (gaps a to ts) (λ r w. inl (omega (arith, w.2, past))) (gaps_within a to ts)
clear_here false a to t ts e (inr (inr inside)) = absurd (let i = and_from _ _ (le-leb a t.from inside.0) (le-leb (text_end t) to inside.1) in cc)

clear_later : (c : Bool) (a to : ℕ) (t : TextRange) (ts : List TextRange) (u : TextRange) → is_within a to t ≡ c → text_end t ≤ u.from → t.from ≤ text_end t → All (IsClear u) (gaps (text_end t) to ts) → All (IsClear u) (gaps a to ts) → All (IsClear u) (cond c (piece a t.from ++ gaps (text_end t) to ts) (gaps a to ts))
clear_later true a to t ts u e up le h k =
    All-append (IsClear u) (piece a t.from) (gaps (text_end t) to ts) (in_piece (IsClear u) a t.from (λ lt. inl (omega (arith, up, le)))) h
clear_later false a to t ts u e up le h k = k

all_clear_case : (c : Bool) (a to : ℕ) (t : TextRange) (ts : List TextRange) (u : TextRange) → is_within a to t ≡ c → Rise (t ∷ ts) → (text_end t ≤ u.from) → Cuts a to u → ((b : ℕ) → Cuts b to u → All (IsClear u) (gaps b to ts)) → All (IsClear u) (cond c (piece a t.from ++ gaps (text_end t) to ts) (gaps a to ts))
all_clear_case true a to t ts u e up le cut h =
    let parts = and_parts (leb a t.from) (leb (text_end t) to) e in
    let low : a ≤ t.from = leb-true _ _ parts.0 in
    clear_later true a to t ts u e le (omega arith) (h (text_end t) (later_cut a to t u (omega (arith, low)) le cut)) (h a cut)
all_clear_case false a to t ts u e up le cut h = h a cut

-- each text range of the list is clear of the pieces
gaps_clear : (a to : ℕ) (ts : List TextRange) (i : ℕ) (d : TextRange) → Rise ts → i < length ts → Cuts a to (get_or ts i d) → All (IsClear (get_or ts i d)) (gaps a to ts)
gaps_clear a to [] i d up lt cut = absurd (omega arith)
gaps_clear a to (t ∷ ts) zero d up lt cut = clear_here (is_within a to t) a to t ts refl cut
gaps_clear a to (t ∷ ts) (suc i) d up lt cut =
    let le : text_end t ≤ (get_or ts i d).from = up 0 (suc i) d (omega arith) lt in
    all_clear_case (is_within a to t) a to t ts (get_or ts i d) refl up le cut (λ b k. gaps_clear b to ts i d (tail_pairs (λ s u. text_end s ≤ u.from) t ts up) (omega (arith, lt)) k)

-- ---- parts of a segment

part_fits : (g : Segment) (r : ℕ × ℕ) → IsSegment g → Within g.at (segment_end g) r → IsPart (part_of g r)
unfolding part_of
part_fits g r fit w =
    let len = length-take (r.1 - r.0) (drop (r.0 - g.at) g.bytes) in
    record {
      some = w.1;
      low = omega (arith, w.0, fit.low);
      high = omega (arith, w.2, fit.high);
      filled = omega (arith, len, w.1);
    }

pub parts_fit_in : (ts : List TextRange) (g : Segment) → IsSegment g → All IsPart (parts_in ts g)
unfolding parts_in
parts_fit_in ts g fit = All-map IsPart (part_of g) (gaps g.at (segment_end g) ts) (All-weaken (Within g.at (segment_end g)) (λ r. IsPart (part_of g r)) (gaps g.at (segment_end g) ts) (λ r w. part_fits g r fit w) (gaps_within g.at (segment_end g) ts))

abbrev pub InSegment : Segment → Part → Type 0
InSegment g p = (g.at ≤ p.range.from) × (p.range.to ≤ segment_end g)

part_inside : (g : Segment) (r : ℕ × ℕ) → Within g.at (segment_end g) r → InSegment g (part_of g r)
unfolding part_of
part_inside g r w = (w.0, w.2)

pub parts_inside : (ts : List TextRange) (g : Segment) → All (InSegment g) (parts_in ts g)
unfolding parts_in
parts_inside ts g = All-map (InSegment g) (part_of g) (gaps g.at (segment_end g) ts) (All-weaken (Within g.at (segment_end g)) (λ r. InSegment g (part_of g r)) (gaps g.at (segment_end g) ts) (part_inside g) (gaps_within g.at (segment_end g) ts))

parts_apart_in : (ts : List TextRange) (g : Segment) → IsApart (clash part_start part_end) (parts_in ts g)
unfolding parts_in part_of
parts_apart_in ts g = apart_map (clash part_start part_end) (part_of g) (gaps g.at (segment_end g) ts) (gaps_apart g.at (segment_end g) ts)

clear_part : (g : Segment) (t : TextRange) (r : ℕ × ℕ) → IsClear t r → LiesApart (part_of g r) t
unfolding part_of
clear_part g t r h = h

parts_clear : (ts : List TextRange) (g : Segment) → Rise ts → All (Cuts g.at (segment_end g)) ts → All (λ p. All (LiesApart p) ts) (parts_in ts g)
unfolding parts_in
parts_clear ts g up cuts = All-map (λ p. All (LiesApart p) ts) (part_of g) (gaps g.at (segment_end g) ts) (λ k r lt i d i_lt. clear_part g (get_or ts i d) (get_or (gaps g.at (segment_end g) ts) k r) (gaps_clear g.at (segment_end g) ts i d up i_lt (cuts i d i_lt) k r lt))

-- ---- parts of all segments

pub all_parts : (P : Part → Type 0) (ts : List TextRange) (gs : List Segment) → All (λ g. All P (parts_in ts g)) gs → All P (flat_map (parts_in ts) gs)
all_parts P ts [] h = All-nil P
all_parts P ts (g ∷ gs) h = All-append P (parts_in ts g) (flat_map (parts_in ts) gs) (h 0 g (omega arith)) (all_parts P ts gs (All-tail (λ x. All P (parts_in ts x)) g gs h))

outside_segment : (g h : Segment) (p q : Part) → AreApart g h → InSegment g p → InSegment h q → clash part_start part_end p q ≡ false
outside_segment g h p q (inl le) a b = no_clash part_start part_end p q (inl (omega (arith, le, a.1, b.0)))
outside_segment g h p q (inr le) a b = no_clash part_start part_end p q (inr (omega (arith, le, a.0, b.1)))

pub parts_apart : (ts : List TextRange) (gs : List Segment) → AllPairs AreApart gs → IsApart (clash part_start part_end) (flat_map (parts_in ts) gs)
parts_apart ts [] sep = tt
parts_apart ts (g ∷ gs) sep =
    let cross : (p : Part) → InSegment g p → All (λ q. clash part_start part_end p q ≡ false) (flat_map (parts_in ts) gs) = λ p a. all_parts (λ q. clash part_start part_end p q ≡ false) ts gs (λ i d lt k e k_lt. outside_segment g (get_or gs i d) p (get_or (parts_in ts (get_or gs i d)) k e) (sep 0 (suc i) d (omega arith) (omega (arith, lt))) a (parts_inside ts (get_or gs i d) k e k_lt)) in
    apart_append (clash part_start part_end) (parts_in ts g) (flat_map (parts_in ts) gs) (parts_apart_in ts g) (parts_apart ts gs (tail_pairs AreApart g gs sep))
    (All-weaken (InSegment g) (λ p. list_any (clash part_start part_end p) (flat_map (parts_in ts) gs) ≡ false) (parts_in ts g) (λ p a. list_any_none (clash part_start part_end p) (flat_map (parts_in ts) gs) (cross p a)) (parts_inside ts g))

pub parts_fit : (ts : List TextRange) (gs : List Segment) → All IsSegment gs → All IsPart (flat_map (parts_in ts) gs)
parts_fit ts gs fit = all_parts IsPart ts gs (λ i d lt. parts_fit_in ts (get_or gs i d) (fit i d lt))

pub all_clear : (ts : List TextRange) (gs : List Segment) → Rise ts → All (λ g. All (Cuts g.at (segment_end g)) ts) gs → All (λ p. All (LiesApart p) ts) (flat_map (parts_in ts) gs)
all_clear ts gs up cuts = all_parts (λ p. All (LiesApart p) ts) ts gs (λ i d lt. parts_clear ts (get_or gs i d) up (cuts i d lt))

pub some_parts : (ps : List Part) → All IsPart ps → All (λ p. part_start p < part_end p) ps
some_parts ps fit i d lt = (fit i d lt).some
