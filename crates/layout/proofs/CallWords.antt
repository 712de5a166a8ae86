-- What the words of calls read as in the original text.
use Rattle.std.proofs.Common.{◌≡◌, ℕ, ◌+◌, ◌-◌, ◌/◌, ◌%◌, ◌==◌, ◌<◌, ◌≤◌, Bool, true, false, List, length, get_or, refl, ◌∙◌, ap, subst, inl, inr, arith}
use Rattle.std.specs.Prelude.{◌⊎◌, ℤ, Option, Some, None, All, AllPairs, Contains, find, slice_get, nat_le, nat_lt, option_and_then, if◌then◌else◌}
use Rattle.std.specs.Option.{option_map}
use Rattle.std.proofs.lemmas.Bool.{cases_lt, eqb-true, leb-true, ltb-true, le-leb, lt-ltb, and_parts}
use Rattle.std.proofs.lemmas.Option.{slice_get_within}
use Rattle.std.proofs.lemmas.List.Elements.{All-contains}
use Rattle.finite.proofs.Finding.{find_only}
use Rattle.rv_isa.specs.Decoded.{decoded}
use Rattle.rv_isa.specs.declared.instr.Instr.{Instr}
use Rattle.rv_isa.specs.declared.instr.Instr.TheVariants as instr
use Rattle.image.specs.declared.ranges.TextRange.{TextRange}
use Rattle.image.specs.declared.ranges.Func.{Func}
use Rattle.image.specs.declared.ranges.Aim.{Aim}
use Rattle.image.specs.Jumps.{jal_goes_to, low_of, high_of, sum_of, jal_target, far_target}
use Rattle.image.specs.Texts.{text_end, covers, word_in, word_at, word_after}
use Rattle.image.specs.Aims.{func_from, aim_place, site_at, pair_at, far_call_at, is_inner}
use Rattle.image.specs.Picture.{Picture, IsText, IsKept}
use Rattle.layout.specs.Points.{aim_func, site_of, second_of}
use Rattle.layout.proofs.TextWords.{found}

-- ---- bound options
pub bound : {X Y : Type 0} (o : Option X) (f : X → Option Y) (y : Y) → option_and_then f o ≡ Some y → (x : X) × (o ≡ Some x) × (f x ≡ Some y)
bound None f y e = absurd (cc)
bound (Some x) f y e = (x, refl, e)

-- ---- the word after a word
module _ (texts : List TextRange) (fit : All IsText texts) (rise : AllPairs (λ s t. text_end s ≤ t.from) texts) where
  cover_parts : (b : ℕ) (t : TextRange) → covers b t ≡ true → (t.from ≤ b) × (b < text_end t)
  cover_parts b t e = let q = and_parts (nat_le t.from b) (nat_lt b (text_end t)) e in (leb-true t.from b q.0, ltb-true b (text_end t) q.1)

  -- only one range covers an address
  find_covering : (b : ℕ) (t : TextRange) → Contains texts t → covers b t ≡ true → find (covers b) texts ≡ Some t
  find_covering b t (i, lt, at) e = find_only (covers b) texts i t lt (ap (covers b) at ∙ e) only ∙ ap Some at
    where
      only : (j : ℕ) → j < length texts → covers b (get_or texts j t) ≡ true → j ≡ i
      only j lj c = by_order (cases_lt j i) (cases_lt i j)
        where
          here : (t.from ≤ b) × (b < text_end t)
          here = cover_parts b t e

          there : ((get_or texts j t).from ≤ b) × (b < text_end (get_or texts j t))
          there = cover_parts b (get_or texts j t) c

          by_order : (j < i) ⊎ (i ≤ j) → (i < j) ⊎ (j ≤ i) → j ≡ i
          by_order (inl l) _ =
              let r : text_end (get_or texts j t) ≤ t.from = subst (λ (s : TextRange). text_end (get_or texts j t) ≤ s.from) at (rise j i t l lt) in
              let low = here.0 in
              let high = there.1 in
              absurd (omega (arith, r, low, high))
          by_order (inr m) (inl l) =
              let r : text_end t ≤ (get_or texts j t).from = subst (λ (s : TextRange). text_end s ≤ (get_or texts j t).from) at (rise i j t l lj) in
              let high = here.1 in
              let low = there.0 in
              absurd (omega (arith, r, low, high))
          by_order (inr m) (inr l) = omega (arith, m, l)

  in_same : (a w : ℕ) (t : TextRange) → Contains texts t → covers a t ≡ true → word_in (a + 4) t ≡ Some w → word_at texts (a + 4) ≡ Some w
  unfolding word_at word_in
  in_same a w t c e h = by_test ((a + 4 - t.from) % 4 == 0) refl h
    where
      by_test : (b : Bool) → ((a + 4 - t.from) % 4 == 0) ≡ b → (if b then slice_get t.words ((a + 4 - t.from) / 4) else None) ≡ Some w
          → option_and_then (word_in (a + 4)) (find (covers (a + 4)) texts) ≡ Some w
      by_test true q g =
          let place = slice_get_within t.words ((a + 4 - t.from) / 4) w g in
          let low = (cover_parts a t e).0 in
          let whole = eqb-true ((a + 4 - t.from) % 4) 0 q in
          let p : nat_le t.from (a + 4) ≡ true = le-leb t.from (a + 4) (omega (arith, low)) in
          let r : nat_lt (a + 4) (text_end t) ≡ true = lt-ltb (a + 4) (text_end t) (omega (arith, place, low, whole)) in
          let both : covers (a + 4) t ≡ true = rw (p, r) refl in
          rw (find_covering (a + 4) t c both) h
      by_test false q g = absurd (cc)

  pub after_word : (a w : ℕ) → word_after texts a ≡ Some w → word_at texts (a + 4) ≡ Some w
  unfolding word_after
  after_word a w h =
      let t = bound (find (covers a) texts) (word_in (a + 4)) w h in
      let c = found (covers a) texts t.0 t.1 in
      in_same a w t.0 c.0 c.1 t.2

-- ---- the lists of calls
listed_by : (o : Option Aim) (f : ℕ) → option_map aim_func o ≡ Some f → (s : Aim) × (o ≡ Some s)
listed_by None f e = absurd (cc)
listed_by (Some s) f e = (s, refl)

pub site_listed : (p : Picture) (x f : ℕ) → site_of p x ≡ Some f → (s : Aim) × Contains p.sites s × (s.at ≡ x)
unfolding site_of
site_listed p x f e =
    let s = listed_by (find (λ s. aim_place s == x) p.sites) f e in
    let c = found (λ s. aim_place s == x) p.sites s.0 s.1 in
    (s.0, c.0, eqb-true (aim_place s.0) x c.1)

pub second_listed : (p : Picture) (x f : ℕ) → second_of p x ≡ Some f → (s : Aim) × Contains p.pairs s × (s.at + 4 ≡ x)
unfolding second_of
second_listed p x f e =
    let s = listed_by (find (λ s. aim_place s + 4 == x) p.pairs) f e in
    let c = found (λ s. aim_place s + 4 == x) p.pairs s.0 s.1 in
    (s.0, c.0, eqb-true (aim_place s.0 + 4) x c.1)

pub pair_far : (texts : List TextRange) (funcs : List Func) (entry a n : ℕ) → pair_at texts funcs entry a ≡ Some n → far_call_at texts funcs a ≡ Some n
unfolding pair_at
pair_far texts funcs entry a n e = by_test (is_inner texts funcs entry (a + 4)) e
  where
    by_test : (b : Bool) → (if b then far_call_at texts funcs a else None) ≡ Some n → far_call_at texts funcs a ≡ Some n
    by_test true e = e
    by_test false e = absurd (cc)

-- ---- what calls read as
pub record IsJal (p : Picture) (x : ℕ) : Type 0 where
  pub word : ℕ
  pub rd : ℕ
  pub off : ℤ
  pub stands : word_at p.texts x ≡ Some word
  pub reads : decoded word ≡ Some (instr.Jal rd off)

pub record IsJalr (p : Picture) (x : ℕ) : Type 0 where
  pub word : ℕ
  pub rd : ℕ
  pub rs : ℕ
  pub off : ℤ
  pub stands : word_at p.texts x ≡ Some word
  pub reads : decoded word ≡ Some (instr.Jalr rd rs off)

jal_of : (a t : ℕ) (i : Instr) → jal_goes_to a i ≡ Some t → (rd : ℕ) × (off : ℤ) × (i ≡ instr.Jal rd off)
jal_of a t (instr.Jal rd off) e = (rd, off, refl)
jal_of a t i e = absurd (cc)

jalr_of : (l : ℕ × ℤ) (i : Instr) → low_of i ≡ Some l → (rd : ℕ) × (rs : ℕ) × (off : ℤ) × (i ≡ instr.Jalr rd rs off)
jalr_of l (instr.Jalr rd rs off) e = (rd, rs, off, refl)
jalr_of l i e = absurd (cc)

target_jal : (w a t : ℕ) → jal_target w a ≡ Some t → (rd : ℕ) × (off : ℤ) × (decoded w ≡ Some (instr.Jal rd off))
unfolding jal_target
target_jal w a t e =
    let i = bound (decoded w) (jal_goes_to a) t e in
    let j = jal_of a t i.0 i.2 in
    (j.0, j.1, i.1 ∙ ap Some j.2)

target_jalr : (v w a t : ℕ) → far_target v w a ≡ Some t → (rd : ℕ) × (rs : ℕ) × (off : ℤ) × (decoded w ≡ Some (instr.Jalr rd rs off))
unfolding far_target
target_jalr v w a t e =
    let h = bound (option_and_then high_of (decoded v)) (λ h. option_and_then (sum_of a h) (option_and_then low_of (decoded w))) t e in
    let l = bound (option_and_then low_of (decoded w)) (sum_of a h.0) t h.2 in
    let i = bound (decoded w) low_of l.0 l.1 in
    let j = jalr_of l.0 i.0 i.2 in
    (j.0, j.1, j.2, i.1 ∙ ap Some j.3)

site_jal : (p : Picture) (x f : ℕ) → site_at p.texts p.funcs x ≡ Some f → IsJal p x
unfolding site_at
site_jal p x f e =
    let w = bound (word_at p.texts x) (λ w. option_and_then (func_from p.funcs) (jal_target w x)) f e in
    let t = bound (jal_target w.0 x) (func_from p.funcs) f w.2 in
    let j = target_jal w.0 x t.0 t.1 in
    record { word = w.0; rd = j.0; off = j.1; stands = w.1; reads = j.2 }

far_jalr : (p : Picture) → IsKept p → (x f : ℕ) → far_call_at p.texts p.funcs x ≡ Some f → IsJalr p (x + 4)
unfolding far_call_at
far_jalr p k x f e =
    let v = bound (word_at p.texts x) (λ v. option_and_then (λ w. option_and_then (func_from p.funcs) (far_target v w x)) (word_after p.texts x)) f e in
    let w = bound (word_after p.texts x) (λ w. option_and_then (func_from p.funcs) (far_target v.0 w x)) f v.2 in
    let t = bound (far_target v.0 w.0 x) (func_from p.funcs) f w.2 in
    let j = target_jalr v.0 w.0 x t.0 t.1 in
    record { word = w.0; rd = j.0; rs = j.1; off = j.2; stands = after_word p.texts k.texts_fit k.texts_rise x w.0 w.1; reads = j.3 }

pub site_is_jal : (p : Picture) → IsKept p → (x f : ℕ) → site_of p x ≡ Some f → IsJal p x
site_is_jal p k x f e =
    let s = site_listed p x f e in
    subst (IsJal p) s.2 (site_jal p s.0.at s.0.func (All-contains (λ (s : Aim). site_at p.texts p.funcs s.at ≡ Some s.func) p.sites s.0 k.sites_call s.1))

pub second_is_jalr : (p : Picture) → IsKept p → (x f : ℕ) → second_of p x ≡ Some f → IsJalr p x
second_is_jalr p k x f e =
    let s = second_listed p x f e in
    subst (IsJalr p) s.2 (far_jalr p k s.0.at s.0.func
    (pair_far p.texts p.funcs p.entry s.0.at s.0.func (All-contains (λ (s : Aim). pair_at p.texts p.funcs p.entry s.at ≡ Some s.func) p.pairs s.0 k.pairs_call s.1)))
