-- Where harts go on alike, and what stands outside the region.
use Rattle.std.proofs.Common.{◌≡◌, ◌≢◌, ℕ, zero, suc, ◌+◌, ◌^◌, ◌<◌, ◌≤◌, ◌==◌, Bool, true, false, cond, List, [], ◌∷◌, length, refl, sym, ap, ◌∙◌, subst, arith, inl, inr, get_or}
use Rattle.std.specs.Prelude.{Option, Some, None, ◌⊎◌, nat_le, nat_lt, slice_set, IsSome, option_and_then, is_some}
use Rattle.std.specs.List.{list_any, Contains}
use Rattle.std.proofs.lemmas.Bool.{eqb-true, leb-true, ltb-true, and_parts, false≢true}
use Rattle.std.proofs.lemmas.List.{length-set}
use Rattle.std.proofs.lemmas.List.Folds.{Any-from_list_any}
use Rattle.std.proofs.lemmas.List.Elements.{All-contains}
use Rattle.rv_isa.specs.Decoded.{decoded}
use Rattle.image.specs.declared.ranges.TextRange.{TextRange}
use Rattle.image.specs.Texts.{covers, text_end}
use Rattle.image.specs.Picture as image
use Rattle.image.specs.Picture.{Picture, IsText}
use Rattle.link_tags.specs.declared.value.Value.{Value}
use Rattle.link_tags.specs.Values.{plain}
use Rattle.hart.specs.declared.hart.Hart.{Hart}
use Rattle.hart.specs.Harts.{reg, with_reg}
use Rattle.hart.specs.Effects.{next, hart_after}
use Rattle.layout.specs.declared.point.Point.TheVariants.{Start}
use Rattle.layout.specs.Points.{Code, StandsFor, at_start, at_hop, in_range, read}
use Rattle.layout.specs.Rows.{Renders}
use Rattle.layout.proofs.TextWords.{text_outside}
use Rattle.sim_laws.specs.Codes.{IsCodeOf}
use Rattle.sim_laws.specs.Related.{Lands, ValuesRelated, both_plain, RegsRelated, RegsRelatedBut, whole, GoOnAlike, HartsRelated}

-- ---- text
-- a text range that covers an address
record IsCovered (texts : List TextRange) (u : ℕ) : Type 0 where
  text : TextRange
  is_text : Contains texts text
  low : text.from ≤ u
  high : u < text_end text

covered_in : (texts : List TextRange) (u : ℕ) → list_any (covers u) texts ≡ true → IsCovered texts u
covered_in texts u e =
    let found = Any-from_list_any (covers u) texts e in
    let t = found.1 in
    let ends = and_parts (nat_le t.from u) (nat_lt u (text_end t)) found.4 in
    record { text = t; is_text = (found.0, found.2, found.3); low = leb-true t.from u ends.0; high = ltb-true u (text_end t) ends.1 }

read_word : (words : ℕ → Option ℕ) (a : ℕ) → IsSome (read words a) → (w : ℕ) × (words a ≡ Some w)
unfolding read
read_word words a e = by_word (words a) refl e
  where
    by_word : (o : Option ℕ) → words a ≡ o → IsSome (option_and_then decoded o) → (w : ℕ) × (words a ≡ Some w)
    by_word None k e = absurd (false≢true e)
    by_word (Some w) k e = (w, k)

length-cond : (t : Bool) (rs : List Value) (d : ℕ) (v : Value) → length (cond t rs (slice_set rs d v)) ≡ length rs
length-cond true rs d v = refl
length-cond false rs d v = length-set rs d v

pub length-with_reg : (rs : List Value) (d : ℕ) (v : Value) → length (with_reg rs d v) ≡ length rs
length-with_reg rs d v = length-cond (d == 0) rs d v

module _ (p : Picture) (c : Code) where
  pub covered_outside : image.IsKept p → (u : ℕ) → list_any (covers u) p.texts ≡ true → in_range p.region u ≡ false
  covered_outside is_kept u e = by_test (in_range p.region u) refl
    where
      clash : (i : IsCovered p.texts u) → (u < i.text.from) ⊎ (text_end i.text + 4 ≤ u) → ⊥
      clash i (inl h) = let low = i.low in omega (arith, low)
      clash i (inr h) = let high = i.high in omega (arith, high)

      by_test : (b : Bool) → in_range p.region u ≡ b → b ≡ false
      by_test false k = refl
      by_test true k =
          let i = covered_in p.texts u e in
          let t = and_parts (nat_le p.region.from u) (nat_lt u p.region.to) k in
          let free = is_kept.region.free u (leb-true _ _ t.0) (ltb-true _ _ t.1) in
          absurd (clash i (All-contains (λ t. (u < t.from) ⊎ (text_end t + 4 ≤ u)) p.texts i.text free.no_text i.is_text))

  pub covered_fits : image.IsKept p → (u : ℕ) → list_any (covers u) p.texts ≡ true → u < 2 ^ 64
  covered_fits is_kept u e =
      let i = covered_in p.texts u e in
      let high = i.high in
      let fits : IsText i.text = All-contains IsText p.texts i.text is_kept.texts_fit i.is_text in
      let below = fits.high in
      omega (arith, high, below)

  start_outside : image.IsKept p → IsCodeOf p c → Renders c → (a x : ℕ) → c.point a ≡ Some (Start x) → (b : Bool) → in_range p.region a ≡ b → in_range p.region x ≡ false
  start_outside is_kept is n a x s false e = let own = is.point a e in let k : a ≡ x = cc in ap (in_range p.region) (sym k) ∙ e
  start_outside is_kept is n a x s true e =
      let home = is.lives a e (ap is_some s) in
      let word = read_word c.text x (n.reads a x home s) in
      text_outside p is_kept x word.0 (sym (is.text x) ∙ word.1) x (omega arith) (omega arith)

  -- a code pointer stands for an address outside the region
  pub stands_outside : image.IsKept p → IsCodeOf p c → Renders c → {a x : ℕ} → StandsFor c a x → in_range p.region x ≡ false
  stands_outside is_kept is n (at_start s) = start_outside is_kept is n _ _ s _ refl
  stands_outside is_kept is n (at_hop s) = start_outside is_kept is n _ _ (n.hops _ _ s).start _ refl

  -- ---- registers
  not_zero : (d : ℕ) → d ≡ 0 → d == 0 ≡ false → ⊥
  not_zero d k z = absurd (false≢true (sym z ∙ ap (λ n. n == 0) k))

  -- one place after a write to both lists of registers
  set_regs : (rs os : List Value) (d k : ℕ) (v w z : Value) → length rs ≡ length os → ValuesRelated p c v w → ValuesRelated p c z z
      → (k ≢ d → ValuesRelated p c (get_or rs k z) (get_or os k z)) → ValuesRelated p c (get_or (slice_set rs d v) k z) (get_or (slice_set os d w) k z)
  set_regs [] [] d k v w z e r u b = u
  set_regs [] (y ∷ os) d k v w z e r u b = absurd (omega arith)
  set_regs (x ∷ rs) [] d k v w z e r u b = absurd (omega arith)
  set_regs (x ∷ rs) (y ∷ os) zero zero v w z e r u b = r
  set_regs (x ∷ rs) (y ∷ os) zero (suc k) v w z e r u b = b (λ (q : suc k ≡ zero). absurd (omega arith))
  set_regs (x ∷ rs) (y ∷ os) (suc d) zero v w z e r u b = b (λ (q : zero ≡ suc d). absurd (omega arith))
  set_regs (x ∷ rs) (y ∷ os) (suc d) (suc k) v w z e r u b = set_regs rs os d k v w z (omega arith) r u (λ n. b (λ q. n (omega arith)))

  -- the register k, by whether it is x0
  set_reg : (rs os : List Value) (d k : ℕ) (v w : Value) (t : Bool) → k == 0 ≡ t → length rs ≡ length os → ValuesRelated p c v w
      → (k ≢ d → ValuesRelated p c (reg rs k) (reg os k))
      → ValuesRelated p c (cond t (plain 0) (get_or (slice_set rs d v) k (plain 0))) (cond t (plain 0) (get_or (slice_set os d w) k (plain 0)))
  set_reg rs os d k v w true z e r b = both_plain refl refl refl
  set_reg rs os d k v w false z e r b =
      set_regs rs os d k v w (plain 0) e r (both_plain refl refl refl)
      (λ n. subst (λ t. ValuesRelated p c (cond t (plain 0) (get_or rs k (plain 0))) (cond t (plain 0) (get_or os k (plain 0)))) z (b n))

  -- x0 stays
  with_cond : (rs os : List Value) (d : ℕ) (t : Bool) → d == 0 ≡ t → (v w : Value) → length rs ≡ length os → RegsRelatedBut p c d rs os → (d ≡ 0 → RegsRelated p c rs os) → (d ≢ 0 → ValuesRelated p c v w)
      → RegsRelated p c (cond t rs (slice_set rs d v)) (cond t os (slice_set os d w))
  with_cond rs os d true z v w e b all r = all (eqb-true d 0 z)
  with_cond rs os d false z v w e b all r = λ k. set_reg rs os d k v w (k == 0) refl e (r (λ n. not_zero d n z)) (b k)

  -- one register is written on both sides
  pub with_reg_related : (rs os : List Value) (d : ℕ) (v w : Value) → length rs ≡ 32 → length os ≡ 32 → RegsRelatedBut p c d rs os
      → (d ≡ 0 → RegsRelated p c rs os) → (d ≢ 0 → ValuesRelated p c v w) → RegsRelated p c (with_reg rs d v) (with_reg os d w)
  with_reg_related rs os d v w e f b all r = with_cond rs os d (d == 0) refl v w (e ∙ sym f) b all r

  -- where every register is related already
  pub regs_written : (rs os : List Value) (d : ℕ) (v w : Value) → length rs ≡ 32 → length os ≡ 32 → RegsRelated p c rs os
      → (d ≢ 0 → ValuesRelated p c v w) → RegsRelated p c (with_reg rs d v) (with_reg os d w)
  regs_written rs os d v w e f b r = with_reg_related rs os d v w e f (λ k n. b k) (λ z. b) r

  -- ---- harts
  -- where both harts land with related registers they go on alike
  pub lands_alike : {r o : Hart} → Lands p c r.pc o.pc → RegsRelated p c r.regs o.regs → GoOnAlike p c r o
  lands_alike l g = record {
    whole = l.whole;
    fits = l.fits;
    outside = l.outside;
    pair = λ first rd imm e s k. absurd (false≢true (sym l.unpaired ∙ s));
    places = whole l.stands g;
    rests = λ _. record { stands = l.stands; unpaired = l.unpaired };
  }

  -- a hart that the next word follows: from what holds of where it goes on
  pub next_hart : (r o : Hart) (rd : ℕ) (v w : Value) (held : Option ℕ) → HartsRelated p c r o
      → GoOnAlike p c (hart_after (next rd v held) r) (hart_after (next rd w held) o)
      → HartsRelated p c (hart_after (next rd v held) r) (hart_after (next rd w held) o)
  unfolding hart_after
  next_hart r o rd v w held k g = record {
    replaced_length = length-with_reg r.regs rd v ∙ k.replaced_length;
    original_length = length-with_reg o.regs rd w ∙ k.original_length;
    status = k.status;
    reservation = refl;
    clear = k.clear;
    alike = λ _. g;
  }
