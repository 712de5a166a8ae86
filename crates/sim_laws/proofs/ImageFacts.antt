-- What an image says of the places that a hart of its program comes to.
use Rattle.std.proofs.Common.{◌≡◌, ◌≢◌, ℕ, suc, ◌+◌, ◌-◌, ◌/◌, ◌%◌, ◌==◌, ◌≤◌, ◌<◌, Bool, true, false, List, [], ◌∷◌, get_or, refl, sym, ◌∙◌, ap, subst, arith}
use Rattle.std.specs.Prelude.{Option, Some, None, ℤ, IsSome, is_some, not, ◌&&◌, nat_le, nat_lt, find, slice_get, AllPairs, option_and_then, if◌then◌else◌}
use Rattle.std.specs.Option.{option_map}
use Rattle.std.specs.List.{Contains, list_any}
use Rattle.std.proofs.lemmas.Bool.{eqb-true, eq-eqb, leb-true, ltb-true, and_parts, not-true, false≢true}
use Rattle.std.proofs.lemmas.Bool.Decides.{nat_tests}
use Rattle.std.proofs.lemmas.Option.{option_and_then_some, cond_some, slice_get_within, slice_get-get_or}
use Rattle.std.proofs.lemmas.List.Quantifiers.{position-Some}
use Rattle.std.proofs.lemmas.List.Elements.{All-contains}
use Rattle.std.proofs.lemmas.List.Folds.{list_any_at, list_any-from_Any}
use Rattle.finite.proofs.Searching.{tail_pairs}
use Rattle.finite.proofs.Finding.{not_passed, any_find}
use Rattle.std.proofs.lemmas.List.{get_or_default}
use Rattle.rv_isa.specs.Decoded.{decoded}
use Rattle.rv_isa.specs.declared.instr.Instr.{Instr}
use Rattle.rv_isa.specs.declared.instr.Instr.TheVariants as instr
use Rattle.image.specs.declared.ranges.TextRange.{TextRange}
use Rattle.image.specs.declared.ranges.Func.{Func}
use Rattle.image.specs.declared.ranges.Aim.{Aim}
use Rattle.image.specs.Targets.{target, made_by}
use Rattle.image.specs.Jumps.{high_of, low_of, sum_of, far_target, direct_target, goes_to}
use Rattle.image.specs.Texts.{text_end, covers, word_in, word_at, word_after, is_target, targets}
use Rattle.image.specs.Aims.{func_start, func_from, far_call_at, pair_at, is_inner, aim_place}
use Rattle.image.specs.Picture.{Picture, IsKept, IsFunc, is_second}
use Rattle.layout.specs.Points.{in_range, start_of, second_of, aim_func, read}
use Rattle.layout.proofs.TextWords.{found, target_listed}
use Rattle.layout.proofs.TextRows.{read_is}

-- ---- the word after one
-- a range that covers an address and has a word after it is the one that covers that
past : (ts : List TextRange) (a b : ℕ) (t : TextRange) → AllPairs (λ s t. text_end s ≤ t.from) ts → find (covers a) ts ≡ Some t → a ≤ b → covers b t ≡ true → find (covers b) ts ≡ Some t
past [] a b t up f le e = absurd (cc)
past (s ∷ ts) a b t up f le e = by_test (covers a s) refl f (λ g. past ts a b t (tail_pairs (λ s t. text_end s ≤ t.from) s ts up) g le e)
  where
    before : find (covers a) ts ≡ Some t → covers b s ≡ false
    before g =
        let h = found (covers a) ts t g in
        let in_list = h.0 in
        let rise : text_end s ≤ (get_or ts in_list.0 t).from = up 0 (suc in_list.0) t (omega arith) (let lt = in_list.1 in omega (arith, lt)) in
        let is : (get_or ts in_list.0 t).from ≡ t.from = ap (λ (x : TextRange). x.from) in_list.2 in
        let low = leb-true t.from a (and_parts (nat_le t.from a) (nat_lt a (text_end t)) h.1).0 in
        let high : text_end s ≤ b = omega (arith, rise, is, low, le) in
        grind (arith, nat_tests)

    by_test : (c : Bool) → covers a s ≡ c → (if c then Some s else find (covers a) ts) ≡ Some t → (find (covers a) ts ≡ Some t → find (covers b) ts ≡ Some t) → (if covers b s then Some s else find (covers b) ts) ≡ Some t
    by_test true q g more = let same : s ≡ t = cc in rw (same, e) refl
    by_test false q g more = rw (before g) (more g)

word_covered : (a b w : ℕ) (t : TextRange) → t.from ≤ a → a ≤ b → word_in b t ≡ Some w → covers b t ≡ true
unfolding word_in
word_covered a b w t low le e = by_test ((b - t.from) % 4 == 0) refl e
  where
    by_test : (c : Bool) → ((b - t.from) % 4 == 0) ≡ c → (if c then slice_get t.words ((b - t.from) / 4) else None) ≡ Some w → covers b t ≡ true
    by_test true q g =
        let l = slice_get_within t.words ((b - t.from) / 4) w g in
        let high : b < text_end t = omega (arith, low, le, l) in
        grind (arith, nat_tests)
    by_test false q g = absurd (cc)

pub after_is : (p : Picture) → IsKept p → (a w : ℕ) → word_after p.texts a ≡ Some w → word_at p.texts (a + 4) ≡ Some w
unfolding word_after word_at
after_is p k a w e = by_text (find (covers a) p.texts) refl e
  where
    by_text : (o : Option TextRange) → find (covers a) p.texts ≡ o → option_and_then (word_in (a + 4)) o ≡ Some w → option_and_then (word_in (a + 4)) (find (covers (a + 4)) p.texts) ≡ Some w
    by_text None f g = absurd (cc)
    by_text (Some t) f g =
        let h = found (covers a) p.texts t f in
        let low = leb-true t.from a (and_parts (nat_le t.from a) (nat_lt a (text_end t)) h.1).0 in
        rw (past p.texts a (a + 4) t k.texts_rise f (omega arith) (word_covered a (a + 4) w t low (omega arith) g)) g

-- ---- pairs
-- a pair, with its two words
pub record IsPair (p : Picture) (s : Aim) : Type 0 where
  pub first_word : ℕ
  pub second_word : ℕ
  pub rd : ℕ
  pub high : ℕ
  pub linked : ℕ
  pub off : ℤ
  pub inner : is_inner p.texts p.funcs p.entry (s.at + 4) ≡ true
  pub first : word_at p.texts s.at ≡ Some first_word
  pub second : word_at p.texts (s.at + 4) ≡ Some second_word
  pub reads_first : decoded first_word ≡ Some (instr.Auipc rd high)
  pub reads_second : decoded second_word ≡ Some (instr.Jalr linked rd off)
  pub is_written : rd ≢ 0
  pub calls : func_from p.funcs (target (made_by s.at high) off) ≡ Some s.func

record IsFar (a v w t : ℕ) : Type 0 where
  rd : ℕ
  high : ℕ
  linked : ℕ
  off : ℤ
  reads_first : decoded v ≡ Some (instr.Auipc rd high)
  reads_second : decoded w ≡ Some (instr.Jalr linked rd off)
  is_written : rd ≢ 0
  to : target (made_by a high) off ≡ t

not_zero : (n : ℕ) → not (n == 0) ≡ true → n ≢ 0
not_zero n e z = absurd (false≢true (sym (not-true (n == 0) e) ∙ eq-eqb n 0 z))

far_by : (a v w t : ℕ) (i j : Option Instr) → decoded v ≡ i → decoded w ≡ j
    → option_and_then (λ h. option_and_then (sum_of a h) (option_and_then low_of j)) (option_and_then high_of i) ≡ Some t → IsFar a v w t
far_by a v w t (Some (instr.Auipc rd high)) (Some (instr.Jalr linked rs off)) e f g =
    let c = cond_some (not (rd == 0) && (rs == rd)) (target (made_by a high) off) t g in
    let b = and_parts (not (rd == 0)) (rs == rd) c.0 in
    record {
      rd = rd;
      high = high;
      linked = linked;
      off = off;
      reads_first = e;
      reads_second = f ∙ ap (λ r. Some (instr.Jalr linked r off)) (eqb-true rs rd b.1);
      is_written = not_zero rd b.0;
      to = c.1;
    }
far_by a v w t _ _ e f g = absurd (cc)

is_far : (a v w t : ℕ) → far_target v w a ≡ Some t → IsFar a v w t
unfolding far_target
is_far a v w t e = far_by a v w t (decoded v) (decoded w) refl refl e

is_some_of : (b : Bool) (o : Option ℕ) (g : ℕ) → (if b then o else None) ≡ Some g → (b ≡ true) × (o ≡ Some g)
is_some_of true o g e = (refl, e)
is_some_of false o g e = absurd (cc)

module _ (p : Picture) (k : IsKept p) where
  pair_words : (s : Aim) → is_inner p.texts p.funcs p.entry (s.at + 4) ≡ true → far_call_at p.texts p.funcs s.at ≡ Some s.func → IsPair p s
  unfolding far_call_at
  pair_words s inner e =
      option_and_then_some _ (word_at p.texts s.at) s.func e (λ v is_v e'.
      option_and_then_some _ (word_after p.texts s.at) s.func e' (λ w is_w e''.
      option_and_then_some (func_from p.funcs) (far_target v w s.at) s.func e'' (λ t is_t is_f.
      (let f = is_far s.at v w t is_t in
      record {
        first_word = v;
        second_word = w;
        rd = f.rd;
        high = f.high;
        linked = f.linked;
        off = f.off;
        inner = inner;
        first = is_v;
        second = after_is p k s.at w is_w;
        reads_first = f.reads_first;
        reads_second = f.reads_second;
        is_written = f.is_written;
        calls = ap (func_from p.funcs) f.to ∙ is_f;
      }))))

  pub pair_is : (s : Aim) → Contains p.pairs s → IsPair p s
  unfolding pair_at
  pair_is s c =
      let e = is_some_of (is_inner p.texts p.funcs p.entry (s.at + 4)) (far_call_at p.texts p.funcs s.at) s.func
      (All-contains (λ s. pair_at p.texts p.funcs p.entry s.at ≡ Some s.func) p.pairs s k.pairs_call c) in
      pair_words s e.0 e.1

  pub second_pair : (y : ℕ) → is_second p.pairs y ≡ true → (s : Aim) × (s.at + 4 ≡ y) × IsPair p s
  second_pair y e = by_found (find (λ s. s.at + 4 == y) p.pairs) refl (sym (any_find (λ s. s.at + 4 == y) p.pairs) ∙ e)
    where
      by_found : (o : Option Aim) → find (λ s. s.at + 4 == y) p.pairs ≡ o → is_some o ≡ true → (s : Aim) × (s.at + 4 ≡ y) × IsPair p s
      by_found None f t = absurd (cc)
      by_found (Some s) f t =
          let h = found (λ s. s.at + 4 == y) p.pairs s f in
          (s, eqb-true (s.at + 4) y h.1, pair_is s h.0)

  -- ---- what is no second word
  inner_parts : (y : ℕ) → is_inner p.texts p.funcs p.entry y ≡ true → (y == p.entry ≡ false) × (is_some (func_from p.funcs y) ≡ false) × (is_target p.texts y ≡ false)
  unfolding is_inner
  inner_parts y e =
      let a = and_parts (not (y == p.entry)) (not (is_some (func_from p.funcs y)) && not (is_target p.texts y)) e in
      let b = and_parts (not (is_some (func_from p.funcs y))) (not (is_target p.texts y)) a.1 in
      (not-true _ a.0, not-true _ b.0, not-true _ b.1)

  second_inner : (y : ℕ) → is_second p.pairs y ≡ true → is_inner p.texts p.funcs p.entry y ≡ true
  second_inner y e = let s = second_pair y e in subst (λ n. is_inner p.texts p.funcs p.entry n ≡ true) s.1 s.2.inner

  pub entry_unpaired : is_second p.pairs p.entry ≡ false
  entry_unpaired = not_passed _ (λ e. absurd (false≢true (sym (inner_parts p.entry (second_inner p.entry e)).0 ∙ eq-eqb p.entry p.entry refl)))

  pub start_unpaired : (y g : ℕ) → func_from p.funcs y ≡ Some g → is_second p.pairs y ≡ false
  start_unpaired y g is = not_passed _ (λ e. absurd (false≢true (sym (inner_parts y (second_inner y e)).1 ∙ ap is_some is)))

  pub target_unpaired : (x w y : ℕ) (i : Instr) → word_at p.texts x ≡ Some w → decoded w ≡ Some i → goes_to x i ≡ Some y → is_second p.pairs y ≡ false
  unfolding direct_target is_target
  target_unpaired x w y i is r g =
      not_passed _ (λ e.
      (let c = target_listed p.texts x w y is (rw r g) in
      let here : (get_or (targets p.texts) c.0 y == y) ≡ true = eq-eqb _ y c.2 in
      absurd (false≢true (sym (inner_parts y (second_inner y e)).2 ∙ list_any_at (λ t. t == y) (targets p.texts) c.0 y c.1 here))))

  -- after a word that doesn't write the upper bits of an address comes no second word
  pub after_unpaired : (x : ℕ) → ((rd high : ℕ) → read (word_at p.texts) x ≡ Some (instr.Auipc rd high) → rd ≡ 0) → is_second p.pairs (x + 4) ≡ false
  after_unpaired x h =
      not_passed _ (λ e.
      (let s = second_pair (x + 4) e in
      let at = s.1 in
      let same : s.0.at ≡ x = omega (arith, at) in
      let is = s.2 in
      is.is_written (h is.rd is.high (ap (read (word_at p.texts)) (sym same) ∙ read_is (word_at p.texts) s.0.at is.first_word _ is.first is.reads_first))))

  -- ---- starts of functions
  pub start_is : (y g : ℕ) → func_from p.funcs y ≡ Some g → (f : Func) × (f.from ≡ y) × Contains p.funcs f × (start_of p g ≡ Some y)
  unfolding func_from start_of
  start_is y g e =
      let d : Func = record { from = 0; to = 0 } in
      let h = position-Some (λ (f : Func). func_start f == y) p.funcs g d e in
      let at = eqb-true _ y h.1 in
      (get_or p.funcs g d, at, (g, h.0, get_or_default p.funcs g (get_or p.funcs g d) d h.0), ap (option_map func_start) (slice_get-get_or p.funcs g d h.0) ∙ ap Some at)

  func_fits : (f : Func) → Contains p.funcs f → IsFunc p.texts f
  func_fits f c = All-contains (IsFunc p.texts) p.funcs f k.funcs_fit c

  pub start_whole : (y g : ℕ) → func_from p.funcs y ≡ Some g → y % 4 ≡ 0
  start_whole y g e = let f = start_is y g e in ap (λ n. n % 4) (sym f.1) ∙ (func_fits f.0 f.2).whole

  pub start_covered : (y g : ℕ) → func_from p.funcs y ≡ Some g → list_any (covers y) p.texts ≡ true
  start_covered y g e =
      let f = start_is y g e in
      let fits = func_fits f.0 f.2 in
      let t = fits.inside in
      let at = f.1 in
      let some = fits.some in
      let inside = t.4 in
      let low : t.1.from ≤ y = omega (arith, at, inside.0) in
      let high : y < text_end t.1 = omega (arith, at, some, inside.1) in
      let c : covers y t.1 ≡ true = grind (arith, nat_tests) in
      list_any-from_Any (covers y) p.texts (t.0, t.1, t.2, t.3, c)

  -- ---- addresses
  pub region_low : (a : ℕ) → in_range p.region a ≡ true → a < 0x08000000
  region_low a i =
      let r = and_parts (nat_le p.region.from a) (nat_lt a p.region.to) i in
      (k.region.free a (leb-true _ _ r.0) (ltb-true _ _ r.1)).high

  -- the entry is a word of text
  pub entry_word : (w : ℕ) × (word_at p.texts p.entry ≡ Some w)
  entry_word = by_word (word_at p.texts p.entry) k.entry_is_word
    where
      by_word : (o : Option ℕ) → IsSome o → (w : ℕ) × (o ≡ Some w)
      by_word None s = absurd (cc)
      by_word (Some w) s = (w, refl)

  -- a call of the original program, by the address of its second word
  pub second_is : (x to : ℕ) → option_and_then (start_of p) (second_of p x) ≡ Some to → (s : Aim) × (s.at + 4 ≡ x) × IsPair p s × (start_of p s.func ≡ Some to) × (is_second p.pairs x ≡ true)
  unfolding second_of
  second_is x to e = by_found (find (λ s. aim_place s + 4 == x) p.pairs) refl e
    where
      by_found : (o : Option Aim) → find (λ s. aim_place s + 4 == x) p.pairs ≡ o → option_and_then (start_of p) (option_map aim_func o) ≡ Some to
          → (s : Aim) × (s.at + 4 ≡ x) × IsPair p s × (start_of p s.func ≡ Some to) × (is_second p.pairs x ≡ true)
      by_found None f g = absurd (cc)
      by_found (Some s) f g =
          let h = found (λ s. aim_place s + 4 == x) p.pairs s f in
          (s, eqb-true (s.at + 4) x h.1, pair_is s h.0, g, any_find (λ s. s.at + 4 == x) p.pairs ∙ ap is_some f)
