-- Where functions start.
use Rattle.std.proofs.Common.{◌≡◌, ℕ, zero, suc, ◌+◌, ◌^◌, ◌<◌, ◌≤◌, Bool, true, false, List, [], ◌∷◌, length, get_or, refl, subst, inl, inr, arith}
use Rattle.std.specs.Prelude.{◌⊎◌, Option, Some, None, Contains, slice_get, nat_le, nat_lt}
use Rattle.std.specs.Option.{option_map}
use Rattle.std.proofs.lemmas.Bool.{leb-true, ltb-true, and_parts}
use Rattle.std.proofs.lemmas.List.Elements.{All-contains}
use Rattle.image.specs.declared.ranges.TextRange.{TextRange}
use Rattle.image.specs.declared.ranges.Func.{Func}
use Rattle.image.specs.Texts.{text_end}
use Rattle.image.specs.Aims.{func_start}
use Rattle.image.specs.Picture.{Picture, IsText, IsFunc, IsKept}
use Rattle.layout.specs.Points.{in_range, start_of}

get_contains : {X : Type 0} (xs : List X) (k : ℕ) (x : X) → slice_get xs k ≡ Some x → Contains xs x
get_contains [] k x e = absurd (cc)
get_contains (y ∷ ys) zero x e = let same : y ≡ x = cc in (0, omega arith, same)
get_contains (y ∷ ys) (suc k) x e = let c = get_contains ys k x e in (suc c.0, (let lt = c.1 in omega (arith, lt)), c.2)

mapped_func : (o : Option Func) (s : ℕ) → option_map func_start o ≡ Some s → (f : Func) × (o ≡ Some f) × (f.from ≡ s)
mapped_func None s e = absurd (cc)
mapped_func (Some f) s e = (f, refl, cc)

pub record IsStart (p : Picture) (s : ℕ) : Type 0 where
  pub outside : in_range p.region s ≡ false
  pub low : s < 2 ^ 64

start_in_text : (p : Picture) → IsKept p → (f : Func) → IsFunc p.texts f → IsStart p f.from
start_in_text p k f h = by_text h.inside
  where
    some : f.from < f.to
    some = h.some

    by_text : (i : ℕ) × (t : TextRange) × (i < length p.texts) × (get_or p.texts i t ≡ t) × ((t.from ≤ f.from) × (f.to ≤ text_end t)) → IsStart p f.from
    by_text (i, t, lt, at, (low, high)) =
        record {
          outside = by_test (in_range p.region f.from) refl;
          low = (let top = (All-contains IsText p.texts t k.texts_fit (i, lt, at)).high in let l = some in omega (arith, top, high, l));
        }
      where
        clash : (f.from < t.from) ⊎ (text_end t + 4 ≤ f.from) → ⊥
        clash (inl l) = omega (arith, l, low)
        clash (inr l) = let m = some in omega (arith, l, high, m)

        by_test : (b : Bool) → in_range p.region f.from ≡ b → b ≡ false
        by_test false e = refl
        by_test true e =
            let q = and_parts (nat_le p.region.from f.from) (nat_lt f.from p.region.to) e in
            let free = k.region.free f.from (leb-true p.region.from f.from q.0) (ltb-true f.from p.region.to q.1) in
            absurd (clash (All-contains (λ t. (f.from < t.from) ⊎ (text_end t + 4 ≤ f.from)) p.texts t free.no_text (i, lt, at)))

pub start_outside : (p : Picture) → IsKept p → (f s : ℕ) → start_of p f ≡ Some s → IsStart p s
unfolding start_of
start_outside p k f s e =
    let g = mapped_func (slice_get p.funcs f) s e in
    subst (IsStart p) g.2 (start_in_text p k g.0 (All-contains (IsFunc p.texts) p.funcs g.0 k.funcs_fit (get_contains p.funcs f g.0 g.1)))
