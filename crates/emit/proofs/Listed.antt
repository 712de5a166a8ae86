-- The calls of a layout.
use Rattle.std.proofs.Common.{◌≡◌, ℕ, zero, suc, ◌+◌, ◌*◌, ◌<◌, List, [], ◌∷◌, ◌++◌, map, length, get_or, drop, append_assoc, refl, sym, ◌∙◌, subst, ap, arith}
use Rattle.std.specs.Prelude.{Option, Some, None, All, AllPairs, Contains, slice_get, is_some}
use Rattle.std.specs.List.{cons_option}
use Rattle.std.specs.Option.{option_map}
use Rattle.std.proofs.lemmas.List.{drop_more}
use Rattle.std.proofs.lemmas.List.Elements.{All-nil, All-cons, Contains-append_right}
use Rattle.std.proofs.lemmas.List.Kept.{AllPairs-cons}
use Rattle.std.proofs.lemmas.Option.{slice_get-map}
use Rattle.image.specs.declared.ranges.Aim.{Aim}
use Rattle.layout.specs.declared.point.Point.{Point}
use Rattle.layout.specs.Laid.{Laid, item_at, point_in, AreCalls}
use Rattle.layout.specs.Alone.{called_at, AreCallsOf}
use Rattle.layout.proofs.Places.{item_here, item_place}
use Rattle.emit.specs.declared.entry.Entry.{Entry}
use Rattle.emit.specs.Placed.{point_of, call_at, calls_in}

joined : {X : Type 0} (xs : List X) (o : Option X) (ys : List X) → (xs ++ cons_option o []) ++ ys ≡ xs ++ cons_option o ys
joined xs None ys = append_assoc xs [] ys
joined xs (Some x) ys = append_assoc xs (x ∷ []) ys

-- one word more
pub calls_more : (calls : ℕ → Option ℕ) (base : ℕ) (es : List Entry) (i : ℕ) (d : Entry) (old new all : List Aim) → i < length es
    → new ≡ old ++ cons_option (option_map (call_at (base + 4 * i)) (called_at calls (Some (get_or es i d).point))) []
    → old ++ calls_in calls (base + 4 * i) (drop i es) ≡ all → new ++ calls_in calls (base + 4 * (i + 1)) (drop (i + 1) es) ≡ all
calls_more calls base es i d old new all lt n k =
    let e : drop i es ≡ get_or es i d ∷ drop (i + 1) es = drop_more es i d lt in
    let a : base + 4 * (i + 1) ≡ base + 4 * i + 4 = omega arith in
    rw (n, a) (joined old (option_map (call_at (base + 4 * i)) (called_at calls (Some (get_or es i d).point))) _ ∙ sym (ap (λ l. old ++ calls_in calls (base + 4 * i) l) e) ∙ k)

-- ---- what the list has
-- the call of a word
pub record IsCall (calls : ℕ → Option ℕ) (a : ℕ) (es : List Entry) (s : Aim) : Type 0 where
  pub index : ℕ
  pub entry : Entry
  pub at : s.at ≡ a + 4 * index
  pub stands : slice_get es index ≡ Some entry
  pub calls_it : called_at calls (Some entry.point) ≡ Some s.func

later_call : (calls : ℕ → Option ℕ) (a : ℕ) (e : Entry) (es : List Entry) (s : Aim) → IsCall calls (a + 4) es s → IsCall calls a (e ∷ es) s
later_call calls a e es s c =
    let at = c.at in
    record { index = suc c.index; entry = c.entry; at = omega (arith, at); stands = c.stands; calls_it = c.calls_it }

pub each_call : (calls : ℕ → Option ℕ) (a : ℕ) (es : List Entry) → All (IsCall calls a es) (calls_in calls a es)
each_call calls a [] = All-nil (IsCall calls a [])
each_call calls a (e ∷ es) = by_call (called_at calls (Some e.point)) refl (each_call calls (a + 4) es)
  where
    mapped : (list : List Aim) → All (IsCall calls (a + 4) es) list → All (IsCall calls a (e ∷ es)) list
    mapped list h = λ i d lt. later_call calls a e es _ (h i d lt)

    by_call : (o : Option ℕ) → called_at calls (Some e.point) ≡ o → All (IsCall calls (a + 4) es) (calls_in calls (a + 4) es)
        → All (IsCall calls a (e ∷ es)) (cons_option (option_map (call_at a) o) (calls_in calls (a + 4) es))
    by_call None q h = mapped (calls_in calls (a + 4) es) h
    by_call (Some g) q h =
        All-cons (IsCall calls a (e ∷ es)) (call_at a g) (calls_in calls (a + 4) es) (record { index = 0; entry = e; at = omega arith; stands = refl; calls_it = q }) (mapped (calls_in calls (a + 4) es) h)

pub has_call : (calls : ℕ → Option ℕ) (a : ℕ) (es : List Entry) (k g : ℕ) (e : Entry) → slice_get es k ≡ Some e → called_at calls (Some e.point) ≡ Some g → Contains (calls_in calls a es) (call_at (a + 4 * k) g)
has_call calls a [] k g e s c = absurd (cc)
has_call calls a (d ∷ es) zero g e s c = by_call (called_at calls (Some d.point)) (ap (λ x. called_at calls (Some x.point)) same ∙ c)
  where
    same : d ≡ e
    same = cc

    by_call : (o : Option ℕ) → o ≡ Some g → Contains (cons_option (option_map (call_at a) o) (calls_in calls (a + 4) es)) (call_at (a + 4 * 0) g)
    by_call None q = absurd (cc)
    by_call (Some h) q = let n : h ≡ g = cc in let m : a ≡ a + 4 * 0 = omega arith in (0, omega arith, λ i. call_at (m i) (n i))
has_call calls a (d ∷ es) (suc k) g e s c = by_call (called_at calls (Some d.point)) (has_call calls (a + 4) es k g e s c)
  where
    at : a + 4 + 4 * k ≡ a + 4 * suc k
    at = omega arith

    by_call : (o : Option ℕ) → Contains (calls_in calls (a + 4) es) (call_at (a + 4 + 4 * k) g) → Contains (cons_option (option_map (call_at a) o) (calls_in calls (a + 4) es)) (call_at (a + 4 * suc k) g)
    by_call None h = subst (λ (n : ℕ). Contains (calls_in calls (a + 4) es) (call_at n g)) at h
    by_call (Some f) h = Contains-append_right (call_at a f ∷ []) (calls_in calls (a + 4) es) _ (subst (λ (n : ℕ). Contains (calls_in calls (a + 4) es) (call_at n g)) at h)

pub calls_rise : (calls : ℕ → Option ℕ) (a : ℕ) (es : List Entry) → AllPairs (λ s t. s.at < t.at) (calls_in calls a es)
calls_rise calls a [] = λ i j d lt within. absurd (omega arith)
calls_rise calls a (e ∷ es) = by_call (called_at calls (Some e.point)) (calls_rise calls (a + 4) es)
  where
    after : (g : ℕ) → All (λ t. a < t.at) (calls_in calls (a + 4) es)
    after g = λ i d lt. (let at = (each_call calls (a + 4) es i d lt).at in omega (arith, at))

    by_call : (o : Option ℕ) → AllPairs (λ s t. s.at < t.at) (calls_in calls (a + 4) es) → AllPairs (λ s t. s.at < t.at) (cons_option (option_map (call_at a) o) (calls_in calls (a + 4) es))
    by_call None h = h
    by_call (Some g) h = AllPairs-cons (λ s t. s.at < t.at) (call_at a g) (calls_in calls (a + 4) es) (after g) h

point_here : (base : ℕ) (es : List Entry) (k : ℕ) (e : Entry) → slice_get es k ≡ Some e → item_at base (map point_of es) (base + 4 * k) ≡ Some e.point
point_here base es k e s = item_here base (map point_of es) k ∙ slice_get-map point_of es k ∙ ap (option_map point_of) s

pub calls_within : (calls : ℕ → Option ℕ) (base : ℕ) (es : List Entry) → AreCalls base (map point_of es) (calls_in calls base es)
calls_within calls base es i d lt =
    let c = each_call calls base es i d lt in
    ap is_some (ap (item_at base (map point_of es)) c.at ∙ point_here base es c.index c.entry c.stands)

-- the list is that of the calls of the layout
pub calls_exact : (calls : ℕ → Option ℕ) (l : Laid) (es : List Entry) → l.points ≡ map point_of es → AreCallsOf calls l (calls_in calls l.base es)
calls_exact calls l es p a g = (there, back)
  where
    mapped : (o : Option Entry) (q : Point) → option_map point_of o ≡ Some q → (e : Entry) × (o ≡ Some e) × (e.point ≡ q)
    mapped None q e = absurd (cc)
    mapped (Some d) q e = (d, refl, (cc))

    by_point : (q : Option Point) → point_in l a ≡ q → called_at calls q ≡ Some g → Contains (calls_in calls l.base es) (call_at a g)
    by_point None e c = absurd (cc)
    by_point (Some q) e c =
        let t = item_place l.base l.points a q e in
        let m = mapped (slice_get es t.0) q (sym (slice_get-map point_of es t.0) ∙ ap (λ x. slice_get x t.0) (sym p) ∙ t.2) in
        subst (λ (n : ℕ). Contains (calls_in calls l.base es) (call_at n g)) (sym t.1) (has_call calls l.base es t.0 g m.0 m.1 (ap (λ x. called_at calls (Some x)) m.2 ∙ c))

    there : called_at calls (point_in l a) ≡ Some g → Contains (calls_in calls l.base es) (call_at a g)
    there c = by_point (point_in l a) refl c

    back : Contains (calls_in calls l.base es) (call_at a g) → called_at calls (point_in l a) ≡ Some g
    back c =
        let d = each_call calls l.base es c.0 (call_at a g) c.1 in
        let s = c.2 in
        let at : a ≡ l.base + 4 * d.index = sym (ap (λ x. x.at) s) ∙ d.at in
        let here : point_in l a ≡ Some d.entry.point = ap (λ x. item_at l.base x a) p ∙ ap (item_at l.base (map point_of es)) at ∙ point_here l.base es d.index d.entry d.stands in
        ap (called_at calls) here ∙ d.calls_it ∙ ap (λ x. Some x.func) s
