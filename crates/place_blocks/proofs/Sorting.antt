-- What a sort by several keys says of neighbours.
use Rattle.std.proofs.Common.{◌≡◌, ℕ, ◌<◌, ◌≤◌, ◌==◌, Bool, true, false, not, inl, inr, refl, sym, ◌∙◌, ap, arith}
use Rattle.std.specs.Prelude.{◌⊎◌}
use Rattle.std.specs.declared.cmp.Ordering.{Ordering}
use Rattle.std.specs.declared.cmp.Ordering.TheVariants.{Less, Equal, Greater}
use Rattle.std.specs.Ordering.{nat_cmp, bool_cmp, ordering_then, is_lt, MatchOrdering}
use Rattle.std.proofs.lemmas.Bool.{cases_eq, eq-eqb, ne_eqb}
use Rattle.std.proofs.lemmas.Cmp.{ranked}
use Rattle.std.proofs.lemmas.Map.Keys.{ge_from_not_lt}
use Rattle.place_blocks.specs.declared.edge.WeighedEdge.{WeighedEdge}
use Rattle.place_blocks.specs.declared.lay.Ranked.{Ranked}
use Rattle.place_blocks.specs.Gains as gains
use Rattle.place_blocks.specs.Ranks as ranks

lex : (o rest : Ordering) (x y : ℕ) (Q : Type 0) → MatchOrdering o (x < y) (x ≡ y) (y < x) → is_lt (ordering_then o rest) ≡ false → (is_lt rest ≡ false → Q) → (y < x) ⊎ ((x ≡ y) × Q)
lex Less rest x y Q m e f = absurd cc
lex Equal rest x y Q m e f = inr (m, f e)
lex Greater rest x y Q m e f = inl m

bool_lex : (c b : Bool) (rest : Ordering) → is_lt (ordering_then (bool_cmp c b) rest) ≡ false → (b ≡ false) ⊎ ((c ≡ true) × (is_lt rest ≡ false))
bool_lex true false rest e = inl refl
bool_lex false false rest e = inl refl
bool_lex true true rest e = inr (refl, e)
bool_lex false true rest e = absurd cc

turned : (a b c d : ℕ) → (a < b) ⊎ ((b ≡ a) × (c ≤ d)) → (a < b) ⊎ ((a ≡ b) × (c ≤ d))
turned a b c d (inl h) = inl h
turned a b c d (inr h) = inr (sym h.0, h.1)

edges_in_turn : (x y : WeighedEdge) → is_lt (ordering_then (nat_cmp x.weight y.weight) (ordering_then (nat_cmp y.from x.from) (nat_cmp y.to x.to))) ≡ false → gains.MayPrecede x y
edges_in_turn x y e =
    lex (nat_cmp x.weight y.weight) (ordering_then (nat_cmp y.from x.from) (nat_cmp y.to x.to)) x.weight y.weight ((x.from < y.from) ⊎ ((x.from ≡ y.from) × (x.to ≤ y.to)))
    (ranked x.weight y.weight (nat_cmp x.weight y.weight) refl) e
    (λ f.
    turned x.from y.from x.to y.to
    (lex (nat_cmp y.from x.from) (nat_cmp y.to x.to) y.from x.from (x.to ≤ y.to) (ranked y.from x.from (nat_cmp y.from x.from) refl) f (λ g. ge_from_not_lt y.to x.to g)))

froms_on : (x y z : WeighedEdge) → (x.from < y.from) ⊎ ((x.from ≡ y.from) × (x.to ≤ y.to)) → (y.from < z.from) ⊎ ((y.from ≡ z.from) × (y.to ≤ z.to)) → (x.from < z.from) ⊎ ((x.from ≡ z.from) × (x.to ≤ z.to))
froms_on x y z (inl a) (inl b) = inl (omega (arith, a, b))
froms_on x y z (inl a) (inr b) = inl (omega (arith, a, b.0))
froms_on x y z (inr a) (inl b) = inl (omega (arith, a.0, b))
froms_on x y z (inr a) (inr b) = inr (omega (arith, a.0, b.0), omega (arith, a.1, b.1))

pub edges_on : (x y z : WeighedEdge) → gains.MayPrecede x y → gains.MayPrecede y z → gains.MayPrecede x z
edges_on x y z (inl a) (inl b) = inl (omega (arith, a, b))
edges_on x y z (inl a) (inr b) = inl (omega (arith, a, b.0))
edges_on x y z (inr a) (inl b) = inl (omega (arith, a.0, b))
edges_on x y z (inr a) (inr b) = inr (omega (arith, a.0, b.0), froms_on x y z a.1 b.1)

is_zero : (n : ℕ) → not (n == 0) ≡ false → n ≡ 0
is_zero n e =
    elim (cases_eq n 0) [
      | inl h ↦ h
      | inr f ↦ absurd (let g = sym (ap not (ne_eqb n 0 f)) ∙ e in cc)
    ]

is_over : (n : ℕ) → not (n == 0) ≡ true → 0 < n
is_over n e =
    elim (cases_eq n 0) [
      | inl h ↦ absurd (let g = sym (ap not (eq-eqb n 0 h)) ∙ e in cc)
      | inr f ↦ omega (arith, f)
    ]

ranks_in_turn : (x y : Ranked) → is_lt (ordering_then (bool_cmp (not (y.least == 0)) (not (x.least == 0))) (ordering_then (nat_cmp x.heat y.heat) (nat_cmp y.least x.least))) ≡ false → ranks.MayPrecede x y
ranks_in_turn x y e =
    elim (bool_lex (not (y.least == 0)) (not (x.least == 0)) (ordering_then (nat_cmp x.heat y.heat) (nat_cmp y.least x.least)) e) [
      | inl f ↦ inl (is_zero x.least f)
      | inr h ↦ inr (is_over y.least h.0, lex (nat_cmp x.heat y.heat) (nat_cmp y.least x.least) x.heat y.heat (x.least ≤ y.least) (ranked x.heat y.heat (nat_cmp x.heat y.heat) refl) h.1 (λ g. ge_from_not_lt y.least x.least g))
    ]

heats_on : (x y z : Ranked) → (y.heat < x.heat) ⊎ ((x.heat ≡ y.heat) × (x.least ≤ y.least)) → (z.heat < y.heat) ⊎ ((y.heat ≡ z.heat) × (y.least ≤ z.least)) → (z.heat < x.heat) ⊎ ((x.heat ≡ z.heat) × (x.least ≤ z.least))
heats_on x y z (inl a) (inl b) = inl (omega (arith, a, b))
heats_on x y z (inl a) (inr b) = inl (omega (arith, a, b.0))
heats_on x y z (inr a) (inl b) = inl (omega (arith, a.0, b))
heats_on x y z (inr a) (inr b) = inr (omega (arith, a.0, b.0), omega (arith, a.1, b.1))

pub ranks_on : (x y z : Ranked) → ranks.MayPrecede x y → ranks.MayPrecede y z → ranks.MayPrecede x z
ranks_on x y z (inl a) b = inl a
ranks_on x y z (inr a) (inl b) = absurd (omega (arith, a.0, b))
ranks_on x y z (inr a) (inr b) = inr (b.0, heats_on x y z a.1 b.1)

then_then : (a b c : Ordering) → ordering_then (ordering_then a b) c ≡ ordering_then a (ordering_then b c)
then_then Less b c = refl
then_then Equal b c = refl
then_then Greater b c = refl

pub edges_sorted : (x y : WeighedEdge) → is_lt (ordering_then (ordering_then (nat_cmp x.weight y.weight) (nat_cmp y.from x.from)) (nat_cmp y.to x.to)) ≡ false → gains.MayPrecede x y
edges_sorted x y e = edges_in_turn x y (sym (ap is_lt (then_then (nat_cmp x.weight y.weight) (nat_cmp y.from x.from) (nat_cmp y.to x.to))) ∙ e)

pub ranks_sorted : (x y : Ranked) → is_lt (ordering_then (ordering_then (bool_cmp (not (y.least == 0)) (not (x.least == 0))) (nat_cmp x.heat y.heat)) (nat_cmp y.least x.least)) ≡ false → ranks.MayPrecede x y
ranks_sorted x y e = ranks_in_turn x y (sym (ap is_lt (then_then (bool_cmp (not (y.least == 0)) (not (x.least == 0))) (nat_cmp x.heat y.heat) (nat_cmp y.least x.least))) ∙ e)
