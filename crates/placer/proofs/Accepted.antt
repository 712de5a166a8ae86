-- The plan of a profile has no fault, and is the only one.
use Rattle.std.proofs.Common.{◌≡◌, ◌≢◌, ℕ, suc, ◌<◌, false, List, [], ◌∷◌, length, map, get_or, refl, sym, ap, subst, ◌∙◌, arith}
use Rattle.std.specs.Prelude.{All, AllPairs, None, ◌↔◌}
use Rattle.std.proofs.lemmas.List.{get_or-map, length-map}
use Rattle.image.specs.Picture.{Picture}
use Rattle.blocks.specs.declared.run.Block.{Block}
use Rattle.blocks.specs.Blocks.{blocks_of}
use Rattle.blocks.specs.Faults.{fault_of}
use Rattle.plans.specs.declared.plan.Moved.{Moved}
use Rattle.plans.specs.Plans.{moved_func}
use Rattle.plans.specs.Orders.{repeats, IsOrder}
use Rattle.plans.specs.Given.{block_count, plan_fault, IsPlanOf}
use Rattle.branch_ring.specs.declared.counted.Counted.{Counted}
use Rattle.place_blocks.specs.Orders.{IsChain}
use Rattle.place_funcs.specs.Edges.{edge, count}
use Rattle.place_funcs.specs.Groups.{IsClosest}
use Rattle.placer.specs.Chosen.{chosen}
use Rattle.placer.specs.Planned.{IsPlanFor, AreParts}
use Rattle.placer.proofs.Ordered.{no_repeats}
use Rattle.placer.proofs.Chained.{chain_order}
use Rattle.placer.proofs.Chosen.{all_there, all_readable, each_once}

abbrev apart : ℕ → ℕ → Type 0
apart x y = x ≢ y

-- what holds of all functions holds of those that are moved
of_func : (P : ℕ → Type 0) (parts : List Moved) → All P (map moved_func parts) → All (λ m. P m.func) parts
of_func P parts a i d l = subst P (get_or-map moved_func parts i d (moved_func d) l) (a i (moved_func d) (rw length-map l))

funcs_apart : (parts : List Moved) → AllPairs apart (map moved_func parts) → AllPairs (λ m n. m.func ≢ n.func) parts
funcs_apart parts a i j d l k =
    let one = get_or-map moved_func parts i d (moved_func d) (omega (arith, l, k)) in
    let two = get_or-map moved_func parts j d (moved_func d) k in
    subst (λ (x : ℕ). apart x (get_or parts j d).func) one (subst (apart (get_or (map moved_func parts) i (moved_func d))) two (a i j (moved_func d) l (rw length-map k)))

-- the blocks of a readable function are those that its order counts
counted_blocks : (p : Picture) (m : Moved) → fault_of p m.func ≡ None → length (blocks_of p m.func) ≡ block_count p m
unfolding block_count blocks_of
counted_blocks p m e = rw (e, length-map) refl

module _ (p : Picture) (profile : List Counted) where
  part_order : (m : Moved) → fault_of p m.func ≡ None → IsChain (blocks_of p m.func) profile m.order → IsOrder (block_count p m) m.order
  part_order m e c = subst (λ (k : ℕ). IsOrder k m.order) (counted_blocks p m e) (chain_order (blocks_of p m.func) profile m.order c)

  pub has_no_fault : (parts : List Moved) → ((plan_fault p parts ≡ None) ↔ IsPlanOf p parts) → (repeats (map moved_func parts) ≡ false → AllPairs apart (map moved_func parts)) → IsPlanFor p profile parts
      → plan_fault p parts ≡ None
  has_no_fault parts plan differ h =
      let funcs : List ℕ = map moved_func parts in
      let readable = of_func (λ f. fault_of p f ≡ None) parts (all_readable (edge p.funcs profile) (count p.funcs profile) p profile funcs h.funcs) in
      plan.1 (record {
        there = of_func (λ f. f < length p.funcs) parts (all_there (edge p.funcs profile) (count p.funcs profile) p profile funcs h.funcs);
        once = funcs_apart parts (differ (no_repeats funcs (each_once (edge p.funcs profile) (count p.funcs profile) p profile funcs h.funcs)));
        orders = λ i d l. part_order (get_or parts i d) (readable i d l) (h.orders i d l);
      })

same_moved : (m n : Moved) → m.func ≡ n.func → m.order ≡ n.order → m ≡ n
same_moved m n e h = λ i. record { func = e i; order = h i }

abbrev head_func : Moved → List ℕ → ℕ
head_func m [] = m.func
head_func m (x ∷ xs) = x

abbrev tail_funcs : List ℕ → List ℕ
tail_funcs [] = []
tail_funcs (x ∷ xs) = xs

-- parts are known by their functions, where each function has one order
pub same_parts : (R : ℕ → List ℕ → Type 0) → ((f : ℕ) (one two : List ℕ) → R f one → R f two → one ≡ two) → (xs ys : List Moved) → map moved_func xs ≡ map moved_func ys
    → All (λ m. R m.func m.order) xs → All (λ m. R m.func m.order) ys → xs ≡ ys
same_parts R one [] [] e a b = refl
same_parts R one [] (y ∷ ys) e a b = absurd cc
same_parts R one (x ∷ xs) [] e a b = absurd cc
same_parts R one (x ∷ xs) (y ∷ ys) e a b =
    let func : x.func ≡ y.func = ap (head_func x) e in
    let rest : map moved_func xs ≡ map moved_func ys = ap tail_funcs e in
    let here : R x.func y.order = subst (λ (f : ℕ). R f y.order) (sym func) (b 0 y (omega arith)) in
    let same : x ≡ y = same_moved x y func (one x.func x.order y.order (a 0 x (omega arith)) here) in
    ap (λ (m : Moved). m ∷ xs) same ∙ ap (λ (ms : List Moved). y ∷ ms) (same_parts R one xs ys rest (λ i d l. a (suc i) d (omega (arith, l))) (λ i d l. b (suc i) d (omega (arith, l))))

pub one_plan : (p : Picture) (profile : List Counted) → ((e : ℕ → ℕ → ℕ) (c : List ℕ → ℕ) (funcs one two : List ℕ) → IsClosest e c funcs one → IsClosest e c funcs two → one ≡ two)
    → ((blocks : List Block) (counts : List Counted) (one two : List ℕ) → IsChain blocks counts one → IsChain blocks counts two → one ≡ two)
    → (xs ys : List Moved) → IsPlanFor p profile xs → IsPlanFor p profile ys → xs ≡ ys
one_plan p profile order chain xs ys g h =
    same_parts (λ f o. IsChain (blocks_of p f) profile o) (λ f one two. chain (blocks_of p f) profile one two) xs ys
    (order (edge p.funcs profile) (count p.funcs profile) (chosen p profile) (map moved_func xs) (map moved_func ys) g.funcs h.funcs) g.orders h.orders

pub is_plan : (p q : Picture) (profile : List Counted) (order : List ℕ) (parts : List Moved) → q ≡ p → IsClosest (edge q.funcs profile) (count q.funcs profile) (chosen q profile) order → AreParts q profile order parts
    → IsPlanFor p profile parts
is_plan p q profile order parts same closest are = subst (λ (r : Picture). IsPlanFor r profile parts) same (record { funcs = rw are.moved closest; orders = are.orders })
