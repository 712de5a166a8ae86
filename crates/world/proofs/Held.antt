-- Each live code pointer is among the addresses that are looked up.
use Rattle.std.proofs.Common.{◌≡◌, ℕ, zero, suc, ◌*◌, ◌==◌, Bool, true, false, List, [], ◌∷◌, ◌++◌, get_or, drop, map, refl, sym, ap, ◌∙◌, subst, arith}
use Rattle.std.specs.Prelude.{Contains, Option, Some, None, slice_get, if◌then◌else◌}
use Rattle.std.specs.List.{filter_map, flat_map, cons_option}
use Rattle.std.specs.Ordering.{nat_cmp, eq_by_cmp}
use Rattle.std.specs.FinMap.{contains_key-keys, keys}
use Rattle.std.proofs.lemmas.Bool.{eqb-true}
use Rattle.std.proofs.lemmas.Bool.Decides.{nat_tests}
use Rattle.std.proofs.lemmas.List.Elements.{Contains-append_left, Contains-append_right}
use Rattle.std.proofs.lemmas.List.Folds.{Any-from_list_any}
use Rattle.finite.specs.Maps.{Places, contains, items}
use Rattle.link_tags.specs.declared.value.Value.{Value}
use Rattle.link_tags.specs.declared.value.Tag.TheVariants.{Link}
use Rattle.link_tags.specs.Values.{plain}
use Rattle.guest_mem.specs.Memory.{number_at}
use Rattle.guest_mem.specs.Access.{links_of}
use Rattle.hart.specs.Harts.{reg}
use Rattle.machine.specs.Harts.{has_ended}
use Rattle.machine.specs.States.{State}
use Rattle.sim_laws.specs.Changes.{IsPointer, at_pc, in_register, in_memory}
use Rattle.world.specs.Retiring.{pc_of, link_number, register_links, pcs_of, links_held}

-- ---- elements of lists that are made from others
pub in_flat : {X Y : Type 0} (f : X → List Y) (xs : List X) (k : ℕ) (x : X) (y : Y) → slice_get xs k ≡ Some x → Contains (f x) y → Contains (flat_map f xs) y
in_flat f [] k x y e c = absurd (cc)
in_flat f (z ∷ zs) zero x y e c = let same : z ≡ x = cc in Contains-append_left (f z) (flat_map f zs) y (subst (λ w. Contains (f w) y) (sym same) c)
in_flat f (z ∷ zs) (suc k) x y e c = Contains-append_right (f z) (flat_map f zs) y (in_flat f zs k x y e c)

first_in : {Y : Type 0} (y : Y) (ys : List Y) → Contains (y ∷ ys) y
first_in y ys = (zero, omega arith, refl)

later_in : {Y : Type 0} (z y : Y) (ys : List Y) → Contains ys y → Contains (z ∷ ys) y
later_in z y ys (k, lt, e) = (suc k, omega (arith, lt), e)

pub in_chosen : {X Y : Type 0} (f : X → Option Y) (xs : List X) (k : ℕ) (x : X) (y : Y) → slice_get xs k ≡ Some x → f x ≡ Some y → Contains (filter_map f xs) y
in_chosen f [] k x y e g = absurd (cc)
in_chosen {X} {Y} f (z ∷ zs) zero x y e g =
    let same : z ≡ x = cc in
    let h : f z ≡ Some y = ap f same ∙ g in
    rw h (first_in y (filter_map f zs))
in_chosen {X} {Y} f (z ∷ zs) (suc k) x y e g = by_first (f z) (in_chosen f zs k x y e g)
  where
    by_first : (o : Option Y) → Contains (filter_map f zs) y → Contains (cons_option o (filter_map f zs)) y
    by_first None c = c
    by_first (Some w) c = later_in w y (filter_map f zs) c

in_map : {X Y : Type 0} (f : X → Y) (xs : List X) (x : X) → Contains xs x → Contains (map f xs) (f x)
in_map f [] x (k, lt, e) = absurd (omega (arith, lt))
in_map f (z ∷ zs) x (zero, lt, e) = (zero, omega arith, ap f e)
in_map f (z ∷ zs) x (suc k, lt, e) = later_in (f z) (f x) (map f zs) (in_map f zs x (k, omega (arith, lt), e))

-- ---- registers and memory
-- x0 holds no link, and a register that isn't there holds none
register_there : (regs : List Value) (k : ℕ) → (get_or regs (suc k) (plain 0)).tag ≡ Link → slice_get (drop 1 regs) k ≡ Some (get_or regs (suc k) (plain 0))
register_there [] k e = absurd (cc)
register_there (v ∷ vs) k e = there vs k e
  where
    there : (xs : List Value) (j : ℕ) → (get_or xs j (plain 0)).tag ≡ Link → slice_get xs j ≡ Some (get_or xs j (plain 0))
    there [] j f = absurd (cc)
    there (x ∷ xs) zero f = refl
    there (x ∷ xs) (suc j) f = there xs j f

register_in : (regs : List Value) (k : ℕ) → (reg regs k).tag ≡ Link → (j : ℕ) × (slice_get (drop 1 regs) j ≡ Some (reg regs k))
register_in regs zero e = absurd (cc)
register_in regs (suc k) e =
    let written : (suc k == 0) ≡ false = grind (arith, nat_tests) in
    let same : reg regs (suc k) ≡ get_or regs (suc k) (plain 0) = rw written refl in
    (k, register_there regs k (ap (λ (v : Value). v.tag) (sym same) ∙ e) ∙ ap Some (sym same))

number_of_link : (v : Value) → v.tag ≡ Link → link_number v ≡ Some v.number
number_of_link v e = rw e refl

in_items : (s : Places) (w : ℕ) → contains s w ≡ true → Contains (items s) w
unfolding contains items
in_items s w e =
    let a = Any-from_list_any (eq_by_cmp nat_cmp w) (keys s) (sym (contains_key-keys s w) ∙ e) in
    subst (Contains (keys s)) (equal w a.1 a.4) (a.0, a.2, a.3)
  where
    equal : (m n : ℕ) → eq_by_cmp nat_cmp m n ≡ true → n ≡ m
    equal m n f = let tied : eq_by_cmp nat_cmp m n ≡ (m == n) = grind (arith, nat_tests) in sym (eqb-true m n (sym tied ∙ f))

-- ---- live code pointers
going_on : {X : Type 0} (b : Bool) (xs : List X) (x : X) → b ≡ false → Contains xs x → Contains (if b then [] else xs) x
going_on b xs x e c = rw e c

pub pointer_held : (s : State) (a : ℕ) → IsPointer s a → Contains (pcs_of s.harts ++ links_held s) a
pointer_held s a (at_pc h hart e n is) =
    Contains-append_left (pcs_of s.harts) (links_held s) a
    (in_flat pc_of s.harts h hart a e (going_on (has_ended hart.status) (hart.pc ∷ []) a n (subst (λ (x : ℕ). Contains (hart.pc ∷ []) x) is (first_in hart.pc []))))
pointer_held s a (in_register h k hart e n tag is) =
    let j = register_in hart.regs k tag in
    Contains-append_right (pcs_of s.harts) (links_held s) a
    (Contains-append_left (flat_map register_links s.harts) (map (λ (l : ℕ × ℕ). l.1) (links_of s.memory)) a
    (in_flat register_links s.harts h hart a e
    (going_on (has_ended hart.status) (filter_map link_number (drop 1 hart.regs)) a n
    (in_chosen link_number (drop 1 hart.regs) j.0 (reg hart.regs k) a j.1 (number_of_link (reg hart.regs k) tag ∙ ap Some is)))))
pointer_held s a (in_memory w c is) =
    let l = in_map (λ (v : ℕ). (8 * v, number_at s.memory (8 * v))) (items s.memory.links) w (in_items s.memory.links w c) in
    let n = in_map (λ (l : ℕ × ℕ). l.1) (links_of s.memory) (8 * w, number_at s.memory (8 * w)) l in
    Contains-append_right (pcs_of s.harts) (links_held s) a
    (Contains-append_right (flat_map register_links s.harts) (map (λ (l : ℕ × ℕ). l.1) (links_of s.memory)) a (subst (λ (x : ℕ). Contains (map (λ (l : ℕ × ℕ). l.1) (links_of s.memory)) x) is n))
