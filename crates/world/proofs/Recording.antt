-- The rings of a world record the transfers of the original machine.
use Rattle.std.proofs.Common.{◌≡◌, ◌≢◌, ℕ, zero, suc, ◌+◌, ◌-◌, ◌<◌, ◌≤◌, Bool, true, false, cond, List, [], ◌∷◌, ◌++◌, drop, map, replicate, refl, sym, ap, ◌∙◌, arith}
use Rattle.std.specs.Prelude.{Option, Some, None, ◌==◌, slice_set}
use Rattle.std.specs.List.{range_with_len}
use Rattle.std.specs.Option.{option_to_list}
use Rattle.std.proofs.lemmas.Bool.{eq-eqb, ne_eqb}
use Rattle.std.proofs.lemmas.List.FromFn.{get_or-map-range_with_len}
use Rattle.image.specs.Picture.{Picture}
use Rattle.branch_ring.specs.Rings.{Notes, last, noted}
use Rattle.branch_ring.proofs.Last.{last_goes_on}
use Rattle.guest_sys.specs.Limits.{hart_limit}
use Rattle.guest_sys.specs.State.{IsOrderly}
use Rattle.machine.specs.States.{State}
use Rattle.machine.specs.Steps.{original_step, original_run}
use Rattle.machine.specs.Transfers.{original_transfer, original_transfers}
use Rattle.sim_laws.specs.declared.stepped.Stepped.{Stepped}
use Rattle.sim_laws.specs.declared.stepped.Stepped.TheVariants.{Real, Layout, Over}
use Rattle.sim_laws.specs.Steps.{transfer_after, original_after, is_layout, kind_until}
use Rattle.sim_laws.proofs.Orderly.{replaced_orderly}
use Rattle.sim_laws.proofs.Transferred.{transferred}
use Rattle.world.specs.Rings.{ring_in, no_ring, with_transfer}
use Rattle.world.specs.Worlds.{Replaced, code_of, Related, kind_of, step_of, started}
use Rattle.world.specs.Records.{rings_of, Records}
use Rattle.world.specs.Runs.{until_real, real_kind_of, real_step_of, of_real}
use Rattle.world.proofs.Following.{code_sound, step_follows}

append_nil : {X : Type 0} (xs : List X) → xs ++ [] ≡ xs
append_nil [] = refl
append_nil (x ∷ xs) = ap (λ ys. x ∷ ys) (append_nil xs)

pub append_twice : {X : Type 0} (xs ys zs : List X) → (xs ++ ys) ++ zs ≡ xs ++ (ys ++ zs)
append_twice [] ys zs = refl
append_twice (x ∷ xs) ys zs = ap (λ vs. x ∷ vs) (append_twice xs ys zs)

-- ---- what is made for each number of a range
module _ {X : Type 0} where
  map_range : (f g : ℕ → X) (a n : ℕ) → ((j : ℕ) → a ≤ j → f j ≡ g j) → map f (range_with_len a n) ≡ map g (range_with_len a n)
  map_range f g a zero e = refl
  map_range f g a (suc n) e =
      let first = e a (omega arith) in
      let rest = map_range f g (a + 1) n (λ j le. e j (omega (arith, le))) in
      λ i. first i ∷ rest i

  set_range : (f g : ℕ → X) (a n k : ℕ) (y : X) → (k < n → y ≡ g (a + k)) → ((j : ℕ) → j ≢ a + k → f j ≡ g j) → slice_set (map f (range_with_len a n)) k y ≡ map g (range_with_len a n)
  set_range f g a zero k y here e = refl
  set_range f g a (suc n) zero y here e =
      let at : a + zero ≡ a = omega arith in
      let first : y ≡ g a = here (omega arith) ∙ ap g at in
      let rest = map_range f g (a + 1) n (λ j le. e j (λ s. omega (arith, le, s))) in
      λ i. first i ∷ rest i
  set_range f g a (suc n) (suc k) y here e =
      let at : a + suc k ≡ (a + 1) + k = omega arith in
      let first = e a (λ s. omega (arith, s)) in
      let rest = set_range f g (a + 1) n k y (λ lt. here (omega (arith, lt)) ∙ ap g at) (λ j other. e j (λ s. other (s ∙ at))) in
      λ i. first i ∷ rest i

  replicate_range : (f : ℕ → X) (x : X) (a n : ℕ) → ((j : ℕ) → x ≡ f j) → replicate n x ≡ map f (range_with_len a n)
  replicate_range f x a zero e = refl
  replicate_range f x a (suc n) e =
      let first = e a in
      let rest = replicate_range f x (a + 1) n e in
      λ i. first i ∷ rest i

-- ---- one step of the original machine
abbrev of_hart : Bool → Option (ℕ × ℕ) → List (ℕ × ℕ)
of_hart b t = cond b (option_to_list t) []

-- the transfers of a list and one hart more
transfers_more : (p : Picture) (j : ℕ) (hs : List ℕ) (h : ℕ) (o : State)
    → original_transfers p j (hs ++ h ∷ []) o ≡ original_transfers p j hs o ++ of_hart (h == j) (original_transfer p h (original_run p hs o))
transfers_more p j [] h o = append_nil (of_hart (h == j) (original_transfer p h o))
transfers_more p j (k ∷ hs) h o =
    ap (λ ts. of_hart (k == j) (original_transfer p k o) ++ ts) (transfers_more p j hs h (original_step p k o))
    ∙ sym (append_twice (of_hart (k == j) (original_transfer p k o)) (original_transfers p j hs (original_step p k o)) (of_hart (h == j) (original_transfer p h (original_run p (k ∷ hs) o))))

nothing_more : (b : Bool) (ts : List (ℕ × ℕ)) → ts ++ of_hart b None ≡ ts
nothing_more true ts = append_nil ts
nothing_more false ts = append_nil ts

module _ (p : Picture) (ring : ℕ) (hs : List ℕ) (h : ℕ) (o : State) where
  abbrev before : ℕ → Notes
  before j = record { room = ring; pairs = last ring (original_transfers p j hs o) }

  abbrev after : ℕ → Notes
  after j = record { room = ring; pairs = last ring (original_transfers p j (hs ++ h ∷ []) o) }

  abbrev kept : List (ℕ × ℕ) → Notes
  kept xs = record { room = ring; pairs = last ring xs }

  same_ring : {xs ys : List (ℕ × ℕ)} → xs ≡ ys → kept xs ≡ kept ys
  same_ring e = ap kept e

  -- the ring of the hart itself
  at_hart : (pair : ℕ × ℕ) → original_transfer p h (original_run p hs o) ≡ Some pair → h < hart_limit
      → noted (ring_in (map before (range_with_len 0 hart_limit)) h) pair ≡ after (0 + h)
  at_hart pair e lt =
      let ts = original_transfers p h hs o in
      let at : h ≡ 0 + h = omega arith in
      let all : original_transfers p h (hs ++ h ∷ []) o ≡ ts ++ pair ∷ [] = transfers_more p h hs h o ∙ (λ i. ts ++ of_hart (eq-eqb h h refl i) (e i)) in
      let pairs : last ring (last ring ts ++ pair ∷ []) ≡ last ring (original_transfers p h (hs ++ h ∷ []) o) = last_goes_on ring ts (pair ∷ []) ∙ ap (last ring) (sym all) in
      let found : ring_in (map before (range_with_len 0 hart_limit)) h ≡ before h = get_or-map-range_with_len before 0 hart_limit h h no_ring lt (omega arith) in
      ap (λ (r : Notes). noted r pair) found ∙ (λ i. record { room = ring; pairs = pairs i }) ∙ ap after at

  -- that of another
  at_other : (j : ℕ) → h ≢ j → before j ≡ after j
  at_other j other =
      let ts = original_transfers p j hs o in
      let t = original_transfer p h (original_run p hs o) in
      same_ring (sym (transfers_more p j hs h o ∙ ap (λ b. ts ++ of_hart b t) (ne_eqb h j other) ∙ append_nil ts))

  -- where no transfer is made
  at_none : (j : ℕ) → original_transfer p h (original_run p hs o) ≡ None → before j ≡ after j
  at_none j e =
      let ts = original_transfers p j hs o in
      same_ring (sym (transfers_more p j hs h o ∙ ap (λ t. ts ++ of_hart (h == j) t) e ∙ nothing_more (h == j) ts))

  pub rings_more : (t : Option (ℕ × ℕ)) → original_transfer p h (original_run p hs o) ≡ t → with_transfer h t (rings_of p ring hs o) ≡ rings_of p ring (hs ++ h ∷ []) o
  unfolding rings_of
  rings_more None e = map_range before after 0 hart_limit (λ j le. at_none j e)
  rings_more (Some pair) e =
      set_range before after 0 hart_limit h (noted (ring_in (map before (range_with_len 0 hart_limit)) h) pair)
      (λ lt. at_hart pair e lt) (λ j other. at_other j (λ s. other (omega (arith, s))))

-- ---- one step of a world
pub no_step : (p : Picture) (ring : ℕ) (hs : List ℕ) (o : State) → rings_of p ring hs o ≡ rings_of p ring (hs ++ []) o
no_step p ring hs o = ap (λ (ks : List ℕ). rings_of p ring ks o) (sym (append_nil hs))

by_kind : (p : Picture) (ring : ℕ) (hs : List ℕ) (h : ℕ) (o : State) (k : Stepped) → with_transfer h (transfer_after k p h (original_run p hs o)) (rings_of p ring hs o) ≡ rings_of p ring (hs ++ of_real k h) o
by_kind p ring hs h o Real = rings_more p ring hs h o (original_transfer p h (original_run p hs o)) refl
by_kind p ring hs h o Layout = no_step p ring hs o
by_kind p ring hs h o Over = no_step p ring hs o

pub step_records : (h : ℕ) (w : Replaced) → IsOrderly w.machine.system → (ring : ℕ) (o : State) (hs : List ℕ) → Related w (original_run w.image hs o) → Records ring w o hs
    → Records ring (step_of h w) o (hs ++ of_real (kind_of h w) h)
unfolding step_of
step_records h w q ring o hs r e =
    let moved = transferred w.image (code_of w) r.sound.kept (code_sound w r.sound) r.sound.placed.renders h w.machine (original_run w.image hs o) q r.states in
    (λ i. with_transfer h (moved i) (e i)) ∙ by_kind w.image ring hs h o (kind_of h w)

pub stepped_records : (w new : Replaced) (h : ℕ) (k : Stepped) → IsOrderly w.machine.system → k ≡ kind_of h w → new ≡ step_of h w
    → (ring : ℕ) (o : State) (hs : List ℕ) → Related w (original_run w.image hs o) → Records ring w o hs → Records ring new o (hs ++ of_real k h)
stepped_records w new h k q e f ring o hs r s = rw (e, f) (step_records h w q ring o hs r s)

-- ---- steps up to a real one
step_image : (h : ℕ) (w : Replaced) → (step_of h w).image ≡ w.image
unfolding step_of
step_image h w = refl

step_orderly : (h : ℕ) (w : Replaced) → IsOrderly w.machine.system → IsOrderly (step_of h w).machine.system
unfolding step_of
step_orderly h w q = replaced_orderly w.image (code_of w) h w.machine q

pub until_records : (n h : ℕ) (w : Replaced) → IsOrderly w.machine.system → (ring : ℕ) (o : State) (hs : List ℕ) → Related w (original_run w.image hs o) → Records ring w o hs
    → Records ring (until_real n h w) o (hs ++ of_real (kind_until w.image (code_of w) n h w.machine) h)
unfolding until_real kind_until step_of
until_records zero h w q ring o hs r s = s ∙ no_step w.image ring hs o
until_records (suc n) h w q ring o hs r s =
    by_first (is_layout (kind_of h w)) refl (step_records h w q ring o hs r s)
    (λ at. until_records n h (step_of h w) (step_orderly h w q) ring o hs at)
    (step_follows w (step_of h w) h (kind_of h w) q refl refl (original_run w.image hs o) r)
  where
    stays : (k : Stepped) → is_layout k ≡ true → Related (step_of h w) (original_after k w.image h (original_run w.image hs o)) → Related (step_of h w) (original_run w.image hs o)
    stays Layout e g = g
    stays Real e g = absurd (cc)
    stays Over e g = absurd (cc)

    still : (k : Stepped) → is_layout k ≡ true → Records ring (step_of h w) o (hs ++ of_real k h) → Records ring (step_of h w) o hs
    still Layout e g = g ∙ sym (no_step w.image ring hs o)
    still Real e g = absurd (cc)
    still Over e g = absurd (cc)

    by_first : (t : Bool) → is_layout (kind_of h w) ≡ t → Records ring (step_of h w) o (hs ++ of_real (kind_of h w) h)
        → (Related (step_of h w) (original_run w.image hs o) → Records ring (step_of h w) o hs
        → Records ring (until_real n h (step_of h w)) o (hs ++ of_real (kind_until w.image (code_of w) n h (step_of h w).machine) h))
        → Related (step_of h w) (original_after (kind_of h w) w.image h (original_run w.image hs o))
        → Records ring (cond t (until_real n h (step_of h w)) (step_of h w)) o (hs ++ of_real (cond t (kind_until w.image (code_of w) n h (step_of h w).machine) (kind_of h w)) h)
    by_first true e g later r2 = later (stays (kind_of h w) e r2) (still (kind_of h w) e g)
    by_first false e g later r2 = g

pub real_records : (w new : Replaced) (h : ℕ) (k : Stepped) → IsOrderly w.machine.system → k ≡ real_kind_of h w → new ≡ real_step_of h w
    → (ring : ℕ) (o : State) (hs : List ℕ) → Related w (original_run w.image hs o) → Records ring w o hs → Records ring new o (hs ++ of_real k h)
real_records w new h k q e f ring o hs r s = rw (e, f) (until_records 3 h w q ring o hs r s)

-- ---- before the first step
last_none : {X : Type 0} (n k : ℕ) → drop {A = X} (k - n) [] ≡ []
last_none n k = none (k - n)
  where
    none : {X : Type 0} (m : ℕ) → drop {A = X} m [] ≡ []
    none zero = refl
    none (suc m) = refl

pub start_records : (p : Picture) (ring : ℕ) (input : List ℕ) (o : State) → Records ring (started p ring input) o []
unfolding rings_of
start_records p ring input o =
    replicate_range (λ h. record { room = ring; pairs = last ring (original_transfers p h [] o) }) (record { room = ring; pairs = [] }) 0 hart_limit
    (λ j. λ i. record { room = ring; pairs = sym (last_none {X = ℕ × ℕ} ring 0) i })
