-- Slots that a replacement sends to other places: they are links still, and go on to stand for what they stood for.
use Rattle.std.proofs.Common.{◌≡◌, ℕ, ◌*◌, ◌/◌, ◌%◌, ◌==◌, Bool, true, false, List, [], ◌∷◌, refl, sym, ap, ◌∙◌, subst, arith}
use Rattle.std.specs.Prelude.{Option, Some, None, unwrap_or, All, if◌then◌else◌}
use Rattle.std.specs.List.{filter_map, cons_option}
use Rattle.std.specs.Option.{option_map, option_eq, option_and_then}
use Rattle.std.proofs.lemmas.Bool.{and_parts, eqb-true}
use Rattle.std.proofs.lemmas.List.Elements.{All-nil, All-cons, All-head, All-tail}
use Rattle.finite.specs.Maps.{contains}
use Rattle.image.specs.declared.ranges.Aim.{Aim}
use Rattle.image.specs.declared.ranges.Part.{Part}
use Rattle.image.specs.declared.ranges.Func.{Func}
use Rattle.image.specs.Aims.{slot_at, func_from, stored_at}
use Rattle.image.specs.Picture.{Picture, IsKept}
use Rattle.guest_mem.specs.Memory.{Memory, is_link_at, number_at}
use Rattle.layout.specs.declared.point.Point.TheVariants.{Start}
use Rattle.layout.specs.Laid.{Laid}
use Rattle.layout.specs.Points.{Code, StandsFor, at_start, start_of}
use Rattle.patcher.specs.Goals.{moved_to}
use Rattle.sim_laws.specs.Changes.{IsSent}
use Rattle.sim_laws.specs.Origins.{origin}
use Rattle.sim_laws.proofs.Lands.{origin_lands}
use Rattle.world.specs.Replacing.{is_own, sent_to, slots_sent}

-- ---- each slot is a whole word
slot_whole : (parts : List Part) (funcs : List Func) (a n : ℕ) → slot_at parts funcs a ≡ Some n → a % 8 ≡ 0
unfolding slot_at
slot_whole parts funcs a n e = by_test (a % 8 == 0) refl e
  where
    by_test : (b : Bool) → (a % 8 == 0) ≡ b → (if b then option_and_then (func_from funcs) (stored_at parts a) else None) ≡ Some n → a % 8 ≡ 0
    by_test true f e = eqb-true (a % 8) 0 f
    by_test false f e = absurd (cc)

pub slots_whole : (p : Picture) → IsKept p → All (λ (s : Aim). s.at % 8 ≡ 0) p.slots
slots_whole p k i d lt = slot_whole p.parts p.funcs _ _ (k.slots_name i d lt)

-- ---- one slot
same_number : (o : Option ℕ) (y : ℕ) → option_eq (λ x y. x == y) o (Some y) ≡ true → o ≡ Some y
same_number None y e = absurd (cc)
same_number (Some x) y e = ap Some (eqb-true x y e)

mapped : {X Y : Type 0} (f : X → Y) (o : Option X) (y : Y) → option_map f o ≡ Some y → (x : X) × (o ≡ Some x) × (f x ≡ y)
mapped f None y e = absurd (cc)
mapped f (Some x) y e = (x, refl, cc)

chosen : {X : Type 0} (b : Bool) (o : Option X) (x : X) → (if b then o else None) ≡ Some x → (b ≡ true) × (o ≡ Some x)
chosen true o x e = (refl, e)
chosen false o x e = absurd (cc)

own_parts : (p : Picture) (c : Code) (m : Memory) (s : Aim) → is_own p c m s ≡ true → (is_link_at m s.at ≡ true) × (start_of p s.func ≡ Some (origin c (number_at m s.at)))
own_parts p c m s e =
    let k = and_parts (is_link_at m s.at) (option_eq (λ x y. x == y) (start_of p s.func) (Some (origin c (number_at m s.at)))) e in
    (k.0, same_number (start_of p s.func) (origin c (number_at m s.at)) k.1)

-- ---- all of them
all_chosen : {X Y : Type 0} (P : Y → Type 0) (Q : X → Type 0) (f : X → Option Y) (xs : List X) → All Q xs → ((x : X) (y : Y) → Q x → f x ≡ Some y → P y) → All P (filter_map f xs)
all_chosen P Q f [] q h = All-nil P
all_chosen P Q f (x ∷ xs) q h = by_first (f x) (λ y e. h x y (All-head Q x xs q) e) (all_chosen P Q f xs (All-tail Q x xs q) h)
  where
    by_first : (o : Option _) → ((y : _) → o ≡ Some y → P y) → All P (filter_map f xs) → All P (cons_option o (filter_map f xs))
    by_first None g rest = rest
    by_first (Some y) g rest = All-cons P y (filter_map f xs) (g y refl) rest

-- what is sent are links
pub sent_links : (p : Picture) (c : Code) (new : Option Laid) (m : Memory) → All (λ (l : ℕ × ℕ). is_link_at m l.0 ≡ true) (slots_sent p c new m)
unfolding slots_sent
sent_links p c new m = all_chosen (λ (l : ℕ × ℕ). is_link_at m l.0 ≡ true) (λ s. Unit {0}) (λ s. if is_own p c m s then sent_to p new s else None) p.slots (λ i d lt. tt) one
  where
    one : (s : Aim) (l : ℕ × ℕ) → Unit {0} → (if is_own p c m s then sent_to p new s else None) ≡ Some l → is_link_at m l.0 ≡ true
    one s l u e =
        let k = chosen (is_own p c m s) (sent_to p new s) l e in
        let t = mapped (λ x. (s.at, unwrap_or (moved_to new x) x)) (start_of p s.func) l k.1 in
        subst (λ (l : ℕ × ℕ). is_link_at m l.0 ≡ true) t.2 (own_parts p c m s k.0).0

-- and stand for what they stood for, where pointers stay and the places are Starts
module _ (p : Picture) (c d : Code) (new : Option Laid) (m : Memory) (kept : IsKept p) (on : (a x : ℕ) → StandsFor c a x → StandsFor d a x)
    (starts : (f x : ℕ) → start_of p f ≡ Some x → d.point (unwrap_or (moved_to new x) x) ≡ Some (Start x))
    (links : (w : ℕ) → contains m.links w ≡ true → (y : ℕ) × StandsFor c (number_at m (8 * w)) y) where
  slot_is_sent : (s : Aim) (l : ℕ × ℕ) → s.at % 8 ≡ 0 → (if is_own p c m s then sent_to p new s else None) ≡ Some l → IsSent d m l
  slot_is_sent s l w e =
      let k = chosen (is_own p c m s) (sent_to p new s) l e in
      let o = own_parts p c m s k.0 in
      let t = mapped (λ x. (s.at, unwrap_or (moved_to new x) x)) (start_of p s.func) l k.1 in
      let y = links (s.at / 8) o.0 in
      let place : 8 * (s.at / 8) ≡ s.at = omega (arith, w) in
      let before : origin c (number_at m (8 * (s.at / 8))) ≡ y.0 = origin_lands p c y.1 in
      let after : origin d (number_at m (8 * (s.at / 8))) ≡ y.0 = origin_lands p d (on (number_at m (8 * (s.at / 8))) y.0 y.1) in
      let own = o.1 in
      let from = t.1 in
      let same : t.0 ≡ origin c (number_at m s.at) = cc in
      let stands : t.0 ≡ origin d (number_at m (8 * (s.at / 8))) = same ∙ ap (λ a. origin c (number_at m a)) (sym place) ∙ before ∙ sym after in
      subst (IsSent d m) t.2 (o.0, subst (λ x. StandsFor d (unwrap_or (moved_to new t.0) t.0) x) stands (at_start (starts s.func t.0 t.1)))

  pub all_sent : All (IsSent d m) (slots_sent p c new m)
  unfolding slots_sent
  all_sent = all_chosen (IsSent d m) (λ (s : Aim). s.at % 8 ≡ 0) (λ s. if is_own p c m s then sent_to p new s else None) p.slots (slots_whole p kept) slot_is_sent
