-- Slots lie in the guest's space.
use Rattle.std.proofs.Common.{◌≡◌, ℕ, ◌+◌, ◌<◌, ◌≤◌, Bool, true, false, cond, List, [], ◌∷◌, get_or, Option, Some, None, refl, arith}
use Rattle.std.specs.Prelude.{◌&&◌, is_some}
use Rattle.std.specs.List.{All, find}
use Rattle.std.specs.Option.{option_map, option_and_then}
use Rattle.std.proofs.lemmas.Bool.{leb-true}
use Rattle.std.proofs.lemmas.List.Elements.{All-tail}
use Rattle.image.specs.declared.ranges.Part.{Part}
use Rattle.image.specs.declared.ranges.Func.{Func}
use Rattle.image.specs.declared.ranges.Aim.{Aim}
use Rattle.image.specs.Aims.{holds, stored_in, stored_at, func_from, slot_at}
use Rattle.image.specs.Picture.{Picture, IsPart, IsKept}

right_true : (a b : Bool) → (a && b) ≡ true → b ≡ true
right_true true b e = e
right_true false b e = absurd cc

holder_by : (p : Part) (a : ℕ) (b : Bool) (rest : Option Part) → holds a 8 p ≡ b → IsPart p → (is_some rest ≡ true → a + 8 ≤ 0x08000000) → is_some (cond b (Some p) rest) ≡ true → a + 8 ≤ 0x08000000
holder_by p a true rest e fit others some =
    let within : a + 8 ≤ p.range.to = leb-true (a + 8) p.range.to (right_true _ _ e) in
    omega (arith, within, fit.high)
holder_by p a false rest e fit others some = others some

-- the part that holds 8 bytes ends in the guest's space
holder : (parts : List Part) (a : ℕ) → All IsPart parts → is_some (find (holds a 8) parts) ≡ true → a + 8 ≤ 0x08000000
holder [] a fit some = absurd cc
holder (p ∷ ps) a fit some = holder_by p a (holds a 8 p) (find (holds a 8) ps) refl (fit 0 p (omega arith)) (holder ps a (All-tail IsPart p ps fit)) some

some_of_stored : (o : Option Part) (a f : ℕ) (funcs : List Func) → option_and_then (func_from funcs) (option_map (stored_in a) o) ≡ Some f → is_some o ≡ true
some_of_stored None a f funcs e = absurd cc
some_of_stored (Some p) a f funcs e = refl

when : (b : Bool) (o : Option ℕ) (f : ℕ) → cond b o None ≡ Some f → o ≡ Some f
when true o f e = e
when false o f e = absurd cc

slot_low : (parts : List Part) (funcs : List Func) (a f : ℕ) → All IsPart parts → slot_at parts funcs a ≡ Some f → a < 0x1000_0000
unfolding slot_at stored_at
slot_low parts funcs a f fit is =
    let low = holder parts a fit (some_of_stored (find (holds a 8) parts) a f funcs (when _ _ f is)) in
    omega (arith, low)

pub slots_low : (p : Picture) → IsKept p → All (λ (s : Aim). s.at < 0x1000_0000) p.slots
slots_low p kept i d lt = slot_low p.parts p.funcs (get_or p.slots i d).at (get_or p.slots i d).func kept.parts_fit (kept.slots_name i d lt)
