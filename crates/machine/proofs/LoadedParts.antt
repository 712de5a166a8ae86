-- What stands in memory once the data parts are loaded.
use Rattle.std.proofs.Common.{◌≡◌, ℕ, suc, ◌+◌, ◌-◌, ◌*◌, ◌/◌, ◌<◌, ◌≤◌, Bool, true, false, cond, nat_le, nat_lt, List, [], ◌∷◌, length, get_or, Option, Some, None, refl, sym, ap, ◌∙◌, arith}
use Rattle.std.specs.Prelude.{◌&&◌, find}
use Rattle.std.specs.List.{All, AllPairs}
use Rattle.std.specs.Option.{option_map_or}
use Rattle.std.proofs.lemmas.Bool.{lt-leb}
use Rattle.std.proofs.lemmas.Bool.Decides.{nat_tests}
use Rattle.std.proofs.lemmas.List.{get_or_past}
use Rattle.std.proofs.lemmas.List.Elements.{All-tail}
use Rattle.finite.specs.Maps.{contains, within}
use Rattle.finite.proofs.MapLaws.{at-fill, contains-mark}
use Rattle.image.specs.declared.ranges.Part.{Part}
use Rattle.image.specs.Picture.{IsPart}
use Rattle.image.specs.Aims.{covers_part}
use Rattle.guest_mem.specs.Memory.{Memory, byte_at, is_link_at}
use Rattle.guest_mem.specs.Access.{seen, mapped, touched, plain_words}
use Rattle.machine.specs.Start.{with_bytes, with_part, with_parts}
use Rattle.machine.specs.Loaded.{byte_of_part}
use Rattle.machine.proofs.Loading.{part_plain}

-- no word is a link
abbrev pub IsPlain : Memory → Type 0
IsPlain m = (w : ℕ) → contains m.links w ≡ false

cond_false : {X : Type 0} (b : Bool) (x y : X) → b ≡ false → cond b x y ≡ y
cond_false true x y e = absurd cc
cond_false false x y e = refl

cond_both : {X : Type 0} (b : Bool) (x : X) → cond b x x ≡ x
cond_both true x = refl
cond_both false x = refl

-- where there is no link, a program sees the bytes as they stand
pub seen_plain : (m : Memory) (a : ℕ) → IsPlain m → seen (λ n. n) m a ≡ byte_at m a
seen_plain m a plain = cond_false (is_link_at m a) _ (byte_at m a) (plain (a / 8))

-- bytes that are put where no link is
pub bytes_put : (m : Memory) (at : ℕ) (bytes : List ℕ) (a : ℕ) → IsPlain m → byte_at (with_bytes m at bytes) a ≡ cond (within at (length bytes) a) (get_or bytes (a - at) 0) (byte_at m a)
bytes_put m at bytes a plain =
    let first = at / 8 in
    let count = touched at (length bytes) in
    at-fill (plain_words (λ n. n) m first count).bytes at (length bytes) (λ q. get_or bytes (q - at) 0) a
    ∙ ap (cond (within at (length bytes) a) (get_or bytes (a - at) 0))
    (at-fill m.bytes (8 * first) (8 * count) (seen (λ n. n) m) a
    ∙ ap (λ x. cond (within (8 * first) (8 * count) a) x (byte_at m a)) (seen_plain m a plain)
    ∙ cond_both (within (8 * first) (8 * count) a) (byte_at m a))

covers_within : (from to a : ℕ) → from < to → within from (to - from) a ≡ (nat_le from a && nat_lt a to)
covers_within from to a lt =
    let e : from + (to - from) ≡ to = omega arith in
    ap (λ n. nat_le from a && nat_lt a n) e

-- inside its range a part has its bytes, and zeros past them
filled : (inside : Bool) (put : Bool) (a at : ℕ) (bytes : List ℕ) (old : ℕ) → (put ≡ true → inside ≡ true) → (put ≡ false → inside ≡ true → length bytes ≤ a - at)
    → cond put (get_or bytes (a - at) 0) (cond inside 0 old) ≡ cond inside (get_or bytes (a - at) 0) old
filled true true a at bytes old c p = refl
filled false true a at bytes old c p = let e = c refl in absurd cc
filled true false a at bytes old c p = sym (get_or_past bytes (a - at) 0 (p refl refl))
filled false false a at bytes old c p = refl

put_inside : (from to len a : ℕ) → from < to → from + len ≤ to → within from len a ≡ true → within from (to - from) a ≡ true
put_inside from to len a lt fit put = grind (arith, nat_tests)

past_put : (from to len a : ℕ) → from < to → within from len a ≡ false → within from (to - from) a ≡ true → len ≤ a - from
past_put from to len a lt out inside = grind (arith, nat_tests)

pub part_byte : (p : Part) (m : Memory) (a : ℕ) → IsPart p → IsPlain m → byte_at (with_part p m) a ≡ cond (covers_part a p) (byte_of_part a p) (byte_at m a)
part_byte p m a fit plain =
    let from = p.range.from in
    let n = p.range.to - from in
    let mm = mapped m from n p.read p.write in
    bytes_put mm from p.bytes a (λ w. contains-mark m.links (from / 8) (touched from n) (λ _. false) w ∙ none (within (from / 8) (touched from n) w) (contains m.links w) (plain w))
    ∙ ap (cond (within from (length p.bytes) a) (get_or p.bytes (a - from) 0)) (at-fill m.bytes from n (λ _. 0) a)
    ∙ filled (within from n a) (within from (length p.bytes) a) a from p.bytes (byte_at m a) (put_inside from p.range.to (length p.bytes) a fit.some fit.filled) (past_put from p.range.to (length p.bytes) a fit.some)
    ∙ ap (λ b. cond b (byte_of_part a p) (byte_at m a)) (covers_within from p.range.to a fit.some)
  where
    none : (b x : Bool) → x ≡ false → cond b false x ≡ false
    none true x e = refl
    none false x e = e

pub part_readable : (p : Part) (m : Memory) (a : ℕ) → IsPart p → contains (with_part p m).readable a ≡ cond (covers_part a p) p.read (contains m.readable a)
part_readable p m a fit =
    contains-mark m.readable p.range.from (p.range.to - p.range.from) (λ _. p.read) a
    ∙ ap (λ b. cond b p.read (contains m.readable a)) (covers_within p.range.from p.range.to a fit.some)

pub part_writable_at : (p : Part) (m : Memory) (a : ℕ) → IsPart p → contains (with_part p m).writable a ≡ cond (covers_part a p) p.write (contains m.writable a)
part_writable_at p m a fit =
    contains-mark m.writable p.range.from (p.range.to - p.range.from) (λ _. p.write) a
    ∙ ap (λ b. cond b p.write (contains m.writable a)) (covers_within p.range.from p.range.to a fit.some)

-- parts that lie behind an address don't cover it
none_covers : (a : ℕ) (ps : List Part) → All (λ q. a < q.range.from) ps → find (covers_part a) ps ≡ None
none_covers a [] behind = refl
none_covers a (q ∷ qs) behind = rw (lt-leb q.range.from a (behind 0 q (omega arith))) (none_covers a qs (All-tail (λ (q : Part). a < q.range.from) q qs behind))

abbrev Rise : List Part → Type 0
Rise ps = AllPairs (λ (s t : Part). s.range.to ≤ t.range.from) ps

rise_tail : (p : Part) (ps : List Part) → Rise (p ∷ ps) → Rise ps
rise_tail p ps rise i j d lt within = rise (suc i) (suc j) d (omega arith) (omega arith)

behind : (p : Part) (ps : List Part) (a : ℕ) → Rise (p ∷ ps) → a < p.range.to → All (λ q. a < q.range.from) ps
behind p ps a rise lt i d within = let e : p.range.to ≤ (get_or ps i d).range.from = rise 0 (suc i) d (omega arith) (omega arith) in omega (arith, e)

found : {V : Type 0} (give : Part → V) (p : Part) (b : Bool) (rest : Option Part) (old : V) → (b ≡ true → rest ≡ None) → option_map_or give rest (cond b (give p) old) ≡ option_map_or give (cond b (Some p) rest) old
found give p true rest old none = ap (λ o. option_map_or give o (give p)) (none refl)
found give p false rest old none = refl

covered_below : (a : ℕ) (p : Part) → covers_part a p ≡ true → a < p.range.to
covered_below a p e = grind (arith, nat_tests)

-- what a reading of memory that each part sets where it covers a place gives after all of them
pub parts_read : {V : Type 0} (look : Memory → V) (give : Part → V) (a : ℕ)
    → ((p : Part) (m : Memory) → IsPart p → IsPlain m → look (with_part p m) ≡ cond (covers_part a p) (give p) (look m))
    → (ps : List Part) (m : Memory) → All IsPart ps → Rise ps → IsPlain m
    → look (with_parts ps m) ≡ option_map_or give (find (covers_part a) ps) (look m)
parts_read look give a sets [] m fit rise plain = refl
parts_read look give a sets (p ∷ ps) m fit rise plain =
    parts_read look give a sets ps (with_part p m) (All-tail IsPart p ps fit) (rise_tail p ps rise) (part_plain p m plain)
    ∙ ap (option_map_or give (find (covers_part a) ps)) (sets p m (fit 0 p (omega arith)) plain)
    ∙ found give p (covers_part a p) (find (covers_part a) ps) (look m) (λ e. none_covers a ps (behind p ps a rise (covered_below a p e)))

pub parts_plain : (ps : List Part) (m : Memory) → IsPlain m → IsPlain (with_parts ps m)
parts_plain [] m plain = plain
parts_plain (p ∷ ps) m plain = parts_plain ps (with_part p m) (part_plain p m plain)
