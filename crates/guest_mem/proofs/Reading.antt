-- What memories are read as, and what is read back after a store.
use Rattle.std.specs.Prelude.{◌≡◌, ℕ, ◌+◌, ◌-◌, ◌/◌, ◌^◌, ◌<◌, true, List, [], ◌∷◌, ◌++◌, length, get_or, Option, None, Some, Ok, refl}
use Rattle.std.proofs.Common.{ap, ◌∙◌, arith}
use Rattle.std.proofs.lemmas.Nat.{from_le_bytes-to_le_bytes_8}
use Rattle.std.proofs.lemmas.List.FromFn.{get_or-map-range_with_len, length-map-range_with_len, map-range_with_len_more}
use Rattle.std.proofs.lemmas.Bool.{eq-eqb}
use Rattle.finite.specs.Maps.{contains}
use Rattle.link_tags.specs.declared.value.Tag.{Tag}
use Rattle.link_tags.specs.declared.value.Tag.TheVariants.{Plain, Link}
use Rattle.link_tags.specs.declared.value.Value.{Value}
use Rattle.rv_isa.specs.declared.instr.Width.TheVariants.{D}
use Rattle.finite.specs.Maps.{within}
use Rattle.finite.proofs.MapLaws.{at-fill, mark_at, in_range, same_table, same_places}
use Rattle.guest_mem.specs.Memory.{Memory, byte_at, number_of, bytes_of, bytes_from, tag_of}
use Rattle.link_tags.specs.Values.{is_link}
use Rattle.guest_mem.specs.declared.fault.Access.{Access}
use Rattle.guest_mem.specs.Access.{stored, loaded, unless}

-- memories that are read alike are equal
pub same_memory : (m n : Memory) → ((q : ℕ) → byte_at m q ≡ byte_at n q) → ((w : ℕ) → contains m.links w ≡ contains n.links w) → ((q : ℕ) → contains m.readable q ≡ contains n.readable q) → ((q : ℕ) → contains m.writable q ≡ contains n.writable q) → m ≡ n
same_memory m n b l r w =
    let eb = same_table m.bytes n.bytes b in
    let el = same_places m.links n.links l in
    let er = same_places m.readable n.readable r in
    let ew = same_places m.writable n.writable w in
    λ i. record { bytes = eb i; links = el i; readable = er i; writable = ew i }

-- bytes that are the same make the same number
pub same_number : (xs ys : List ℕ) → ((k : ℕ) → k < 8 → get_or xs k 0 ≡ get_or ys k 0) → number_of xs ≡ number_of ys
unfolding number_of
same_number xs ys h = rw (h 0 (omega arith), h 1 (omega arith), h 2 (omega arith), h 3 (omega arith), h 4 (omega arith), h 5 (omega arith), h 6 (omega arith), h 7 (omega arith)) refl

pub get_or-bytes_from : (f : ℕ → ℕ) (a n k : ℕ) → k < n → get_or (bytes_from f a n) k 0 ≡ f (a + k)
unfolding bytes_from
get_or-bytes_from f a n k h = get_or-map-range_with_len f a n k (a + k) 0 h refl

pub bytes_from-none : (f : ℕ → ℕ) (a : ℕ) → bytes_from f a 0 ≡ []
unfolding bytes_from
bytes_from-none f a = refl

pub bytes_from-more : (f : ℕ → ℕ) (a n : ℕ) → bytes_from f a (n + 1) ≡ bytes_from f a n ++ f (a + n) ∷ []
unfolding bytes_from
bytes_from-more f a n = map-range_with_len_more f a n (a + n) refl

pub length-bytes_from : (f : ℕ → ℕ) (a n : ℕ) → length (bytes_from f a n) ≡ n
unfolding bytes_from
length-bytes_from f a n = length-map-range_with_len f a n

pub length-bytes_of : (n : ℕ) → length (bytes_of n) ≡ 8
unfolding bytes_of
length-bytes_of n = refl

pub number_of-bytes_of : (n : ℕ) → n < 2 ^ 64 → number_of (bytes_of n) ≡ n
unfolding number_of bytes_of
number_of-bytes_of n h = from_le_bytes-to_le_bytes_8 n h

pub tag_of-is_link : (t : Tag) → tag_of (is_link t) ≡ t
tag_of-is_link Plain = refl
tag_of-is_link Link = refl

-- a whole word is read back as it was stored
pub whole-back : (origin : ℕ → ℕ) (m : Memory) (a : ℕ) (v : Value) → v.number < 2 ^ 64 → loaded origin (stored origin m a D v) a D ≡ v
whole-back origin m a v h =
    let m' = stored origin m a D v in
    let number : number_of (bytes_from (byte_at m') a 8) ≡ v.number =
    same_number (bytes_from (byte_at m') a 8) (bytes_of v.number) (λ k lt.
    get_or-bytes_from (byte_at m') a 8 k lt
    ∙ at-fill m.bytes a 8 (λ q. get_or (bytes_of v.number) (q - a) 0) (a + k)
    ∙ (let t : within a 8 (a + k) ≡ true = in_range a 8 (a + k) (omega arith) (omega arith) in
    let d : a + k - a ≡ k = omega arith in
    rw (t, d) refl))
    ∙ number_of-bytes_of v.number h in
    let tag : tag_of (contains m'.links (a / 8)) ≡ v.tag =
    ap tag_of (mark_at m.links (a / 8) (a / 8) (is_link v.tag) ∙ rw (eq-eqb (a / 8) (a / 8) refl) refl) ∙ tag_of-is_link v.tag in
    λ i. record { number = number i; tag = tag i }

-- what a load that answers Ok gives
pub loaded-ok : (r : Option Access) (v back : Value) → Ok back ≡ unless r v → back ≡ v
loaded-ok None v back e = cc
loaded-ok (Some x) v back e = cc
