-- One link after another makes the links that are moved.
use Rattle.std.proofs.Common.{◌≡◌, ℕ, Bool, true, false, refl, sym, ap, ◌∙◌}
use Rattle.std.specs.Prelude.{◌≢◌, ◌==◌, ◌&&◌, ◌||◌, if◌then◌else◌, Option, None}
use Rattle.std.proofs.lemmas.Bool.{and_parts}
use Rattle.place_funcs.specs.declared.link.Link.{Link}
use Rattle.place_funcs.specs.Links.{both, moved}
use Rattle.place_funcs.proofs.LinkLaws.{differ, same_true}

-- a test of two names
abbrev is_pair : ℕ → ℕ → ℕ → ℕ → Bool
is_pair x y p q = (p == x) && (q == y)

module _ (a b y : ℕ) (ab : a ≢ b) (yb : y ≢ b) (ya : y ≢ a) where
  by_tests : (p q : ℕ) (n o m k : Option Link) (s t u v : Bool) → is_pair b y p q ≡ s → is_pair y b p q ≡ t → is_pair a y p q ≡ u → is_pair y a p q ≡ v
      → (if v then n else if u then o else if t then m else if s then m else k) ≡ (if s || t then m else if u then o else if v then n else k)
  by_tests p q n o m k s t true true e f g h = absurd (let i = and_parts (p == a) (q == y) g in let j = and_parts (p == y) (q == a) h in ya (sym (same_true p y j.0) ∙ same_true p a i.0))
  by_tests p q n o m k true t u true e f g h = absurd (let i = and_parts (p == b) (q == y) e in let j = and_parts (p == y) (q == a) h in yb (sym (same_true p y j.0) ∙ same_true p b i.0))
  by_tests p q n o m k s true u true e f g h = absurd (let i = and_parts (p == y) (q == b) f in let j = and_parts (p == y) (q == a) h in ab (sym (same_true q a j.1) ∙ same_true q b i.1))
  by_tests p q n o m k true t true v e f g h = absurd (let i = and_parts (p == b) (q == y) e in let j = and_parts (p == a) (q == y) g in ab (sym (same_true p a j.0) ∙ same_true p b i.0))
  by_tests p q n o m k s true true v e f g h = absurd (let i = and_parts (p == y) (q == b) f in let j = and_parts (p == a) (q == y) g in ya (sym (same_true p y i.0) ∙ same_true p a j.0))
  by_tests p q n o m k false false false true e f g h = refl
  by_tests p q n o m k false false true false e f g h = refl
  by_tests p q n o m k true true false false e f g h = refl
  by_tests p q n o m k true false false false e f g h = refl
  by_tests p q n o m k false true false false e f g h = refl
  by_tests p q n o m k false false false false e f g h = refl

  not_first : (x z p q : ℕ) → p ≢ x → is_pair x z p q ≡ false
  not_first x z p q h = ap (λ t. t && (q == z)) (differ p x h)

  not_second : (x z p q : ℕ) → q ≢ z → is_pair x z p q ≡ false
  not_second x z p q h = by_first (p == x)
    where
      by_first : (t : Bool) → (t && (q == z)) ≡ false
      by_first true = differ q z h
      by_first false = refl

  module _ (l0 l1 l2 l3 l4 : ℕ → ℕ → Option Link) (there back : Option Link)
      (h0 : there ≡ l0 b y) (h1 : (p q : ℕ) → l1 p q ≡ (if is_pair b y p q then None else l0 p q))
      (k0 : back ≡ l1 y b) (h2 : (p q : ℕ) → l2 p q ≡ (if is_pair y b p q then None else l1 p q))
      (h3 : (p q : ℕ) → l3 p q ≡ (if is_pair a y p q then both (l2 a y) there else l2 p q))
      (h4 : (p q : ℕ) → l4 p q ≡ (if is_pair y a p q then both (l3 y a) back else l3 p q)) where
    back_is : back ≡ l0 y b
    back_is = k0 ∙ h1 y b ∙ ap (λ t. if t then None else l0 y b) (not_first b y y b yb)

    second : (p q : ℕ) → l2 p q ≡ (if is_pair y b p q then None else if is_pair b y p q then None else l0 p q)
    second p q = h2 p q ∙ ap (λ (o : Option Link). if is_pair y b p q then None else o) (h1 p q)

    ay : l2 a y ≡ l0 a y
    ay = h2 a y ∙ ap (λ t. if t then None else l1 a y) (not_first y b a y (λ e. ya (sym e))) ∙ h1 a y ∙ ap (λ t. if t then None else l0 a y) (not_first b y a y ab)

    ya_is : l3 y a ≡ l0 y a
    ya_is =
        h3 y a ∙ ap (λ t. if t then both (l2 a y) there else l2 y a) (not_first a y y a ya)
        ∙ h2 y a ∙ ap (λ t. if t then None else l1 y a) (not_second y b y a ab) ∙ h1 y a ∙ ap (λ t. if t then None else l0 y a) (not_first b y y a yb)

    third : (p q : ℕ) → l3 p q ≡ (if is_pair a y p q then both (l0 a y) (l0 b y) else if is_pair y b p q then None else if is_pair b y p q then None else l0 p q)
    third p q =
        h3 p q
        ∙ ap (λ (o : Option Link). if is_pair a y p q then both o there else l2 p q) ay
        ∙ ap (λ (o : Option Link). if is_pair a y p q then both (l0 a y) o else l2 p q) h0
        ∙ ap (λ (o : Option Link). if is_pair a y p q then both (l0 a y) (l0 b y) else o) (second p q)

    pub all_moved : (p q : ℕ) → l4 p q ≡ moved l0 a b y p q
    all_moved p q =
        h4 p q
        ∙ ap (λ (o : Option Link). if is_pair y a p q then both o back else l3 p q) ya_is
        ∙ ap (λ (o : Option Link). if is_pair y a p q then both (l0 y a) o else l3 p q) back_is
        ∙ ap (λ (o : Option Link). if is_pair y a p q then both (l0 y a) (l0 y b) else o) (third p q)
        ∙ by_tests p q (both (l0 y a) (l0 y b)) (both (l0 a y) (l0 b y)) None (l0 p q) (is_pair b y p q) (is_pair y b p q) (is_pair a y p q) (is_pair y a p q) refl refl refl refl
