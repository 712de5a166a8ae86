-- What the entry of a page stands for. Each page has the words 0 to 511 and the bytes 0 to 4095.
use Rattle.std.specs.Prelude.{◌≡◌, ℕ, zero, suc, ◌+◌, ◌-◌, ◌*◌, ◌/◌, ◌<◌, Bool, true, false, ◌&&◌, cond, nat_eq, if◌then◌else◌, List, [], ◌∷◌, get_or, ◌⊎◌}
use Rattle.finite.specs.Maps.{within}
use Rattle.link_tags.specs.Values.{is_link}
use Rattle.guest_mem.specs.declared.words.Word.{Word}
use Rattle.guest_mem.specs.declared.words.Right.{Right}
use Rattle.guest_mem.specs.declared.words.Right.TheVariants.{Read, Write}
use Rattle.guest_mem.specs.declared.page.Rights.{Rights}
use Rattle.guest_mem.specs.declared.page.Full.{Full}
use Rattle.guest_mem.specs.declared.page.Page.{Page}
use Rattle.guest_mem.specs.declared.page.Page.TheVariants as page
use Rattle.guest_mem.specs.Bits.{bit_in}
use Rattle.guest_mem.specs.Memory.{number_of, bytes_of}
use Rattle.guest_mem.specs.Access.{touched}

abbrev pub right_of : Right → Rights → Bool
right_of Read r = r.read
right_of Write r = r.write

-- the byte j of the word k
abbrev pub full_byte : Full → ℕ → ℕ → ℕ
full_byte f k j = get_or (bytes_of (get_or f.words k 0)) j 0

abbrev pub full_right : Right → Full → ℕ → Bool
full_right Read f j = bit_in f.read j
full_right Write f j = bit_in f.write j

abbrev pub page_byte : Page → ℕ → ℕ → ℕ
page_byte (page.Zero r) k j = 0
page_byte (page.Full f) k j = full_byte f.value k j

-- the word k is a link
abbrev pub page_link : Page → ℕ → Bool
page_link (page.Zero r) k = false
page_link (page.Full f) k = bit_in f.value.links k

-- the byte j has a right
abbrev pub page_right : Right → Page → ℕ → Bool
page_right right (page.Zero r) j = right_of right r
page_right right (page.Full f) j = full_right right f.value j

-- the n bytes from j have a right
unfoldable pub page_rights : Right → Page → ℕ → ℕ → Bool
page_rights right p j zero = true
page_rights right p j (suc n) = page_rights right p j n && page_right right p (j + n)

abbrev pub is_full : Page → Bool
is_full (page.Zero r) = false
is_full (page.Full f) = true

-- old with another word at k
pub record IsPageWith (old : Page) (k : ℕ) (x : Word) (new : Page) : Type 0 where
  pub bytes : (v j : ℕ) → v < 512 → j < 8 → page_byte new v j ≡ cond (nat_eq v k) (get_or x.bytes j 0) (page_byte old v j)
  pub links : (v : ℕ) → v < 512 → page_link new v ≡ cond (nat_eq v k) (is_link x.tag) (page_link old v)
  pub rights : (right : Right) (j : ℕ) → j < 4096 → page_right right new j ≡ page_right right old j

-- the same bytes, tags and rights
pub record IsSamePage (old new : Page) : Type 0 where
  pub bytes : (v j : ℕ) → v < 512 → j < 8 → page_byte new v j ≡ page_byte old v j
  pub links : (v : ℕ) → v < 512 → page_link new v ≡ page_link old v
  pub rights : (right : Right) (j : ℕ) → j < 4096 → page_right right new j ≡ page_right right old j

-- the n bytes from lo zero and Plain, if they are cleared
pub record IsFullChanged (cleared : Bool) (lo n : ℕ) (old new : Full) : Type 0 where
  pub bytes : (v j : ℕ) → v < 512 → j < 8 → full_byte new v j ≡ cond (cleared && within lo n (8 * v + j)) 0 (full_byte old v j)
  pub links : (v : ℕ) → v < 512 → bit_in new.links v ≡ cond (cleared && within (lo / 8) (touched lo n) v) false (bit_in old.links v)

-- the given rights at the n bytes from lo, which are zero and Plain if they are cleared
pub record IsPageChanged (cleared : Bool) (lo n : ℕ) (given : Rights) (old new : Page) : Type 0 where
  pub bytes : (v j : ℕ) → v < 512 → j < 8 → page_byte new v j ≡ cond (cleared && within lo n (8 * v + j)) 0 (page_byte old v j)
  pub links : (v : ℕ) → v < 512 → page_link new v ≡ cond (cleared && within (lo / 8) (touched lo n) v) false (page_link old v)
  pub rights : (right : Right) (j : ℕ) → j < 4096 → page_right right new j ≡ cond (within lo n j) (right_of right given) (page_right right old j)

-- a change of the n bytes from lo to these rights leaves the page as one of its forms: all of it is changed, or nothing is, or it's full
abbrev pub IsReady : Page → ℕ → ℕ → Rights → Type 0
IsReady (page.Zero old) lo n rights = ((lo ≡ 0) × (n ≡ 4096)) ⊎ (old ≡ rights)
IsReady (page.Full f) lo n rights = Unit {0}

-- the number of the word k
abbrev pub page_number : Page → ℕ → ℕ
page_number (page.Zero r) k = number_of (bytes_of 0)
page_number (page.Full f) k = number_of (bytes_of (get_or f.value.words k 0))

-- of the n words from w those that p has, with their addresses and the numbers that f has
unfoldable pub word_links : (ℕ → Bool) → (ℕ → ℕ) → ℕ → ℕ → List (ℕ × ℕ)
word_links p f w zero = []
word_links p f w (suc n) = if p w then (8 * w, f w) ∷ word_links p f (w + 1) n else word_links p f (w + 1) n

-- the links among the n words from w of a page whose first word is the word first
abbrev pub full_links : Full → ℕ → ℕ → ℕ → List (ℕ × ℕ)
full_links f first w n = word_links (λ v. bit_in f.links (v - first)) (λ v. number_of (bytes_of (get_or f.words (v - first) 0))) w n

abbrev pub page_links : Page → ℕ → ℕ → ℕ → List (ℕ × ℕ)
page_links p first w n = word_links (λ v. page_link p (v - first)) (λ v. page_number p (v - first)) w n
