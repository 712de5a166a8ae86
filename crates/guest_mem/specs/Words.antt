-- What the parts of an access make of one word.
use Rattle.std.specs.Prelude.{◌≡◌, ℕ, ◌+◌, ◌-◌, ◌*◌, ◌<◌, List, get_or, cond}
use Rattle.finite.specs.Maps.{within}
use Rattle.link_tags.specs.declared.value.Tag.TheVariants.{Plain, Link}
use Rattle.guest_mem.specs.declared.words.Word.{Word}
use Rattle.guest_mem.specs.Memory.{number_of, bytes_of}

-- the bytes of a word as the program sees them
abbrev pub plain_bytes_of : (ℕ → ℕ) → Word → List ℕ
plain_bytes_of origin x = elim x.tag [ Plain ↦ x.bytes | Link ↦ bytes_of (origin (number_of x.bytes)) ]

-- bytes with n others from the place off on
abbrev pub IsSpliced : List ℕ → ℕ → ℕ → List ℕ → List ℕ → Type 0
IsSpliced into off n from result = (k : ℕ) → k < 8 → get_or result k 0 ≡ cond (within off n k) (get_or from (k - off) 0) (get_or into k 0)

-- x is the word w, which has these bytes, but with those of f at the n places from a, and Plain
pub record IsPut (old : List ℕ) (w a n : ℕ) (f : ℕ → ℕ) (x : Word) : Type 0 where
  pub bytes : (j : ℕ) → j < 8 → get_or x.bytes j 0 ≡ cond (within a n (8 * w + j)) (f (8 * w + j)) (get_or old j 0)
  pub tag : x.tag ≡ Plain
