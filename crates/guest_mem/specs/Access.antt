-- What an access of memory finds, what it leaves, and what refuses it. Source: this project.
-- In each definition origin gives the original number of a link: the number that the program sees in it.
use Rattle.std.specs.Prelude.{◌≡◌, ℕ, ◌+◌, ◌*◌, ◌/◌, ◌%◌, ◌-◌, ◌^◌, ◌<◌, ◌≤◌, Bool, true, false, nat_lt, nat_eq, List, map, get_or, Option, Some, None, Result, Ok, Err, if◌then◌else◌}
use Rattle.finite.specs.Maps.{Places, contains, contains_all, fill, mark, items}
use Rattle.link_tags.specs.declared.value.Value.{Value}
use Rattle.link_tags.specs.Values.{plain, is_link, original}
use Rattle.rv_isa.specs.declared.instr.Width.{Width}
use Rattle.rv_isa.specs.declared.instr.Width.TheVariants.{B, H, W, D, Bu, Hu, Wu}
use Rattle.guest_mem.specs.declared.fault.Access.{Access}
use Rattle.guest_mem.specs.declared.fault.Access.TheVariants.{Misaligned, NoAccess}
use Rattle.guest_mem.specs.declared.fault.StoreFault.{StoreFault}
use Rattle.guest_mem.specs.declared.fault.StoreFault.TheVariants as fault
use Rattle.guest_mem.specs.Memory.{Memory, byte_at, is_link_at, number_at, bytes_from, number_of, bytes_of, tag_of}

-- how many bytes a load or store moves
abbrev pub size_of : Width → ℕ
size_of B = 1
size_of H = 2
size_of W = 4
size_of D = 8
size_of Bu = 1
size_of Hu = 2
size_of Wu = 4

-- x as a number of 64 bits by its sign: negative from half on, half being 2 ^ (k - 1) for k bits
abbrev pub sign_extended : ℕ → ℕ → ℕ
sign_extended half x = if nat_lt x half then x else x + (2 ^ 64 - 2 * half)

-- what a load makes of the bytes that it moves, as a number
abbrev pub extended : Width → ℕ → ℕ
extended B x = sign_extended (2 ^ 7) x
extended H x = sign_extended (2 ^ 15) x
extended W x = sign_extended (2 ^ 31) x
extended D x = x
extended Bu x = x
extended Hu x = x
extended Wu x = x

-- ---- what refuses an access
-- the n bytes at a, where the bytes of s have the right: misalignment comes first
abbrev pub refusal : Places → ℕ → ℕ → Option Access
refusal s a n = if nat_eq (a % n) 0 then (if contains_all s a n then None else Some NoAccess) else Some Misaligned

-- no byte of s lies at or past the end of guest addresses
abbrev pub IsBelowEnd : Places → Type 0
IsBelowEnd s = (q : ℕ) → contains s q ≡ true → q < 0x1000_0000

-- the cause of an answer to a store that isn't Ok
abbrev pub IsCause : Option Access → StoreFault → Type 0
IsCause refused fault.Misaligned = refused ≡ Some Misaligned
IsCause refused fault.NoAccess = refused ≡ Some NoAccess
IsCause refused fault.NoMemory = refused ≡ None

-- the cause of an answer to a transfer of bytes that isn't Ok, where allowed says that all have the right
abbrev pub IsTransferCause : Bool → StoreFault → Type 0
IsTransferCause allowed fault.Misaligned = ⊥
IsTransferCause allowed fault.NoAccess = allowed ≡ false
IsTransferCause allowed fault.NoMemory = allowed ≡ true

-- ---- loads
-- the byte a as the program sees it: a byte of a link is one of its original number
abbrev pub seen : (ℕ → ℕ) → Memory → ℕ → ℕ
seen origin m a =
    if is_link_at m a
    then get_or (bytes_of (origin (number_at m (8 * (a / 8))))) (a % 8) 0
    else byte_at m a

-- a whole word is moved with its tag, and less than one is a number
abbrev pub loaded : (ℕ → ℕ) → Memory → ℕ → Width → Value
loaded origin m a D = record { number = number_at m a; tag = tag_of (is_link_at m a) }
loaded origin m a width = plain (extended width (number_of (bytes_from (seen origin m) a (size_of width))))

abbrev pub unless : Option Access → Value → Result Value Access
unless None v = Ok v
unless (Some e) v = Err e

abbrev pub load_of : (ℕ → ℕ) → Memory → ℕ → Width → Result Value Access
load_of origin m a width = unless (refusal m.readable a (size_of width)) (loaded origin m a width)

-- ---- stores
-- how many words have one of the n bytes at a; the first of them is a / 8
abbrev pub touched : ℕ → ℕ → ℕ
touched a n = if nat_eq n 0 then 0 else (a + n + 7) / 8 - a / 8

-- the words from first on, as many as count, by their original numbers
abbrev pub plain_words : (ℕ → ℕ) → Memory → ℕ → ℕ → Memory
plain_words origin m first count = record m {
  bytes = fill m.bytes (8 * first) (8 * count) (seen origin m);
  links = mark m.links first count (λ _. false);
}

-- the n bytes at a are those of f, and each word that they touch is Plain: a link is its original number first
abbrev pub put : (ℕ → ℕ) → Memory → ℕ → ℕ → (ℕ → ℕ) → Memory
put origin m a n f =
    let p = plain_words origin m (a / 8) (touched a n) in
    record p { bytes = fill p.bytes a n f }

-- a whole word is moved with its tag, and less than one is put as bytes of the number that the program sees
abbrev pub stored : (ℕ → ℕ) → Memory → ℕ → Width → Value → Memory
stored origin m a D v = record m {
  bytes = fill m.bytes a 8 (λ q. get_or (bytes_of v.number) (q - a) 0);
  links = mark m.links (a / 8) 1 (λ _. is_link v.tag);
}
stored origin m a width v = put origin m a (size_of width) (λ q. get_or (bytes_of (original origin v)) (q - a) 0)

-- ---- mapping
-- each link with one of the bytes from lo up to hi has all of its bytes there
abbrev pub HoldsWholeLinks : Memory → ℕ → ℕ → Type 0
HoldsWholeLinks m lo hi = (w : ℕ) → contains m.links w ≡ true → lo < hi → 8 * w < hi → lo < 8 * w + 8 → (lo ≤ 8 * w) × (8 * w + 8 ≤ hi)

-- the n bytes from a have these rights
abbrev pub with_rights : Memory → ℕ → ℕ → Bool → Bool → Memory
with_rights m a n read write = record m {
  readable = mark m.readable a n (λ _. read);
  writable = mark m.writable a n (λ _. write);
}

-- the n bytes from a are zero, and each word with one of them is Plain
abbrev pub cleared : Memory → ℕ → ℕ → Memory
cleared m a n = record m {
  bytes = fill m.bytes a n (λ _. 0);
  links = mark m.links (a / 8) (touched a n) (λ _. false);
}

abbrev pub mapped : Memory → ℕ → ℕ → Bool → Bool → Memory
mapped m a n read write = cleared (with_rights m a n read write) a n

-- ---- links
-- the word that holds the byte a, which is a link, has another number
abbrev pub with_link : Memory → ℕ → ℕ → Memory
with_link m a number = record m {
  bytes = fill m.bytes (8 * (a / 8)) 8 (λ q. get_or (bytes_of number) (q - 8 * (a / 8)) 0);
}

-- the links with their addresses and numbers, ascending
abbrev pub links_of : Memory → List (ℕ × ℕ)
links_of m = map (λ (w : ℕ). (8 * w, number_at m (8 * w))) (items m.links)

-- ---- room, as the words in which a write takes no memory
abbrev pub KeepsRoom : Places → Places → Type 0
KeepsRoom before after = (w : ℕ) → contains before w ≡ true → contains after w ≡ true

-- each word with one of the n bytes at a has room
abbrev pub IsRoomy : Places → ℕ → ℕ → Type 0
IsRoomy room a n = (k : ℕ) → k < n → contains room ((a + k) / 8) ≡ true
