-- What a `PagedMem` stands for: the page i has the bytes from 4096 * i and the words from 512 * i.
use Rattle.std.specs.Prelude.{◌≡◌, ℕ, ◌*◌, ◌/◌, ◌%◌, ◌-◌, ◌<◌, ◌≤◌, min, Bool, true, false, List, get_or, length}
use Rattle.finite.specs.Maps.{Places, zeros, nowhere, fill, mark}
use Rattle.guest_mem.specs.declared.words.Right.TheVariants.{Read, Write}
use Rattle.guest_mem.specs.declared.page.Rights.{Rights}
use Rattle.guest_mem.specs.declared.page.Page.{Page}
use Rattle.guest_mem.specs.declared.page.Page.TheVariants as page
use Rattle.guest_mem.specs.declared.paged.PagedMem.TheInside.{Inside}
use Rattle.guest_mem.specs.Memory.{Memory}
use Rattle.guest_mem.specs.Store.{Store}
use Rattle.guest_mem.specs.Access.{mapped, with_rights}
use Rattle.guest_mem.specs.Pages.{page_byte, page_link, page_right, page_number, is_full, word_links, IsReady}

-- a page of which nothing is known: zero and Plain, without rights
abbrev pub no_page : Page
no_page = page.Zero (record { read = false; write = false })

-- the page i; there is none past the last
abbrev pub page_of : List Page → ℕ → Page
page_of ps i = get_or ps i no_page

abbrev pub paged_memory : List Page → Memory
paged_memory ps = record {
  bytes = fill zeros 0 (4096 * length ps) (λ q. page_byte (page_of ps (q / 4096)) (q % 4096 / 8) (q % 8));
  links = mark nowhere 0 (512 * length ps) (λ w. page_link (page_of ps (w / 512)) (w % 512));
  readable = mark nowhere 0 (4096 * length ps) (λ q. page_right Read (page_of ps (q / 4096)) (q % 4096));
  writable = mark nowhere 0 (4096 * length ps) (λ q. page_right Write (page_of ps (q / 4096)) (q % 4096));
}

-- a full page has room
abbrev pub paged_room : List Page → Places
paged_room ps = mark nowhere 0 (512 * length ps) (λ w. is_full (page_of ps (w / 512)))

abbrev pub paged_store : Inside → Store
paged_store a = record { contents = paged_memory a.pages.items; room = paged_room a.pages.items }

abbrev pub HasAllPages : Inside → Type 0
HasAllPages a = length a.pages.items ≡ 65536

-- where in the page i the bytes from a up to b begin and end
abbrev pub part_from : ℕ → ℕ → ℕ
part_from a i = a - 4096 * i

abbrev pub part_to : ℕ → ℕ → ℕ
part_to b i = min (b - 4096 * i) 4096

abbrev pub part_length : ℕ → ℕ → ℕ → ℕ
part_length a b i = part_to b i - part_from a i

-- the pages from first up to end are ready for new rights at the bytes from a up to b
abbrev pub AreReady : List Page → ℕ → ℕ → ℕ → ℕ → Rights → Type 0
AreReady ps first end a b given = (i : ℕ) → first ≤ i → i < end → IsReady (page_of ps i) (part_from a i) (part_length a b i) given

-- the n bytes from a with the given rights, and zero and Plain if they are cleared
abbrev pub changed : Bool → Memory → ℕ → ℕ → Rights → Memory
changed true m a n given = mapped m a n given.read given.write
changed false m a n given = with_rights m a n given.read given.write

-- the links of the n words from w, with their addresses and numbers
abbrev pub paged_links : List Page → ℕ → ℕ → List (ℕ × ℕ)
paged_links ps w n = word_links (λ v. page_link (page_of ps (v / 512)) (v % 512)) (λ v. page_number (page_of ps (v / 512)) (v % 512)) w n
