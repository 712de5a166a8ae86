-- What a retirement makes of a world. Source: this project; the outline is OCOLOS (Zhang et al., MICRO 2022).
use Rattle.std.specs.Prelude.{◌≡◌, ℕ, ℤ, ◌+◌, ◌*◌, ◌%◌, ◌<◌, ◌≤◌, Bool, true, false, not, ◌&&◌, List, [], ◌∷◌, ◌++◌, length, map, drop, slice_get, All, AllPairs, is_some, IsSome, Option, Some, None, Result, Ok, Err, if◌then◌else◌}
use Rattle.std.specs.List.{filter_map, flat_map, list_any, remove}
use Rattle.oc_base.specs.declared.fault.NoMemory.{NoMemory}
use Rattle.oc_base.specs.declared.range.Range.{Range}
use Rattle.rv_isa.specs.declared.instr.Cond.{Cond}
use Rattle.rv_isa.specs.declared.instr.Instr.TheVariants.{Jal, Branch}
use Rattle.image.specs.declared.ranges.TextRange.{TextRange}
use Rattle.image.specs.declared.ranges.Aim.{Aim}
use Rattle.image.specs.Targets.{target}
use Rattle.image.specs.Texts.{word_at}
use Rattle.image.specs.Picture.{Picture}
use Rattle.link_tags.specs.declared.value.Value.{Value}
use Rattle.link_tags.specs.Values.{is_link}
use Rattle.guest_mem.specs.Access.{links_of}
use Rattle.hart.specs.declared.hart.Hart.{Hart}
use Rattle.layout.specs.Laid.{Laid, IsLaid}
use Rattle.layout.specs.Apart.{LieApart, covers}
use Rattle.layout.specs.Points.{Code, read, in_range}
use Rattle.machine.specs.Harts.{has_ended}
use Rattle.machine.specs.States.{State}
use Rattle.region.specs.Free.{Rises, is_free, range, given}
use Rattle.retire.specs.References.{jump_of, AreUnreferenced}
use Rattle.sim_laws.specs.Changes.{IsPointer}
use Rattle.world.specs.Worlds.{Replaced}

-- ---- what refers to layouts from outside
-- of a hart that goes on its pc, and the numbers of the links in its registers; x0 holds none
abbrev pub pc_of : Hart → List ℕ
pc_of h = if has_ended h.status then [] else h.pc ∷ []

abbrev pub link_number : Value → Option ℕ
link_number v = if is_link v.tag then Some v.number else None

abbrev pub register_links : Hart → List ℕ
register_links h = if has_ended h.status then [] else filter_map link_number (drop 1 h.regs)

abbrev pub pcs_of : List Hart → List ℕ
pcs_of harts = flat_map pc_of harts

-- the numbers of all links, in registers and in memory
abbrev pub links_held : State → List ℕ
links_held s = flat_map register_links s.harts ++ map (λ (l : ℕ × ℕ). l.1) (links_of s.memory)

-- where the sites and pairs of text go, as far as they are JALs
abbrev pub text_aim : List TextRange → ℕ → Aim → Option ℕ
text_aim text past s = jump_of (s.at + past) (read (word_at text) (s.at + past))

abbrev pub text_aims : Picture → List TextRange → List ℕ
text_aims p text = filter_map (text_aim text 0) p.sites ++ filter_map (text_aim text 4) p.pairs

abbrev pub held_by : Replaced → List ℕ
held_by w = pcs_of w.machine.harts ++ links_held w.machine ++ text_aims w.image w.text

-- ---- what is given up
-- a list without its elements at these positions, which ascend
abbrev pub without : {A : Type 0} → List ℕ → List A → List A
without [] xs = xs
without (k ∷ ks) xs = remove (without ks xs) k

abbrev pub range_of : Laid → Range
range_of l = range l.base (l.base + 4 * length l.words)

-- the free ranges, and the range of a layout, if there is one
abbrev pub given_back : Option Laid → List Range → List Range
given_back None free = free
given_back (Some l) free = given (range_of l) free

-- the free ranges and those of the layouts at these positions
abbrev pub freed : List ℕ → List Laid → List Range → List Range
freed [] lives free = free
freed (k ∷ ks) lives free = given_back (slice_get lives k) (freed ks lives free)

-- layouts of a region, each with words, apart from one another; and the free ranges, which are exactly the rest
pub record AreSpread (r : Range) (lives : List Laid) (free : List Range) : Type 0 where
  pub laid : All IsLaid lives
  pub some : All (λ l. 0 < length l.words) lives
  pub within : All (λ l. (r.from ≤ l.base) × (l.base + 4 * length l.words ≤ r.to)) lives
  pub apart : AllPairs LieApart lives
  pub rises : Rises r.from r.to free
  pub whole : All (λ r. r.from % 4 ≡ 0) free
  pub rest : (a : ℕ) → is_free free a ≡ (in_range r a && not (list_any (covers a) lives))

-- The layouts that nothing refers to are given up: n of them. Their ranges are free.
pub record IsRetired (w v : Replaced) (n : ℕ) : Type 0 where
  pub gone : List ℕ
  pub are : AreUnreferenced w.lives (held_by w) gone
  pub count : n ≡ length gone
  pub is : v ≡ record w { lives = without gone w.lives; numbers = without gone w.numbers; free = freed gone w.lives w.free }

-- A retirement's answer, and the world then: out of memory, nothing is changed; a run that has ended changes no more.
abbrev pub RetiresAs : Replaced → (has_ended : Bool) → Result ℕ NoMemory → Replaced → Type 0
RetiresAs w true (Ok n) v = (n ≡ 0) × (v ≡ w)
RetiresAs w true (Err e) v = ⊥
RetiresAs w false (Ok n) v = IsRetired w v n
RetiresAs w false (Err e) v = v ≡ w

-- what a retirement that doesn't run out of memory makes of a world
pub data Retires (w v : Replaced) : Type 0 where
  over : is_some w.machine.outcome ≡ true → v ≡ w → Retires w v
  done : (n : ℕ) → is_some w.machine.outcome ≡ false → IsRetired w v n → Retires w v

-- ---- where live code pointers lead
-- the word at a goes to t by itself: it is a JAL or a branch
pub data JumpsTo (c : Code) (a t : ℕ) : Type 0 where
  by_jal : (rd : ℕ) (off : ℤ) → read c.word a ≡ Some (Jal rd off) → t ≡ target a off → JumpsTo c a t
  by_branch : (k : Cond) (rs1 rs2 : ℕ) (off : ℤ) → read c.word a ≡ Some (Branch k rs1 rs2 off) → t ≡ target a off → JumpsTo c a t

-- Every live code pointer leads to code, outside the region or in a live layout: each pc and each link of a hart that goes on, each link
-- in memory, and each direct jump of text or of a live layout, calls among them.
pub record LeadsToCode (c : Code) (s : State) : Type 0 where
  pub pointers : (a : ℕ) → IsPointer s a → IsSome (c.point a)
  pub jumps : (a t : ℕ) → IsSome (c.point a) → JumpsTo c a t → IsSome (c.point t)
