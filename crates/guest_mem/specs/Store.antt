-- What contracts see of a memory: its contents, and the words in which a write takes no memory.
use Rattle.std.specs.Prelude.{refl}
use Rattle.std.specs.Coded.{Coded, code_by, coded×}
use Rattle.finite.specs.Maps.{Places, places_code}
use Rattle.guest_mem.specs.Memory.{Memory, memory_code}

pub record Store : Type 0 where
  pub contents : Memory
  pub room : Places

abbrev pub store_code : Coded Store
store_code =
    code_by (Memory × Places) (coded× memory_code places_code)
    (λ s. (s.contents, s.room))
    (λ p. record { contents = p.0; room = p.1 })
    (λ _. refl)
