-- The system calls by their numbers, and the registers that each reads. Source: the generic table of system calls of Linux,
-- of which this project serves these rows.
use Rattle.std.specs.Prelude.{ℕ, ◌-◌, ◌==◌, List, [], ◌∷◌, ◌++◌, Option, Some, None, bit_and, get_or, if◌then◌else◌}
use Rattle.std.specs.List.{range_with_len}
use Rattle.link_tags.specs.declared.value.Value.{Value}
use Rattle.link_tags.specs.Values.{plain, is_link}
use Rattle.guest_sys.specs.declared.service.Service.{Service}
use Rattle.guest_sys.specs.declared.service.Service.TheVariants as call
use Rattle.guest_sys.specs.declared.service.Operation.{Operation}
use Rattle.guest_sys.specs.declared.service.Operation.TheVariants as futex

abbrev pub rows : List (ℕ × Service)
rows =
    (29, call.Ioctl) ∷ (63, call.Read) ∷ (64, call.Write) ∷ (66, call.Writev) ∷ (93, call.Exit) ∷
    (94, call.ExitGroup) ∷ (96, call.SetTidAddress) ∷ (98, call.Futex) ∷ (99, call.SetRobustList) ∷
    (124, call.SchedYield) ∷ (134, call.RtSigaction) ∷ (135, call.RtSigprocmask) ∷ (172, call.Getpid) ∷
    (178, call.Gettid) ∷ (214, call.Brk) ∷ (215, call.Munmap) ∷ (220, call.Clone) ∷ (222, call.Mmap) ∷
    (226, call.Mprotect) ∷ []

-- the service of the first row with this number
abbrev pub among : List (ℕ × Service) → ℕ → Service
among [] number = call.Unknown
among (row ∷ rest) number = if number == row.0 then row.1 else among rest number

unfoldable pub service_of : ℕ → Service
service_of number = among rows number

-- what a futex call does: its second argument without the bits for "private" (128) and "realtime" (256)
abbrev pub operation_among : ℕ → Operation
operation_among k = if k == 0 then futex.Wait else (if k == 1 then futex.Wake else (if k == 3 then futex.Requeue else futex.Other))

unfoldable pub operation_of : ℕ → Operation
operation_of flags = operation_among (bit_and flags 0xFFFF_FFFF_FFFF_FE7F)

-- the n registers from this one on
abbrev pub registers : ℕ → ℕ → List ℕ
registers first n = range_with_len first n

abbrev pub futex_registers : Operation → List ℕ
futex_registers futex.Wait = registers 12 2
futex_registers futex.Wake = registers 12 1
futex_registers futex.Requeue = registers 12 3
futex_registers futex.Other = []

-- the argument registers that a call reads, in their order, where x11 holds this number
abbrev pub arguments : Service → ℕ → List ℕ
arguments call.Read x11 = registers 10 3
arguments call.Write x11 = registers 10 3
arguments call.Writev x11 = registers 10 3
arguments call.Exit x11 = registers 10 1
arguments call.ExitGroup x11 = registers 10 1
arguments call.SetTidAddress x11 = registers 10 1
arguments call.Futex x11 = registers 10 2 ++ futex_registers (operation_of x11)
arguments call.Brk x11 = registers 10 1
arguments call.Munmap x11 = registers 10 2
arguments call.Clone x11 = registers 10 5
arguments call.Mmap x11 = registers 11 3
arguments call.Mprotect x11 = registers 10 3
arguments _ x11 = []

-- what register k holds, of the values of x10 to x17
abbrev pub held : List Value → ℕ → Value
held regs k = get_or regs (k - 10) (plain 0)

abbrev pub number : List Value → ℕ → ℕ
number regs k = (held regs k).number

-- the first of some registers that holds a link
abbrev pub first_link : List Value → List ℕ → Option ℕ
first_link regs [] = None
first_link regs (k ∷ ks) = if is_link (held regs k).tag then Some k else first_link regs ks

-- the first register that a call reads and that holds a link: the number is read from x17, and then the arguments
unfoldable pub link_read : List Value → Option ℕ
link_read regs = first_link regs (17 ∷ arguments (service_of (number regs 17)) (number regs 11))
