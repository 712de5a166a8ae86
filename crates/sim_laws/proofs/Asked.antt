-- What a call does depends on the registers that it reads, and on no other.
use Rattle.std.proofs.Common.{◌≡◌, ℕ, Bool, true, false, cond, List, [], ◌∷◌, refl, sym, ap, ◌∙◌}
use Rattle.std.specs.Prelude.{Option, Some, None, ◌==◌, ◌||◌, not, ◌%◌, if◌then◌else◌}
use Rattle.std.specs.List.{list_any}
use Rattle.std.proofs.lemmas.Bool.{eqb-true}
use Rattle.finite.specs.Maps.{Places}
use Rattle.link_tags.specs.declared.value.Value.{Value}
use Rattle.link_tags.specs.Values.{is_link}
use Rattle.guest_sys.specs.declared.service.Service.{Service}
use Rattle.guest_sys.specs.declared.service.Service.TheVariants as call
use Rattle.guest_sys.specs.declared.service.Operation.{Operation}
use Rattle.guest_sys.specs.declared.service.Operation.TheVariants as futex
use Rattle.guest_sys.specs.Services.{service_of, operation_of, arguments, futex_registers, held, number, first_link, link_read}
use Rattle.guest_sys.specs.State.{State}
use Rattle.guest_sys.specs.Calls.{Done, read, write, writev, wait, wake, requeue, futex_call, brk, munmap, mmap, mprotect, clone, replies, fails, served, unless_link, asked}
use Rattle.guest_sys.specs.declared.effect.Reply.TheVariants as reply

-- k is one of some registers
abbrev pub IsOne : List ℕ → ℕ → Type 0
IsOne ks k = list_any (λ j. j == k) ks ≡ true

-- two lists of argument registers with links in the same ones, and the same numbers in the others
pub record AskAlike (rs os : List Value) : Type 0 where
  pub tags : (k : ℕ) → is_link (held rs k).tag ≡ is_link (held os k).tag
  pub numbers : (k : ℕ) → is_link (held rs k).tag ≡ false → number rs k ≡ number os k

or_later : (a b d : Bool) → d ≡ true → (a || (b || d)) ≡ true
or_later true b d e = refl
or_later false true d e = refl
or_later false false d e = e

module _ (rs os : List Value) (q : AskAlike rs os) where
  first_same : (ks : List ℕ) → first_link rs ks ≡ first_link os ks
  first_same [] = refl
  first_same (k ∷ ks) = λ i. cond (q.tags k i) (Some k) (first_same ks i)

  -- where none of some registers holds a link, both hold the same numbers there
  abbrev pub Agree : List ℕ → Type 0
  Agree ks = (k : ℕ) → IsOne ks k → number rs k ≡ number os k

  agree_first : (j k : ℕ) (js : List ℕ) (b : Bool) → (j == k) ≡ b → is_link (held rs j).tag ≡ false → (b || list_any (λ i. i == k) js) ≡ true
      → (IsOne js k → number rs k ≡ number os k) → number rs k ≡ number os k
  agree_first j k js true same t o f = let e : j ≡ k = eqb-true j k same in sym (ap (number rs) e) ∙ q.numbers j t ∙ ap (number os) e
  agree_first j k js false other t o f = f o

  agree_link : (j k : ℕ) (js : List ℕ) (b : Bool) → is_link (held rs j).tag ≡ b → cond b (Some j) (first_link rs js) ≡ None → IsOne (j ∷ js) k
      → (first_link rs js ≡ None → IsOne js k → number rs k ≡ number os k) → number rs k ≡ number os k
  agree_link j k js true t e one f = absurd (cc)
  agree_link j k js false t e one f = agree_first j k js (j == k) refl t one (f e)

  pub agree : (ks : List ℕ) → first_link rs ks ≡ None → Agree ks
  agree [] e k one = absurd (cc)
  agree (j ∷ js) e k one = agree_link j k js (is_link (held rs j).tag) refl e one (λ f o. agree js f k o)

  -- ---- which registers are tested
  tested_11 : (b : Bool) → is_link (held rs 11).tag ≡ b
      → cond b (Some 11) (first_link rs (futex_registers (operation_of (number rs 11)))) ≡ cond b (Some 11) (first_link os (futex_registers (operation_of (number os 11))))
  tested_11 true t = refl
  tested_11 false t = ap (λ n. first_link rs (futex_registers (operation_of n))) (q.numbers 11 t) ∙ first_same (futex_registers (operation_of (number os 11)))

  tested_same : (v : Service) → first_link rs (arguments v (number rs 11)) ≡ first_link os (arguments v (number os 11))
  tested_same call.Futex = λ i. cond (q.tags 10 i) (Some 10) (tested i)
    where
      tested : first_link rs (11 ∷ futex_registers (operation_of (number rs 11))) ≡ first_link os (11 ∷ futex_registers (operation_of (number os 11)))
      tested = tested_11 (is_link (held rs 11).tag) refl ∙ ap (λ b. cond b (Some 11) (first_link os (futex_registers (operation_of (number os 11))))) (q.tags 11)
  tested_same v = first_same (arguments v 0)

  -- ---- what is served
  module _ (see : ℕ → ℕ) (readable writable : Places) (s : State) (h clear : ℕ) where
    abbrev by_operation : Operation → (at a2 a3 a4 : ℕ) → Done
    by_operation op at a2 a3 a4 = elim op [
      | futex.Other ↦ fails s 38
      | futex.Wait ↦ if not (at % 4 == 0) then fails s 22 else wait see readable s h at a2 a3
      | futex.Wake ↦ if not (at % 4 == 0) then fails s 22 else wake s at a2
      | futex.Requeue ↦ if not (at % 4 == 0) then fails s 22 else requeue s at a2 a3 a4
    ]

    operation_same : (op : Operation) (at : ℕ) → Agree (futex_registers op)
        → by_operation op at (number rs 12) (number rs 13) (number rs 14) ≡ by_operation op at (number os 12) (number os 13) (number os 14)
    operation_same futex.Other at a = refl
    operation_same futex.Wait at a = let e = a 12 refl in let f = a 13 refl in λ i. by_operation futex.Wait at (e i) (f i) 0
    operation_same futex.Wake at a = let e = a 12 refl in λ i. by_operation futex.Wake at (e i) 0 0
    operation_same futex.Requeue at a = let e = a 12 refl in let f = a 13 refl in let g = a 14 refl in λ i. by_operation futex.Requeue at (e i) (f i) (g i)

    futex_same : Agree (arguments call.Futex (number rs 11))
        → futex_call see readable s h (number rs 10) (number rs 11) (number rs 12) (number rs 13) (number rs 14)
        ≡ futex_call see readable s h (number os 10) (number os 11) (number os 12) (number os 13) (number os 14)
    unfolding futex_call
    futex_same a =
        let e = a 10 refl in
        let f = a 11 refl in
        operation_same (operation_of (number rs 11)) (number rs 10) (λ k one. a k (or_later (10 == k) (11 == k) (list_any (λ j. j == k) (futex_registers (operation_of (number rs 11)))) one))
        ∙ (λ i. by_operation (operation_of (f i)) (e i) (number os 12) (number os 13) (number os 14))

    served_same : (v : Service) → Agree (arguments v (number rs 11))
        → served see readable writable s h clear v (number rs 10) (number rs 11) (number rs 12) (number rs 13) (number rs 14)
        ≡ served see readable writable s h clear v (number os 10) (number os 11) (number os 12) (number os 13) (number os 14)
    served_same call.Read a = let e = a 10 refl in let f = a 11 refl in let g = a 12 refl in λ i. read writable s (e i) (f i) (g i)
    served_same call.Write a = let e = a 10 refl in let f = a 11 refl in let g = a 12 refl in λ i. write see readable s (e i) (f i) (g i)
    served_same call.Writev a = let e = a 10 refl in let f = a 11 refl in let g = a 12 refl in λ i. writev see readable s (e i) (f i) (g i)
    served_same call.ExitGroup a = let e = a 10 refl in λ i. replies s (reply.EndAll (e i % 256))
    served_same call.SetTidAddress a = let e = a 10 refl in λ i. replies s (reply.SetClear (e i))
    served_same call.Futex a = futex_same a
    served_same call.Brk a = let e = a 10 refl in λ i. brk s (e i)
    served_same call.Munmap a = let e = a 10 refl in let f = a 11 refl in λ i. munmap s (e i) (f i)
    served_same call.Clone a =
        let e = a 10 refl in
        let f = a 11 refl in
        let g = a 12 refl in
        let m = a 13 refl in
        let n = a 14 refl in
        λ i. clone writable s (e i) (f i) (g i) (m i) (n i)
    served_same call.Mmap a = let e = a 11 refl in let f = a 12 refl in let g = a 13 refl in λ i. mmap s (e i) (f i) (g i)
    served_same call.Mprotect a = let e = a 10 refl in let f = a 11 refl in let g = a 12 refl in λ i. mprotect s (e i) (f i) (g i)
    served_same v a = refl

    by_tested : (v : Service) (o : Option ℕ) → first_link rs (arguments v (number rs 11)) ≡ o
        → unless_link s o (served see readable writable s h clear v (number rs 10) (number rs 11) (number rs 12) (number rs 13) (number rs 14))
        ≡ unless_link s o (served see readable writable s h clear v (number os 10) (number os 11) (number os 12) (number os 13) (number os 14))
    by_tested v (Some k) e = refl
    by_tested v None e = served_same v (agree (arguments v (number rs 11)) e)

    -- where x17 is no link the service is known
    abbrev known : List Value → Service → Done
    known regs v =
        unless_link s (first_link regs (arguments v (number regs 11)))
        (served see readable writable s h clear v (number regs 10) (number regs 11) (number regs 12) (number regs 13) (number regs 14))

    known_same : (v : Service) → known rs v ≡ known os v
    known_same v =
        by_tested v (first_link rs (arguments v (number rs 11))) refl
        ∙ ap (λ o. unless_link s o (served see readable writable s h clear v (number os 10) (number os 11) (number os 12) (number os 13) (number os 14))) (tested_same v)

    abbrev by_service : List Value → Bool → Done
    by_service regs b =
        unless_link s (cond b (Some 17) (first_link regs (arguments (service_of (number regs 17)) (number regs 11))))
        (served see readable writable s h clear (service_of (number regs 17)) (number regs 10) (number regs 11) (number regs 12) (number regs 13) (number regs 14))

    service_same : (b : Bool) → is_link (held rs 17).tag ≡ b → by_service rs b ≡ by_service os b
    service_same true t = refl
    service_same false t = known_same (service_of (number rs 17)) ∙ ap (λ n. known os (service_of n)) (q.numbers 17 t)

    -- both calls are one
    pub asked_same : asked see readable writable s h clear rs ≡ asked see readable writable s h clear os
    unfolding asked link_read
    asked_same = service_same (is_link (held rs 17).tag) refl ∙ ap (by_service os) (q.tags 17)
