use Rattle.std.proofs.Common.{◌≡◌, ℕ, ◌<◌, ◌≤◌, true, List, sym, subst, ap, ◌∙◌, arith}
use Rattle.std.specs.Prelude.{nat_le, ◌⊎◌, ◌↔◌}
use Rattle.std.specs.List.{position_or_len}
use Rattle.oc_base.specs.declared.range.Range.{Range}
use Rattle.region.specs.Free.{is_free, Rises, given}
use Rattle.region.specs.Space.{Space}
use Rattle.region.proofs.FreeLaws.{place_within}
use Rattle.region.proofs.Giving.{given_at, given_rises, given_addresses, given_none}
use Rattle.region.proofs.space.Region.give_back.Goals as goal

pub put_in-requires-clause-place : goal.put_in-requires-clause-place
put_in-requires-clause-place c =
    let place : c.place_ending_at-i.result ≡ position_or_len (λ r. nat_le c.args.part.from r.to) c.self.inside.free.items =
    c.place_ending_at-i.ensures ∙ ap (position_or_len (λ (r : Range). nat_le c.args.part.from r.to)) c.deref.ensures.value in
    rw place (place_within (λ r. nat_le c.args.part.from r.to) c.self.inside.free.items)

pub invariant_of-self : goal.invariant_of-self
invariant_of-self c =
    let same : c.args.self.now.free ≡ c.self.inside.free.items = ap (λ (s : Space). s.free) (sym c.self.view_is) in
    let all : c.args.self.now.all ≡ c.self.inside.all = ap (λ (s : Space). s.all) (sym c.self.view_is) in
    let spare : c.args.self.now.spare ≡ c.self.inside.spare = ap (λ (s : Space). s.spare) (sym c.self.view_is) in
    let place : c.place_ending_at-i.result ≡ position_or_len (λ r. nat_le c.args.part.from r.to) c.self.inside.free.items =
    c.place_ending_at-i.ensures ∙ ap (position_or_len (λ (r : Range). nat_le c.args.part.from r.to)) c.deref.ensures.value in
    let some : c.args.part.from < c.args.part.to = omega (arith, c.if-part.true, c.requires.ordered) in
    let put : c.put_in.new.free.items ≡ given c.args.part c.self.inside.free.items = c.put_in.ensures.items ∙ given_at c.args.part c.self.inside.free.items c.place_ending_at-i.result some place in
    record {
      order = subst (Rises c.self.inside.all.from c.self.inside.all.to) (sym put)
          (given_rises c.args.part c.self.inside.all.from c.self.inside.all.to c.self.inside.free.items (subst (λ (r : Range). r.from ≤ c.args.part.from) all c.requires.low) some
          (subst (λ (r : Range). c.args.part.to ≤ r.to) all c.requires.high) c.self.invariant.order
          (subst (λ (rs : List Range). (a : ℕ) → c.args.part.from ≤ a → a < c.args.part.to → is_free rs a ≡ true → ⊥) same c.requires.used));
      room = omega (arith, c.put_in.ensures.len, c.put_in.ensures.capacity, c.self.invariant.room, c.requires.spare, spare);
    }

pub returns-then-part-clause-free : goal.returns-then-part-clause-free
returns-then-part-clause-free c =
    let same : c.self.inside.free.items ≡ c.args.self.now.free = ap (λ (s : Space). s.free) c.self.view_is in
    let place : c.place_ending_at-i.result ≡ position_or_len (λ r. nat_le c.args.part.from r.to) c.self.inside.free.items =
    c.place_ending_at-i.ensures ∙ ap (position_or_len (λ (r : Range). nat_le c.args.part.from r.to)) c.deref.ensures.value in
    let some : c.args.part.from < c.args.part.to = omega (arith, c.if-part.true, c.requires.ordered) in
    c.put_in.ensures.items ∙ given_at c.args.part c.self.inside.free.items c.place_ending_at-i.result some place ∙ ap (given c.args.part) same

pub returns-then-part-clause-addresses : goal.returns-then-part-clause-addresses
returns-then-part-clause-addresses c =
    let order : Rises c.self.inside.all.from c.self.inside.all.to c.args.self.now.free =
    subst (Rises c.self.inside.all.from c.self.inside.all.to) (ap (λ (s : Space). s.free) c.self.view_is) c.self.invariant.order in
    let some : c.args.part.from < c.args.part.to = omega (arith, c.if-part.true, c.requires.ordered) in
    λ a. subst (λ (rs : List Range). (is_free rs a ≡ true) ↔ ((is_free c.args.self.now.free a ≡ true) ⊎ ((c.args.part.from ≤ a) × (a < c.args.part.to)))) (sym (returns-then-part-clause-free c))
    (given_addresses c.args.part c.self.inside.all.from c.self.inside.all.to c.args.self.now.free a some order c.requires.used)

pub returns-else-part-clause-free : goal.returns-else-part-clause-free
returns-else-part-clause-free c = ap (λ (s : Space). s.free) c.self.view_is ∙ sym (given_none c.args.part c.args.self.now.free c.if-part.false)
