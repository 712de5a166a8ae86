use Rattle.std.proofs.Common.{◌≡◌, ◌+◌, ◌<◌, ◌≤◌, true, List, sym, subst, ap, ◌∙◌, arith}
use Rattle.std.specs.Prelude.{nat_lt, ◌⊎◌, ◌↔◌}
use Rattle.std.specs.List.{position_or_len}
use Rattle.oc_base.specs.declared.range.Range.{Range}
use Rattle.region.specs.Free.{range, is_free, AreFree, Rises, taken}
use Rattle.region.specs.Space.{Space}
use Rattle.region.proofs.Taking.{took, taken_addresses, taken_none}
use Rattle.region.proofs.space.Region.take.Goals as goal

pub cut_out-requires-clause-place : goal.cut_out-requires-clause-place
cut_out-requires-clause-place c =
    let same : c.args.self.now.free ≡ c.self.inside.free.items = ap (λ (s : Space). s.free) (sym c.self.view_is) in
    let place : c.place_ending_behind-i.result ≡ position_or_len (λ r. nat_lt c.args.at r.to) c.self.inside.free.items =
    c.place_ending_behind-i.ensures ∙ ap (position_or_len (λ (r : Range). nat_lt c.args.at r.to)) c.deref.ensures.value in
    let t = took c.self.inside.all.from c.self.inside.all.to c.self.inside.free.items c.args.at c.args.n c.self.invariant.order (omega (arith, c.if-n-ne0.true))
    (subst (λ (rs : List Range). AreFree rs c.args.at c.args.n) same c.requires.free) in
    rw place t.within

pub cut_out-requires-clause-part : goal.cut_out-requires-clause-part
cut_out-requires-clause-part c =
    let same : c.args.self.now.free ≡ c.self.inside.free.items = ap (λ (s : Space). s.free) (sym c.self.view_is) in
    let place : c.place_ending_behind-i.result ≡ position_or_len (λ r. nat_lt c.args.at r.to) c.self.inside.free.items =
    c.place_ending_behind-i.ensures ∙ ap (position_or_len (λ (r : Range). nat_lt c.args.at r.to)) c.deref.ensures.value in
    let t = took c.self.inside.all.from c.self.inside.all.to c.self.inside.free.items c.args.at c.args.n c.self.invariant.order (omega (arith, c.if-n-ne0.true))
    (subst (λ (rs : List Range). AreFree rs c.args.at c.args.n) same c.requires.free) in
    λ d. rw place (t.ends d)

pub invariant_of-self : goal.invariant_of-self
invariant_of-self c =
    let none : Range = range 0 0 in
    let same : c.args.self.now.free ≡ c.self.inside.free.items = ap (λ (s : Space). s.free) (sym c.self.view_is) in
    let spare : c.args.self.now.spare ≡ c.self.inside.spare = ap (λ (s : Space). s.spare) (sym c.self.view_is) in
    let place : c.place_ending_behind-i.result ≡ position_or_len (λ r. nat_lt c.args.at r.to) c.self.inside.free.items =
    c.place_ending_behind-i.ensures ∙ ap (position_or_len (λ (r : Range). nat_lt c.args.at r.to)) c.deref.ensures.value in
    let t = took c.self.inside.all.from c.self.inside.all.to c.self.inside.free.items c.args.at c.args.n c.self.invariant.order (omega (arith, c.if-n-ne0.true))
    (subst (λ (rs : List Range). AreFree rs c.args.at c.args.n) same c.requires.free) in
    let cut : c.cut_out.new.free.items ≡ taken c.args.at (c.args.at + c.args.n) c.self.inside.free.items =
    c.cut_out.ensures.items none ∙ rw place (t.is none) in
    record {
      order = subst (Rises c.self.inside.all.from c.self.inside.all.to) (sym cut) t.rises;
      room = omega (arith, c.cut_out.ensures.len, c.cut_out.ensures.capacity, c.self.invariant.room, c.requires.spare, spare);
    }

pub returns-then-n-ne0-clause-free : goal.returns-then-n-ne0-clause-free
returns-then-n-ne0-clause-free c =
    let none : Range = range 0 0 in
    let same : c.args.self.now.free ≡ c.self.inside.free.items = ap (λ (s : Space). s.free) (sym c.self.view_is) in
    let place : c.place_ending_behind-i.result ≡ position_or_len (λ r. nat_lt c.args.at r.to) c.self.inside.free.items =
    c.place_ending_behind-i.ensures ∙ ap (position_or_len (λ (r : Range). nat_lt c.args.at r.to)) c.deref.ensures.value in
    let t = took c.self.inside.all.from c.self.inside.all.to c.self.inside.free.items c.args.at c.args.n c.self.invariant.order (omega (arith, c.if-n-ne0.true))
    (subst (λ (rs : List Range). AreFree rs c.args.at c.args.n) same c.requires.free) in
    c.cut_out.ensures.items none ∙ rw place (t.is none) ∙ ap (taken c.args.at (c.args.at + c.args.n)) (sym same)

pub returns-then-n-ne0-clause-addresses : goal.returns-then-n-ne0-clause-addresses
returns-then-n-ne0-clause-addresses c =
    let order : Rises c.self.inside.all.from c.self.inside.all.to c.args.self.now.free =
    subst (Rises c.self.inside.all.from c.self.inside.all.to) (ap (λ (s : Space). s.free) c.self.view_is) c.self.invariant.order in
    λ a. subst (λ (rs : List Range). (is_free rs a ≡ true) ↔ ((is_free c.args.self.now.free a ≡ true) × ((a < c.args.at) ⊎ (c.args.at + c.args.n ≤ a)))) (sym (returns-then-n-ne0-clause-free c))
    (taken_addresses c.self.inside.all.from c.self.inside.all.to c.args.self.now.free c.args.at c.args.n a order (omega (arith, c.if-n-ne0.true)) c.requires.free)

pub returns-else-n-ne0-clause-free : goal.returns-else-n-ne0-clause-free
returns-else-n-ne0-clause-free c =
    let zero : c.args.n ≡ 0 = c.if-n-ne0.false in
    rw zero (ap (λ (s : Space). s.free) c.self.view_is ∙ sym (taken_none c.args.self.now.free c.args.at))
