use Rattle.std.proofs.Common.{◌≡◌, ◌+◌, length, take, arith, ap, sym, ◌∙◌, length-append, length-take, ℕ}
use Rattle.oc_base.specs.Outside.{dropped}
use Rattle.oc_base.proofs.Told.{all_read, next_part, was_longer, longer_part, lost_more, dropped-dropped}
use Rattle.oc_base.proofs.source.read_all.Goals as goal

pub returns-then-count-eq0-clause-bytes : goal.returns-then-count-eq0-clause-bytes
returns-then-count-eq0-clause-bytes g c = λ x told.
    all_read _ _ _ x told c.loop-count.invariant.left (c.loop-count.invariant.bytes x told) (c.in-Ok.ensures.end c.if-count-eq0.true)

pub returns-then-count-limit-clause-too_long : goal.returns-then-count-limit-clause-too_long
returns-then-count-limit-clause-too_long g c = λ _ x told.
    let part = next_part _ _ c.loop-count.all.items x c.read.new.into c.in-Ok.count told c.loop-count.invariant.left c.in-Ok.ensures.bytes in
    was_longer c.loop-count.all.items x c.read.new.into c.in-Ok.count c.args.limit part (omega (arith, c.in-Ok.ensures.room)) (omega arith)

pub loop-count-preserved : goal.loop-count-preserved
loop-count-preserved g c =
    let all = c.loop-count.all.items in
    let items = c.in-Ok-extend_from_slice.ensures.items in
    let lens : length c.extend_from_slice.new.self.items ≡ length all + c.in-Ok.count = ap length items ∙ omega (arith, length-append {A = ℕ}, length-take {A = ℕ}, c.in-Ok.ensures.room) in
    record {
      within = omega arith;
      left = c.in-Ok.ensures.left ∙ ap (dropped c.in-Ok.count) c.loop-count.invariant.left ∙ dropped-dropped _ (length all) c.in-Ok.count ∙ ap (λ n. dropped n (g.S.Source.left c.args.source.now)) (sym lens);
      bytes = λ x told.
          let part = next_part _ _ all x c.read.new.into c.in-Ok.count told c.loop-count.invariant.left c.in-Ok.ensures.bytes in
          items ∙ longer_part all x c.read.new.into c.in-Ok.count (c.loop-count.invariant.bytes x told) part ∙ ap (λ n. take n x) (sym lens);
      reads = omega (arith, c.in-Ok.ensures.turn);
      faults = c.in-Ok.ensures.cause.kept ∙ c.loop-count.invariant.faults;
    }

pub returns-then-count-limit-clause-rest : goal.returns-then-count-limit-clause-rest
returns-then-count-limit-clause-rest g c = lost_more _ _ _ _ c.in-Ok.count c.loop-count.invariant.left c.in-Ok.ensures.left

pub returns-in_default-extend_from_slice-clause-rest : goal.returns-in_default-extend_from_slice-clause-rest
returns-in_default-extend_from_slice-clause-rest g c = lost_more _ _ _ _ c.in-Ok.count c.loop-count.invariant.left c.in-Ok.ensures.left
