use Rattle.std.proofs.Common.{rules, ◌≡◌, [], ◌∷◌, ◌++◌, refl}
use Rattle.emit.proofs.Steps.{begun_more, reached_more, first_out}
use Rattle.emit.proofs.place.Placing.words.Goals as goal

pub loop-i-preserved : goal.loop-i-preserved
loop-i-preserved c =
    let new : c.push.new.self.items ≡ c.loop-i.words.items ++ c.in-Ok.word ∷ [] = search rules in
    record {
      size = search rules;
      made = begun_more _ _ c.loop-i.words.items _ c.loop-i.i c.in-Ok.word c.index-entries-i.result c.loop-i.invariant.size c.loop-i-test.true c.index-entries-i.is new c.loop-i.invariant.made c.in-Ok.ensures.ok;
      reach = reached_more _ _ c.loop-i.i c.index-entries-i.result c.loop-i-test.true c.index-entries-i.is c.loop-i.invariant.reach (c.in-Ok.ensures.reach.0 refl);
    }

pub returns-in-Err-clause-err : goal.returns-in-Err-clause-err
returns-in-Err-clause-err c =
    first_out c.args.self.now.base c.args.self.now.entries.now c.loop-i.i c.index-entries-i.result c.wanted-target.result c.loop-i-test.true c.index-entries-i.is c.wanted-target.ensures
    (λ k. let f = c.in-Err.ensures.reach.1 k in absurd (cc)) c.loop-i.invariant.reach
