use Rattle.std.proofs.Common.{◌∙◌, ap, sym, subst}
use Rattle.recorder.specs.Recording.{Recorded}
use Rattle.run_book.specs.Booked.{Booked, Ends}
use Rattle.live_threads.proofs.ending.close.Goals as goal

pub returns-clause-run : goal.returns-clause-run
returns-clause-run g c =
    let whole = ap (λ (b : Booked). b.spent) c.into_parts-book.ensures.book ∙ c.in-Some.ensures.spent in
    let same = c.close-recorder.ensures.world ∙ ap (λ (b : Booked). b.world) c.into_parts-book.ensures.book in
    let closed = c.close-recorder.ensures in
    record {
      run = closed.run;
      ends = subst (λ (r : Recorded). Ends g.J.Run.terms.limit r c.in-Some.ended) (sym same) c.in-Some.ensures.ends;
      paced = closed.paced whole;
      served = closed.served whole;
      entries = closed.entries whole;
      steps = closed.steps;
      shares_sum = c.made.ensures ∙ closed.sum;
    }
