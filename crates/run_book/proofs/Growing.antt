-- A run is also one that begins with its log so far; so what a section keeps for each run says that the log grows.
use Rattle.std.proofs.Common.{ℕ, List, [], append-nil, sym}
use Rattle.sched_log.specs.declared.event.Event.{Event}
use Rattle.run_book.specs.declared.running.Running.{Running}
use Rattle.run_book.specs.Terms.{Terms}
use Rattle.run_book.specs.Told.{told, BeginsWith}
use Rattle.run_book.specs.Booked.{IsBook}

pub begins_itself : (log : List Event) → BeginsWith log log
begins_itself log = ([], sym (append-nil log))

-- the same run, from here on
abbrev pub from_now : Terms → Running → Terms
from_now t r = record t { begins = told r.recorder }

pub book_from_now : (t : Terms) (total : ℕ) (r : Running) → IsBook t total r → IsBook (from_now t r) total r
book_from_now t total r b =
    let fair = b.terms.fair in
    let run = b.run in
    record {
      terms = record {
        fair = record {
          some_workers = fair.some_workers;
          few_workers = fair.few_workers;
          some_steps = fair.some_steps;
          few_steps = fair.few_steps;
          some_limit = fair.some_limit;
          low_limit = fair.low_limit;
        };
        workers = b.terms.workers;
        every = b.terms.every;
        limit = b.terms.limit;
      };
      run = record {
        made = run.made;
        begins = begins_itself (told r.recorder);
        related = run.related;
        image = run.image;
        marked = run.marked;
        closed = run.closed;
        limited = run.limited;
      };
      sum = b.sum;
      rests = λ whole. (let at = b.rests whole in record {
        settled = at.settled;
        served = at.served;
        bounded = at.bounded;
        live = at.live;
        chosen = record { next = at.chosen.next; one = at.chosen.one };
      });
      last = b.last;
    }
