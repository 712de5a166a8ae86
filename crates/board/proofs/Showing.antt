-- What was shown of a run, as its log grows.
use Rattle.std.proofs.Common.{◌≡◌, ℕ, true, List, [], ◌∷◌, ◌++◌, refl, sym, ap, ◌∙◌, subst, append_assoc}
use Rattle.std.specs.Prelude.{All}
use Rattle.std.proofs.lemmas.List.Elements.{All-nil, All-cons, All-push, All-weaker}
use mathlib.Core.List.{append-nil}
use Rattle.atomic_table.specs.Seated.{TableId}
use Rattle.sched_log.specs.declared.event.Event.{Event}
use Rattle.watch.specs.Shown.{last_of, Seen, seen}
use Rattle.world.specs.Worlds.{Replaced, started}
use Rattle.recorder.specs.Recording.{Recorded}
use Rattle.run_book.specs.Sections.{IsRunOf}
use Rattle.run_book.specs.Terms.{Terms}
use Rattle.run_book.specs.Told.{told, MakesAll, BeginsWith}
use Rattle.board.specs.Boarded.{new_writer, counts_of, AreOfBeginning, IsShowing}

last_shown : (xs : List (List ℕ)) (x : List ℕ) → last_of (xs ++ x ∷ []) ≡ x
last_shown [] x = refl
last_shown (y ∷ []) x = refl
last_shown (y ∷ z ∷ ys) x = last_shown (z ∷ ys) x

begins_still : (more log first : List Event) → BeginsWith more log → BeginsWith log first → BeginsWith more first
begins_still more log first b c = (c.0 ++ b.0, b.1 ∙ ap (λ l. l ++ b.0) c.1 ∙ append_assoc first c.0 b.0)

-- what is of a beginning of a log is of one of a longer log
still_one : (t : Terms) (more log : List Event) (counts : List ℕ) → BeginsWith more log → AreOfBeginning t log counts → AreOfBeginning t more counts
still_one t more log counts b one = record {
  beginning = one.beginning;
  begins = begins_still more log one.beginning b one.begins;
  world = one.world;
  made = one.made;
  counts_are = one.counts_are;
}

pub still_each : (t : Terms) (more log : List Event) (shown : List (List ℕ)) → BeginsWith more log → All (AreOfBeginning t log) shown → All (AreOfBeginning t more) shown
still_each t more log shown b each = All-weaker (AreOfBeginning t log) (AreOfBeginning t more) (λ counts one. still_one t more log counts b one) shown each

-- the zero counts are those of no entries
pub first_counts : (t : Terms) (log : List Event) → All (AreOfBeginning t log) ((0 ∷ 0 ∷ 0 ∷ []) ∷ [])
first_counts t log =
    let first : AreOfBeginning t log (0 ∷ 0 ∷ 0 ∷ []) = record { beginning = []; begins = (log, refl); world = started t.image t.ring t.input; made = refl; counts_are = refl } in
    All-cons (AreOfBeginning t log) (0 ∷ 0 ∷ 0 ∷ []) [] first (All-nil (AreOfBeginning t log))

-- the counts of the whole log
whole : (t : Terms) (r : Recorded) → IsRunOf t r → AreOfBeginning t (told r) (counts_of r.at)
whole t r run = record { beginning = told r; begins = ([], sym (append-nil (told r))); world = r.at; made = run.made; counts_are = refl }

-- they were shown
pub showing : (cell : TableId) (t : Terms) (r : Recorded) (shown : List (List ℕ)) (now : List ℕ) → IsRunOf t r → now ≡ counts_of r.at → All (AreOfBeginning t (told r)) shown
    → IsShowing cell t r (seen cell (shown ++ now ∷ []) true)
showing cell t r shown now run is each = record {
  own = refl;
  writes = refl;
  each = All-push (AreOfBeginning t (told r)) shown now each (subst (AreOfBeginning t (told r)) (sym is) (whole t r run));
  last = last_shown shown now ∙ is;
}
