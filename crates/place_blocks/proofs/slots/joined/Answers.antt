use Rattle.std.proofs.Common.{◌<◌, ◌∙◌, sym, ap, subst, get_or, length, map, List, ℕ}
use Rattle.place_blocks.specs.Chains.{Joins}
use Rattle.place_blocks.specs.Passes.{pass}
use Rattle.place_blocks.specs.Passes.{edge_of}
use Rattle.place_blocks.specs.Orders.{singles}
use Rattle.place_blocks.specs.Places.{times_in}
use Rattle.place_blocks.specs.Slots.{all_noted, AreSlots, chains_in}
use Rattle.place_blocks.proofs.Joining.{pass_is}
use Rattle.place_blocks.proofs.Started.{slots_at_first, size_at_first, chains_at_first}
use Rattle.place_blocks.proofs.slots.joined.Goals as goal

pub take_all-requires-clause-are : goal.take_all-requires-clause-are
take_all-requires-clause-are c =
    subst (λ (s : List (List ℕ)). AreSlots s (all_noted c.in_ok-heads.heads.items)) (sym c.in_ok-slots.ensures)
    (subst (λ (h : List ℕ). AreSlots (singles c.args.count) (all_noted h)) (sym c.in_ok-heads.ensures) (slots_at_first c.args.count))

pub take_all-requires-clause-below : goal.take_all-requires-clause-below
take_all-requires-clause-below c =
    λ k d lt.
    let size = sym (size_at_first c.args.count) ∙ sym (ap length c.in_ok-slots.ensures) in
    let one = c.requires.below k d lt in
    (subst (λ (n : ℕ). (get_or c.args.edges.now k d).from < n) size one.0, subst (λ (n : ℕ). (get_or c.args.edges.now k d).to < n) size one.1)

pub returns-clause-rule : goal.returns-clause-rule
returns-clause-rule c =
    λ weight rises among.
    let x = pass_is weight (map edge_of c.args.edges.now) (singles c.args.count) rises among in
    let same = c.in_ok-take_all.ensures.chains ∙ ap (pass (map edge_of c.args.edges.now)) (ap chains_in c.in_ok-slots.ensures ∙ chains_at_first c.args.count) in
    (x.0, subst (λ (s : List (List ℕ)). Joins weight (singles c.args.count) x.0 s) (sym same) x.1)

pub returns-clause-times : goal.returns-clause-times
returns-clause-times c = λ b. c.in_ok-take_all.ensures.times b ∙ ap (times_in b) c.in_ok-slots.ensures
