use Rattle.std.proofs.Common.{◌++◌, ap, string_bytes, ◌∙◌}
use Rattle.std.specs.List.{flat_map}
use Rattle.seen.specs.Profiles.{edge_line}
use Rattle.seen.proofs.Entered.{edges_as}
use Rattle.seen.proofs.profile.push_edges.Goals as goal

pub returns : goal.returns
returns c = c.in_ok-push_rows.ensures ∙ ap (λ t. string_bytes c.args.text.now ++ t) (edges_as c.args.places.now.list c.counts.result.now ∙ ap (flat_map (edge_line c.args.places.now.list)) c.counts.ensures)
