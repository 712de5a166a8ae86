use Rattle.std.proofs.Common.{◌∙◌, true, sym, ap}
use Rattle.std.specs.Ordering.{nat_cmp}
use Rattle.std.specs.Map.{lookup}
use Rattle.std.specs.BTreeMap.{is_at}
use Rattle.finite.specs.Maps.{contains}
use Rattle.guest_mem.specs.Memory.{word_of}
use Rattle.link_tags.specs.Values.{is_link}
use Rattle.guest_mem.proofs.FlatLaws.{flat_word, is_there, linked, no_entry, word_absent}
use Rattle.guest_mem.proofs.flat.FlatMemWordStore.has_room.Goals as goal

pub returns-clause-value : goal.returns-clause-value
returns-clause-value c =
    let es = c.self.inside.words.entries in
    let o = lookup (is_at (nat_cmp c.args.w)) es in
    c.contains_key.ensures ∙ is_there o ∙ sym (flat_word (λ _. true) es c.args.w) ∙ ap (λ s. contains s.room c.args.w) c.self.view_is

pub returns-clause-bare : goal.returns-clause-bare
returns-clause-bare c none =
    let es = c.self.inside.words.entries in
    let o = lookup (is_at (nat_cmp c.args.w)) es in
    word_absent es c.self.inside.rights.items c.args.w (no_entry o (sym (c.contains_key.ensures ∙ is_there o) ∙ none))
    ∙ ap (λ s. word_of s.contents c.args.w) c.self.view_is

pub returns-clause-link : goal.returns-clause-link
returns-clause-link c link =
    let es = c.self.inside.words.entries in
    let o = lookup (is_at (nat_cmp c.args.w)) es in
    c.contains_key.ensures ∙ is_there o
    ∙ linked o (sym (flat_word (λ y. is_link y.tag) es c.args.w) ∙ ap (λ s. contains s.contents.links c.args.w) c.self.view_is ∙ link)
