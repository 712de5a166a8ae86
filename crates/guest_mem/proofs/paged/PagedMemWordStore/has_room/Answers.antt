use Rattle.std.proofs.Common.{◌≡◌, ◌∙◌, ◌/◌, ◌%◌, true, sym, ap, subst, arith}
use Rattle.std.proofs.lemmas.List.{get_or_read}
use Rattle.std.proofs.lemmas.Bool.{le-ltb}
use Rattle.finite.specs.Maps.{contains}
use Rattle.guest_mem.specs.Store.{Store}
use Rattle.guest_mem.specs.Memory.{word_of}
use Rattle.guest_mem.specs.Pages.{is_full}
use Rattle.guest_mem.specs.Paged.{no_page, page_of, paged_room}
use Rattle.guest_mem.proofs.Laws.{not_true}
use Rattle.guest_mem.proofs.PagedLaws.{paged_full, paged_link, paged_bare, paged_absent, linked_page, room_below, links_below}
use Rattle.guest_mem.proofs.paged.PagedMemWordStore.has_room.Goals as goal

pub returns-then-w-clause-value : goal.returns-then-w-clause-value
returns-then-w-clause-value c =
    let full : c.is_full.result ≡ is_full (page_of c.self.inside.pages.items (c.args.w / 512)) = c.is_full.ensures ∙ ap is_full (get_or_read c.self.inside.pages.items (c.args.w / 512) c.index.result.now (omega arith) c.index.ensures no_page) in
    full ∙ sym (paged_full c.self.inside.pages.items c.args.w) ∙ ap (λ s. contains s.room c.args.w) c.self.view_is

pub returns-then-w-clause-bare : goal.returns-then-w-clause-bare
returns-then-w-clause-bare c none =
    let full : c.is_full.result ≡ is_full (page_of c.self.inside.pages.items (c.args.w / 512)) = c.is_full.ensures ∙ ap is_full (get_or_read c.self.inside.pages.items (c.args.w / 512) c.index.result.now (omega arith) c.index.ensures no_page) in
    paged_bare c.self.inside.pages.items c.args.w (sym full ∙ none)
    ∙ ap (λ s. word_of s.contents c.args.w) c.self.view_is

pub returns-then-w-clause-link : goal.returns-then-w-clause-link
returns-then-w-clause-link c link =
    let full : c.is_full.result ≡ is_full (page_of c.self.inside.pages.items (c.args.w / 512)) = c.is_full.ensures ∙ ap is_full (get_or_read c.self.inside.pages.items (c.args.w / 512) c.index.result.now (omega arith) c.index.ensures no_page) in
    let ps = c.self.inside.pages.items in
    full ∙ linked_page (page_of ps (c.args.w / 512)) (c.args.w % 512) (sym (paged_link ps c.args.w) ∙ ap (λ s. contains s.contents.links c.args.w) c.self.view_is ∙ link)

pub returns-else-w-clause-value : goal.returns-else-w-clause-value
returns-else-w-clause-value c =
    let ps = c.self.inside.pages.items in
    let past = c.if-w.false in
    le-ltb c.args.w 33554432 past
    ∙ sym (not_true (contains (paged_room ps) c.args.w) (λ e. absurd (omega (arith, past, room_below ps c.self.invariant c.args.w e))))
    ∙ ap (λ s. contains s.room c.args.w) c.self.view_is

pub returns-else-w-clause-bare : goal.returns-else-w-clause-bare
returns-else-w-clause-bare c none =
    let past = c.if-w.false in
    paged_absent c.self.inside.pages.items c.args.w (omega arith)
    ∙ ap (λ s. word_of s.contents c.args.w) c.self.view_is

pub returns-else-w-clause-link : goal.returns-else-w-clause-link
returns-else-w-clause-link c link =
    let past = c.if-w.false in
    let below = links_below c.self.inside.pages.items c.self.invariant c.args.w (subst (λ (s : Store). contains s.contents.links c.args.w ≡ true) (sym c.self.view_is) link) in
    absurd (omega arith)
