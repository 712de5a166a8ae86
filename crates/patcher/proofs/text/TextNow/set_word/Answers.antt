use Rattle.std.proofs.Common.{◌≡◌, set, sym, ◌∙◌, ap, subst, rules}
use Rattle.std.specs.Prelude.{Some, position}
use Rattle.image.specs.Texts.{covers}
use Rattle.patcher.specs.Texts.{range_with, AreTexts, text_with}
use Rattle.patcher.proofs.Words.{placed, set_here, spans_kept}
use Rattle.patcher.proofs.Spans.{are_texts}
use Rattle.patcher.proofs.text.TextNow.set_word.Goals as goal

pub unwrap-i-requires : goal.unwrap-i-requires
unwrap-i-requires c = placed c.args.at c.self.inside.sections.items c.place_of.result (search rules) (search rules)

-- the sections with one of them changed are the text with the word
written : (c : goal.After-self-1) → set c.self.inside.sections.items c.unwrap-i.result c.set_word.new.self ≡ text_with c.args.at c.args.word c.self.inside.sections.items
written c =
    let place : position (covers c.args.at) c.self.inside.sections.items ≡ Some c.unwrap-i.result = search rules in
    ap (set c.self.inside.sections.items c.unwrap-i.result) (c.set_word.ensures ∙ ap (range_with c.args.at c.args.word) c.index_mut.ensures.value)
    ∙ set_here c.args.at c.args.word c.self.inside.sections.items c.unwrap-i.result c.index_mut.result.now place

pub invariant_of-self : goal.invariant_of-self
invariant_of-self c =
    subst AreTexts (sym (written c))
    (are_texts (text_with c.args.at c.args.word c.self.inside.sections.items) c.self.inside.sections.items (spans_kept c.args.at c.args.word c.self.inside.sections.items) c.self.invariant)

pub returns : goal.returns
returns c =
    let e : c.self.inside.sections.items ≡ c.args.self.now = search rules in
    written c ∙ ap (text_with c.args.at c.args.word) e
