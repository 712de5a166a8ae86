use Rattle.std.proofs.Common.{◌≡◌, ◌+◌, ◌*◌, ◌++◌, [], ◌∷◌, List, map, drop, ap, sym, subst, ◌∙◌, arith}
use Rattle.blocks.specs.Words.{addresses}
use Rattle.world.specs.Worlds.{code_of}
use Rattle.seen.specs.declared.moved.Placed.{Placed}
use Rattle.seen.specs.Moved.{placed_at}
use Rattle.seen.proofs.Lines.{words_more, words_done}
use Rattle.seen.proofs.moved.layout_words.Goals as goal

pub loop-i-preserved : goal.loop-i-preserved
loop-i-preserved c =
    let f = placed_at c.args.places.now.list (code_of c.args.world.now) in
    let e : c.push.new.self.items ≡ c.loop-i.all.items ++ f (c.args.base + 4 * c.loop-i.i) ∷ [] = c.in_ok-push.ensures.items ∙ ap (λ (x : Placed). c.loop-i.all.items ++ x ∷ []) c.placed_at.ensures in
    subst (λ (t : List Placed). t ++ map f (drop (c.loop-i.i + 1) (addresses c.args.base c.args.words)) ≡ map f (addresses c.args.base c.args.words)) (sym e)
    (words_more f c.args.base c.args.words c.loop-i.i c.loop-i.all.items (map f (addresses c.args.base c.args.words)) (omega (arith, c.loop-i-test.true)) c.loop-i.invariant)

pub returns : goal.returns
returns c =
    let f = placed_at c.args.places.now.list (code_of c.args.world.now) in
    words_done f c.args.base c.args.words c.loop-i.i c.loop-i.all.items (map f (addresses c.args.base c.args.words)) (omega (arith, c.loop-i-test.false)) c.loop-i.invariant
