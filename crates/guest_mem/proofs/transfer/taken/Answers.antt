use Rattle.std.proofs.Common.{◌≡◌, ◌∙◌, ◌+◌, ◌%◌, get_or, sym, ap, ◌++◌, ◌∷◌, [], List, ℕ}
use Rattle.guest_mem.specs.declared.words.Word.{Word}
use Rattle.guest_mem.specs.Memory.{bytes_from}
use Rattle.guest_mem.specs.Access.{seen}
use Rattle.guest_mem.specs.Words.{plain_bytes_of}
use Rattle.guest_mem.proofs.Reading.{bytes_from-none, bytes_from-more}
use Rattle.guest_mem.proofs.Laws.{seen_at}
use Rattle.guest_mem.proofs.transfer.taken.Goals as goal

pub loop-k-init : goal.loop-k-init
loop-k-init g c =
    let f = seen (g.O.Origins.origin c.args.origins.now) (g.S.WordStore.contents c.args.store.now) in
    c.new-taken.ensures.items ∙ sym (bytes_from-none f c.args.at)

pub loop-k-preserved : goal.loop-k-preserved
loop-k-preserved g c =
    let origin = g.O.Origins.origin c.args.origins.now in
    let m = g.S.WordStore.contents c.args.store.now in
    let f = seen origin m in
    let k = c.loop-k.k in
    let q = c.args.at + k in
    let plain = c.plain_bytes-word.result in
    let byte : get_or plain (q % 8) 0 ≡ f q = ap (λ ys. get_or ys (q % 8) 0) (c.plain_bytes-word.ensures ∙ ap (λ (y : Word). plain_bytes_of origin y) c.word.ensures) ∙ seen_at origin m q in
    c.in-Ok.ensures.items
    ∙ ap (λ (xs : List ℕ). xs ++ get_or plain (q % 8) 0 ∷ []) c.loop-k.invariant
    ∙ ap (λ (y : ℕ). bytes_from f c.args.at k ++ y ∷ []) byte
    ∙ sym (bytes_from-more f c.args.at k)
