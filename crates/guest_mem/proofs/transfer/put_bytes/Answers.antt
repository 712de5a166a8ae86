use Rattle.std.proofs.Common.{◌≡◌, ℕ, ◌-◌, length, get_or, sym, subst, rules}
use Rattle.guest_mem.specs.Access.{put}
use Rattle.guest_mem.proofs.PutLaws.{put_nothing}
use Rattle.guest_mem.proofs.transfer.put_bytes.Goals as goal

pub returns-then-is_empty-clause-ok : goal.returns-then-is_empty-clause-ok
returns-then-is_empty-clause-ok g c =
    let origin = g.O.Origins.origin c.args.origins.now in
    let m = g.S.WordStore.contents c.args.store.now in
    let f : ℕ → ℕ = λ q. get_or c.args.bytes.now (q - c.args.at) 0 in
    let none : length c.args.bytes.now ≡ 0 = search rules in
    subst (λ n. m ≡ put origin m c.args.at n f) (sym none) (put_nothing origin m c.args.at f)
