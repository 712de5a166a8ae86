use Rattle.std.proofs.Common.{◌≡◌, ◌↔◌, ◌∙◌, ℕ, Vec, true, ap, subst}
use Rattle.std.specs.declared.alloc.Global.{Global}
use Rattle.near_region.specs.Regions.{IsNear}
use Rattle.looking.proofs.overview.overview.Goals as goal

pub returns : goal.returns
returns c = record {
  near = c.is_near-near.result;
  tells = subst (λ r. (c.is_near-near.result ≡ true) ↔ IsNear c.args.image.now.texts r) c.region.ensures c.is_near-near.ensures;
  best = c.in_ok-best.best;
  is_best = c.in_ok-best.ensures;
  is = c.from_vec.ensures ∙ ap (λ (v : Vec ℕ Global). v.items) c.into_bytes.ensures.value ∙ c.in_ok-text.ensures;
}
