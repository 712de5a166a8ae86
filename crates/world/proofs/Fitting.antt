-- The layout that a plan asks for may be placed at the free addresses that it gets.
use Rattle.std.proofs.Common.{◌≡◌, ◌≢◌, ◌*◌, ◌%◌, List, [], length, refl, sym, ap, subst, arith}
use Rattle.std.specs.Prelude.{Option, Some, None, IfSome, All}
use Rattle.oc_base.specs.declared.range.Range.{Range}
use Rattle.image.specs.Picture.{Picture, IsKept}
use Rattle.layout.specs.Laid.{Laid, IsLaid}
use Rattle.layout.specs.Alone.{InRegion}
use Rattle.plans.specs.declared.plan.Moved.{Moved}
use Rattle.plans.specs.Given.{plan_fault}
use Rattle.emit.specs.Entries.{entries_of}
use Rattle.emit.specs.Emitted.{IsEmitted, plan_unreadable}
use Rattle.emit.proofs.Emission.{made_laid, emitted_renders, emitted_aims, emitted_some}
use Rattle.region.specs.Free.{Rises, AreFree, fit}
use Rattle.region.proofs.FreeLaws.{fit_free, fit_inside}
use Rattle.world.specs.Replacing.{size_of, IsNew, no_layout, layout_at, IsFit, HasShortWords}
use Rattle.world.proofs.Placing.{fit_whole, fit_low, within_region}
use Rattle.world.proofs.WholeHops.{hops_whole}

module _ (p : Picture) (free : List Range) (plan : List Moved) (kept : IsKept p) (rises : Rises p.region.from p.region.to free) (whole : All (λ (r : Range). r.from % 4 ≡ 0) free)
    (given : plan_fault p plan ≡ None) (clean : plan_unreadable p plan ≡ None) where
  -- what is emitted where it fits is a layout
  laid_where : (l : Laid) → fit free (size_of p plan) ≡ Some l.base → IsEmitted p plan l.base l → IsLaid l
  unfolding size_of
  laid_where l f made =
      let es = entries_of p plan in
      made_is (made_laid p l.base es l.words l.points l.sites l.pairs (fit_whole free (4 * length es) l.base whole f)
      (fit_low p p.region free (4 * length es) l.base (4 * length es) kept refl rises f refl (fit_inside p.region.from p.region.to free (4 * length es) l.base rises f).1)
      made.words made.points made.sites made.pairs)
    where
      made_is : IsLaid (record { base = l.base; words = l.words; points = l.points; sites = l.sites; pairs = l.pairs }) → IsLaid l
      made_is h = h

  bytes : (l : Laid) → IsEmitted p plan l.base l → size_of p plan ≡ 4 * length l.words
  unfolding size_of
  bytes l made = ap (λ n. 4 * n) (sym made.words.size)

  fits_where : (l : Laid) → plan ≢ [] → fit free (size_of p plan) ≡ Some l.base → IsEmitted p plan l.base l → HasShortWords l → IsFit p free l
  fits_where l some f made short =
      let laid = laid_where l f made in
      let place = fit_inside p.region.from p.region.to free (size_of p plan) l.base rises f in
      let size : size_of p plan ≡ 4 * length l.words = bytes l made in
      let inside : InRegion p l.base (length l.words) = within_region p.region l.base (length l.words) place.0 (omega (arith, place.1, size)) in
      record {
        laid = laid;
        renders = emitted_renders p plan l kept given clean laid made inside;
        hops = hops_whole p plan l kept given clean made;
        aims = emitted_aims p plan l kept given clean laid made inside;
        some = emitted_some p plan l.base l kept given clean made some;
        unused = subst (AreFree free l.base) size (fit_free p.region.from p.region.to free (size_of p plan) l.base rises f);
        short = short;
      }

  pub fits_new : (new : Option Laid) → IsNew p free plan new → IfSome new HasShortWords → IfSome new (IsFit p free)
  fits_new new (no_layout e) short = tt
  fits_new new (layout_at l some f made) short = fits_where l some f made short
