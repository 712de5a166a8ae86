-- Reservations that are lost are lost on both sides.
use Rattle.std.proofs.Common.{◌≡◌, ℕ, zero, suc, Bool, List, [], ◌∷◌, map, refl, sym, ap, ◌∙◌}
use Rattle.std.specs.Prelude.{Some, ◌==◌, slice_get}
use Rattle.oc_base.specs.declared.range.Range.{Range}
use Rattle.image.specs.Picture.{Picture}
use Rattle.hart.specs.declared.hart.Hart.{Hart}
use Rattle.layout.specs.Points.{Code}
use Rattle.machine.specs.Harts.{hart_in, lost, unreserved, is_in, written_by, written_in}
use Rattle.sim_laws.specs.Related.{Both, GoOnAlike, HartsRelated}
use Rattle.sim_laws.proofs.HartLists.{set_both, map_both, found_at, hart_at}
use Rattle.sim_laws.proofs.Settled.{KeepStatus, status_set, status_map}

-- hart h of a list whose harts lost reservations
pub hart_map : (among : ℕ → Bool) (hs : List Hart) (h : ℕ) → hart_in (map (unreserved among) hs) h ≡ unreserved among (hart_in hs h)
hart_map among [] h = refl
hart_map among (y ∷ ys) zero = refl
hart_map among (y ∷ ys) (suc h) = hart_map among ys h

pub status_written : (h block : ℕ) (hs : List Hart) → KeepStatus hs (written_by h block hs)
unfolding written_by
status_written h block hs k =
    let among = λ (b : ℕ). b == block in
    status_set (map (unreserved among) hs) h (hart_in hs h) (ap (λ (x : Hart). x.status) (sym (hart_map among hs h))) k ∙ status_map among hs k

module _ (p : Picture) (c : Code) where
  unreserved_alike : (among : ℕ → Bool) (r o : Hart) → GoOnAlike p c r o → GoOnAlike p c (unreserved among r) (unreserved among o)
  unreserved_alike among r o g = record {
    whole = g.whole;
    fits = g.fits;
    outside = g.outside;
    pair = g.pair;
    places = g.places;
    rests = λ e. record { stands = (g.rests e).stands; unpaired = (g.rests e).unpaired };
  }

  pub unreserved_related : (among : ℕ → Bool) (r o : Hart) → HartsRelated p c r o → HartsRelated p c (unreserved among r) (unreserved among o)
  unreserved_related among r o k = record {
    replaced_length = k.replaced_length;
    original_length = k.original_length;
    status = k.status;
    reservation = ap (lost among) k.reservation;
    clear = k.clear;
    alike = λ e. unreserved_alike among r o (k.alike e);
  }

  pub written_related : (h block : ℕ) (hr ho : Hart) (rs os : List Hart) → slice_get rs h ≡ Some hr → slice_get os h ≡ Some ho
      → ((k : ℕ) → Both (HartsRelated p c) (slice_get rs k) (slice_get os k)) → (k : ℕ) → Both (HartsRelated p c) (slice_get (written_by h block rs) k) (slice_get (written_by h block os) k)
  unfolding written_by
  written_related h block hr ho rs os e f b =
      rw (hart_at rs h hr e, hart_at os h ho f)
      (set_both (map (unreserved (λ a. a == block)) rs) (map (unreserved (λ a. a == block)) os) h hr ho (found_at rs os h hr ho e f b)
      (map_both (unreserved (λ a. a == block)) (unreserved (λ a. a == block)) (unreserved_related (λ a. a == block)) rs os b))

  pub ranges_related : (ranges : List Range) (rs os : List Hart)
      → ((k : ℕ) → Both (HartsRelated p c) (slice_get rs k) (slice_get os k)) → (k : ℕ) → Both (HartsRelated p c) (slice_get (written_in ranges rs) k) (slice_get (written_in ranges os) k)
  unfolding written_in
  ranges_related ranges rs os b = map_both (unreserved (is_in ranges)) (unreserved (is_in ranges)) (unreserved_related (is_in ranges)) rs os b
