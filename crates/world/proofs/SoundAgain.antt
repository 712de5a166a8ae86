-- What a replacement makes keeps what each world keeps, whatever layouts are live.
use Rattle.std.proofs.Common.{◌≡◌, ℕ, ◌+◌, ◌*◌, ◌%◌, ◌<◌, not, List, [], ◌∷◌, length, get_or, refl, sym, ap, ◌∙◌, subst, inl, inr, arith}
use Rattle.std.specs.Prelude.{Option, Some, None, IfSome, ◌&&◌, ◌||◌, All, AllPairs}
use Rattle.std.specs.List.{list_any}
use Rattle.std.proofs.lemmas.List.{length_push}
use Rattle.std.proofs.lemmas.List.Quantifiers.{all_pairs_push}
use Rattle.oc_base.specs.declared.range.Range.{Range}
use Rattle.image.specs.declared.ranges.TextRange.{TextRange}
use Rattle.image.specs.Picture.{Picture}
use Rattle.layout.specs.Laid.{Laid, IsLaid}
use Rattle.layout.specs.Apart.{LieApart, covers}
use Rattle.layout.specs.Points.{in_range}
use Rattle.layout.specs.Rows.{CallsAim}
use Rattle.layout.specs.Alone.{alone, InRegion, NamesCalls}
use Rattle.patcher.specs.Patched.{CanJoin, IsPlaced, IsPatchedText, IsPatchedLayout, ArePatched, joined}
use Rattle.patcher.proofs.Joined.{patched_length, patched_at, all_patched, laid_all, names_all}
use Rattle.patcher.proofs.Keeps.{renders_on, calls_aim, all_joined}
use Rattle.region.specs.Free.{Rises, is_free}
use Rattle.sim_laws.specs.Codes.{GoesToWord}
use Rattle.world.specs.declared.counts.Counts.{Counts}
use Rattle.world.specs.Worlds.{more, IsSound}
use Rattle.world.specs.Replacing.{IsFit, numbered, left_by}
use Rattle.world.proofs.FreeRanges.{taken_whole, rest_more, left_rises, left_addresses, apart_from_lives}

module _ (p : Picture) (new : Option Laid) where
  -- patches leave alone where layouts lie
  apart_still : (l m k n : Laid) → IsPatchedLayout p new l m → IsPatchedLayout p new k n → LieApart l k → LieApart m n
  apart_still l m k n t u h = rw (t.base, t.size, u.base, u.size) h

  apart_turned : (l k m : Laid) → IsPatchedLayout p new k m → LieApart l k → LieApart m l
  apart_turned l k m t (inl le) = inr (rw t.base le)
  apart_turned l k m t (inr le) = inl (rw (t.base, t.size) le)

  covers_still : (ls ms : List Laid) (a : ℕ) → ArePatched p new ls ms → list_any (covers a) ms ≡ list_any (covers a) ls
  covers_still [] [] a t = refl
  covers_still [] (m ∷ ms) a t = absurd t
  covers_still (l ∷ ls) [] a t = absurd t
  covers_still (l ∷ ls) (m ∷ ms) a t =
      let here : covers a m ≡ covers a l = rw (t.0.base, t.0.size) refl in
      (λ i. here i || covers_still ls ms a t.1 i)

module _ (p : Picture) (text after : List TextRange) (lives older : List Laid) (numbers : List ℕ) (free : List Range) (counts : Counts) (new : Option Laid) (s : IsSound p text lives numbers free)
    (f : IfSome new (IsFit p free)) (t : IsPatchedText p new text after) (h : ArePatched p new lives older) where
  fit_of : (l : Laid) → new ≡ Some l → IsFit p free l
  fit_of l e = subst (λ (o : Option Laid). IfSome o (IsFit p free)) e f

  apart_of : (l : Laid) → new ≡ Some l → All (LieApart l) lives
  apart_of l e = let g = fit_of l e in apart_from_lives p.region free lives l s.rest s.some g.some g.unused

  -- what is had by each new layout
  fresh : (P : Laid → Type 0) → ((l : Laid) → new ≡ Some l → P l) → IfSome new P
  fresh P g = by_new new refl
    where
      by_new : (o : Option Laid) → new ≡ o → IfSome o P
      by_new None e = tt
      by_new (Some l) e = g l e

  pub can_join : IfSome new (CanJoin p lives)
  can_join = fresh (CanJoin p lives) (λ l e. (let g = fit_of l e in record { laid = g.laid; renders = g.renders; apart = apart_of l e }))

  -- what patches leave alone, and each new layout has
  each : (P : Laid → Type 0) → ((l m : Laid) → IsPatchedLayout p new l m → P l → P m) → All P lives → ((l : Laid) → IsFit p free l → P l) → All P (joined older new)
  each P same old own = all_joined P older new (all_patched p new P same lives older h old) (λ l e. own l (fit_of l e))

  size : length older ≡ length lives
  size = patched_length p new lives older h

  older_apart : AllPairs LieApart older
  older_apart i j d lt within =
      let there : j < length lives = subst (λ n. j < n) size within in
      apart_still p new (get_or lives i d) (get_or older i d) (get_or lives j d) (get_or older j d) (patched_at p new lives older h i d (omega (arith, lt, there)))
      (patched_at p new lives older h j d there) (s.apart i j d lt there)

  all_apart : AllPairs LieApart (joined older new)
  all_apart = by_new new refl
    where
      by_new : (o : Option Laid) → new ≡ o → AllPairs LieApart (joined older o)
      by_new None e = older_apart
      by_new (Some l) e = all_pairs_push LieApart older l older_apart turned
        where
          turned : (k : ℕ) (d : Laid) → k < length older → LieApart (get_or older k d) l
          turned k d lt =
              let there : k < length lives = subst (λ n. k < n) size lt in
              apart_turned p new l (get_or lives k d) (get_or older k d) (patched_at p new lives older h k d there) (apart_of l e k d there)

  pub placed_again : IsPlaced p after (joined older new)
  placed_again = record {
    text = t.spans ∙ s.placed.text;
    laid = all_joined IsLaid older new (laid_all p new lives older h s.placed.laid) (λ l e. (fit_of l e).laid);
    calls = all_joined (NamesCalls p) older new (names_all p new lives older h s.placed.calls) (λ l e. (fit_of l e).renders.calls);
    renders = renders_on p s.kept text after lives older new t h can_join s.placed.renders;
  }

  older_rest : (a : ℕ) → is_free free a ≡ (in_range p.region a && not (list_any (covers a) older))
  older_rest a = s.rest a ∙ ap (λ b. in_range p.region a && not b) (sym (covers_still p new lives older a h))

  -- what the numbers and the free ranges keep
  abbrev AreLeft : Option Laid → Type 0
  AreLeft o =
      (length (numbered o counts numbers) ≡ length (joined older o)) × Rises p.region.from p.region.to (left_by o free) × All (λ (r : Range). r.from % 4 ≡ 0) (left_by o free)
      × ((a : ℕ) → is_free (left_by o free) a ≡ (in_range p.region a && not (list_any (covers a) (joined older o))))

  left : (o : Option Laid) → IfSome o (IsFit p free) → AreLeft o
  left None g = (s.numbered ∙ sym size, s.rises, s.whole, older_rest)
  left (Some l) g =
      let count = s.numbered in
      let same = size in
      let one = length_push numbers (more counts.placed) in
      let two = length_push older l in
      let base = g.laid.whole in (
        omega (arith, count, same, one, two),
        left_rises p.region.from p.region.to free l.base (4 * length l.words) s.rises g.unused,
        taken_whole l.base (l.base + 4 * length l.words) free (omega (arith, base)) s.whole,
        rest_more p.region free (left_by (Some l) free) older l older_rest (λ a. left_addresses p.region.from p.region.to free l.base (4 * length l.words) a s.rises g.unused),
      )

  pub sound_again : IsSound p after (joined older new) (numbered new counts numbers) (left_by new free)
  sound_again =
      let rest = left new f in
      record {
        kept = s.kept;
        placed = placed_again;
        hops = each (λ l. All GoesToWord l.points) (λ l m q g. subst (All GoesToWord) (sym q.points) g) s.hops (λ l g. g.hops);
        aims = calls_aim p s.kept text after lives older new t h can_join s.placed.renders (fresh (λ l. CallsAim (alone p l)) (λ l e. (fit_of l e).aims));
        some = each (λ l. 0 < length l.words) (λ l m q g. subst (λ n. 0 < n) (sym q.size) g) s.some (λ l g. g.some);
        within = each (λ l. InRegion p l.base (length l.words)) (λ l m q g. rw (q.base, q.size) g) s.within (λ l g. g.renders.within);
        apart = all_apart;
        numbered = rest.0;
        rises = rest.1;
        whole = rest.2;
        rest = rest.3;
      }
