-- The clauses of a region's calls, over what it keeps.
use Rattle.std.proofs.Common.{◌+◌, IfSome, ◌≡◌, ℕ, ◌<◌, ◌≤◌, List, sym}
use Rattle.std.specs.Prelude.{Option, Some, None, IfSome}
use Rattle.oc_base.specs.declared.range.Range.{Range}
use Rattle.region.specs.Free.{AreFree, Rises, fit}
use Rattle.region.proofs.FreeLaws.{fit_free, fit_inside, fit_least}

pub fit_is_free : (low high : ℕ) (rs : List Range) (n : ℕ) (o : Option ℕ) → Rises low high rs → o ≡ fit rs n → IfSome o (λ at. AreFree rs at n)
fit_is_free low high rs n None h e = tt
fit_is_free low high rs n (Some b) h e = fit_free low high rs n b h (sym e)

pub fit_is_least : (low high : ℕ) (rs : List Range) (n : ℕ) (o : Option ℕ) → Rises low high rs → o ≡ fit rs n → 0 < n → IfSome o (λ at. (x : ℕ) → AreFree rs x n → at ≤ x)
fit_is_least low high rs n None h e p = tt
fit_is_least low high rs n (Some b) h e p = λ x f. fit_least low high rs n x b h p f (sym e)

pub fit_is_high : (low high : ℕ) (rs : List Range) (n : ℕ) (o : Option ℕ) → Rises low high rs → o ≡ fit rs n → IfSome o (λ at. at + n ≤ high)
fit_is_high low high rs n None h e = tt
fit_is_high low high rs n (Some b) h e = (fit_inside low high rs n b h (sym e)).1

pub fit_is_low : (low high : ℕ) (rs : List Range) (n : ℕ) (o : Option ℕ) → Rises low high rs → o ≡ fit rs n → IfSome o (λ at. low ≤ at)
fit_is_low low high rs n None h e = tt
fit_is_low low high rs n (Some b) h e = (fit_inside low high rs n b h (sym e)).0
