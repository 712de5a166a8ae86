-- A map with keys K, seen as names by f.
use Rattle.std.proofs.Common.{◌≡◌, Bool, true, false, cond, ℕ, List, [], ◌∷◌, ◌++◌, map, Option, Some, None, refl, ap, ◌∙◌}
use Rattle.std.specs.Map as map_of
use Rattle.std.specs.Str.{bytes_eq}
use Rattle.indexmap.specs.IndexMap.{insert_entry}
use Rattle.asm_text.specs.Keywords.{lookup}
use Rattle.rv_asm.specs.Names.{add}
use Rattle.rv_asm.specs.declared.meaning.Meaning.{Meaning}

pub lookup_view : {K : Type 0} (f : K → List ℕ) (es : List (K × Meaning)) (name : List ℕ) → lookup (map (λ e. (f e.0, e.1)) es) name ≡ map_of.lookup (λ k. bytes_eq name (f k)) es
lookup_view f [] name = refl
lookup_view f (e ∷ es) name = ap (cond (bytes_eq name (f e.0)) (Some e.1)) (lookup_view f es name)

none_by_cond : {X : Type 0} (b : Bool) (x : X) (o : Option X) → cond b (Some x) o ≡ None → (b ≡ false) × (o ≡ None)
none_by_cond true x o e = absurd cc
none_by_cond false x o e = (refl, e)

abbrev pub seen : {K : Type 0} → (K → List ℕ) → List (K × Meaning) → List (List ℕ × Meaning)
seen f es = map (λ e. (f e.0, e.1)) es

pub insert_view : {K : Type 0} (f : K → List ℕ) (eq : K → K → Bool) (es : List (K × Meaning)) (k : K) (v : Meaning) → ((x : K) → eq k x ≡ bytes_eq (f k) (f x)) → lookup (seen f es) (f k) ≡ None → seen f (insert_entry eq es k v) ≡ seen f es ++ (f k, v) ∷ []
insert_view f eq [] k v same none = refl
insert_view f eq (e ∷ es) k v same none =
    let parts = none_by_cond (bytes_eq (f k) (f e.0)) e.1 (lookup (seen f es) (f k)) none in
    let head : List ℕ × Meaning = (f e.0, e.1) in
    rw (same e.0 ∙ parts.0) (ap (λ more. head ∷ more) (insert_view f eq es k v same parts.1))

pub added : (names : List (List ℕ × Meaning)) (name : List ℕ) (v : Meaning) → lookup names name ≡ None → add names name v ≡ names ++ (name, v) ∷ []
added names name v none = rw none refl
