-- The rings of a feature are rings of its document, and no more than those.
use Rattle.kit_words.proofs.Common.{◌≡◌, ℕ, Bool, true, false, refl, cond, List, [], ◌∷◌, Option, Some, None, inl, inr}
use Rattle.kit_words.proofs.Common.{option_map, unwrap_or, Contains, ◌==◌, flat_map, find, AllByRecursion}
use Rattle.ring_machine.specs.Common.{Document, Feature, feature, features, rings, rings_of, WellFormed, fits_form}
use Rattle.ring_machine.proofs.Common.{In, found_in, all_of, all_in, in-flat_map, in_contains}
use Rattle.topo_writer.specs.Common.{all_rings_at}

feature_there : (d : Document) (n : ℕ) (f : Feature) → feature d n ≡ Some f → In f (features d)
feature_there d n f e = (found_in (λ g. g.number == n) (features d) f e).0

-- the rings of a feature are rings of the document
pub rings_there : (d : Document) (n : ℕ) → AllByRecursion (Contains (rings d)) (all_rings_at d n)
rings_there d n = by (feature d n) refl
  where
    by : (o : Option Feature) → feature d n ≡ o
        → AllByRecursion (Contains (rings d)) (flat_map (λ polygon. polygon) (unwrap_or (option_map (λ f. f.polygons) o) []))
    by None e = tt
    by (Some f) e =
        all_of (Contains (rings d)) (rings_of f)
        (λ ring i. in_contains (rings d) ring (in-flat_map rings_of f ring (features d) (feature_there d n f e) i))

-- its form is as its polygons are
pub form_fits : (d : Document) → WellFormed d → (n : ℕ) (f : Feature) → feature d n ≡ Some f → fits_form f ≡ true
form_fits d formed n f e = all_in fits_form (features d) f formed.forms (feature_there d n f e)
