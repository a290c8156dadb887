-- Which lists of items are documents, and which documents are the same but for their numbers.
use Rattle.std.specs.Prelude.{ℕ, zero, suc, Bool, true, false, not, ◌&&◌, ◌==◌, List, [], ◌∷◌, map}
use Rattle.std.specs.Prelude.{length, IsTrue, ◌≡◌}
use Rattle.std.specs.List.{list_any, list_all}
use Rattle.ring_machine.specs.Document.{Form, Polygon, MultiPolygon, Null, FeatureOf, ItemOf}
use Rattle.ring_machine.specs.Document.{Open, Close, Leaf, Kept, DocumentOf}
use Rattle.ring_machine.specs.Parts.{features, in_features}

-- the items lead to the end of the n collections that are open, and no further
abbrev pub is_inner : {R : Type 0} → ℕ → List (ItemOf R) → Bool
is_inner zero [] = true
is_inner zero (i ∷ items) = false
is_inner (suc n) [] = false
is_inner (suc n) (Open h ∷ items) = is_inner (suc (suc n)) items
is_inner (suc n) (Close ∷ items) = is_inner n items
is_inner (suc n) (Leaf f ∷ items) = is_inner (suc n) items
is_inner (suc n) (Kept t ∷ items) = is_inner (suc n) items

-- one geometry object: a leaf, a kept text, or a collection from its Open to its Close
-- (TopoJSON 1.0, 2.2)
abbrev pub is_geometry : {R : Type 0} → List (ItemOf R) → Bool
is_geometry [] = false
is_geometry (Open h ∷ items) = is_inner 1 items
is_geometry (Close ∷ items) = false
is_geometry (Leaf f ∷ items) = is_inner 0 items
is_geometry (Kept t ∷ items) = is_inner 0 items

-- a Polygon has one polygon, and an object whose type is null has none (TopoJSON 1.0, 2.2)
abbrev pub fits_form : {R : Type 0} → FeatureOf R → Bool
fits_form f = fits f.form f.polygons
  where
    fits : {R : Type 0} → Form → List (List R) → Bool
    fits Polygon ps = length ps == 1
    fits MultiPolygon ps = true
    fits Null ps = length ps == 0

-- no number stands twice
abbrev pub are_distinct : List ℕ → Bool
are_distinct [] = true
are_distinct (n ∷ ns) = not (list_any (λ m. m == n) ns) && are_distinct ns

-- each layer is one geometry object, forms fit, and numbers are distinct
pub record WellFormed {R : Type 0} (d : DocumentOf R) : Type 0 where
  pub geometries : IsTrue (list_all (λ l. is_geometry l.items) d.layers)
  pub forms : IsTrue (list_all fits_form (features d))
  pub numbers : IsTrue (are_distinct (map (λ f. f.number) (features d)))

-- the document with its feature numbers forgotten
abbrev pub without_numbers : {R : Type 0} → DocumentOf R → DocumentOf R
without_numbers d = in_features (λ f. record f { number = 0 }) d

-- the documents are equal when feature numbers are forgotten
abbrev pub Same : {R : Type 0} → DocumentOf R → DocumentOf R → Type 0
Same d e = without_numbers d ≡ without_numbers e
