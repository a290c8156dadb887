-- A document whose rings are changed in place is as well formed as it was.
use Rattle.kit_words.proofs.Common.{◌≡◌, ℕ, zero, suc, refl, sym, ap, ap₂, ◌∙◌, ◌&&◌, List, [], ◌∷◌, map, ◌==◌}
use Rattle.kit_words.proofs.Common.{list_all, length-map}
use Rattle.ring_machine.specs.Common.{Form, Polygon, MultiPolygon, Null, FeatureOf, ItemOf, LayerOf, DocumentOf, Open}
use Rattle.ring_machine.specs.Common.{Close, Leaf, Kept, features, in_feature, in_item, in_layer, in_rings, is_inner}
use Rattle.ring_machine.specs.Common.{is_geometry, fits_form, are_distinct, WellFormed}
use Rattle.ring_machine.proofs.RingsOf.{features-in_rings}

module _ {R S : Type 0} (g : R → S) where
  -- ---- geometries

  inner_same : (n : ℕ) (items : List (ItemOf R))
      → is_inner n (map (in_item (in_feature g)) items) ≡ is_inner n items
  inner_same zero [] = refl
  inner_same zero (i ∷ items) = refl
  inner_same (suc n) [] = refl
  inner_same (suc n) (Open h ∷ items) = inner_same (suc (suc n)) items
  inner_same (suc n) (Close ∷ items) = inner_same n items
  inner_same (suc n) (Leaf f ∷ items) = inner_same (suc n) items
  inner_same (suc n) (Kept t ∷ items) = inner_same (suc n) items

  geometry_same : (items : List (ItemOf R))
      → is_geometry (map (in_item (in_feature g)) items) ≡ is_geometry items
  geometry_same [] = refl
  geometry_same (Open h ∷ items) = inner_same 1 items
  geometry_same (Close ∷ items) = refl
  geometry_same (Leaf f ∷ items) = inner_same 0 items
  geometry_same (Kept t ∷ items) = inner_same 0 items

  geometries_same : (ls : List (LayerOf R))
      → list_all (λ l. is_geometry l.items) (map (in_layer (map (in_item (in_feature g)))) ls)
      ≡ list_all (λ l. is_geometry l.items) ls
  geometries_same [] = refl
  geometries_same (l ∷ ls) = ap₂ (λ a b. a && b) (geometry_same l.items) (geometries_same ls)

  -- ---- forms

  form_same : (f : FeatureOf R) → fits_form (in_feature g f) ≡ fits_form f
  form_same f = by f.form
    where
      by : (form : Form)
          → fits_form (in_feature g (record f { form = form })) ≡ fits_form (record f { form = form })
      by Polygon = ap (λ n. n == 1) (length-map f.polygons (map g))
      by MultiPolygon = refl
      by Null = ap (λ n. n == 0) (length-map f.polygons (map g))

  forms_same : (fs : List (FeatureOf R))
      → list_all fits_form (map (in_feature g) fs) ≡ list_all fits_form fs
  forms_same [] = refl
  forms_same (f ∷ fs) = ap₂ (λ a b. a && b) (form_same f) (forms_same fs)

  -- ---- numbers

  map_numbers : (fs : List (FeatureOf R))
      → map (λ f. f.number) (map (in_feature g) fs) ≡ map (λ f. f.number) fs
  map_numbers [] = refl
  map_numbers (f ∷ fs) = ap (λ z. f.number ∷ z) (map_numbers fs)

  -- changed rings leave the features' numbers
  pub numbers-in_rings : (d : DocumentOf R)
      → map (λ f. f.number) (features (in_rings g d)) ≡ map (λ f. f.number) (features d)
  numbers-in_rings d = ap (map (λ f. f.number)) (features-in_rings g d) ∙ map_numbers (features d)

  -- ---- documents

  -- what is well formed stays so
  pub formed-in_rings : (d : DocumentOf R) → WellFormed d → WellFormed (in_rings g d)
  formed-in_rings d h = record {
    geometries = geometries_same d.layers ∙ h.geometries;
    forms = ap (list_all fits_form) (features-in_rings g d) ∙ forms_same (features d) ∙ h.forms;
    numbers = ap are_distinct (numbers-in_rings d) ∙ h.numbers;
  }

  -- and was so before
  pub formed-before_rings : (d : DocumentOf R) → WellFormed (in_rings g d) → WellFormed d
  formed-before_rings d h = record {
    geometries = sym (geometries_same d.layers) ∙ h.geometries;
    forms = sym (forms_same (features d)) ∙ sym (ap (list_all fits_form) (features-in_rings g d)) ∙ h.forms;
    numbers = sym (ap are_distinct (numbers-in_rings d)) ∙ h.numbers;
  }
