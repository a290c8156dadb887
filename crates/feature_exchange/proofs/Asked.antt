-- Features that are asked for, with ring numbers in the place of rings: the same numbers, the same
-- texts, and rings of the same shape.
use Rattle.kit_words.proofs.Common.{◌≡◌, ◌≤◌, ◌<◌, ℕ, true, refl, sym, ap, ap₂, ◌∙◌, subst, List, [], ◌∷◌, ◌++◌, map}
use Rattle.kit_words.proofs.Common.{length, inl, inr, Option, Some, None, option_map, arith, Vec, ◌==◌, flat_map}
use Rattle.kit_words.proofs.Common.{list_all, sum_by, AllByRecursion, length-map, map-append}
use Rattle.grid_geometry.specs.Common.{Position}
use Rattle.ring_machine.specs.Common.{Feature, FeatureOf, DocumentOf, Document, Form, Polygon, MultiPolygon, Null}
use Rattle.ring_machine.specs.Common.{features, feature, in_feature, in_rings, rings, rings_of, feature_at, or_else}
use Rattle.ring_machine.specs.Common.{no_feature, is_ring, are_distinct, fits_form}
use Rattle.ring_machine.proofs.Common.{In, feature_in, feature-in_rings, in_mapped, in_flat, all_in, in-flat_map}
use Rattle.ring_machine.proofs.Common.{pass_all, in_recursion}
use Rattle.ring_parts.specs.Common.{polygons_seen}
use Rattle.map_frame.specs.Common.{feature_numbers, with_texts, texts_of}
use Rattle.edit_records.specs.Common.{LayerTree, has_place, exchanged, AreNumbered, with_changed, had_before, IsMap}
use Rattle.feature_exchange.specs.Common.{feature_seen, seen, asked, asked_rings, polygons_in, length_of, rings_in}
use Rattle.feature_exchange.specs.Common.{coming, FitsForm, all_numbered, had, all_had, Change, WholeFeature}
use Rattle.feature_exchange.proofs.Placed.{numbers, HavePlaces, came_in, coming_size}

-- ---- lists

parts_same : {Y : Type 0} (y z : Y) (ys zs : List Y) → y ∷ ys ≡ z ∷ zs → (y ≡ z) × (ys ≡ zs)
parts_same y z ys zs e = (cc, cc)

pub map_row : {X Y : Type 0} (g : X → Y) (xss : List (List X))
    → map g (flat_map (λ p. p) xss) ≡ flat_map (λ p. p) (map (map g) xss)
map_row g [] = refl
map_row g (xs ∷ xss) = map-append g xs (flat_map (λ p. p) xss) ∙ ap (λ z. map g xs ++ z) (map_row g xss)

-- ---- what is asked for

module _ {A : Type 0} where
  pub seen_numbers : (cs : List (Change A)) → numbers (seen cs) ≡ map (λ c. c.number) cs
  seen_numbers [] = refl
  seen_numbers (c ∷ cs) = ap (λ z. c.number ∷ z) (seen_numbers cs)

  pub seen_own : (cs : List (Change A)) → AreNumbered (seen cs)
  seen_own [] = tt
  seen_own (c ∷ cs) = (λ f. by f c.was, seen_own cs)
    where
      by : (f : Feature) (o : Option (WholeFeature A)) → option_map (feature_seen c.number) o ≡ Some f → f.number ≡ c.number
      by f None e = absurd cc
      by f (Some w) e = let same : feature_seen c.number w ≡ f = cc in sym (ap (λ (z : Feature). z.number) same)

  pub seen_coming : (cs : List (Change A)) → coming (seen cs) ≡ flat_map asked_rings cs
  seen_coming [] = refl
  seen_coming (c ∷ cs) = ap₂ (λ y z. y ++ z) (by c.was) (seen_coming cs)
    where
      by : (o : Option (WholeFeature A)) → rings_in (option_map (feature_seen c.number) o) ≡ flat_map (λ polygon. polygon) (polygons_in o)
      by None = refl
      by (Some w) = refl

  module _ (trees : List LayerTree) (next : ℕ) (cs : List (Change A))
      (placed : (m : ℕ) → m < next → has_place trees m ≡ true) (below : AllByRecursion (λ c. c.number < next) cs)
      (apart : are_distinct (map (λ c. c.number) cs) ≡ true) where
    pub seen_places : HavePlaces trees (seen cs)
    seen_places p i =
        let w = in_mapped (λ (c : Change A). (c.number, option_map (feature_seen c.number) c.was)) p cs i in
        subst (λ (z : ℕ × Option Feature). has_place trees z.0 ≡ true) w.2
        (placed w.0.number (in_recursion (λ c. c.number < next) cs w.0 below w.1))

    pub seen_apart : are_distinct (numbers (seen cs)) ≡ true
    seen_apart = ap are_distinct (seen_numbers cs) ∙ apart

    module _ (d : Document) (map_is : IsMap (exchanged trees (seen cs) d)) where
      asked_in : (ring : List Position) → In ring (flat_map asked_rings cs) → In ring (rings (exchanged trees (seen cs) d))
      asked_in ring i =
          let w = in_flat (λ (c : ℕ × Option Feature). rings_in c.1) ring (seen cs) (subst (In ring) (sym (seen_coming cs)) i) in
          by w.0 w.1 w.0.1 refl w.2
        where
          by : (c : ℕ × Option Feature) → In c (seen cs) → (o : Option Feature) → c.1 ≡ o → In ring (rings_in c.1)
              → In ring (rings (exchanged trees (seen cs) d))
          by c k None e l = absurd (subst (λ z. In ring (rings_in z)) e l)
          by c k (Some f) e l =
              in-flat_map rings_of f ring (features (exchanged trees (seen cs) d))
              (came_in trees (seen cs) d (seen_own cs) seen_apart seen_places c k f e)
              (subst (λ z. In ring (rings_in z)) e l)

      pub asked_are_rings : list_all is_ring (flat_map asked_rings cs) ≡ true
      asked_are_rings =
          pass_all is_ring (flat_map asked_rings cs) (λ ring i.
          all_in is_ring (rings (exchanged trees (seen cs) d)) ring map_is.proper.are_rings (asked_in ring i))

      pub asked_size : length_of (flat_map asked_rings cs) ≤ 4000000
      asked_size =
          omega (
            arith,
            ap (sum_by length) (seen_coming cs),
            coming_size trees (seen cs) d (seen_own cs) seen_apart seen_places,
            map_is.small,
          )

      pub asked_fit : (c : ℕ × Option Feature) → In c (seen cs) → FitsForm c.1
      asked_fit c i f e =
          all_in fits_form (features (exchanged trees (seen cs) d)) f map_is.formed.forms
          (came_in trees (seen cs) d (seen_own cs) seen_apart seen_places c i f e)

-- ---- numbers in the place of rings

no_polygons : {X Y : Type 0} (g : X → Y) (xs : List X) → map g xs ≡ [] → xs ≡ []
no_polygons g [] e = refl
no_polygons g (x ∷ xs) e = absurd (omega (arith, ap length e))

form_same : {R S : Type 0} (g : R → S) (f : FeatureOf R) → fits_form (in_feature g f) ≡ fits_form f
form_same g f = by f.form
  where
    by : (kind : Form)
        → fits_form (in_feature g (record f { form = kind })) ≡ fits_form (record f { form = kind })
    by Polygon = ap (λ n. n == 1) (length-map f.polygons (map g))
    by MultiPolygon = refl
    by Null = ap (λ n. n == 0) (length-map f.polygons (map g))

module _ {A : Type 0} (g : ℕ → List Position) where
  -- these are the numbers of the rings that are asked for
  abbrev pub AreFor : List (Change A) → List (Vec (Vec ℕ A) A) → Type 0
  AreFor cs ls = map (λ l. map (map g) (feature_numbers l)) ls ≡ map asked cs

  -- where both are there, or none
  pub for_parts : (c : Change A) (cs : List (Change A)) (l : Vec (Vec ℕ A) A) (ls : List (Vec (Vec ℕ A) A))
      → AreFor (c ∷ cs) (l ∷ ls) → (map (map g) (feature_numbers l) ≡ asked c) × AreFor cs ls
  for_parts c cs l ls e = parts_same _ _ _ _ e

  pub for_length : (cs : List (Change A)) (ls : List (Vec (Vec ℕ A) A)) → AreFor cs ls → length ls ≡ length cs
  for_length cs ls e =
      omega (arith, ap length e, length-map ls (λ l. map (map g) (feature_numbers l)), length-map cs asked)

  pub for_numbers : (cs : List (Change A)) (ls : List (Vec (Vec ℕ A) A)) → AreFor cs ls
      → numbers (all_numbered cs ls) ≡ map (λ c. c.number) cs
  for_numbers [] ls e = refl
  for_numbers (c ∷ cs) [] e = absurd (omega (arith, for_length (c ∷ cs) [] e))
  for_numbers (c ∷ cs) (l ∷ ls) e = ap (λ z. c.number ∷ z) (for_numbers cs ls (for_parts c cs l ls e).1)

  pub for_coming : (cs : List (Change A)) (ls : List (Vec (Vec ℕ A) A)) → AreFor cs ls
      → coming (all_numbered cs ls) ≡ flat_map (λ l. flat_map (λ p. p) (feature_numbers l)) ls
  for_coming [] [] e = refl
  for_coming [] (l ∷ ls) e = absurd (omega (arith, for_length [] (l ∷ ls) e))
  for_coming (c ∷ cs) [] e = absurd (omega (arith, for_length (c ∷ cs) [] e))
  for_coming (c ∷ cs) (l ∷ ls) e =
      let parts = for_parts c cs l ls e in
      ap₂ (λ y z. y ++ z) (by c.was parts.0) (for_coming cs ls parts.1)
    where
      by : (o : Option (WholeFeature A)) → map (map g) (feature_numbers l) ≡ polygons_in o
          → rings_in (option_map (λ w. with_texts c.number w.texts (feature_numbers l)) o) ≡ flat_map (λ p. p) (feature_numbers l)
      by None h = sym (ap (flat_map (λ p. p)) (no_polygons (map g) (feature_numbers l) h))
      by (Some w) h = refl

  -- the rings of these numbers are those that are asked for
  pub for_rings : (cs : List (Change A)) (ls : List (Vec (Vec ℕ A) A)) → AreFor cs ls
      → map g (flat_map (λ l. flat_map (λ p. p) (feature_numbers l)) ls) ≡ flat_map asked_rings cs
  for_rings [] [] e = refl
  for_rings [] (l ∷ ls) e = absurd (omega (arith, for_length [] (l ∷ ls) e))
  for_rings (c ∷ cs) [] e = absurd (omega (arith, for_length (c ∷ cs) [] e))
  for_rings (c ∷ cs) (l ∷ ls) e =
      let parts = for_parts c cs l ls e in
      map-append g (flat_map (λ p. p) (feature_numbers l)) (flat_map (λ l. flat_map (λ p. p) (feature_numbers l)) ls)
      ∙ ap₂ (λ y z. y ++ z) (map_row g (feature_numbers l) ∙ ap (flat_map (λ p. p)) parts.0) (for_rings cs ls parts.1)

  pub for_fits : (cs : List (Change A)) (ls : List (Vec (Vec ℕ A) A)) → AreFor cs ls
      → ((c : ℕ × Option Feature) → In c (seen cs) → FitsForm c.1)
      → AllByRecursion (λ c. FitsForm c.1) (all_numbered cs ls)
  for_fits [] ls e h = tt
  for_fits (c ∷ cs) [] e h = tt
  for_fits (c ∷ cs) (l ∷ ls) e h =
      let parts = for_parts c cs l ls e in
      (by c.was parts.0 (h (c.number, option_map (feature_seen c.number) c.was) (inl refl)), for_fits cs ls parts.1 (λ x i. h x (inr i)))
    where
      by : (o : Option (WholeFeature A)) → map (map g) (feature_numbers l) ≡ polygons_in o
          → FitsForm (option_map (feature_seen c.number) o)
          → FitsForm (option_map (λ w. with_texts c.number w.texts (feature_numbers l)) o)
      by None s k f e = absurd cc
      by (Some w) s k f e =
          let same : with_texts c.number w.texts (feature_numbers l) ≡ f = cc in
          ap fits_form (sym same) ∙ sym (form_same g (with_texts c.number w.texts (feature_numbers l)))
          ∙ ap (λ z. fits_form (with_texts c.number w.texts z)) s ∙ k (feature_seen c.number w) refl

  -- with rings in the place of their numbers they are what is asked for
  pub for_seen : (cs : List (Change A)) (ls : List (Vec (Vec ℕ A) A)) → AreFor cs ls
      → with_changed (in_feature g) (all_numbered cs ls) ≡ seen cs
  for_seen [] ls e = refl
  for_seen (c ∷ cs) [] e = absurd (omega (arith, for_length (c ∷ cs) [] e))
  for_seen (c ∷ cs) (l ∷ ls) e =
      let parts = for_parts c cs l ls e in
      ap₂ (λ y z. (c.number, y) ∷ z) (by c.was parts.0) (for_seen cs ls parts.1)
    where
      by : (o : Option (WholeFeature A)) → map (map g) (feature_numbers l) ≡ polygons_in o
          → option_map (in_feature g) (option_map (λ w. with_texts c.number w.texts (feature_numbers l)) o)
          ≡ option_map (feature_seen c.number) o
      by None h = refl
      by (Some w) h = ap (λ z. Some (with_texts c.number w.texts z)) h

module _ {A : Type 0} where
  pub for_own : (cs : List (Change A)) (ls : List (Vec (Vec ℕ A) A)) → AreNumbered (all_numbered cs ls)
  for_own [] ls = tt
  for_own (c ∷ cs) [] = tt
  for_own (c ∷ cs) (l ∷ ls) = (λ f. by f c.was, for_own cs ls)
    where
      by : (f : FeatureOf ℕ) (o : Option (WholeFeature A)) → option_map (λ w. with_texts c.number w.texts (feature_numbers l)) o ≡ Some f
          → f.number ≡ c.number
      by f None e = absurd cc
      by f (Some w) e =
          let same : with_texts c.number w.texts (feature_numbers l) ≡ f = cc in
          sym (ap (λ (z : FeatureOf ℕ). z.number) same)

  pub for_below : (next : ℕ) (cs : List (Change A)) (ls : List (Vec (Vec ℕ A) A)) → AllByRecursion (λ c. c.number < next) cs
      → AllByRecursion (λ c. c.0 < next) (all_numbered cs ls)
  for_below next (c ∷ cs) (l ∷ ls) h = (h.0, for_below next cs ls h.1)
  for_below next _ _ h = tt

  -- ---- what the numbers had

  module _ (g : ℕ → List Position) (d : DocumentOf ℕ) where
    pub had_seen : (cs : List (Change A)) (ps : List (Vec (Vec (Vec Position A) A) A))
        → map (λ p. polygons_seen p.items) ps ≡ map (λ c. (feature_at (in_rings g d) c.number).polygons) cs
        → seen (all_had d cs ps) ≡ had_before (in_rings g d) (seen cs)
    had_seen [] ps e = refl
    had_seen (c ∷ cs) [] e = absurd (omega (arith, ap length e))
    had_seen (c ∷ cs) (p ∷ ps) e =
        let parts = parts_same (polygons_seen p.items) ((feature_at (in_rings g d) c.number).polygons) _ _ e in
        ap₂ (λ y z. (c.number, y) ∷ z)
        (by (feature d c.number) refl (parts.0 ∙ ap (λ o. (or_else no_feature o).polygons) (feature-in_rings g d c.number)) ∙ sym (feature-in_rings g d c.number))
        (had_seen cs ps parts.1)
      where
        by : (o : Option (FeatureOf ℕ)) → feature d c.number ≡ o
            → polygons_seen p.items ≡ (or_else no_feature (option_map (in_feature g) (feature d c.number))).polygons
            → option_map (feature_seen c.number) (option_map (had p) (feature d c.number)) ≡ option_map (in_feature g) (feature d c.number)
        by None s h = ap (λ o. option_map (feature_seen c.number) (option_map (had p) o)) s ∙ sym (ap (option_map (in_feature g)) s)
        by (Some f) s h =
            let at = feature_in d c.number f s in
            let rings : polygons_seen p.items ≡ map (map g) f.polygons =
            h ∙ ap (λ o. (or_else no_feature (option_map (in_feature g) o)).polygons) s in
            ap (λ o. option_map (feature_seen c.number) (option_map (had p) o)) s
            ∙ ap₂ (λ n z. Some (with_texts n (texts_of f) z)) (sym at.1) rings
            ∙ sym (ap (option_map (in_feature g)) s)
