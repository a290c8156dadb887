-- A feature cut in two, and two features joined: which features there are, and that the document
-- stays well formed.
use Rattle.kit_words.proofs.Common.{◌≡◌, ℕ, ◌≤◌, Bool, true, false, refl, sym, ap, ap₂, ◌∙◌, subst, List, [], ◌∷◌, map}
use Rattle.kit_words.proofs.Common.{length, ◌||◌, arith, ◌==◌, list_any}
use Rattle.std.specs.Option.{is_some}
use Rattle.grid_geometry.specs.Common.{Position}
use Rattle.ring_machine.specs.Common.{Form, Polygon, MultiPolygon, Null, FeatureOf, Feature, Document, Text, features}
use Rattle.ring_machine.specs.Common.{feature, has_feature, Path, is_cut_by, first_polygon, change_first, first_that}
use Rattle.ring_machine.specs.Common.{instead, stays, cut, take_out, joined_polygons, joined_feature, join, is_layer}
use Rattle.ring_machine.specs.Common.{fits_form, WellFormed}
use Rattle.ring_machine.proofs.Neighbours.{all_in}
use Rattle.ring_machine.proofs.Found.{has_feature-found, feature_in}
use Rattle.ring_machine.proofs.Instead.{feature-instead_other}
use Rattle.ring_machine.proofs.Without.{feature-take_out_other}
use Rattle.ring_machine.proofs.StaysFormed.{Replaces, replaces_one, replaces_two, formed-instead, formed-take_out}
use Rattle.ring_machine.proofs.SplitFeatures.{new_feature}

-- ---- lists

-- at most one element is the first
pub first_that_short : {A : Type 0} (test : A → Bool) (xs : List A) → length (first_that test xs) ≤ 1
first_that_short test [] = omega arith
first_that_short test (x ∷ xs) = grind (arith, first_that_short test xs)

pub length-change_first : {A : Type 0} (test : A → Bool) (g : A → A) (xs : List A)
    → length (change_first test g xs) ≡ length xs
length-change_first test g [] = refl
length-change_first test g (x ∷ xs) = grind (arith, length-change_first test g xs)

-- as many polygons fit a form alike
pub fits-count : {R : Type 0} (f : FeatureOf R) (ps : List (List R)) → length ps ≡ length f.polygons
    → fits_form (record f { polygons = ps }) ≡ fits_form f
fits-count f ps e = by f.form
  where
    by : (form : Form) → fits_form (record f { form = form; polygons = ps }) ≡ fits_form (record f { form = form })
    by Polygon = ap (λ n. n == 1) e
    by MultiPolygon = refl
    by Null = ap (λ n. n == 0) e

-- ---- cut

module _ (d : Document) (n : ℕ) (id : Text) (path : Path) (number : ℕ) where
  -- the two parts of a feature
  abbrev pub parts : Feature → List Feature
  parts f = stays path f ∷ map (new_feature path number id f) (first_that (is_cut_by path) f.polygons)

  pub cut_is : cut d n id path number ≡ instead n parts d
  unfolding cut
  cut_is = refl

  new_in : (m : ℕ) (f : Feature) (ps : List (List (List Position))) → (number == m) ≡ false
      → list_any (λ (k : Feature). k.number == m) (map (new_feature path number id f) ps) ≡ false
  new_in m f [] h = refl
  new_in m f (p ∷ ps) h = ap₂ (λ a b. a || b) h (new_in m f ps h)

  -- every other number is found as before
  pub feature-cut_other : (m : ℕ) → (n == m) ≡ false → (number == m) ≡ false
      → feature (cut d n id path number) m ≡ feature d m
  feature-cut_other m o k =
      ap (λ e. feature e m) cut_is
      ∙ feature-instead_other d n parts m o (λ f i e.
      ap₂ (λ a b. a || b) (ap (λ j. j == m) e ∙ o) (new_in m f (first_that (is_cut_by path) f.polygons) k))

  -- a feature of a collection that is cut leaves the document well formed
  pub formed-cut : WellFormed d → is_layer d n ≡ false → has_feature d number ≡ false
      → WellFormed (cut d n id path number)
  formed-cut formed collected new =
      subst WellFormed (sym cut_is) (formed-instead n parts d formed (λ f e.
      let k = feature_in d n f e in
      let fits : fits_form (stays path f) ≡ true =
      fits-count f (change_first (is_cut_by path) (first_polygon path) f.polygons) (length-change_first (is_cut_by path) (first_polygon path) f.polygons)
      ∙ all_in fits_form (features d) f formed.forms k.0 in
      of f k.1 fits (has_feature-found d n ∙ ap is_some e)
      (first_that (is_cut_by path) f.polygons) (first_that_short (is_cut_by path) f.polygons)))
    where
      of : (f : Feature) → f.number ≡ n → fits_form (stays path f) ≡ true → has_feature d n ≡ true
          → (ps : List (List (List Position))) → length ps ≤ 1
          → Replaces d n (stays path f ∷ map (new_feature path number id f) ps)
      of f e k there [] l = replaces_one d n (stays path f) e k
      of f e k there (p ∷ []) l = replaces_two d n (stays path f) (new_feature path number id f p) there collected e new k refl
      of f e k there (p ∷ q ∷ ps) l = absurd (omega arith)

-- ---- joined

-- one polygon of two
pub length-joined_polygons : (ps qs : List (List (List Position)))
    → length (joined_polygons ps qs) ≡ length ps
length-joined_polygons [] qs = refl
length-joined_polygons ([] ∷ ps) qs = refl
length-joined_polygons ((r ∷ holes) ∷ p ∷ ps) qs = refl
length-joined_polygons ((r ∷ holes) ∷ []) [] = refl
length-joined_polygons ((r ∷ holes) ∷ []) ([] ∷ qs) = refl
length-joined_polygons ((r ∷ holes) ∷ []) ((s ∷ more) ∷ []) = refl
length-joined_polygons ((r ∷ holes) ∷ []) ((s ∷ more) ∷ q ∷ qs) = refl

module _ (d : Document) (n : ℕ) (g : Feature) where
  pub join_is : join d n g ≡ take_out (instead n (joined_feature g) d) g.number
  unfolding join
  join_is = refl

  -- every other number is found as before
  pub feature-join_other : (m : ℕ) → (n == m) ≡ false → (g.number == m) ≡ false
      → feature (join d n g) m ≡ feature d m
  feature-join_other m o k =
      ap (λ e. feature e m) join_is
      ∙ feature-take_out_other (instead n (joined_feature g) d) g.number m k
      ∙ feature-instead_other d n (joined_feature g) m o (λ f i e. ap (λ j. (j == m) || false) e ∙ ap (λ b. b || false) o)

  -- the document stays well formed
  pub formed-join : WellFormed d → WellFormed (join d n g)
  formed-join formed =
      subst WellFormed (sym join_is)
      (formed-take_out (instead n (joined_feature g) d) g.number
      (formed-instead n (joined_feature g) d formed (λ f e.
      let k = feature_in d n f e in
      replaces_one d n (record f { polygons = joined_polygons f.polygons g.polygons }) k.1
      (fits-count f (joined_polygons f.polygons g.polygons) (length-joined_polygons f.polygons g.polygons)
      ∙ all_in fits_form (features d) f formed.forms k.0))))
