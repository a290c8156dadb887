-- The polygons of a feature as they are seen, and as they are read.
use Rattle.kit_words.proofs.Common.{◌≡◌, ℕ, zero, suc, refl, sym, ap, ◌∙◌, List, [], ◌∷◌, length, map, get_or, arith}
use Rattle.kit_words.proofs.Common.{Option, Some, None, option_map, unwrap_or, slice_get, true, ◌==◌, flat_map}
use Rattle.kit_words.proofs.Common.{append-nil, length-map, unwrap_or-slice_get}
use Rattle.grid_geometry.specs.Common.{Position}
use Rattle.ring_machine.specs.Common.{Document, Feature, Form, Polygon, Null, fits_form, feature}
use Rattle.map_frame.specs.Common.{element, shown, Shown}
use Rattle.topo_writer.specs.Common.{all_rings_at, rings_at, polygons_at}

-- a polygon of a feature is the polygon with its number
pub polygon_is_at : (d : Document) (n polygon : ℕ) → rings_at d n polygon ≡ get_or (polygons_at d n) polygon []
polygon_is_at d n polygon = by (option_map (λ f. f.polygons) (feature d n))
  where
    by : (o : Option (List (List (List Position)))) → unwrap_or (element o polygon) [] ≡ get_or (unwrap_or o []) polygon []
    by None = refl
    by (Some ps) = unwrap_or-slice_get ps polygon []

-- so many rings as are seen of each polygon
pub seen_rings : (d : Document) (n : ℕ) (v : Shown) → Some v ≡ option_map shown (feature d n) → v.rings ≡ map length (polygons_at d n)
seen_rings d n v e = by (feature d n) e
  where
    by : (o : Option Feature) → Some v ≡ option_map shown o → v.rings ≡ map length (unwrap_or (option_map (λ f. f.polygons) o) [])
    by None h = absurd cc
    by (Some f) h = let same : v ≡ shown f = cc in ap (λ (s : Shown). s.rings) same

counted_at : {A : Type 0} (ps : List (List A)) (i : ℕ) → unwrap_or (slice_get (map length ps) i) 0 ≡ length (get_or ps i [])
counted_at [] i = refl
counted_at (p ∷ ps) zero = refl
counted_at (p ∷ ps) (suc i) = counted_at ps i

pub seen_count : (d : Document) (n : ℕ) (v : Shown) → Some v ≡ option_map shown (feature d n) → length v.rings ≡ length (polygons_at d n)
seen_count d n v e = ap length (seen_rings d n v e) ∙ length-map (polygons_at d n) length

pub seen_ring_count : (d : Document) (n polygon : ℕ) (v : Shown) → Some v ≡ option_map shown (feature d n)
    → unwrap_or (slice_get v.rings polygon) 0 ≡ length (rings_at d n polygon)
seen_ring_count d n polygon v e =
    ap (λ z. unwrap_or (slice_get z polygon) 0) (seen_rings d n v e) ∙ counted_at (polygons_at d n) polygon
    ∙ ap length (sym (polygon_is_at d n polygon))

-- the feature that is seen
pub seen_feature : (d : Document) (n : ℕ) (v : Shown) → Some v ≡ option_map shown (feature d n)
    → (f : Feature) × (feature d n ≡ Some f) × (v ≡ shown f)
seen_feature d n v e = by (feature d n) e
  where
    by : (o : Option Feature) → Some v ≡ option_map shown o → (f : Feature) × (o ≡ Some f) × (v ≡ shown f)
    by None h = absurd cc
    by (Some f) h = let same : v ≡ shown f = cc in (f, refl, same)

-- a feature with this number is what is seen
pub seen_as : (d : Document) (n : ℕ) (v : Shown) (f : Feature) → Some v ≡ option_map shown (feature d n) → feature d n ≡ Some f → v ≡ shown f
seen_as d n v f e h = let t : Some v ≡ Some (shown f) = e ∙ ap (option_map shown) h in cc

pub polygons_read : (d : Document) (n : ℕ) (f : Feature) → feature d n ≡ Some f → polygons_at d n ≡ f.polygons
polygons_read d n f e = ap (λ o. unwrap_or (option_map (λ (g : Feature). g.polygons) o) []) e

-- ---- the form that is seen

one_fits : (f : Feature) → f.form ≡ Polygon → fits_form f ≡ true → length f.polygons ≡ 1
one_fits f e h =
    let t : (length f.polygons == 1) ≡ true = sym (ap (λ (form : Form). fits_form (record f { form = form })) e) ∙ h in
    grind (arith, t)

none_fits : (f : Feature) → f.form ≡ Null → fits_form f ≡ true → length f.polygons ≡ 0
none_fits f e h =
    let t : (length f.polygons == 0) ≡ true = sym (ap (λ (form : Form). fits_form (record f { form = form })) e) ∙ h in
    grind (arith, t)

module _ (d : Document) (n : ℕ) (v : Shown) (seen : Some v ≡ option_map shown (feature d n))
    (fits : (f : Feature) → feature d n ≡ Some f → fits_form f ≡ true) where
  -- a polygon alone
  pub one_polygon : v.form ≡ Polygon → polygons_at d n ≡ rings_at d n 0 ∷ []
  one_polygon e =
      let s = seen_feature d n v seen in
      let l : length s.0.polygons ≡ 1 = one_fits s.0 (sym (ap (λ (w : Shown). w.form) s.2) ∙ e) (fits s.0 s.1) in
      alone (polygons_at d n) (ap length (polygons_read d n s.0 s.1) ∙ l) ∙ ap (λ z. z ∷ []) (sym (polygon_is_at d n 0))
    where
      alone : (ps : List (List (List Position))) → length ps ≡ 1 → ps ≡ get_or ps 0 [] ∷ []
      alone [] h = absurd (omega (arith, h))
      alone (p ∷ []) h = refl
      alone (p ∷ q ∷ ps) h = absurd (omega (arith, h))

  pub no_polygon : v.form ≡ Null → polygons_at d n ≡ []
  no_polygon e =
      let s = seen_feature d n v seen in
      let l : length s.0.polygons ≡ 0 = none_fits s.0 (sym (ap (λ (w : Shown). w.form) s.2) ∙ e) (fits s.0 s.1) in
      nothing (polygons_at d n) (ap length (polygons_read d n s.0 s.1) ∙ l)
    where
      nothing : (ps : List (List (List Position))) → length ps ≡ 0 → ps ≡ []
      nothing [] h = refl
      nothing (p ∷ ps) h = absurd (omega (arith, h))

  pub one_rings : v.form ≡ Polygon → all_rings_at d n ≡ rings_at d n 0
  one_rings e = ap (flat_map (λ polygon. polygon)) (one_polygon e) ∙ append-nil (rings_at d n 0)

  pub no_rings : v.form ≡ Null → all_rings_at d n ≡ []
  no_rings e = ap (flat_map (λ polygon. polygon)) (no_polygon e)
