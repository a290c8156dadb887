-- A document of rings that do not conflict stays as it is, but for where its rings begin.
use Rattle.kit_words.proofs.Common.{◌≡◌, ℕ, Bool, true, false, cond, List, [], ◌∷◌, ◌++◌, map, length, refl, sym, ap}
use Rattle.kit_words.proofs.Common.{ap₂, ◌∙◌, subst, inl, inr, None, arith, nat_lt, AllZip, flat_map, filter_map}
use Rattle.kit_words.proofs.Common.{list_all, list_any, count_by, false≢true, length-map, sum_by-cons}
use Rattle.grid_geometry.specs.Common.{Position, position_lt, Segment, segment_lt, segment_eq, conflict, Edge, links}
use Rattle.grid_geometry.proofs.Common.{conflict-comm}
use Rattle.ring_machine.specs.Common.{pair_lt, canonical, segments, Form, Polygon, MultiPolygon, Null, Feature, Item}
use Rattle.ring_machine.specs.Common.{Layer, Document, Open, Close, Leaf, Kept, feature_of, features, rings_of, rings}
use Rattle.ring_machine.specs.Common.{all_segments, in_feature, in_item, in_layer, in_rings, fits_form, WellFormed}
use Rattle.ring_machine.proofs.Common.{In, in_left, in_right, least_conflict_is, least_conflict_unique, Bad, IsLeast}
use Rattle.ring_machine.proofs.Common.{in_contains, any_in, in_flat, in-flat_map, all_in, segment_eq-true, pass_all}
use Rattle.topo_reader.specs.Common.{Polygons, is_simple}
use Rattle.walk_faults.specs.Common.{walk_segments}
use Rattle.walk_faults.proofs.Common.{ring_segments}
use Rattle.segment_paths.specs.Common.{PathOfSegment}
use Rattle.walk_mending.specs.Common.{edge_along, laid, times_in_walks, is_odd_in, is_bounding, IsMended, stays, parted}
use Rattle.map_mending.specs.Common.{MendsPolygon, MendsFeature, MendsItem, MendsLayer, Mended, polygons_of_parts, form_after}
use Rattle.map_mending.specs.Common.{MendedBy, NeedsNoMending, bounds_in}

-- ---- lists

counted_in : {A : Type 0} (p : A → Bool) (xs : List A) → nat_lt 0 (count_by p xs) ≡ true → (a : A) × In a xs × (p a ≡ true)
counted_in p [] h = absurd (false≢true h)
counted_in {A} p (x ∷ xs) h = by (p x) refl (counted_in p xs)
  where
    by : (b : Bool) → p x ≡ b → (nat_lt 0 (count_by p xs) ≡ true → (a : A) × In a xs × (p a ≡ true))
        → (a : A) × In a (x ∷ xs) × (p a ≡ true)
    by true e rest = (x, inl refl, e)
    by false e rest =
        let same : count_by p xs ≡ count_by p (x ∷ xs) = omega (arith, sum_by-cons (λ z. cond {A = ℕ} (p z) 1 0) x xs, ap (λ b. cond {A = ℕ} b 1 0) e) in
        let k = rest (ap (nat_lt 0) same ∙ h) in
        (k.0, inr k.1, k.2)

-- ---- no path

module _ (d : Document) (n : NeedsNoMending d) where
  pub polygon_simple : (f : Feature) → In f (features d) → (walks : List (List Position)) → In walks f.polygons
      → list_all is_simple walks ≡ true
  polygon_simple f i walks j = pass_all is_simple walks (λ w k.
      all_in is_simple (rings d) w n.are_rings
      (in-flat_map rings_of f w (features d) i (in-flat_map (λ p. p) walks w f.polygons j k)))

  pub bounding_in : (s : Segment) → bounds_in d s ≡ true → In s (all_segments d)
  bounding_in s b =
      let f = any_in (λ g. list_any (λ walks. is_bounding walks s) g.polygons) (features d) b in
      let w = any_in (λ walks. is_bounding walks s) (f.0).polygons f.2 in
      let simple = polygon_simple f.0 f.1 w.0 w.1 in
      let many : nat_lt 0 (times_in_walks w.0 s) ≡ true =
      sym (ap (λ c. cond c (nat_lt 0 (times_in_walks w.0 s)) (is_odd_in w.0 s)) simple) ∙ w.2 in
      let t = counted_in (segment_eq s) (flat_map walk_segments w.0) many in
      let v = in_flat walk_segments t.0 w.0 t.1 in
      let there : In t.0 (segments v.0) = subst (In t.0) (ring_segments v.0 (all_in is_simple w.0 v.0 simple v.1)) v.2 in
      let ring : In v.0 (rings d) = in-flat_map rings_of f.0 v.0 (features d) f.1 (in-flat_map (λ p. p) w.0 v.0 (f.0).polygons w.1 v.1) in
      subst (λ z. In z (all_segments d)) (sym (segment_eq-true s t.0 t.2)) (in-flat_map segments v.0 t.0 (rings d) ring there)

  pub no_paths : (paths : List PathOfSegment) → MendedBy d paths → paths ≡ []
  no_paths paths m = m.needed (sym (least_conflict_unique m.segments None (λ u b. none u (record {
    order = b.order;
    left = among u.0 b.left;
    right = among u.1 b.right;
    meet = b.meet;
  }))))
    where
      among : (s : Segment) → In s m.segments → In s (all_segments d)
      among s i = bounding_in s (((m.bounding).all s).0 (in_contains m.segments s i))

      BadIn : Segment × Segment → Type 0
      BadIn u = Bad segment_lt conflict conflict-comm (λ s. In s (all_segments d)) u

      none : (u : Segment × Segment) → Bad segment_lt conflict conflict-comm (λ s. In s (all_segments d)) u → ⊥
      none = subst (IsLeast pair_lt (Bad segment_lt conflict conflict-comm (λ s. In s (all_segments d)))) n.apart (least_conflict_is (all_segments d))

-- ---- a walk with no path

plain : (e : Edge) → edge_along [] e ≡ e.0 ∷ []
plain e = by (position_lt e.0 e.1)
  where
    by : (b : Bool) → e.0 ∷ cond {A = List Position} b [] [] ≡ e.0 ∷ []
    by true = refl
    by false = refl

begins : (a z : Position) (ps : List Position) → flat_map (edge_along []) (links (a ∷ ps ++ z ∷ [])) ≡ a ∷ ps
begins a z [] = ap (λ y. y ++ []) (plain (a, z))
begins a z (p ∷ ps) = ap₂ (λ y w. y ++ w) (plain (a, p)) (begins p z ps)

pub laid_plain : (walk : List Position) → laid [] walk ≡ walk
laid_plain [] = refl
laid_plain (a ∷ ps) = begins a a ps

pub all_plain : (walks : List (List Position)) → map (laid []) walks ≡ walks
all_plain [] = refl
all_plain (w ∷ walks) = ap₂ (λ (y : List Position) (z : List (List Position)). y ∷ z) (laid_plain w) (all_plain walks)

-- ---- a polygon, a feature

one_stays : {walks parts : List (List Position)} {made : Polygons} → walks ≡ parts → list_all is_simple parts ≡ true
    → IsMended walks made → made ≡ map canonical parts ∷ []
one_stays e s (stays h) = ap (λ (z : List (List Position)). map canonical z ∷ []) e
one_stays e s (parted h k) = absurd (false≢true (sym h ∙ ap (list_all is_simple) e ∙ s))

polygons_stay : (ps : Polygons) (parts : List Polygons) → AllZip (MendsPolygon []) ps parts
    → ((walks : List (List Position)) → In walks ps → list_all is_simple walks ≡ true)
    → polygons_of_parts parts ≡ map (map canonical) ps
polygons_stay [] [] h s = refl
polygons_stay [] (q ∷ parts) h s = absurd h
polygons_stay (p ∷ ps) [] h s = absurd h
polygons_stay (p ∷ ps) (q ∷ parts) h s =
    ap₂ (λ (y z : Polygons). y ++ z) (one_stays (all_plain p) (s p (inl refl)) h.0)
    (polygons_stay ps parts h.1 (λ w i. s w (inr i)))

form_stays : (f : Feature) → fits_form f ≡ true → form_after f.form (length f.polygons) ≡ f.form
form_stays f h = by f.form f.polygons h
  where
    by : (form : Form) (ps : Polygons) → fits_form (record f { form = form; polygons = ps }) ≡ true → form_after form (length ps) ≡ form
    by Polygon ps e = ap (λ b. cond b Polygon MultiPolygon) e
    by MultiPolygon ps e = refl
    by Null ps e = refl

-- the feature fits its form, and its polygons are of rings
pub record IsPlain (f : Feature) : Type 0 where
  pub fits : fits_form f ≡ true
  pub simple : (walks : List (List Position)) → In walks f.polygons → list_all is_simple walks ≡ true

feature_stays : (f g : Feature) → IsPlain f → MendsFeature [] f g → g ≡ in_feature canonical f
feature_stays f g p m =
    let polygons : m.polygons ≡ map (map canonical) f.polygons =
    (m.mended).joins ∙ polygons_stay f.polygons (m.mended).parts (m.mended).mended p.simple in
    let form : form_after f.form (length m.polygons) ≡ f.form =
    ap (λ (ps : Polygons). form_after f.form (length ps)) polygons
    ∙ ap (form_after f.form) (length-map f.polygons (map canonical)) ∙ form_stays f p.fits in
    m.result ∙ ap₂ (λ (k : Form) (ps : Polygons). record (in_feature canonical f) { form = k; polygons = ps }) form polygons

-- ---- the whole

items_stay : (is js : List Item) → AllZip (MendsItem []) is js → ((f : Feature) → In f (filter_map feature_of is) → IsPlain f)
    → js ≡ map (in_item (in_feature canonical)) is
items_stay [] [] h p = refl
items_stay [] (j ∷ js) h p = absurd h
items_stay (i ∷ is) [] h p = absurd h
items_stay (Open head ∷ is) (j ∷ js) h p = ap₂ (λ (y : Item) (z : List Item). y ∷ z) h.0 (items_stay is js h.1 p)
items_stay (Close ∷ is) (j ∷ js) h p = ap₂ (λ (y : Item) (z : List Item). y ∷ z) h.0 (items_stay is js h.1 p)
items_stay (Kept t ∷ is) (j ∷ js) h p = ap₂ (λ (y : Item) (z : List Item). y ∷ z) h.0 (items_stay is js h.1 p)
items_stay (Leaf f ∷ is) (j ∷ js) h p =
    ap₂ (λ (y : Item) (z : List Item). y ∷ z)
    ((h.0).2 ∙ ap (λ (g : Feature). Leaf g) (feature_stays f (h.0).0 (p f (inl refl)) (h.0).1))
    (items_stay is js h.1 (λ g i. p g (inr i)))

layers_stay : (ls ms : List Layer) → AllZip (MendsLayer []) ls ms
    → ((f : Feature) → In f (flat_map (λ l. filter_map feature_of l.items) ls) → IsPlain f)
    → ms ≡ map (in_layer (map (in_item (in_feature canonical)))) ls
layers_stay [] [] h p = refl
layers_stay [] (m ∷ ms) h p = absurd h
layers_stay (l ∷ ls) [] h p = absurd h
layers_stay (l ∷ ls) (m ∷ ms) h p =
    let rest = flat_map (λ k. filter_map feature_of k.items) ls in
    let items = items_stay l.items m.items (h.0).items (λ f i. p f (in_left f (filter_map feature_of l.items) rest i)) in
    ap₂ (λ (y : Layer) (z : List Layer). y ∷ z)
    (ap₂ (λ (name : List ℕ) (is : List Item). record { name = name; items = is }) (h.0).name items)
    (layers_stay ls ms h.1 (λ f i. p f (in_right f (filter_map feature_of l.items) rest i)))

-- where nothing is to be mended nothing is: only where the rings begin may change
pub mended_stays : (d e : Document) (paths : List PathOfSegment) → NeedsNoMending d → WellFormed d → MendedBy d paths → Mended paths d e
    → e ≡ in_rings canonical d
mended_stays d e paths n w b m =
    let k : Mended [] d e = subst (λ z. Mended z d e) (no_paths d n paths b) m in
    let layers = layers_stay d.layers e.layers k.layers (λ f i. record {
      fits = all_in fits_form (features d) f w.forms i;
      simple = polygon_simple d n f i;
    }) in
    ap₂ (λ t (ls : List Layer). record { transform = t; layers = ls; members = e.members }) k.transform layers
    ∙ ap (λ ms. record { transform = d.transform; layers = map (in_layer (map (in_item (in_feature canonical)))) d.layers; members = ms }) k.members
