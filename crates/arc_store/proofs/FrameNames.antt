-- The rings of a frame by their names: each ring has a name, and no two have one.
use Rattle.kit_words.proofs.Common.{◌≡◌, ℕ, true, refl, sym, ap, ◌∙◌, List, [], ◌∷◌, map, inl, Some, option_map, ◌==◌}
use Rattle.kit_words.proofs.Common.{slice_get}
use Rattle.ring_machine.specs.Common.{FeatureOf, DocumentOf, features, feature, rings, rings_of, are_distinct}
use Rattle.ring_machine.proofs.Common.{In, found, in_flat, slice-in}
use Rattle.map_frame.specs.declared.names.RingName.{RingName}
use Rattle.map_frame.specs.Common.{number_at, element, frame_ring}
use Rattle.map_frame.proofs.Common.{element_is, same_some, in_part, one_part, found_at, ring_in, one_owner, of_in}
use Rattle.map_frame.proofs.GrownTables.{part_distinct}
use Rattle.map_frame.proofs.NamedLists.{name_same}
use Rattle.ring_store.proofs.Common.{singles}

-- a ring's number is one of the frame
pub number_there : (d : DocumentOf ℕ) (name : RingName) (r : ℕ) → number_at d name ≡ Some r → In r (rings d)
number_there d name r e =
    let f = ring_in (feature d name.feature) name r e in
    let at = found_at (λ x. x.number == name.feature) (features d) f.0 f.1 in
    in_part rings_of (features d) at.0 f.0 r at.1 f.2

-- ---- each ring has a name

-- each ring of a feature
pub ring_named : {R : Type 0} (d : DocumentOf R) → are_distinct (map (λ f. f.number) (features d)) ≡ true
    → (f : FeatureOf R) → In f (features d) → (r : R) → In r (rings_of f)
    → (name : RingName) × (name.feature ≡ f.number) × (frame_ring d name.feature name.polygon name.ring ≡ Some r)
ring_named {R} d distinct f i r h =
    let p = in_flat (λ (polygon : List R). polygon) r f.polygons h in
    let at = of_in f.polygons p.0 p.1 in
    let ring = of_in p.0 r p.2 in (
      record { feature = f.number; polygon = at.0; ring = ring.0 },
      refl,
      ap (λ o. element (element (option_map (λ x. x.polygons) o) at.0) ring.0) (found f (features d) distinct i)
          ∙ ap (λ o. element o ring.0) at.1 ∙ ring.1,
    )

-- and so each of a frame
pub name_there : (d : DocumentOf ℕ) → are_distinct (map (λ f. f.number) (features d)) ≡ true → (r : ℕ) → In r (rings d)
    → (name : RingName) × (number_at d name ≡ Some r)
name_there d distinct r h =
    let f = in_flat rings_of r (features d) h in
    let name = ring_named d distinct f.0 f.1 r f.2 in (name.0, name.2)

-- ---- no two rings have one

one_place : (rs : List ℕ) → are_distinct rs ≡ true → (i j r : ℕ) → slice_get rs i ≡ Some r
    → slice_get rs j ≡ Some r → i ≡ j
one_place rs d i j r e f =
    one_part (λ k. k ∷ []) rs (ap are_distinct (singles rs) ∙ d) i j r r r e f (inl refl) (inl refl)

-- of one feature two names of a ring are the same
same_within : (f : FeatureOf ℕ) → are_distinct (rings_of f) ≡ true → (a b : RingName) (r : ℕ) → a.feature ≡ b.feature
    → element (slice_get f.polygons a.polygon) a.ring ≡ Some r → element (slice_get f.polygons b.polygon) b.ring ≡ Some r
    → a ≡ b
same_within f distinct a b r features e h =
    let v = element_is (slice_get f.polygons a.polygon) a.ring r e in
    let w = element_is (slice_get f.polygons b.polygon) b.ring r h in
    let polygons : a.polygon ≡ b.polygon = one_part (λ (polygon : List ℕ). polygon) f.polygons distinct a.polygon b.polygon v.0 w.0 r v.1 w.1 (slice-in v.0 a.ring r v.2) (slice-in w.0 b.ring r w.2) in
    let same : w.0 ≡ v.0 = same_some w.0 v.0 (sym w.1 ∙ ap (slice_get f.polygons) (sym polygons) ∙ v.1) in
    let rings : a.ring ≡ b.ring = one_place v.0 (part_distinct (λ (polygon : List ℕ). polygon) f.polygons a.polygon v.0 distinct v.1) a.ring b.ring r v.2 (ap (λ z. slice_get z b.ring) (sym same) ∙ w.2) in
    name_same a b features polygons rings

pub one_name : (d : DocumentOf ℕ) → are_distinct (rings d) ≡ true → (a b : RingName) (r : ℕ)
    → number_at d a ≡ Some r → number_at d b ≡ Some r → a ≡ b
one_name d once a b r e h =
    let v = ring_in (feature d a.feature) a r e in
    let w = ring_in (feature d b.feature) b r h in
    let same : a.feature ≡ b.feature = one_owner d once a.feature b.feature v.0 w.0 r v.1 w.1 v.2 w.2 in
    let at = found_at (λ x. x.number == a.feature) (features d) v.0 v.1 in
    let here : feature d b.feature ≡ Some v.0 = ap (feature d) (sym same) ∙ v.1 in
    same_within v.0 (part_distinct rings_of (features d) at.0 v.0 once at.1) a b r same
    (ap (λ o. element (element (option_map (λ x. x.polygons) o) a.polygon) a.ring) (sym v.1) ∙ e)
    (ap (λ o. element (element (option_map (λ x. x.polygons) o) b.polygon) b.ring) (sym here) ∙ h)
