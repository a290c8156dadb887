-- What holds of each ring of a document holds of the document.
use Rattle.kit_words.proofs.Common.{◌≡◌, refl, ap, ap₂, subst, List, [], ◌∷◌, ◌++◌, map, flat_map, filter_map}
use Rattle.kit_words.proofs.Common.{AllByRecursion, flat_map-append}
use Rattle.ring_machine.specs.Common.{ItemOf, LayerOf, DocumentOf, Open, Close, Leaf, Kept, feature_of, rings_of, rings}
use Rattle.ring_machine.specs.Common.{in_feature, in_item, in_layer, in_rings}

all-append : {A : Type 0} (P : A → Type 0) (xs ys : List A) → AllByRecursion P (xs ++ ys)
    → AllByRecursion P xs × AllByRecursion P ys
all-append P [] ys h = (tt, h)
all-append P (x ∷ xs) ys h = let k = all-append P xs ys h.1 in ((h.0, k.0), k.1)

module _ {R S T : Type 0} (f : R → S) (g : S → T) (h : R → T) where
  -- g after f is h on this ring
  abbrev Agrees : R → Type 0
  Agrees r = g (f r) ≡ h r

  rings-agree : (rs : List R) → AllByRecursion Agrees rs → map g (map f rs) ≡ map h rs
  rings-agree [] a = refl
  rings-agree (r ∷ rs) a = ap₂ (λ y z. y ∷ z) a.0 (rings-agree rs a.1)

  polygons-agree : (ps : List (List R)) → AllByRecursion Agrees (flat_map (λ p. p) ps)
      → map (map g) (map (map f) ps) ≡ map (map h) ps
  polygons-agree [] a = refl
  polygons-agree (p ∷ ps) a = let k = all-append Agrees p _ a in ap₂ (λ y z. y ∷ z) (rings-agree p k.0) (polygons-agree ps k.1)

  items-agree : (is : List (ItemOf R))
      → AllByRecursion Agrees (flat_map rings_of (filter_map feature_of is))
      → map (in_item (in_feature g)) (map (in_item (in_feature f)) is)
      ≡ map (in_item (in_feature h)) is
  items-agree [] a = refl
  items-agree (Leaf x ∷ is) a =
      let k = all-append Agrees (flat_map (λ p. p) x.polygons) _ a in
      ap₂ (λ y z. Leaf (record { number = x.number; id = x.id; form = x.form; properties = x.properties; members = x.members; polygons = y }) ∷ z) (polygons-agree x.polygons k.0) (items-agree is k.1)
  items-agree (Open y ∷ is) a = ap (λ z. Open y ∷ z) (items-agree is a)
  items-agree (Close ∷ is) a = ap (λ z. Close ∷ z) (items-agree is a)
  items-agree (Kept t ∷ is) a = ap (λ z. Kept t ∷ z) (items-agree is a)

  layers-agree : (ls : List (LayerOf R))
      → AllByRecursion Agrees (flat_map rings_of (flat_map (λ l. filter_map feature_of l.items) ls)) →
      map (in_layer (map (in_item (in_feature g)))) (map (in_layer (map (in_item (in_feature f)))) ls) ≡ map (in_layer (map (in_item (in_feature h)))) ls
  layers-agree [] a = refl
  layers-agree (l ∷ ls) a =
      let parts : AllByRecursion Agrees (flat_map rings_of (filter_map feature_of l.items) ++ flat_map rings_of (flat_map (λ l. filter_map feature_of l.items) ls)) =
      subst (AllByRecursion Agrees) (flat_map-append rings_of (filter_map feature_of l.items) (flat_map (λ l. filter_map feature_of l.items) ls)) a in
      let k = all-append Agrees (flat_map rings_of (filter_map feature_of l.items)) _ parts in
      ap₂ (λ y z. record { name = l.name; items = y } ∷ z) (items-agree l.items k.0) (layers-agree ls k.1)

  -- an edit of every ring, seen through the meaning of a store: f is the ring before, g the edit, h the ring after
  pub document-agrees : (d : DocumentOf R) → AllByRecursion Agrees (rings d)
      → in_rings g (in_rings f d) ≡ in_rings h d
  document-agrees d a = ap (λ z. record { transform = d.transform; layers = z; members = d.members }) (layers-agree d.layers a)
