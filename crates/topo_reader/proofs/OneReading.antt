-- Bytes mean one document at most, whatever their length and depth, and however many their features.
use Rattle.kit_words.proofs.Common.{◌≡◌, ℕ, ℤ, pos, negsuc, ◌+ℤ◌, List, [], ◌∷◌, refl, sym, ap, ap₂, ◌∙◌, subst, true}
use Rattle.kit_words.proofs.Common.{false, Bool, Some, slice_get, reverse, is_some, Result, Ok, Err, IfOk, AllZip}
use Rattle.json_spans.specs.Common.{Node, IsValue, IsListOf, IsListFor, IsWhole}
use Rattle.json_spans.proofs.Common.{one_whole, items_told, padded_value, padded_root}
use Rattle.grid_geometry.specs.Common.{Position, position}
use Rattle.ring_machine.specs.Common.{Form, Polygon, MultiPolygon, Null, Document}
use Rattle.topo_outline.specs.declared.fault.OpenFault.{OpenFault}
use Rattle.topo_outline.specs.Common.{OutlineText, leaves, IsOutline}
use Rattle.topo_outline.proofs.OneOutline.{outline_same}
use Rattle.topo_reader.specs.Common.{Closed, Rings, Arc, origin, Polygons, Opened, document_of, IsSum, Sums, no_pair}
use Rattle.topo_reader.specs.Common.{pair, ArePositions, IsArc, AreArcs, IsUse, forward, backward, RingUses}
use Rattle.topo_reader.specs.Common.{PolygonUses, GeometryUses, IsClosed, AreClosed, ReadsBy, Reads}
use Rattle.topo_reader.proofs.Steps.{ok_same}
use Rattle.topo_reader.proofs.MeaningOfRings.{rings_of}
use Rattle.topo_reader.proofs.MeaningOfText.{IsReadBy}

-- each item of the first list stands for one thing at most
zip_same : {A B : Type 0} (R : A → B → Type 0) → ((a : A) (b c : B) → R a b → R a c → b ≡ c) → (xs : List A) (ys zs : List B) → AllZip R xs ys → AllZip R xs zs → ys ≡ zs
zip_same R one [] [] [] h k = refl
zip_same R one [] [] (z ∷ zs) h k = absurd k
zip_same R one [] (y ∷ ys) zs h k = absurd h
zip_same R one (x ∷ xs) [] zs h k = absurd h
zip_same R one (x ∷ xs) (y ∷ ys) [] h k = absurd k
zip_same {B = B} R one (x ∷ xs) (y ∷ ys) (z ∷ zs) h k = ap₂ (λ (b : B) (bs : List B). b ∷ bs) (one x y z h.0 k.0) (zip_same R one xs ys zs h.1 k.1)

-- a list has one list of items
pub items_same : {n : Node} {ms ns : List Node} → IsListOf n ms → IsListOf n ns → ms ≡ ns
items_same h k = items_told h ∙ sym (items_told k)

listed_same : {B : Type 0} (R : Node → B → Type 0) → ((n : Node) (b c : B) → R n b → R n c → b ≡ c) → (n : Node) (bs cs : List B) → IsListFor R n bs → IsListFor R n cs → bs ≡ cs
listed_same R one n bs cs h k = zip_same R one h.0 bs cs h.2 (subst (λ ns. AllZip R ns cs) (items_same k.1 h.1) k.2)

-- ---- arcs

abbrev first_of_two : Node → List Node → Node
first_of_two d [] = d
first_of_two d (n ∷ ns) = n

abbrev second_of_two : Node → List Node → Node
second_of_two d [] = d
second_of_two d (m ∷ []) = d
second_of_two d (m ∷ n ∷ ns) = n

sum_same : (before : Position) (n : Node) (p q : Position) → IsSum before n p → IsSum before n q → p ≡ q
sum_same before n p q s t =
    let two : s.first ∷ s.second ∷ [] ≡ t.first ∷ t.second ∷ [] = items_same s.two t.two in
    let first : s.first ≡ t.first = ap (first_of_two n) two in
    let second : s.second ≡ t.second = ap (second_of_two n) two in
    let x : s.x ≡ t.x = one_whole t.first.bytes s.x t.x (subst (λ (m : Node). IsWhole m.bytes s.x) first s.x_is) t.x_is in
    let y : s.y ≡ t.y = one_whole t.second.bytes s.y t.y (subst (λ (m : Node). IsWhole m.bytes s.y) second s.y_is) t.y_is in
    s.sum ∙ ap₂ (λ (u v : ℤ). position (before.x +ℤ u) (before.y +ℤ v)) x y ∙ sym t.sum

sums_same : {before : Position} {ns : List Node} {ps qs : List Position} → Sums before ns ps → Sums before ns qs → ps ≡ qs
sums_same no_pair no_pair = refl
sums_same (pair {before = before} {p = p} {n = n} {ns = ns} s a) (pair {p = q} {ps = qs} t b) =
    let same : p ≡ q = sum_same before n p q s t in
    ap₂ (λ (r : Position) (rs : List Position). r ∷ rs) same (sums_same a (subst (λ r. Sums r ns qs) (sym same) b))

positions_same : (delta : Bool) (ns : List Node) (ps qs : List Position) → ArePositions delta ns ps → ArePositions delta ns qs → ps ≡ qs
positions_same true ns ps qs h k = sums_same h k
positions_same false ns ps qs h k = zip_same (IsSum origin) (sum_same origin) ns ps qs h k

arc_same : (delta : Bool) (n : Node) (ps qs : List Position) → IsArc delta n ps → IsArc delta n qs → ps ≡ qs
arc_same delta n ps qs a b = positions_same delta a.items ps qs a.positions (subst (λ ns. ArePositions delta ns qs) (items_same b.list a.list) b.positions)

arcs_same : (delta : Bool) (n : Node) (found others : List Arc) → AreArcs delta n found → AreArcs delta n others → found ≡ others
arcs_same delta n found others h k = listed_same (IsArc delta) (arc_same delta) n found others h k

-- ---- uses

abbrev index_part : ℤ → ℕ
index_part (pos i) = i
index_part (negsuc i) = i

found_same : (arcs : List Arc) (i j : ℕ) (a b : Arc) → i ≡ j → slice_get arcs i ≡ Some a → slice_get arcs j ≡ Some b → a ≡ b
found_same arcs i j a b e h k = let same : Some a ≡ Some b = sym h ∙ ap (slice_get arcs) e ∙ k in cc

module _ (arcs : List Arc) where
  use_same : (n : Node) (a b : Arc) → IsUse arcs n a → IsUse arcs n b → a ≡ b
  use_same n a b (forward {i = i} w h) (forward {i = j} v k) =
      found_same arcs i j a b (ap index_part (one_whole n.bytes (pos i) (pos j) w v)) h k
  use_same n a b (forward {i = i} w h) (backward {i = j} v k) =
      let no : pos i ≡ negsuc j = one_whole n.bytes (pos i) (negsuc j) w v in absurd cc
  use_same n a b (backward {i = i} w h) (forward {i = j} v k) =
      let no : negsuc i ≡ pos j = one_whole n.bytes (negsuc i) (pos j) w v in absurd cc
  use_same n a b (backward {i = i} {a = c} w h) (backward {i = j} {a = d} v k) =
      ap reverse (found_same arcs i j c d (ap index_part (one_whole n.bytes (negsuc i) (negsuc j) w v)) h k)

  ring_same : (n : Node) (us vs : List Arc) → RingUses arcs n us → RingUses arcs n vs → us ≡ vs
  ring_same n us vs h k = listed_same (IsUse arcs) use_same n us vs h k

  polygon_same : (n : Node) (us vs : List (List Arc)) → PolygonUses arcs n us → PolygonUses arcs n vs → us ≡ vs
  polygon_same n us vs h k = listed_same (RingUses arcs) ring_same n us vs h k

  geometry_same : (g : Form × Node) (us vs : List (List (List Arc))) → GeometryUses arcs g us → GeometryUses arcs g vs → us ≡ vs
  geometry_same g us vs h k = by g.0 h k
    where
      by : (f : Form) → GeometryUses arcs (f, g.1) us → GeometryUses arcs (f, g.1) vs → us ≡ vs
      by Null h k = h ∙ sym k
      by Polygon h k = h.2 ∙ ap (λ (r : List (List Arc)). let rs : List (List (List Arc)) = r ∷ [] in rs) (polygon_same g.1 h.0 k.0 h.1 k.1) ∙ sym k.2
      by MultiPolygon h k = listed_same (PolygonUses arcs) polygon_same g.1 us vs h k

-- ---- documents

abbrev made : OutlineText → List Polygons → Document
made shape ps = document_of (record { transform = shape.transform; layers = shape.layers; members = shape.members; polygons = ps })

pub one_reading_by : (closed : Closed) (bytes : List ℕ) (d e : Document) → ReadsBy (IsClosed closed) bytes d → ReadsBy (IsClosed closed) bytes e → d ≡ e
one_reading_by closed bytes d e r s =
    let root : s.root ≡ r.root = padded_root s.json ∙ sym (padded_root r.json) in
    let nests = padded_value {A = IsValue r.levels} 0 bytes r.root r.json in
    let shape : r.shape ≡ s.shape = outline_same r.levels r.root r.shape s.shape nests r.topology (subst (λ n. IsOutline n s.shape) root s.topology) in
    let other : AreArcs (is_some r.shape.transform) r.shape.arcs s.arcs = subst (λ (o : OutlineText). AreArcs (is_some o.transform) o.arcs s.arcs) (sym shape) s.arcs_are in
    let arcs : r.arcs ≡ s.arcs = arcs_same (is_some r.shape.transform) r.shape.arcs r.arcs s.arcs r.arcs_are other in
    let used : AllZip (GeometryUses r.arcs) (leaves r.shape.layers) s.uses =
    subst (λ (as' : List Arc). AllZip (GeometryUses as') (leaves r.shape.layers) s.uses) (sym arcs) (subst (λ (o : OutlineText). AllZip (GeometryUses s.arcs) (leaves o.layers) s.uses) (sym shape) s.uses_are) in
    let uses : r.uses ≡ s.uses = zip_same (GeometryUses r.arcs) (geometry_same r.arcs) (leaves r.shape.layers) r.uses s.uses r.uses_are used in
    let polygons : r.polygons ≡ s.polygons = ok_same r.polygons s.polygons (sym (rings_of closed r.uses r.polygons r.rings_are) ∙ rings_of closed r.uses s.polygons (subst (λ us. AllZip (AreClosed (IsClosed closed)) us s.polygons) (sym uses) s.rings_are)) in
    r.document ∙ ap₂ made shape polygons ∙ sym s.document

pub one_reading : (bytes : List ℕ) (d e : Document) → Reads bytes d → Reads bytes e → d ≡ e
one_reading bytes d e r s = one_reading_by Rings bytes d e r s

-- whatever the bytes mean is what is answered
pub gives_only : {X : Type 0} (closed : Closed) (view : X → Opened) (bytes : List ℕ) (r : Result X OpenFault) → IfOk r (λ x. IsReadBy closed bytes (document_of (view x))) → IfOk r (λ x. (d : Document) → ReadsBy (IsClosed closed) bytes d → d ≡ document_of (view x))
gives_only closed view bytes (Ok x) read = λ d r. one_reading_by closed bytes d (document_of (view x)) r read.0
gives_only closed view bytes (Err f) read = tt
