-- A geometry's pieces are answered exactly if it is one, as far as the walk goes down.
use Rattle.kit_words.proofs.Common.{arith, ◌≤◌, ◌≡◌, if◌then◌else◌, ◌⊎◌, inl, inr, ℕ, zero, suc, List, [], ◌∷◌, ◌++◌}
use Rattle.kit_words.proofs.Common.{Bool, true, false, refl, subst, codes, Result, Ok, Err, Some, AllByRecursion}
use Rattle.json_spans.specs.Common.{Node, IsListOf, items}
use Rattle.json_spans.proofs.Common.{items_told}
use Rattle.ring_machine.specs.Common.{Form}
use Rattle.ring_machine.specs.Document as form
use Rattle.topo_outline.specs.declared.words.Word.TheVariants as word
use Rattle.topo_outline.specs.Common.{Geometry, geometry_of, Fault, too_deep, ◌>>=◌, EntryNode, head, Piece, starts}
use Rattle.topo_outline.specs.Common.{ends, leaf, is_list, is_object, are_rings, wrong, members_of, member_that}
use Rattle.topo_outline.specs.Common.{type_of, with_rings, single, is_collection, shaped, each_joined, NestsAtMost}
use Rattle.topo_outline.specs.Common.{HasEntries, value_at, HasType, AreLists, AreListsOfLists, IsGeometry}
use Rattle.topo_outline.specs.Common.{AreGeometries, null_geometry, polygon, multi_polygon, point, multi_point}
use Rattle.topo_outline.specs.Common.{collection, no_geometry}
use Rattle.topo_outline.specs.declared.words.Geometry.TheVariants as geo
use Rattle.topo_outline.specs.declared.members.Owner.TheVariants as owner
use Rattle.topo_outline.specs.Shape.{geometry}
use Rattle.topo_outline.specs.IsOutline as shape
use Rattle.topo_outline.proofs.Depth.{inside, list_of}
use Rattle.topo_outline.proofs.Levels.{AllNest, object_nests, list_nests, value_nests, list_here, lists_here, lists_of_lists_here, is_an_object, is_a_list, are_lists_tested, are_lists_of_lists_tested}
use Rattle.topo_outline.proofs.Steps.{step, demanded, same_ok}
use Rattle.topo_outline.proofs.Entering.{object_means, object_gives}
use Rattle.topo_outline.proofs.Typing.{member_at, value_of_member, good_member, member_is_good, IsOfType, null_type, polygon_type, multi_polygon_type, collection_type, point_type, multi_point_type, topology_type, other_type, type_means, type_gives, null_gives}

-- ---- what an answer means

-- a collection, whose pieces are those of the group
record IsCollection (n : Node) (group : List EntryNode → EntryNode → Result (List Piece) Fault) (ps : List Piece) : Type 0 where
  entries : List EntryNode
  list : EntryNode
  object : HasEntries n entries
  named : HasType entries (codes "GeometryCollection")
  has_list : value_at word.Geometries entries ≡ Some list.value
  is_one : is_list list.value ≡ true
  pieces : group entries list ≡ Ok ps

abbrev Shaped : Node → (List EntryNode → EntryNode → Result (List Piece) Fault) → List Piece → Type 0
Shaped n group ps = IsGeometry n ps ⊎ IsCollection n group ps

-- what `arcs` is, by the form
abbrev pub AreArcs : Form → Node → Type 0
AreArcs form.Polygon n = AreLists n
AreArcs form.MultiPolygon n = AreListsOfLists n
AreArcs form.Null n = Unit {0}

rings_here : (f : Form) (k : ℕ) (n : Node) → NestsAtMost k n → are_rings f n ≡ true → AreArcs f n
rings_here form.Polygon k n nests h = lists_here k n nests h
rings_here form.MultiPolygon k n nests h = lists_of_lists_here k n nests h
rings_here form.Null k n nests h = tt

rings_mean : (j : ℕ) (f : Form) (es : List EntryNode) (p : Piece) → AllNest j es → with_rings f es ≡ Ok p → (a : Node) × (value_at word.Arcs es ≡ Some a) × AreArcs f a × (leaf f (head owner.Rings es) a ≡ p)
rings_mean j f es p all h =
    step (member_that (are_rings f) (codes "arcs") word.Arcs es) _ h λ m found last.
    let (there, right) = good_member (are_rings f) (codes "arcs") word.Arcs es m found in
    let at_arcs = value_of_member word.Arcs es m there in
    (m.value, at_arcs, rings_here f j m.value (value_nests j word.Arcs es m.value all at_arcs) right, same_ok last)

single_means : (j : ℕ) (n : Node) (es : List EntryNode) (g : Geometry) (m : EntryNode) (p : Piece) → AllNest j es → HasEntries n es → IsOfType es g → single g m n es ≡ Ok p → IsGeometry n (p ∷ [])
single_means j n es geo.Null m p all o (null_type {v = v} at_type e) h = rw (← same_ok h) (null_geometry o at_type e)
single_means j n es geo.Polygon m p all o (polygon_type t) h =
    let (a, at_arcs, right, same) = rings_mean j form.Polygon es p all h in
    rw (← same) (polygon o t at_arcs right)
single_means j n es geo.MultiPolygon m p all o (multi_polygon_type t) h =
    let (a, at_arcs, right, same) = rings_mean j form.MultiPolygon es p all h in
    rw (← same) (multi_polygon o t at_arcs right)
single_means j n es geo.Point m p all o (point_type t) h = rw (← same_ok h) (point o t)
single_means j n es geo.Point m p all o (multi_point_type t) h = rw (← same_ok h) (multi_point o t)
single_means j n es geo.Collection m p all o (collection_type t) h = absurd cc
single_means j n es geo.Topology m p all o (topology_type t) h = absurd cc
single_means j n es geo.Other m p all o other_type h = absurd cc

collection_named : (es : List EntryNode) (g : Geometry) → is_collection g ≡ true → IsOfType es g → HasType es (codes "GeometryCollection")
collection_named es geo.Collection c (collection_type t) = t
collection_named es geo.Null c (null_type a e) = absurd cc
collection_named es geo.Polygon c (polygon_type t) = absurd cc
collection_named es geo.MultiPolygon c (multi_polygon_type t) = absurd cc
collection_named es geo.Point c (point_type t) = absurd cc
collection_named es geo.Point c (multi_point_type t) = absurd cc
collection_named es geo.Topology c (topology_type t) = absurd cc
collection_named es geo.Other c other_type = absurd cc

branch_means : (j : ℕ) (n : Node) (es : List EntryNode) (g : Geometry) (m : EntryNode) (group : List EntryNode → EntryNode → Result (List Piece) Fault) (ps : List Piece) (b : Bool) → AllNest j es → is_collection g ≡ b → HasEntries n es → IsOfType es g → (if b then (list_of es >>= group es) else (single g m n es >>= λ p. Ok (p ∷ []))) ≡ Ok ps → Shaped n group ps
branch_means j n es g m group ps true all c o t h =
    step (list_of es) (group es) h λ list found last.
    let (there, right) = good_member is_list (codes "geometries") word.Geometries es list found in
    inr (record { entries = es; list = list; object = o; named = collection_named es g c t; has_list = value_of_member word.Geometries es list there; is_one = right; pieces = last })
branch_means j n es g m group ps false all c o t h =
    step (single g m n es) (λ q. Ok (q ∷ [])) h λ p is last.
    inl (rw (← same_ok last) (single_means j n es g m p all o t is))

shaped_means : (k : ℕ) (n : Node) (group : List EntryNode → EntryNode → Result (List Piece) Fault) (ps : List Piece) → NestsAtMost k n → is_object n ≡ true → shaped n group ≡ Ok ps → Shaped n group ps
shaped_means k n group ps nests object h =
    step (members_of n) _ h λ es entered more.
    step (type_of es) _ more λ g is last.
    let o = object_means k n es nests object entered in
    let (j, less, all) = object_nests k n es nests o in
    branch_means j n es g.0 g.1 group ps (is_collection g.0) all refl o (type_means j es g.0 g.1 all is) last

-- whatever pieces the walk answers for a value, as far as it goes down, it is a geometry with these
abbrev Answers : ℕ → Type 0
Answers d = (k : ℕ) (n : Node) (ps : List Piece) → NestsAtMost k n → is_object n ≡ true → geometry d n ≡ Ok ps → IsGeometry n ps

joined_mean : (d k : ℕ) (list : EntryNode) → Answers d → (ns : List Node) (ps : List Piece) → AllByRecursion (NestsAtMost k) ns → each_joined (inside list d) ns ≡ Ok ps → AreGeometries ns ps
joined_mean d k list means [] ps nests h = rw (← same_ok h) no_geometry
joined_mean d k list means (n ∷ ns) ps nests h =
    step (inside list d n) _ h λ xs first more.
    let (object, one) = demanded (is_object n) (wrong list) (geometry d n) first in
    step (each_joined (inside list d) ns) _ more λ ys others last.
    rw (← same_ok last) (shape.geometry (means k n xs nests.0 object one) (joined_mean d k list means ns ys nests.1 others))

abbrev group : ℕ → List EntryNode → EntryNode → Result (List Piece) Fault
group d es list = each_joined (inside list d) (items list.value) >>= λ ps. Ok (starts (head owner.Collection es) ∷ ps ++ ends ∷ [])

flat : (n : Node) (f : Fault) (ps : List Piece) → Shaped n (λ es list. Err f) ps → IsGeometry n ps
flat n f ps (inl g) = g
flat n f ps (inr c) = let no : Err f ≡ Ok ps = c.pieces in absurd cc

deeper : (d k : ℕ) → Answers d → (n : Node) (ps : List Piece) → NestsAtMost k n → Shaped n (group d) ps → IsGeometry n ps
deeper d k means n ps nests (inl g) = g
deeper d k means n ps nests (inr c) =
    step (each_joined (inside c.list d) (items c.list.value)) (λ rs. Ok (starts (head owner.Collection c.entries) ∷ rs ++ ends ∷ [])) c.pieces λ qs inner last.
    let (j, less, values) = object_nests k n c.entries nests c.object in
    let list = value_nests j word.Geometries c.entries c.list.value values c.has_list in
    let listed = list_here j c.list.value list c.is_one in
    let (i, fewer, all) = list_nests j c.list.value list listed in
    rw (← same_ok last) (collection c.object c.named c.has_list listed (joined_mean d i c.list means (items c.list.value) qs all inner))

pub geometry_means : (d : ℕ) → Answers d
unfolding geometry
geometry_means zero k n ps nests object h = flat n (too_deep n.at_byte) ps (shaped_means k n (λ es list. Err (too_deep n.at_byte)) ps nests object h)
geometry_means (suc d) k n ps nests object h = deeper d k (geometry_means d) n ps nests (shaped_means k n (group d) ps nests object h)

-- ---- what is answered for a geometry

pub geometry_is_object : {n : Node} {ps : List Piece} → IsGeometry n ps → is_object n ≡ true
geometry_is_object (null_geometry o a e) = is_an_object o.object
geometry_is_object (point o t) = is_an_object o.object
geometry_is_object (multi_point o t) = is_an_object o.object
geometry_is_object (polygon o t a r) = is_an_object o.object
geometry_is_object (multi_polygon o t a r) = is_an_object o.object
geometry_is_object (collection o t a r gs) = is_an_object o.object

shaped_single : (d : ℕ) (n : Node) (es : List EntryNode) (g : Geometry) (m : EntryNode) (p : Piece) → members_of n ≡ Ok es → type_of es ≡ Ok (g, m) → is_collection g ≡ false → single g m n es ≡ Ok p → geometry d n ≡ Ok (p ∷ [])
unfolding geometry
shaped_single zero n es g m p entered is c h = rw (entered, is, c, h) refl
shaped_single (suc d) n es g m p entered is c h = rw (entered, is, c, h) refl

shaped_group : (d : ℕ) (n : Node) (es : List EntryNode) (m list : EntryNode) (ps : List Piece) → members_of n ≡ Ok es → type_of es ≡ Ok (geo.Collection, m) → list_of es ≡ Ok list → each_joined (inside list d) (items list.value) ≡ Ok ps → geometry (suc d) n ≡ Ok (starts (head owner.Collection es) ∷ ps ++ ends ∷ [])
unfolding geometry
shaped_group d n es m list ps entered is found h = rw (entered, is, found, h) refl

named_single : {n : Node} {es : List EntryNode} (t : List ℕ) (d : ℕ) (p : Piece) → HasEntries n es → HasType es t → is_collection (geometry_of t) ≡ false → ((m : EntryNode) → single (geometry_of t) m n es ≡ Ok p) → geometry d n ≡ Ok (p ∷ [])
named_single {n = n} {es = es} t d p o h c gives =
    let (m, is) = type_gives es t h in
    shaped_single d n es (geometry_of t) m p (object_gives o) is c (gives m)

rings_at : (f : Form) (es : List EntryNode) (m : EntryNode) → member_that (are_rings f) (codes "arcs") word.Arcs es ≡ Ok m → with_rings f es ≡ Ok (leaf f (head owner.Rings es) m.value)
rings_at f es m found = rw found refl

rings_give : (f : Form) (es : List EntryNode) (a : Node) → value_at word.Arcs es ≡ Some a → are_rings f a ≡ true → with_rings f es ≡ Ok (leaf f (head owner.Rings es) a)
rings_give f es a at_arcs right =
    let (m, found, same) = member_at word.Arcs es a at_arcs in
    subst (λ (v : Node). with_rings f es ≡ Ok (leaf f (head owner.Rings es) v)) same (rings_at f es m (member_is_good (are_rings f) (codes "arcs") word.Arcs es m found (rw same right)))

named_group : {n list : Node} {es : List EntryNode} (d : ℕ) (ps : List Piece) → HasEntries n es → HasType es (codes "GeometryCollection") → value_at word.Geometries es ≡ Some list → is_list list ≡ true → ((m : EntryNode) → each_joined (inside m d) (items list) ≡ Ok ps) → geometry (suc d) n ≡ Ok (starts (head owner.Collection es) ∷ ps ++ ends ∷ [])
unfolding geometry_of
named_group {n = n} {list = list} {es = es} d ps o t at_list right gives =
    let (m, is) = type_gives es (codes "GeometryCollection") t in
    let (k, found, same) = member_at word.Geometries es list at_list in
    shaped_group d n es m k ps (object_gives o) is (member_is_good is_list (codes "geometries") word.Geometries es k found (rw same right)) (rw same (gives k))

-- the items of a collection's list have two levels less
two_less : (k d : ℕ) (n list : Node) (es : List EntryNode) (ns : List Node) → NestsAtMost k n → k ≤ d → HasEntries n es → value_at word.Geometries es ≡ Some list → IsListOf list ns → (j e : ℕ) × (d ≡ suc e) × (j ≤ e) × AllByRecursion (NestsAtMost j) ns
two_less k zero n list es ns nests le o at_list is_one =
    let (i, less, values) = object_nests k n es nests o in
    absurd (omega arith)
two_less k (suc e) n list es ns nests le o at_list is_one =
    let (i, less, values) = object_nests k n es nests o in
    let (j, lesser, all) = list_nests i list (value_nests i word.Geometries es list values at_list) is_one in
    (j, e, refl, omega arith, all)

mutual
  unfolding geometry_of

  pub geometry_gives : {n : Node} {ps : List Piece} → IsGeometry n ps → (k d : ℕ) → NestsAtMost k n → k ≤ d → geometry d n ≡ Ok ps
  geometry_gives (null_geometry {n = n} {value = v} {es = es} o a e) k d nests le =
      let (m, is) = null_gives es v a e in
      shaped_single d n es geo.Null m _ (object_gives o) is refl refl
  geometry_gives (point o t) k d nests le = named_single (codes "Point") d _ o t refl (λ m. refl)
  geometry_gives (multi_point o t) k d nests le = named_single (codes "MultiPoint") d _ o t refl (λ m. refl)
  geometry_gives (polygon {arcs = arcs} {es = es} o t a r) k d nests le = named_single (codes "Polygon") d _ o t refl (λ m. rings_give form.Polygon es arcs a (are_lists_tested arcs r))
  geometry_gives (multi_polygon {arcs = arcs} {es = es} o t a r) k d nests le = named_single (codes "MultiPolygon") d _ o t refl (λ m. rings_give form.MultiPolygon es arcs a (are_lists_of_lists_tested arcs r))
  geometry_gives (collection {n = n} {list = list} {es = es} {items = ns} {ps = ps} o t a r gs) k d nests le =
      let (j, e, deep, less, all) = two_less k d n list es ns nests le o a r in
      rw deep (named_group e ps o t a (is_a_list r) (λ m. subst (λ ms. each_joined (inside m e) ms ≡ Ok ps) (items_told r) (geometries_give gs j e all less m)))

  geometries_give : {ns : List Node} {ps : List Piece} → AreGeometries ns ps → (k d : ℕ) → AllByRecursion (NestsAtMost k) ns → k ≤ d → (m : EntryNode) → each_joined (inside m d) ns ≡ Ok ps
  geometries_give no_geometry k d all le m = refl
  geometries_give (shape.geometry g gs) k d all le m = rw (geometry_is_object g, geometry_gives g k d all.0 le, geometries_give gs k d all.1 le m) refl
