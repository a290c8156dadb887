-- Members by their names, and what the member `type` says.
use Rattle.kit_words.proofs.Common.{◌≡◌, ◌||◌, if◌then◌else◌, List, ℕ, Bool, true, false, refl, ap, codes, Ok, Option}
use Rattle.kit_words.proofs.Common.{Some, None, option_map, bytes_eq-Decides}
use Rattle.json_spans.specs.Common.{Node, IsText, IsNull, kind_of, decoded}
use Rattle.json_spans.specs.declared.kinds.Kind.{Kind}
use Rattle.json_spans.specs.declared.kinds.Kind.TheVariants as kind
use Rattle.json_spans.proofs.Common.{text_told, null_told, text_kind, null_kind}
use Rattle.topo_outline.specs.Common.{Word, Geometry, geometry_of, EntryNode, member, there, wrong, member_that}
use Rattle.topo_outline.specs.Common.{text_from, type_text, type_of, value_at, HasType, NestsAtMost}
use Rattle.topo_outline.specs.declared.words.Word.TheVariants as word
use Rattle.topo_outline.specs.declared.words.Geometry.TheVariants as geo
use Rattle.topo_outline.proofs.Steps.{step, demanded, same_ok}
use Rattle.topo_outline.proofs.Levels.{AllNest, value_nests}
use Rattle.topo_outline.proofs.Entering.{text_is}

-- ---- members

value_in : (o : Option EntryNode) (v : Node) → option_map (λ m. m.value) o ≡ Some v → (m : EntryNode) × (o ≡ Some m) × (m.value ≡ v)
value_in None v h = absurd cc
value_in (Some m) v h = let same : m.value ≡ v = cc in (m, refl, same)

pub member_at : (w : Word) (es : List EntryNode) (v : Node) → value_at w es ≡ Some v → (m : EntryNode) × (member w es ≡ Some m) × (m.value ≡ v)
member_at w es v h = value_in (member w es) v h

is_there : (expected : List ℕ) (o : Option EntryNode) {m : EntryNode} → there expected o ≡ Ok m → o ≡ Some m
is_there expected None h = absurd cc
is_there expected (Some k) h = cc

pub good_member : (good : Node → Bool) (expected : List ℕ) (w : Word) (es : List EntryNode) (m : EntryNode) → member_that good expected w es ≡ Ok m → (member w es ≡ Some m) × (good m.value ≡ true)
good_member good expected w es m h =
    step (there expected (member w es)) _ h λ k found tested.
    let (right, last) = demanded (good k.value) (wrong k) (Ok k) tested in
    let same : k ≡ m = same_ok last in
    rw (← same) (is_there expected (member w es) found, right)

pub value_of_member : (w : Word) (es : List EntryNode) (m : EntryNode) → member w es ≡ Some m → value_at w es ≡ Some m.value
value_of_member w es m found = rw found refl

pub member_is_good : (good : Node → Bool) (expected : List ℕ) (w : Word) (es : List EntryNode) (m : EntryNode) → member w es ≡ Some m → good m.value ≡ true → member_that good expected w es ≡ Ok m
member_is_good good expected w es m found right = rw (found, right) refl

-- ---- what a text says

-- the text is the name of a kind of geometry, or none that is known
pub data Says (t : List ℕ) : Geometry → Type 0 where
  polygon : t ≡ codes "Polygon" → Says t geo.Polygon
  multi_polygon : t ≡ codes "MultiPolygon" → Says t geo.MultiPolygon
  collection : t ≡ codes "GeometryCollection" → Says t geo.Collection
  point : t ≡ codes "Point" → Says t geo.Point
  multi_point : t ≡ codes "MultiPoint" → Says t geo.Point
  topology : t ≡ codes "Topology" → Says t geo.Topology
  other : Says t geo.Other

by_test : (P : Geometry → Type 0) (b : Bool) (g h : Geometry) → (b ≡ true → P g) → P h → P (if b then g else h)
by_test P true g h k l = k refl
by_test P false g h k l = l

one_of : (a b : Bool) → (a || b) ≡ true → (P : Type 0) → (a ≡ true → P) → (b ≡ true → P) → P
one_of true b h P k l = k refl
one_of false b h P k l = l h

pub says : (t : List ℕ) → Says t (geometry_of t)
unfolding geometry_of
says t =
    by_test (Says t) _ _ _ (λ e. polygon ((bytes_eq-Decides t _).0 e))
    (by_test (Says t) _ _ _ (λ e. multi_polygon ((bytes_eq-Decides t _).0 e))
    (by_test (Says t) _ _ _ (λ e. collection ((bytes_eq-Decides t _).0 e))
    (by_test (Says t) _ _ _ (λ e. one_of _ _ e _ (λ f. point ((bytes_eq-Decides t _).0 f)) (λ f. multi_point ((bytes_eq-Decides t _).0 f)))
    (by_test (Says t) _ _ _ (λ e. topology ((bytes_eq-Decides t _).0 e)) other))))

-- ---- the member `type`

-- what the member `type` says of an object with these members
pub data IsOfType (es : List EntryNode) : Geometry → Type 0 where
  null_type : {v : Node} → value_at word.Type es ≡ Some v → IsNull v.bytes → IsOfType es geo.Null
  polygon_type : HasType es (codes "Polygon") → IsOfType es geo.Polygon
  multi_polygon_type : HasType es (codes "MultiPolygon") → IsOfType es geo.MultiPolygon
  collection_type : HasType es (codes "GeometryCollection") → IsOfType es geo.Collection
  point_type : HasType es (codes "Point") → IsOfType es geo.Point
  multi_point_type : HasType es (codes "MultiPoint") → IsOfType es geo.Point
  topology_type : HasType es (codes "Topology") → IsOfType es geo.Topology
  other_type : IsOfType es geo.Other

typed : (es : List EntryNode) (v : Node) (t : List ℕ) (g : Geometry) → value_at word.Type es ≡ Some v → IsText v.bytes → decoded v.bytes ≡ Some t → Says t g → IsOfType es g
typed es v t g m k d (polygon e) = polygon_type (record { value = v; there = m; string = k; says = rw e at d })
typed es v t g m k d (multi_polygon e) = multi_polygon_type (record { value = v; there = m; string = k; says = rw e at d })
typed es v t g m k d (collection e) = collection_type (record { value = v; there = m; string = k; says = rw e at d })
typed es v t g m k d (point e) = point_type (record { value = v; there = m; string = k; says = rw e at d })
typed es v t g m k d (multi_point e) = multi_point_type (record { value = v; there = m; string = k; says = rw e at d })
typed es v t g m k d (topology e) = topology_type (record { value = v; there = m; string = k; says = rw e at d })
typed es v t g m k d other = other_type

typed_text : (j : ℕ) (es : List EntryNode) (m : EntryNode) (g : Geometry) (k : Kind) → NestsAtMost j m.value → member word.Type es ≡ Some m → kind_of m.value.bytes ≡ k → type_text m k ≡ Ok g → IsOfType es g
typed_text j es m g kind.Null nests found e h =
    let same : geo.Null ≡ g = same_ok h in
    rw (← same) (null_type {v = m.value} (rw found refl) (null_told nests e))
typed_text j es m g kind.Text nests found e h =
    step (text_from (wrong m) (decoded m.value.bytes)) _ h λ t says_it last.
    let same : geometry_of t ≡ g = same_ok last in
    rw (← same) (typed es m.value t (geometry_of t) (rw found refl) (text_told nests e) (text_is _ _ says_it) (says t))
typed_text j es m g _ nests found e h = absurd cc

pub type_means : (j : ℕ) (es : List EntryNode) (g : Geometry) (m : EntryNode) → AllNest j es → type_of es ≡ Ok (g, m) → IsOfType es g
type_means j es g m all h =
    step (there (codes "type") (member word.Type es)) _ h λ k found read.
    step (type_text k (kind_of k.value.bytes)) _ read λ f said last.
    let at_type = is_there _ _ found in
    let same : (f, k) ≡ (g, m) = same_ok last in
    rw (← ap (λ (p : Geometry × EntryNode). p.0) same) (typed_text j es k f (kind_of k.value.bytes) (value_nests j word.Type es k.value all (value_of_member word.Type es k at_type)) at_type refl said)

type_at : (es : List EntryNode) (m : EntryNode) (t : List ℕ) → member word.Type es ≡ Some m → kind_of m.value.bytes ≡ kind.Text → decoded m.value.bytes ≡ Some t → type_of es ≡ Ok (geometry_of t, m)
type_at es m t found k d = rw (found, k, d) refl

null_at : (es : List EntryNode) (m : EntryNode) → member word.Type es ≡ Some m → kind_of m.value.bytes ≡ kind.Null → type_of es ≡ Ok (geo.Null, m)
null_at es m found k = rw (found, k) refl

pub type_gives : (es : List EntryNode) (t : List ℕ) → HasType es t → (m : EntryNode) × (type_of es ≡ Ok (geometry_of t, m))
type_gives es t h =
    let (m, found, same) = member_at word.Type es h.value h.there in
    (m, type_at es m t found (rw same (text_kind h.string)) (rw same h.says))

pub null_gives : (es : List EntryNode) (v : Node) → value_at word.Type es ≡ Some v → IsNull v.bytes → (m : EntryNode) × (type_of es ≡ Ok (geo.Null, m))
null_gives es v h k =
    let (m, found, same) = member_at word.Type es v h in
    (m, null_at es m found (rw same (null_kind k)))
