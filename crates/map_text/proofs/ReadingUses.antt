-- The written indexes of a feature's rings are read as uses of the arcs that they name.
use Rattle.kit_words.proofs.Common.{◌≡◌, ◌<◌, ◌^◌, List, [], ◌∷◌, map, refl, sym, subst, arith, ℤ, unsigned_abs}
use Rattle.kit_words.proofs.Common.{AllByRecursion, AllZip, signed_decimal}
use Rattle.ring_machine.specs.Common.{Text, Form, Polygon, MultiPolygon, Null}
use Rattle.json_spans.specs.Common.{Node, IsList, IsWhole}
use Rattle.topo_outline.specs.Common.{AreLists, AreListsOfLists, IsJson, IfThere}
use Rattle.topo_reader.specs.Common.{Arc, IsUse, RingUses, PolygonUses, GeometryUses}
use Rattle.map_text.specs.Common.{list_text, ring_text, polygon_text, shape_text}
use Rattle.map_text.proofs.GrammarLists.{bytes_of, HasTexts, has_texts, list_is_json}
use Rattle.map_text.proofs.GrammarNumbers.{whole_is_json, whole_written}
use Rattle.map_text.proofs.Indexed.{Names, is_use}
use Rattle.map_text.proofs.ReadingLists.{first_same, rest_same}

-- ---- lists of which each element goes with one of another list

zipped_with : {A B : Type 0} (Q : A → B → Type 0) (R : Node → B → Type 0) (f : A → Text) (ns : List Node) (xs : List A) (ys : List B) → ((n : Node) (x : A) (y : B) → Q x y → n.bytes ≡ f x → R n y) → map bytes_of ns ≡ map f xs → AllZip Q xs ys → AllZip R ns ys
zipped_with Q R f [] [] [] h e q = tt
zipped_with Q R f [] [] (y ∷ ys) h e q = absurd q
zipped_with Q R f [] (x ∷ xs) ys h e q = absurd cc
zipped_with Q R f (n ∷ ns) [] ys h e q = absurd cc
zipped_with Q R f (n ∷ ns) (x ∷ xs) [] h e q = absurd q
zipped_with Q R f (n ∷ ns) (x ∷ xs) (y ∷ ys) h e q =
    (h n x y q.0 (first_same n.bytes (f x) (map bytes_of ns) (map f xs) e), zipped_with Q R f ns xs ys h (rest_same n.bytes (f x) (map bytes_of ns) (map f xs) e) q.1)

all_json : {A B : Type 0} (Q : A → B → Type 0) (f : A → Text) (xs : List A) (ys : List B) → ((x : A) (y : B) → Q x y → IsJson (f x)) → AllZip Q xs ys → AllByRecursion IsJson (map f xs)
all_json Q f [] [] h q = tt
all_json Q f [] (y ∷ ys) h q = absurd q
all_json Q f (x ∷ xs) [] h q = absurd q
all_json Q f (x ∷ xs) (y ∷ ys) h q = (h x y q.0, all_json Q f xs ys h q.1)

all_with : {A B : Type 0} (Q : A → B → Type 0) (P : Node → Type 0) (f : A → Text) (ns : List Node) (xs : List A) (ys : List B) → ((n : Node) (x : A) (y : B) → Q x y → n.bytes ≡ f x → P n) → map bytes_of ns ≡ map f xs → AllZip Q xs ys → AllByRecursion P ns
all_with Q P f [] xs ys h e q = tt
all_with Q P f (n ∷ ns) [] ys h e q = absurd cc
all_with Q P f (n ∷ ns) (x ∷ xs) [] h e q = absurd q
all_with Q P f (n ∷ ns) (x ∷ xs) (y ∷ ys) h e q =
    (h n x y q.0 (first_same n.bytes (f x) (map bytes_of ns) (map f xs) e), all_with Q P f ns xs ys h (rest_same n.bytes (f x) (map bytes_of ns) (map f xs) e) q.1)

-- ---- indexes

-- the index is one that 64 bits with a sign hold, and names the arc
abbrev pub IsIndex : List Arc → ℤ → Arc → Type 0
IsIndex arcs z a = (unsigned_abs z < 2 ^ 63) × Names arcs z a

abbrev pub RingIndexes : List Arc → List ℤ → List Arc → Type 0
RingIndexes arcs zs uses = AllZip (IsIndex arcs) zs uses

abbrev pub PolygonIndexes : List Arc → List (List ℤ) → List (List Arc) → Type 0
PolygonIndexes arcs rings uses = AllZip (RingIndexes arcs) rings uses

abbrev pub ShapeIndexes : List Arc → List (List (List ℤ)) → List (List (List Arc)) → Type 0
ShapeIndexes arcs polygons uses = AllZip (PolygonIndexes arcs) polygons uses

index_json : (arcs : List Arc) (z : ℤ) (a : Arc) → IsIndex arcs z a → IsJson (signed_decimal z)
index_json arcs z a h = whole_is_json z (omega (arith, h.0))

ring_json : (arcs : List Arc) (zs : List ℤ) (uses : List Arc) → RingIndexes arcs zs uses → IsJson (ring_text zs)
ring_json arcs zs uses h = list_is_json (map signed_decimal zs) (all_json (IsIndex arcs) signed_decimal zs uses (index_json arcs) h)

polygon_json : (arcs : List Arc) (rings : List (List ℤ)) (uses : List (List Arc)) → PolygonIndexes arcs rings uses → IsJson (polygon_text rings)
polygon_json arcs rings uses h = list_is_json (map ring_text rings) (all_json (RingIndexes arcs) ring_text rings uses (ring_json arcs) h)

polygons_json : (arcs : List Arc) (ps : List (List (List ℤ))) (uses : List (List (List Arc))) → ShapeIndexes arcs ps uses → IsJson (list_text (map polygon_text ps))
polygons_json arcs ps uses h = list_is_json (map polygon_text ps) (all_json (PolygonIndexes arcs) polygon_text ps uses (polygon_json arcs) h)

-- ---- uses

read_use : (arcs : List Arc) (n : Node) (z : ℤ) (a : Arc) → IsIndex arcs z a → n.bytes ≡ signed_decimal z → IsUse arcs n a
read_use arcs n z a h e = is_use arcs n z a (subst (λ bytes. IsWhole bytes z) (sym e) (whole_written z h.0)) h.1

ring_texts : (arcs : List Arc) (n : Node) (zs : List ℤ) (uses : List Arc) → RingIndexes arcs zs uses → n.bytes ≡ ring_text zs → HasTexts n (map signed_decimal zs)
ring_texts arcs n zs uses h e = has_texts n (map signed_decimal zs) e (all_json (IsIndex arcs) signed_decimal zs uses (index_json arcs) h)

ring_uses : (arcs : List Arc) (n : Node) (zs : List ℤ) (uses : List Arc) → RingIndexes arcs zs uses → n.bytes ≡ ring_text zs → RingUses arcs n uses
ring_uses arcs n zs uses h e =
    let found = ring_texts arcs n zs uses h e in
    (found.nodes, found.list, zipped_with (IsIndex arcs) (IsUse arcs) signed_decimal found.nodes zs uses (read_use arcs) found.are h)

polygon_texts : (arcs : List Arc) (n : Node) (rings : List (List ℤ)) (uses : List (List Arc)) → PolygonIndexes arcs rings uses → n.bytes ≡ polygon_text rings → HasTexts n (map ring_text rings)
polygon_texts arcs n rings uses h e = has_texts n (map ring_text rings) e (all_json (RingIndexes arcs) ring_text rings uses (ring_json arcs) h)

polygon_uses : (arcs : List Arc) (n : Node) (rings : List (List ℤ)) (uses : List (List Arc)) → PolygonIndexes arcs rings uses → n.bytes ≡ polygon_text rings → PolygonUses arcs n uses
polygon_uses arcs n rings uses h e =
    let found = polygon_texts arcs n rings uses h e in
    (found.nodes, found.list, zipped_with (RingIndexes arcs) (RingUses arcs) ring_text found.nodes rings uses (ring_uses arcs) found.are h)

shape_texts : (arcs : List Arc) (n : Node) (ps : List (List (List ℤ))) (uses : List (List (List Arc))) → ShapeIndexes arcs ps uses → n.bytes ≡ list_text (map polygon_text ps) → HasTexts n (map polygon_text ps)
shape_texts arcs n ps uses h e = has_texts n (map polygon_text ps) e (all_json (PolygonIndexes arcs) polygon_text ps uses (polygon_json arcs) h)

-- ---- lists in lists

ring_list : (arcs : List Arc) (n : Node) (zs : List ℤ) (uses : List Arc) → RingIndexes arcs zs uses → n.bytes ≡ ring_text zs → IsList n
ring_list arcs n zs uses h e = let found = ring_texts arcs n zs uses h e in (found.nodes, found.list)

pub polygon_lists : (arcs : List Arc) (n : Node) (rings : List (List ℤ)) (uses : List (List Arc)) → PolygonIndexes arcs rings uses → n.bytes ≡ polygon_text rings → AreLists n
polygon_lists arcs n rings uses h e =
    let found = polygon_texts arcs n rings uses h e in
    (found.nodes, found.list, all_with (RingIndexes arcs) IsList ring_text found.nodes rings uses (ring_list arcs) found.are h)

pub shape_lists : (arcs : List Arc) (n : Node) (ps : List (List (List ℤ))) (uses : List (List (List Arc))) → ShapeIndexes arcs ps uses → n.bytes ≡ list_text (map polygon_text ps) → AreListsOfLists n
shape_lists arcs n ps uses h e =
    let found = shape_texts arcs n ps uses h e in
    (found.nodes, found.list, all_with (PolygonIndexes arcs) AreLists polygon_text found.nodes ps uses (polygon_lists arcs) found.are h)

-- ---- the arcs of a geometry, by its form

-- as many polygons as the form has
pub data Fits : Form → List (List (List ℤ)) → Type 0 where
  one : {p : List (List ℤ)} → Fits Polygon (p ∷ [])
  several : {ps : List (List (List ℤ))} → Fits MultiPolygon ps
  nothing : Fits Null []

pub shape_json : (arcs : List Arc) {form : Form} {ps : List (List (List ℤ))} (uses : List (List (List Arc))) → Fits form ps → ShapeIndexes arcs ps uses → IfThere IsJson (shape_text form ps)
shape_json arcs [] one h = absurd h
shape_json arcs (u ∷ us) (one {p = p}) h = polygon_json arcs p u h.0
shape_json arcs uses (several {ps = ps}) h = polygons_json arcs ps uses h
shape_json arcs uses nothing h = tt

-- the node is the value of `arcs`, where there is one
abbrev pub IsShape : Form → List (List (List ℤ)) → Node → Type 0
IsShape form ps n = IfThere (λ t. n.bytes ≡ t) (shape_text form ps)

pub geometry_uses : (arcs : List Arc) {form : Form} {ps : List (List (List ℤ))} (n : Node) (uses : List (List (List Arc))) → Fits form ps → ShapeIndexes arcs ps uses → IsShape form ps n → GeometryUses arcs (form, n) uses
geometry_uses arcs n [] one h e = absurd h
geometry_uses arcs n (u ∷ []) (one {p = p}) h e = (u, polygon_uses arcs n p u h.0 e, refl)
geometry_uses arcs n (u ∷ v ∷ us) one h e = absurd h.1
geometry_uses arcs n uses (several {ps = ps}) h e =
    let found = shape_texts arcs n ps uses h e in
    (found.nodes, found.list, zipped_with (PolygonIndexes arcs) (PolygonUses arcs) polygon_text found.nodes ps uses (polygon_uses arcs) found.are h)
geometry_uses arcs n [] nothing h e = refl
geometry_uses arcs n (u ∷ us) nothing h e = absurd h
