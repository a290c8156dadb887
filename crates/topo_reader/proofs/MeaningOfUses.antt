-- The arcs that a geometry names are those that the reader gives.
use Rattle.kit_words.proofs.Common.{◌≡◌, ◌<◌, ◌^◌, ℕ, ℤ, pos, negsuc, List, [], ◌∷◌, length, refl, sym, ap, subst}
use Rattle.kit_words.proofs.Common.{arith, Option, Some, None, option_map, slice_get, reverse, Result, Ok, Err}
use Rattle.kit_words.proofs.Common.{AllByRecursion, slice_get_within}
use Rattle.json_spans.specs.Common.{Node, IsListFor, IsList, IsListWith, items, whole_of}
use Rattle.json_spans.specs.declared.number.NotWhole.{NotWhole}
use Rattle.json_spans.specs.declared.number.NotWhole.TheVariants as is_not
use Rattle.json_spans.proofs.Common.{whole_read, whole_meant, items_told}
use Rattle.ring_machine.specs.Common.{Form, Polygon, MultiPolygon, Null}
use Rattle.topo_outline.specs.Common.{Fault, each, AreLists}
use Rattle.topo_outline.proofs.Common.{HasArcs}
use Rattle.topo_reader.specs.Common.{Arc, index_from, index, ring, polygon, polygons, uses_of, IsUse, forward, backward}
use Rattle.topo_reader.specs.Common.{RingUses, PolygonUses, GeometryUses}
use Rattle.topo_reader.specs.Indexes.{there}
use Rattle.topo_reader.proofs.Steps.{bind_ok, ok_same, each_of, of_each}

-- ---- the items of a list

-- what each item stands for is read from each
listed_of : {B : Type 0} (R : Node → B → Type 0) (f : Node → Result B Fault) → ((n : Node) (b : B) → R n b → f n ≡ Ok b) → (n : Node) (bs : List B) → IsListFor R n bs → each f (items n) ≡ Ok bs
listed_of R f one n bs h = subst (λ ns. each f ns ≡ Ok bs) (items_told h.1) (each_of R f one h.0 bs h.2)

-- what is read from each is what it stands for
of_listed : {B : Type 0} (Q : Node → Type 0) (R : Node → B → Type 0) (f : Node → Result B Fault) → ((n : Node) (b : B) → Q n → f n ≡ Ok b → R n b) → (n : Node) (bs : List B) → IsListWith Q n → each f (items n) ≡ Ok bs → IsListFor R n bs
of_listed Q R f one n bs list h = (list.0, list.1, of_each Q R f one list.0 bs list.2 (subst (λ ns. each f ns ≡ Ok bs) (sym (items_told list.1)) h))

-- ---- one index

-- of fewer arcs than 64 bits with a sign hold
abbrev pub AreFew : List Arc → Type 0
AreFew arcs = length arcs < 2 ^ 63

index_of : (arcs : List Arc) → AreFew arcs → (n : Node) (a : Arc) → IsUse arcs n a → index arcs n ≡ Ok a
index_of arcs few n a (forward {i = i} {a = b} is there) = rw (whole_read n.bytes (pos i) is (omega (arith, few, slice_get_within arcs i b there)), there) refl
index_of arcs few n a (backward {i = i} {a = b} is there) = rw (whole_read n.bytes (negsuc i) is (omega (arith, few, slice_get_within arcs i b there)), there) refl

is_there : (place : ℕ) (o : Option Arc) (a : Arc) → there place o ≡ Ok a → o ≡ Some a
is_there place None a h = absurd cc
is_there place (Some b) a h = ap (λ (c : Arc). Some c) (ok_same b a h)

is_reverse : (o : Option Arc) (a : Arc) → option_map reverse o ≡ Some a → (b : Arc) × (o ≡ Some b) × (reverse b ≡ a)
is_reverse None a h = absurd cc
is_reverse (Some b) a h = (b, refl, cc)

is_use : (arcs : List Arc) (n : Node) (a : Arc) → index arcs n ≡ Ok a → IsUse arcs n a
is_use arcs n a h = by (whole_of n.bytes) refl h
  where
    by : (r : Result ℤ NotWhole) → whole_of n.bytes ≡ r → index_from arcs n.at_byte r ≡ Ok a → IsUse arcs n a
    by (Ok (pos i)) e h = forward (whole_meant n.bytes (pos i) e) (is_there n.at_byte (slice_get arcs i) a h)
    by (Ok (negsuc i)) e h =
        let found = is_reverse (slice_get arcs i) a (is_there n.at_byte (option_map reverse (slice_get arcs i)) a h) in
        subst (IsUse arcs n) found.2 (backward (whole_meant n.bytes (negsuc i) e) found.1)
    by (Err is_not.Form) e h = absurd cc
    by (Err is_not.Huge) e h = absurd cc

-- ---- what is meant is read

module _ (arcs : List Arc) (few : AreFew arcs) where
  ring_of : (n : Node) (uses : List Arc) → RingUses arcs n uses → ring arcs n ≡ Ok uses
  unfolding ring
  ring_of n uses h = listed_of (IsUse arcs) (index arcs) (index_of arcs few) n uses h

  polygon_of : (n : Node) (rings : List (List Arc)) → PolygonUses arcs n rings → polygon arcs n ≡ Ok rings
  unfolding polygon
  polygon_of n rings h = listed_of (RingUses arcs) (ring arcs) ring_of n rings h

  polygons_of : (f : Form) (n : Node) (ps : List (List (List Arc))) → GeometryUses arcs (f, n) ps → polygons arcs f n ≡ Ok ps
  unfolding polygons
  polygons_of Null n ps h = rw h refl
  polygons_of Polygon n ps h = rw (polygon_of n h.0 h.1, h.2) refl
  polygons_of MultiPolygon n ps h = listed_of (PolygonUses arcs) (polygon arcs) polygon_of n ps h

  pub uses_are : (g : Form × Node) (ps : List (List (List Arc))) → GeometryUses arcs g ps → uses_of arcs g ≡ Ok ps
  unfolding uses_of
  uses_are g ps h = polygons_of g.0 g.1 ps h

-- ---- what is read is meant

module _ (arcs : List Arc) where
  ring_uses : (n : Node) (uses : List Arc) → IsList n → ring arcs n ≡ Ok uses → RingUses arcs n uses
  unfolding ring
  ring_uses n uses list h = of_listed (λ m. Unit {0}) (IsUse arcs) (index arcs) (λ m a t e. is_use arcs m a e) n uses (list.0, list.1, nothing list.0) h
    where
      nothing : (ns : List Node) → AllByRecursion (λ m. Unit {0}) ns
      nothing [] = tt
      nothing (m ∷ ns) = (tt, nothing ns)

  polygon_uses : (n : Node) (rings : List (List Arc)) → AreLists n → polygon arcs n ≡ Ok rings → PolygonUses arcs n rings
  unfolding polygon
  polygon_uses n rings list h = of_listed IsList (RingUses arcs) (ring arcs) ring_uses n rings list h

  polygons_uses : (f : Form) (n : Node) (ps : List (List (List Arc))) → HasArcs (f, n) → polygons arcs f n ≡ Ok ps → GeometryUses arcs (f, n) ps
  unfolding polygons
  polygons_uses Null n ps list h = sym (ok_same [] ps h)
  polygons_uses Polygon n ps list h =
      let one = bind_ok (polygon arcs n) (λ (p : List (List Arc)). Ok (p ∷ [])) ps h in
      (one.0, polygon_uses n one.0 list one.1, sym (ok_same (one.0 ∷ []) ps one.2))
  polygons_uses MultiPolygon n ps list h = of_listed AreLists (PolygonUses arcs) (polygon arcs) polygon_uses n ps list h

  pub are_uses : (g : Form × Node) (ps : List (List (List Arc))) → HasArcs g → uses_of arcs g ≡ Ok ps → GeometryUses arcs g ps
  unfolding uses_of
  are_uses g ps list h = polygons_uses g.0 g.1 ps list h
