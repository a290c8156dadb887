-- Geometries depth first.
use Rattle.kit_words.proofs.Common.{◌≡◌, ◌≢◌, ℕ, zero, suc, ◌-◌, List, [], ◌∷◌, ◌++◌, refl, ap, append_assoc, sub-one, true}
use Rattle.kit_words.proofs.Common.{false, Result, Ok, Err, codes}
use Rattle.json_spans.specs.Common.{Node, items}
use Rattle.topo_outline.specs.Common.{Fault, too_deep, ◌>>=◌, demand, Fails, is_object}
use Rattle.topo_outline.specs.declared.fault.OpenFault.{OpenFault}
use Rattle.topo_outline.proofs.Walking.{with_front, carry}
use Rattle.geo_topology.specs.declared.words.GeoType.{GeoType}
use Rattle.geo_topology.specs.declared.words.GeoType.TheVariants as geo
use Rattle.geo_topology.specs.Members.{Named, members_once, wrong_member}
use Rattle.geo_topology.specs.Pieces.{TextPiece, words, separated}
use Rattle.geo_topology.specs.Geometries.{typed_value, is_geometry_collection, front_pieces, tail, single_pieces, collection_pieces, geometry_pieces}

abbrev pub within : Named → ℕ → Node → Result (List TextPiece) Fault
within list d part = demand (is_object part) (wrong_member list) (geometry_pieces d [] part)

abbrev pub enclosed : List Named → List Named → Result (List TextPiece) Fault → Result (List TextPiece) Fault
enclosed feature ms r = r >>= λ ps. Ok (collection_pieces feature ms ps)

pub names_fail : (o : OpenFault) (d : ℕ) (feature : List Named) (n : Node) → Fails o (members_once n) → Fails o (geometry_pieces d feature n)
unfolding geometry_pieces
names_fail o zero feature n h = carry o (members_once n) _ (λ f e. rw e refl) h
names_fail o (suc d) feature n h = carry o (members_once n) _ (λ f e. rw e refl) h

pub typed_fails : (o : OpenFault) (d : ℕ) (feature : List Named) (n : Node) (ms : List Named) → members_once n ≡ Ok ms → Fails o (typed_value ms) → Fails o (geometry_pieces d feature n)
unfolding geometry_pieces
typed_fails o zero feature n ms m h = carry o (typed_value ms) _ (λ f e. rw (m, e) refl) h
typed_fails o (suc d) feature n ms m h = carry o (typed_value ms) _ (λ f e. rw (m, e) refl) h

module _ (d : ℕ) (feature : List Named) (n : Node) (ms : List Named) (g : GeoType) (v : Named) (m : members_once n ≡ Ok ms) (k : typed_value ms ≡ Ok (g, v)) where
  pub single_gives : (old new : List TextPiece) → is_geometry_collection g ≡ false → new ≡ old ++ single_pieces g v.value feature ms → with_front old (geometry_pieces d feature n) ≡ Ok new
  unfolding geometry_pieces
  single_gives old new c e = by_depth d
    where
      by_depth : (d' : ℕ) → with_front old (geometry_pieces d' feature n) ≡ Ok new
      by_depth zero = rw (m, k, c, e) refl
      by_depth (suc d') = rw (m, k, c, e) refl

  pub deep : is_geometry_collection g ≡ true → d ≡ 0 → geometry_pieces d feature n ≡ Err (too_deep n.at_byte)
  unfolding geometry_pieces
  deep c z = rw (z, m, k, c) refl

  -- a collection is what stands in it, enclosed
  pub collection : is_geometry_collection g ≡ true → d ≢ 0 → geometry_pieces d feature n ≡ enclosed feature ms (separated (within v (d - 1)) true (items v.value))
  unfolding geometry_pieces
  collection c z = by_depth d z
    where
      by_depth : (d' : ℕ) → d' ≢ 0 → geometry_pieces d' feature n ≡ enclosed feature ms (separated (within v (d' - 1)) true (items v.value))
      by_depth zero z' = absurd (z' refl)
      by_depth (suc d') z' = let back : suc d' - 1 ≡ d' = sub-one (suc d') in rw (m, k, c, back) refl

  pub collection_fails : (o : OpenFault) → is_geometry_collection g ≡ true → d ≢ 0 → Fails o (separated (within v (d - 1)) true (items v.value)) → Fails o (geometry_pieces d feature n)
  collection_fails o c z h = rw (collection c z) (carry o (separated (within v (d - 1)) true (items v.value)) (enclosed feature ms (separated (within v (d - 1)) true (items v.value))) (λ f e. rw e refl) h)

pub enclosed_gives : (feature ms : List Named) (r : Result (List TextPiece) Fault) (first start done new : List TextPiece) → start ≡ first ++ (front_pieces geo.GeometryCollection feature ++ words (codes ",\"geometries\":[") ∷ []) → with_front start r ≡ Ok done → new ≡ done ++ words (codes "]") ∷ tail feature ms → with_front first (enclosed feature ms r) ≡ Ok new
enclosed_gives feature ms (Ok xs) first start done new s e d =
    let same : start ++ xs ≡ done = cc in
    rw (d, ← same, s) (ap (λ (zs : List TextPiece). Ok zs) (simp append_assoc))
enclosed_gives feature ms (Err f) first start done new s e d = absurd cc
