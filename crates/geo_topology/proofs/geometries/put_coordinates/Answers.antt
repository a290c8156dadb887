use Rattle.kit_words.proofs.Common.{◌≡◌, List, [], ◌∷◌, ◌++◌, ◌⊎◌, inl, inr, refl, ap, ◌∙◌, append_assoc, codes, map, Result, Ok, Err, OnOk}
use Rattle.json_spans.specs.Common.{Node, node}
use Rattle.geo_topology.specs.declared.words.GeoType.{GeoType}
use Rattle.geo_topology.specs.declared.words.GeoType.TheVariants as geo
use Rattle.geo_topology.specs.Pieces.{TextPiece, words, copied}
use Rattle.geo_topology.specs.Geometries.{coordinates_pieces}
use Rattle.geo_topology.specs.Views.{view_chunk}
use Rattle.geo_topology.proofs.geometries.put_coordinates.Goals as goal

of_points : (g : GeoType) (n : Node) → (g ≡ geo.Point) ⊎ (g ≡ geo.MultiPoint) → words (codes ",\"coordinates\":") ∷ copied n ∷ [] ≡ coordinates_pieces g n
of_points g n (inl e) = rw e refl
of_points g n (inr e) = rw e refl

points_put : {X E : Type 0} (r : Result X E) (old mid new : List TextPiece) (g : GeoType) (n : Node) → (g ≡ geo.Point) ⊎ (g ≡ geo.MultiPoint) → mid ≡ old ++ words (codes ",\"coordinates\":") ∷ [] → OnOk r (new ≡ mid ++ copied n ∷ []) → OnOk r (new ≡ old ++ coordinates_pieces g n)
points_put (Ok x) old mid new g n is first last =
    last ∙ ap (λ (ps : List TextPiece). ps ++ copied n ∷ []) first
    ∙ append_assoc old (words (codes ",\"coordinates\":") ∷ []) (copied n ∷ [])
    ∙ ap (λ (ps : List TextPiece). old ++ ps) (of_points g n is)
points_put (Err e) old mid new g n is first last = tt

pub returns-in_ok-put_words-in-Point : goal.returns-in_ok-put_words-in-Point
returns-in_ok-put_words-in-Point g c = points_put c.put_copy.result (map view_chunk c.args.out.now.items) (map view_chunk c.put_words-in-Point.new.out.items) (map view_chunk c.put_copy.new.out.items) c.args.says (node c.args.value) c.in-Point.is c.in_ok-put_words-in-Point.ensures c.put_copy.ensures
