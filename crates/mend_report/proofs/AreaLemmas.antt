-- What is reported of the areas of what was read is reported of the documents.
use Rattle.kit_words.proofs.Common.{◌≡◌, ◌≤◌, List, length, sym, ap, ◌∙◌, arith, AllZip, take_all, length-map}
use Rattle.kit_words.proofs.Common.{AllZip-long}
use Rattle.std.specs.Prelude.{sum_by, flat_map}
use Rattle.grid_geometry.specs.Common.{Position}
use Rattle.ring_machine.specs.Common.{size}
use Rattle.topo_outline.specs.Common.{leaves}
use Rattle.topo_reader.specs.Common.{Polygons, Opened, document_of}
use Rattle.topo_reader.proofs.Common.{rings_within, rings_document, sum_within}
use Rattle.segment_paths.specs.Common.{PathOfSegment}
use Rattle.map_mending.specs.declared.change.AreaChange.{AreaChange}
use Rattle.map_mending.specs.Common.{changes_from}
use Rattle.map_mending.specs.declared.parted.Parted.{Parted}
use Rattle.map_mending.specs.Common.{MendsPolygon, polygons_of_parts, TellsParted, polygons_by_feature}
use Rattle.map_mending.proofs.Whole.{polygons_read}

-- a document has as many positions as the polygons that were read
opened_size : (o : Opened) → length o.polygons ≡ length (leaves o.layers) → size (document_of o) ≡ sum_by (sum_by (sum_by length)) o.polygons
opened_size o e =
    ap (λ (rs : List (List Position)). sum_by length rs)
    (rings_document o.polygons o.layers
    ∙ ap (λ (qs : List Polygons). flat_map rings_within qs) (take_all (length (leaves o.layers)) o.polygons (omega (arith, e))))
    ∙ sum_within length o.polygons

pub opened_small : (o : Opened) → length o.polygons ≡ length (leaves o.layers) → size (document_of o) ≤ 4000000 → sum_by (sum_by (sum_by length)) o.polygons ≤ 4000000
opened_small o e small = omega (arith, opened_size o e, small)

-- after mending there are as many features
pub as_many : (paths : List PathOfSegment) (walks mended : List Polygons) (told : List Parted) → TellsParted paths walks mended told → length mended ≡ length walks
as_many paths walks mended told t =
    ap (λ (z : List Polygons). length z) t.joins ∙ length-map t.parts polygons_of_parts ∙ AllZip-long (AllZip (MendsPolygon paths)) walks t.parts t.each

module _ (o p : Opened) (before : length o.polygons ≡ length (leaves o.layers)) (after : length p.polygons ≡ length (leaves p.layers)) where
  pub read_as_many : (paths : List PathOfSegment) (told : List Parted) → TellsParted paths (polygons_by_feature (document_of o)) (polygons_by_feature (document_of p)) told
      → length p.polygons ≡ length o.polygons
  read_as_many paths told t =
      ap (λ (z : List Polygons). length z) (sym (polygons_read p after))
      ∙ as_many paths (polygons_by_feature (document_of o)) (polygons_by_feature (document_of p)) told t
      ∙ ap (λ (z : List Polygons). length z) (polygons_read o before)

  pub areas_read : (paths : List PathOfSegment) (told : List AreaChange) → told ≡ changes_from paths 0 o.polygons p.polygons
      → told ≡ changes_from paths 0 (polygons_by_feature (document_of o)) (polygons_by_feature (document_of p))
  areas_read paths told e =
      e ∙ ap (λ (z : List Polygons). changes_from paths 0 z p.polygons) (sym (polygons_read o before))
      ∙ ap (λ (z : List Polygons). changes_from paths 0 (polygons_by_feature (document_of o)) z) (sym (polygons_read p after))
