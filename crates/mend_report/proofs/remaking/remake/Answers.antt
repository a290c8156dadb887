use Rattle.kit_words.proofs.Common.{◌≡◌, ◌≤◌, map, length, sym, ap, ◌∙◌, subst, length-map}
use Rattle.std.specs.Prelude.{sum_by}
use Rattle.topo_reader.specs.Common.{document_of, view_raw, feature_positions}
use Rattle.segment_paths.specs.Common.{paths_seen}
use Rattle.map_mending.specs.Common.{changes_from}
use Rattle.mend_report.proofs.AreaLemmas.{opened_small, read_as_many, areas_read}
use Rattle.mend_report.proofs.remaking.remake.Goals as goal

pub area_changes-requires-clause-same : goal.area_changes-requires-clause-same
area_changes-requires-clause-same g c =
    let o = view_raw c.args.map in
    let p = view_raw c.in_ok-map.field-0.map in
    let many : length p.polygons ≡ length o.polygons =
    read_as_many o p c.requires.walks.counted c.in_ok-map.ensures.rings.counted (paths_seen c.in_ok-map.field-0.paths.items) c.in_ok-map.field-0.parted.items c.in_ok-map.ensures.parted in
    ap length c.as_slice-2.ensures.value ∙ sym (length-map c.in_ok-map.field-0.map.polygons.items feature_positions) ∙ many
    ∙ sym (ap length c.requires.same) ∙ length-map c.args.polygons.now feature_positions

pub area_changes-requires-clause-few_before : goal.area_changes-requires-clause-few_before
area_changes-requires-clause-few_before g c =
    subst (λ ps. sum_by (sum_by (sum_by length)) ps ≤ 4000000) (sym c.requires.same) (opened_small (view_raw c.args.map) c.requires.walks.counted c.requires.walks.small)

pub area_changes-requires-clause-few_after : goal.area_changes-requires-clause-few_after
area_changes-requires-clause-few_after g c =
    subst (λ ms. sum_by (sum_by (sum_by length)) (map feature_positions ms) ≤ 4000000) (sym c.as_slice-2.ensures.value)
    (opened_small (view_raw c.in_ok-map.field-0.map) c.in_ok-map.ensures.rings.counted c.in_ok-map.ensures.rings.small)

pub returns-clause-remade : goal.returns-clause-remade
returns-clause-remade g c =
    let o = view_raw c.args.map in
    let p = view_raw c.in_ok-map.field-0.map in
    let paths = paths_seen c.in_ok-map.field-0.paths.items in
    let told : c.in_ok-areas.areas.items ≡ changes_from paths 0 o.polygons p.polygons =
    c.in_ok-areas.ensures
    ∙ ap (λ ps. changes_from (paths_seen ps) 0 (map feature_positions c.args.polygons.now) (map feature_positions c.as_slice-2.result.now)) c.as_slice.ensures.value
    ∙ ap (λ qs. changes_from paths 0 qs (map feature_positions c.as_slice-2.result.now)) c.requires.same
    ∙ ap (λ ms. changes_from paths 0 o.polygons (map feature_positions ms)) c.as_slice-2.ensures.value in
    record {
      document = document_of p;
      mended = c.in_ok-map.ensures.mended;
      by = c.in_ok-map.ensures.paths;
      parts = c.in_ok-map.ensures.parted;
      areas = areas_read o p c.requires.walks.counted c.in_ok-map.ensures.rings.counted paths c.in_ok-areas.areas.items told;
      stays = c.in_ok-map.ensures.stays;
      vertices = c.in_ok-map.ensures.vertices;
      near = c.in_ok-map.ensures.near;
      proper = c.in_ok-text.ensures.proper;
      text = c.in_ok-text.ensures.text;
      saved = c.in_ok-text.ensures.saved;
      opens = c.in_ok-text.ensures.opens;
    }
