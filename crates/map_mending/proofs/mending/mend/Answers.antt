use Rattle.kit_words.proofs.Common.{◌≡◌, true, false, map, sym, ap, ◌∙◌, subst, nat_le, length, IsTrue}
use Rattle.std.specs.Prelude.{sum_by}
use Rattle.grid_geometry.specs.Common.{segment_cmp}
use Rattle.topo_reader.specs.Common.{Opened, document_of, IsOfRings, view_raw, feature_positions}
use Rattle.walk_faults.specs.Common.{ListsAll}
use Rattle.segment_paths.specs.Common.{IsPathFault, paths_seen}
use Rattle.walk_mending.specs.Common.{is_bounding_in}
use Rattle.map_mending.specs.Common.{MendedBy, IsMendFault, AreUnparted, OnlyUnparted, without_paths, Mended}
use Rattle.map_mending.specs.Common.{TellsParted, TellsPartedIn}
use Rattle.map_mending.proofs.Pieces.{document_mended}
use Rattle.map_mending.proofs.Whole.{mended_of_rings, mended_parts, are_bounding, polygons_read}
use Rattle.map_mending.proofs.Failing.{handed, no_paths, in_document, mended_by, does_not_fit}
use Rattle.map_mending.proofs.Kept.{vertices_stay, all_stay_near}
use Rattle.map_mending.proofs.Stays.{mended_stays}
use Rattle.map_mending.proofs.mending.mend.Goals as goal

pub returns-clause-rings : goal.returns-clause-rings
returns-clause-rings g c =
    let o = view_raw c.args.raw in
    let made = map feature_positions c.in_ok-polygons.polygons.items in
    let paths = paths_seen c.in_ok-paths.paths.items in
    let tells : TellsParted paths o.polygons made c.in_ok-polygons.parted.items =
    subst (λ ps. TellsParted (paths_seen ps) o.polygons made c.in_ok-polygons.parted.items) c.as_slice-3.ensures.value
    (subst (λ fs. TellsParted (paths_seen c.as_slice-3.result.now) (map feature_positions fs) made c.in_ok-polygons.parted.items) c.as_slice-4.ensures.value c.in_ok-polygons.ensures.tells) in
    let fits : nat_le (sum_by (sum_by (sum_by length)) made) 4000000 ≡ true =
    sym (ap (λ ps. nat_le (sum_by (sum_by (sum_by length)) (map feature_positions ps)) 4000000) c.as_slice-5.ensures.value) ∙ sym c.fit.ensures ∙ c.if-not-fit.false in
    subst IsOfRings (sym c.with_polygons.ensures) (mended_of_rings paths o made c.in_ok-polygons.parted.items tells c.requires fits)

pub returns-clause-mended : goal.returns-clause-mended
returns-clause-mended g c =
    let o = view_raw c.args.raw in
    let made = map feature_positions c.in_ok-polygons.polygons.items in
    let paths = paths_seen c.in_ok-paths.paths.items in
    let tells : TellsParted paths o.polygons made c.in_ok-polygons.parted.items =
    subst (λ ps. TellsParted (paths_seen ps) o.polygons made c.in_ok-polygons.parted.items) c.as_slice-3.ensures.value
    (subst (λ fs. TellsParted (paths_seen c.as_slice-3.result.now) (map feature_positions fs) made c.in_ok-polygons.parted.items) c.as_slice-4.ensures.value c.in_ok-polygons.ensures.tells) in
    subst (λ (p : Opened). Mended paths (document_of o) (document_of p)) (sym c.with_polygons.ensures)
    (document_mended paths o made c.in_ok-polygons.parted.items tells)

pub returns-clause-parted : goal.returns-clause-parted
returns-clause-parted g c =
    let o = view_raw c.args.raw in
    let made = map feature_positions c.in_ok-polygons.polygons.items in
    let paths = paths_seen c.in_ok-paths.paths.items in
    let tells : TellsParted paths o.polygons made c.in_ok-polygons.parted.items =
    subst (λ ps. TellsParted (paths_seen ps) o.polygons made c.in_ok-polygons.parted.items) c.as_slice-3.ensures.value
    (subst (λ fs. TellsParted (paths_seen c.as_slice-3.result.now) (map feature_positions fs) made c.in_ok-polygons.parted.items) c.as_slice-4.ensures.value c.in_ok-polygons.ensures.tells) in
    subst (λ (p : Opened). TellsPartedIn paths (document_of o) (document_of p) c.in_ok-polygons.parted.items) (sym c.with_polygons.ensures)
    (mended_parts paths o made c.in_ok-polygons.parted.items tells c.requires.counted)

pub returns-clause-paths : goal.returns-clause-paths
returns-clause-paths g c =
    let o = view_raw c.args.raw in
    let segments = c.in_ok-segments.segments.items in
    let lists : ListsAll segment_cmp (λ s. IsTrue (is_bounding_in o.polygons s)) segments =
    subst (λ fs. ListsAll segment_cmp (λ s. IsTrue (is_bounding_in (map feature_positions fs) s)) segments) c.as_slice.ensures.value c.in_ok-segments.ensures in
    mended_by o c.as_slice-2.result.now segments c.in_ok-paths.paths.items c.requires.counted lists c.as_slice-2.ensures.value c.in_ok-paths.ensures.paths c.in_ok-paths.ensures.needed

pub returns-clause-stays : goal.returns-clause-stays
returns-clause-stays g c =
    λ n. mended_stays (document_of (view_raw c.args.raw)) (document_of (view_raw c.with_polygons.result)) (paths_seen c.in_ok-paths.paths.items)
    n c.requires.formed (returns-clause-paths g c) (returns-clause-mended g c)

pub returns-clause-vertices : goal.returns-clause-vertices
returns-clause-vertices g c = vertices_stay (paths_seen c.in_ok-paths.paths.items) _ _ (returns-clause-mended g c)

pub returns-clause-near : goal.returns-clause-near
returns-clause-near g c = all_stay_near (paths_seen c.in_ok-paths.paths.items) _ _ (returns-clause-paths g c) (returns-clause-mended g c)

pub returns-in_err-paths-clause-fault : goal.returns-in_err-paths-clause-fault
returns-in_err-paths-clause-fault g c =
    let o = view_raw c.args.raw in
    let segments = c.in_ok-segments.segments.items in
    let fault = c.in_err-paths.field-0.0 in
    let lists : ListsAll segment_cmp (λ s. IsTrue (is_bounding_in o.polygons s)) segments =
    subst (λ fs. ListsAll segment_cmp (λ s. IsTrue (is_bounding_in (map feature_positions fs) s)) segments) c.as_slice.ensures.value c.in_ok-segments.ensures in
    handed (IsMendFault (document_of o)) (without_paths fault) c.from_residual-in_err-paths.result c.from_residual-in_err-paths.ensures.1
    (no_paths (document_of o) segments (are_bounding o segments c.requires.counted lists) fault
    (subst (λ ss. IsPathFault ss 4000000 fault) c.as_slice-2.ensures.value c.in_err-paths.ensures.fault))

pub returns-in_err-polygons-clause-fault : goal.returns-in_err-polygons-clause-fault
returns-in_err-polygons-clause-fault g c =
    let o = view_raw c.args.raw in
    let segments = c.in_ok-segments.segments.items in
    let paths = paths_seen c.in_ok-paths.paths.items in
    let fault = c.in_err-polygons.field-0.0 in
    let lists : ListsAll segment_cmp (λ s. IsTrue (is_bounding_in o.polygons s)) segments =
    subst (λ fs. ListsAll segment_cmp (λ s. IsTrue (is_bounding_in (map feature_positions fs) s)) segments) c.as_slice.ensures.value c.in_ok-segments.ensures in
    let by : MendedBy (document_of o) paths =
    mended_by o c.as_slice-2.result.now segments c.in_ok-paths.paths.items c.requires.counted lists c.as_slice-2.ensures.value c.in_ok-paths.ensures.paths c.in_ok-paths.ensures.needed in
    let apart : OnlyUnparted (AreUnparted paths o.polygons) fault =
    subst (λ ps. OnlyUnparted (AreUnparted (paths_seen ps) o.polygons) fault) c.as_slice-3.ensures.value
    (subst (λ fs. OnlyUnparted (AreUnparted (paths_seen c.as_slice-3.result.now) (map feature_positions fs)) fault) c.as_slice-4.ensures.value c.in_err-polygons.ensures.fault) in
    handed (IsMendFault (document_of o)) fault c.from_residual-in_err-polygons.result c.from_residual-in_err-polygons.ensures.1
    (in_document (document_of o) paths o.polygons by (polygons_read o c.requires.counted) fault apart)

pub returns-then-not-fit-clause-fault : goal.returns-then-not-fit-clause-fault
returns-then-not-fit-clause-fault g c =
    let o = view_raw c.args.raw in
    let segments = c.in_ok-segments.segments.items in
    let paths = paths_seen c.in_ok-paths.paths.items in
    let made = map feature_positions c.in_ok-polygons.polygons.items in
    let lists : ListsAll segment_cmp (λ s. IsTrue (is_bounding_in o.polygons s)) segments =
    subst (λ fs. ListsAll segment_cmp (λ s. IsTrue (is_bounding_in (map feature_positions fs) s)) segments) c.as_slice.ensures.value c.in_ok-segments.ensures in
    let by : MendedBy (document_of o) paths =
    mended_by o c.as_slice-2.result.now segments c.in_ok-paths.paths.items c.requires.counted lists c.as_slice-2.ensures.value c.in_ok-paths.ensures.paths c.in_ok-paths.ensures.needed in
    let tells : TellsParted paths o.polygons made c.in_ok-polygons.parted.items =
    subst (λ ps. TellsParted (paths_seen ps) o.polygons made c.in_ok-polygons.parted.items) c.as_slice-3.ensures.value
    (subst (λ fs. TellsParted (paths_seen c.as_slice-3.result.now) (map feature_positions fs) made c.in_ok-polygons.parted.items) c.as_slice-4.ensures.value c.in_ok-polygons.ensures.tells) in
    let over : nat_le (sum_by (sum_by (sum_by length)) made) 4000000 ≡ false =
    sym (ap (λ ps. nat_le (sum_by (sum_by (sum_by length)) (map feature_positions ps)) 4000000) c.as_slice-5.ensures.value) ∙ sym c.fit.ensures ∙ c.if-not-fit.true in
    does_not_fit paths o made c.in_ok-polygons.parted.items by tells c.requires.counted over
