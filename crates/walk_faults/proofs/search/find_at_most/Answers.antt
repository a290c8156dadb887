use Rattle.kit_words.proofs.Common.{◌≡◌, ◌<◌, ◌∙◌, List, map, length, ap, sym, subst, inl, inr, Contains, IfErr}
use Rattle.kit_words.proofs.Common.{err_from_is_err_and}
use Rattle.grid_geometry.specs.Common.{Position, position_cmp, Segment, segment_cmp}
use Rattle.walk_faults.specs.Common.{Placed, walks_of, walk_seen, features_seen, ListsAll, IsTouch, IsCrossing}
use Rattle.walk_faults.specs.Common.{touch_cmp, crossing_cmp, all_positions, segments_of_walks, short_walks, all_repeats}
use Rattle.walk_faults.specs.Common.{HasMore, IsFindFault, touches_among, crossings_among}
use Rattle.walk_faults.proofs.Pairs.{touches_all, crossings_all}
use Rattle.walk_faults.proofs.Walking.{only_where}
use Rattle.walk_faults.proofs.search.find_at_most.Goals as goal

-- the vertices and the segments in the slices that are passed on
vertices_in : (seen walks : List Placed) (ps items : List Position) → seen ≡ walks → ps ≡ items
    → ListsAll position_cmp (Contains (all_positions seen)) items → ListsAll position_cmp (Contains (all_positions walks)) ps
vertices_in seen walks ps items e f h =
    subst (ListsAll position_cmp (Contains (all_positions walks))) (sym f) (subst (λ ws. ListsAll position_cmp (Contains (all_positions ws)) items) e h)

segments_in : (seen walks : List Placed) (ss items : List Segment) → seen ≡ walks → ss ≡ items
    → ListsAll segment_cmp (Contains (segments_of_walks seen)) items → ListsAll segment_cmp (Contains (segments_of_walks walks)) ss
segments_in seen walks ss items e f h =
    subst (ListsAll segment_cmp (Contains (segments_of_walks walks))) (sym f) (subst (λ ws. ListsAll segment_cmp (Contains (segments_of_walks ws)) items) e h)

pub returns-clause-found : goal.returns-clause-found
returns-clause-found g c =
    let walks = walks_of (features_seen c.args.polygons.now) in
    let vertices = vertices_in (map walk_seen c.as_slice-3.result.now) walks c.as_slice-6.result.now c.in_ok-vertices.vertices.items
    (ap (map walk_seen) c.as_slice-3.ensures.value ∙ c.in_ok-walks.ensures) c.as_slice-6.ensures.value c.in_ok-vertices.ensures in
    let seen = ap (map walk_seen) c.as_slice-4.ensures.value ∙ c.in_ok-walks.ensures in
    let held = segments_in (map walk_seen c.as_slice-4.result.now) walks c.as_slice-5.result.now c.in_ok-segments.segments.items
    seen c.as_slice-5.ensures.value c.in_ok-segments.ensures in
    let segments = segments_in (map walk_seen c.as_slice-4.result.now) walks c.as_slice-7.result.now c.in_ok-segments.segments.items
    seen c.as_slice-7.ensures.value c.in_ok-segments.ensures in
    record {
      short = c.in_ok-short.ensures.found ∙ ap short_walks (ap (map walk_seen) c.as_slice.ensures.value ∙ c.in_ok-walks.ensures);
      repeats = c.in_ok-repeats.ensures.found ∙ ap all_repeats (ap (map walk_seen) c.as_slice-2.ensures.value ∙ c.in_ok-walks.ensures);
      touches = subst (ListsAll touch_cmp (IsTouch walks)) (sym (c.in_ok-touches.ensures.found c.as_slice-5.result.now c.in_ok-fill.ensures))
          (touches_all walks c.as_slice-6.result.now c.as_slice-5.result.now vertices held);
      crossings = subst (ListsAll crossing_cmp (IsCrossing walks)) (sym c.in_ok-crossings.ensures.found)
          (crossings_all walks c.as_slice-7.result.now segments);
    }

pub returns-in_err-touches-clause-fault : goal.returns-in_err-touches-clause-fault
returns-in_err-touches-clause-fault g c =
    let most = c.args.most in
    let polygons = features_seen c.args.polygons.now in
    let walks = walks_of polygons in
    let ps = c.as_slice-6.result.now in
    let ss = c.as_slice-5.result.now in
    let vertices = vertices_in (map walk_seen c.as_slice-3.result.now) walks ps c.in_ok-vertices.vertices.items
    (ap (map walk_seen) c.as_slice-3.ensures.value ∙ c.in_ok-walks.ensures) c.as_slice-6.ensures.value c.in_ok-vertices.ensures in
    let segments = segments_in (map walk_seen c.as_slice-4.result.now) walks ss c.in_ok-segments.segments.items
    (ap (map walk_seen) c.as_slice-4.ensures.value ∙ c.in_ok-walks.ensures) c.as_slice-5.ensures.value c.in_ok-segments.ensures in
    let k = only_where (most < length (touches_among ps ss)) (HasMore most walks) c.in_err-touches.field-0.0
    (λ more. inr (inr (inl (record { list = touches_among ps ss; all = touches_all walks ps ss vertices segments; more = more }))))
    (c.in_err-touches.ensures.fault ss c.in_ok-fill.ensures) in
    let r = err_from_is_err_and c.from_residual-in_err-touches.result c.from_residual-in_err-touches.ensures.1 in
    subst (λ z. IfErr z (IsFindFault most polygons)) (sym r.1) (subst (IsFindFault most polygons) (sym r.2) k)

pub returns-in_err-crossings-clause-fault : goal.returns-in_err-crossings-clause-fault
returns-in_err-crossings-clause-fault g c =
    let most = c.args.most in
    let polygons = features_seen c.args.polygons.now in
    let walks = walks_of polygons in
    let ss = c.as_slice-7.result.now in
    let segments = segments_in (map walk_seen c.as_slice-4.result.now) walks ss c.in_ok-segments.segments.items
    (ap (map walk_seen) c.as_slice-4.ensures.value ∙ c.in_ok-walks.ensures) c.as_slice-7.ensures.value c.in_ok-segments.ensures in
    let k = only_where (most < length (crossings_among ss ss)) (HasMore most walks) c.in_err-crossings.field-0.0
    (λ more. inr (inr (inr (record { list = crossings_among ss ss; all = crossings_all walks ss segments; more = more }))))
    c.in_err-crossings.ensures.fault in
    let r = err_from_is_err_and c.from_residual-in_err-crossings.result c.from_residual-in_err-crossings.ensures.1 in
    subst (λ z. IfErr z (IsFindFault most polygons)) (sym r.1) (subst (IsFindFault most polygons) (sym r.2) k)
