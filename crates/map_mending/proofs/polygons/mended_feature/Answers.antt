use Rattle.kit_words.proofs.Common.{◌≡◌, ℕ, Bool, cond, ◌+◌, [], ◌∷◌, ◌++◌, map, length, take, refl, sym, ap, ap₂, ◌∙◌, subst}
use Rattle.kit_words.proofs.Common.{arith, false, true, list_all, length-map, map-append, append-nil}
use Rattle.topo_reader.specs.Common.{Polygons, is_simple, positions_of, polygon_positions}
use Rattle.segment_paths.specs.Common.{paths_seen}
use Rattle.walk_mending.specs.Common.{laid, BoundWithoutRings, IsMended}
use Rattle.map_mending.specs.Common.{MendsPolygon, StandsFor, told_of}
use Rattle.map_mending.proofs.Failing.{apart_if, seen_at}
use Rattle.map_mending.proofs.Stands.{stands_step}
use Rattle.map_mending.proofs.polygons.mended_feature.Goals as goal
use Rattle.map_mending.proofs.polygons.mended_feature.Goals.{then-not-branch+in_ok-push, else-not-branch}

pub loop-polygon-preserved : goal.loop-polygon-preserved
loop-polygon-preserved g c =
    let l = c.loop-polygon in
    let paths = paths_seen c.args.paths.now in
    let x = c.index-polygons-polygon.result in
    let found = c.in-Some.mended in
    let made = map polygon_positions found.items in
    let led : map positions_of c.in_ok-laid.laid.items ≡ map (laid paths) (polygon_positions x) =
    c.in_ok-laid.ensures ∙ ap (λ ws. map (laid paths) (map positions_of ws)) c.as_slice.ensures.value in
    let mended : MendsPolygon paths (polygon_positions x) made =
    subst (λ ws. IsMended ws made) (ap (map positions_of) c.as_slice-in-loop-polygon.ensures.value ∙ led) (rw (c.in-Some.is) at c.in_ok-mended.ensures.mended) in
    let simple : c.in_ok-all_simple.field-0 ≡ list_all is_simple (map (laid paths) (polygon_positions x)) =
    c.in_ok-all_simple.ensures ∙ ap (list_all is_simple) (ap (map positions_of) c.as_slice-in-loop-polygon-2.ensures.value ∙ led) in
    let told : c.if-not-branch.parted.items ≡ l.parted.items ++ told_of paths c.args.feature l.polygon (polygon_positions x) made =
    elim c.if-not-branch.branch [
      | then-not-branch+in_ok-push w ↦
          let count : w.len.result ≡ length made = omega (arith, w.len.ensures, found.ok.0, length-map found.items polygon_positions) in
          ap (λ v. v.items) w.parted-is ∙ w.in_ok-push.ensures.items
          ∙ ap₂ (λ (b : Bool) (n : ℕ). l.parted.items ++ cond b [] (record { feature = c.args.feature; polygon = l.polygon; parts = n } ∷ []))
          (sym w.if-not-branch.true ∙ simple) count
      | else-not-branch w ↦
          ap (λ v. v.items) w.parted-is ∙ sym (append-nil l.parted.items)
          ∙ ap (λ (b : Bool). l.parted.items ++ cond b [] (record { feature = c.args.feature; polygon = l.polygon; parts = length made } ∷ []))
          (sym w.if-not-branch.false ∙ simple)
    ] in
    let grown : map polygon_positions c.append.new.self.items ≡ map polygon_positions l.found.items ++ made =
    ap (λ ps. map polygon_positions ps) c.in_ok-append.ensures.items ∙ map-append polygon_positions l.found.items found.items in
    subst (λ (ps : Polygons). StandsFor paths c.args.feature (map polygon_positions (take (l.polygon + 1) c.args.polygons.now)) ps c.args.parted.now.items c.if-not-branch.parted.items)
    (sym grown)
    (stands_step paths polygon_positions c.args.polygons.now c.args.feature l.polygon x (map polygon_positions l.found.items)
    c.args.parted.now.items l.parted.items c.if-not-branch.parted.items made
    c.loop-polygon-test.true c.index-polygons-polygon.is l.invariant mended told)

pub returns-in_default-clause-fault : goal.returns-in_default-clause-fault
returns-in_default-clause-fault g c =
    let x = c.index-polygons-polygon.result in
    let led : map positions_of c.in_ok-laid.laid.items ≡ map (laid (paths_seen c.args.paths.now)) (polygon_positions x) =
    c.in_ok-laid.ensures ∙ ap (λ ws. map (laid (paths_seen c.args.paths.now)) (map positions_of ws)) c.as_slice.ensures.value in (
      refl,
      record {
        walks = polygon_positions x;
        polygon = seen_at polygon_positions c.args.polygons.now c.loop-polygon.polygon x c.loop-polygon-test.true c.index-polygons-polygon.is;
        apart = subst BoundWithoutRings (ap (map positions_of) c.as_slice-in-loop-polygon.ensures.value ∙ led) (apart_if _ _ _ c.in_default.not-Some c.in_ok-mended.ensures.mended);
      },
    )
