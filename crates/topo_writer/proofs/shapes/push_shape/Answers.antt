use Rattle.kit_words.proofs.Common.{arith, ◌≡◌, sym, ap, ◌∙◌, subst, ◌++◌, ◌∷◌, [], length, Contains, sum_by, flat_map}
use Rattle.kit_words.proofs.Common.{AllByRecursion}
use Rattle.ring_machine.specs.Common.{Polygon, MultiPolygon, Null, rings, is_junction}
use Rattle.topo_outline.specs.Common.{form_of}
use Rattle.map_text.specs.Common.{pieces, with_pieces}
use Rattle.topo_writer.specs.Common.{rings_at, polygons_at, arcs_in, written_shape}
use Rattle.topo_writer.proofs.FeatureTexts.{shape_many, shape_one}
use Rattle.topo_writer.proofs.SeenParts.{one_polygon, one_rings, no_rings}
use Rattle.topo_writer.proofs.shapes.push_shape.Goals as goal

pub push_polygon_of-requires-clause-there : goal.push_polygon_of-requires-clause-there
push_polygon_of-requires-clause-there g c =
    let form : c.args.view.now.form ≡ Polygon = sym c.form.ensures ∙ ap form_of c.in-Polygon.is in
    subst (AllByRecursion (Contains (rings c.args.map.now))) (one_rings c.args.map.now c.args.n c.args.view.now c.requires.seen c.requires.fits form) c.requires.there

pub push_polygon_of-requires-clause-few : goal.push_polygon_of-requires-clause-few
push_polygon_of-requires-clause-few g c =
    let form : c.args.view.now.form ≡ Polygon = sym c.form.ensures ∙ ap form_of c.in-Polygon.is in
    omega (arith, c.requires.few, ap (sum_by length) (one_rings c.args.map.now c.args.n c.args.view.now c.requires.seen c.requires.fits form))

pub returns-in_ok-push_polygon_of-in-Polygon-clause-arcs :
    goal.returns-in_ok-push_polygon_of-in-Polygon-clause-arcs
returns-in_ok-push_polygon_of-in-Polygon-clause-arcs g c =
    let form : c.args.view.now.form ≡ Polygon = sym c.form.ensures ∙ ap form_of c.in-Polygon.is in
    c.in_ok-push_polygon_of-in-Polygon.ensures.arcs
    ∙ ap (λ z. with_pieces (arcs_in c.args.map.now c.args.arcs.now) (flat_map (pieces (is_junction c.args.map.now)) z))
    (sym (one_rings c.args.map.now c.args.n c.args.view.now c.requires.seen c.requires.fits form))

pub returns-in_ok-push_polygon_of-in-Polygon-clause-text :
    goal.returns-in_ok-push_polygon_of-in-Polygon-clause-text
returns-in_ok-push_polygon_of-in-Polygon-clause-text g c =
    let d = c.args.map.now in
    let j = is_junction d in
    let form : c.args.view.now.form ≡ Polygon = sym c.form.ensures ∙ ap form_of c.in-Polygon.is in
    let arcs = arcs_in c.args.map.now c.push_polygon_of.new.arcs in
    shape_one j arcs (rings_at d c.args.n 0) c.args.text.now.items c.extend_from_slice.new.self.items c.push_polygon_of.new.text.items
    c.in_ok-extend_from_slice-in-Polygon.ensures.items c.in_ok-push_polygon_of-in-Polygon.ensures.text
    ∙ ap (λ z. c.args.text.now.items ++ written_shape j arcs z (rings_at d c.args.n 0 ∷ [])) (sym form)
    ∙ ap (λ z. c.args.text.now.items ++ written_shape j arcs c.args.view.now.form z) (sym (one_polygon d c.args.n c.args.view.now c.requires.seen c.requires.fits form))

pub returns-in_ok-extend_from_slice-in-MultiPolygon-2-clause-text :
    goal.returns-in_ok-extend_from_slice-in-MultiPolygon-2-clause-text
returns-in_ok-extend_from_slice-in-MultiPolygon-2-clause-text g c =
    let d = c.args.map.now in
    let j = is_junction d in
    let form : c.args.view.now.form ≡ MultiPolygon = sym c.form.ensures ∙ ap form_of c.in-MultiPolygon.is in
    let arcs = arcs_in c.args.map.now c.push_polygons_of.new.arcs in
    shape_many j arcs (polygons_at d c.args.n) c.args.text.now.items c.extend_from_slice-in-MultiPolygon.new.self.items c.push_polygons_of.new.text.items c.extend_from_slice-in-MultiPolygon-2.new.self.items
    c.in_ok-extend_from_slice-in-MultiPolygon.ensures.items c.in_ok-push_polygons_of-in-MultiPolygon.ensures.text c.in_ok-extend_from_slice-in-MultiPolygon-2.ensures.items
    ∙ ap (λ z. c.args.text.now.items ++ written_shape j arcs z (polygons_at d c.args.n)) (sym form)

pub returns-in-Null-clause-arcs : goal.returns-in-Null-clause-arcs
returns-in-Null-clause-arcs g c =
    let form : c.args.view.now.form ≡ Null = sym c.form.ensures ∙ ap form_of c.in-Null.is in
    ap (λ z. with_pieces (arcs_in c.args.map.now c.args.arcs.now) (flat_map (pieces (is_junction c.args.map.now)) z))
    (sym (no_rings c.args.map.now c.args.n c.args.view.now c.requires.seen c.requires.fits form))
