use Rattle.kit_words.proofs.Common.{◌≡◌, ap, ◌∙◌, ◌++◌, map, codes}
use Rattle.ring_machine.specs.Common.{is_junction}
use Rattle.map_frame.specs.Common.{shown, Shown}
use Rattle.map_text.specs.Common.{further, member_if, member_text, type_text}
use Rattle.topo_writer.specs.Common.{arcs_in, written_shape}
use Rattle.topo_writer.proofs.FeatureTexts.{feature_texts}
use Rattle.topo_writer.proofs.SeenParts.{seen_as, polygons_read}
use Rattle.topo_writer.proofs.shapes.push_feature.Goals as goal

pub returns-clause-text : goal.returns-clause-text
returns-clause-text g c f e =
    let d = c.args.map.now in
    let j = is_junction d in
    let arcs = arcs_in c.args.map.now c.push_shape.new.arcs in
    let v : c.args.view.now ≡ shown f = seen_as d c.args.n c.args.view.now f c.requires.seen e in
    let begun = c.extend_from_slice.new.self.items in
    let typed = c.extend_from_slice-2.new.self.items in
    let named = c.push_member_if.new.text.items in
    let told = c.push_member_if-2.new.text.items in
    let shaped = c.push_shape.new.text.items in
    let kept = c.push_kept.new.text.items in
    feature_texts j arcs f c.args.text.now.items begun typed named told shaped kept c.extend_from_slice-3.new.self.items
    c.in_ok-extend_from_slice.ensures.items
    (c.in_ok-extend_from_slice-2.ensures.items ∙ ap (λ z. begun ++ z) (c.type_token.ensures ∙ ap type_text (c.form.ensures ∙ ap (λ (w : Shown). w.form) v)))
    (c.in_ok-push_member_if.ensures ∙ ap (λ z. typed ++ further (map member_text (member_if (codes "\"id\"") z))) (c.id.ensures ∙ ap (λ (w : Shown). w.id) v))
    (c.in_ok-push_member_if-2.ensures ∙ ap (λ z. named ++ further (map member_text (member_if (codes "\"properties\"") z))) (c.properties.ensures ∙ ap (λ (w : Shown). w.properties) v))
    (c.in_ok-push_shape.ensures.text ∙ ap (λ z. told ++ written_shape j arcs c.args.view.now.form z) (polygons_read d c.args.n f e)
    ∙ ap (λ (w : Shown). told ++ written_shape j arcs w.form f.polygons) v)
    (c.in_ok-push_kept.ensures ∙ ap (λ z. shaped ++ further (map member_text z)) (c.members.ensures ∙ ap (λ (w : Shown). w.members) v))
    c.in_ok-extend_from_slice-3.ensures.items
