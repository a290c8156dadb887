use Rattle.kit_words.proofs.Common.{ap, ◌∙◌, ◌++◌, codes, decimal, rules, FitsSigned, w128, signed_decimal, to_z-of_z}
use Rattle.place_text.specs.Common.{features_text}
use Rattle.place_text.proofs.Assembled.{ten}
use Rattle.cover_places.specs.Text.{kind_text}
use Rattle.cover_places.proofs.objects.push_properties.Goals as goal

pub returns : goal.returns
returns g c =
    let place = c.args.place.now in
    let face = place.face.now in
    let area : FitsSigned w128 face.area = search rules in
    ten c.args.text.now.items (codes "{\"kind\":") (kind_text face.kind) (codes ",\"number\":") (decimal place.number) (features_text face.features.items)
    (codes ",\"area\":") (signed_decimal face.area) (codes ",\"width\":") (decimal face.width) (codes "}")
    c.extend_from_slice.new.self.items c.push_kind.new.text.items c.extend_from_slice-2.new.self.items c.push_number.new.text.items c.push_features.new.text.items
    c.extend_from_slice-3.new.self.items c.push_number-2.new.text.items c.extend_from_slice-4.new.self.items c.push_number-3.new.text.items
    c.extend_from_slice-5.new.self.items
    c.in_ok-extend_from_slice.ensures.items c.in_ok-push_kind.ensures c.in_ok-extend_from_slice-2.ensures.items c.in_ok-push_number.ensures
    (c.in_ok-push_features.ensures ∙ ap (λ ns. c.push_number.new.text.items ++ features_text ns) c.as_slice.ensures.value)
    c.in_ok-extend_from_slice-3.ensures.items
    (c.in_ok-push_number-2.ensures ∙ ap (λ z. c.extend_from_slice-3.new.self.items ++ signed_decimal z) (to_z-of_z w128 face.area area))
    c.in_ok-extend_from_slice-4.ensures.items c.in_ok-push_number-3.ensures
    c.in_ok-extend_from_slice-5.ensures.items
