use Rattle.kit_words.proofs.Common.{codes, appended_five}
use Rattle.svg_text.specs.Common.{attribute_text, view_box_text}
use Rattle.svg_text.proofs.Appending.{whole, both_whole}
use Rattle.svg_text.proofs.elements.open_picture.Goals as goal

pub returns : goal.returns
returns g c =
    let begun = c.extend_from_slice.new.self.items in
    let wide = c.push_attribute.new.text.items in
    let high = c.push_attribute-2.new.text.items in
    let boxed = c.push_view_box.new.text.items in
    appended_five c.args.text.now.items (codes "<svg xmlns=\"http://www.w3.org/2000/svg\"") (attribute_text (codes "width") c.args.width)
    (attribute_text (codes "height") c.args.height) (view_box_text c.args.width c.args.height) (codes ">\n")
    begun wide high boxed c.extend_from_slice-2.new.self.items
    c.in_ok-extend_from_slice.ensures.items
    (whole (attribute_text (codes "width")) begun wide c.args.width c.ranges.width c.in_ok-push_attribute.ensures)
    (whole (attribute_text (codes "height")) wide high c.args.height c.ranges.height c.in_ok-push_attribute-2.ensures)
    (both_whole view_box_text high boxed c.args.width c.args.height c.ranges.width c.ranges.height c.in_ok-push_view_box.ensures)
    c.in_ok-extend_from_slice-2.ensures.items
