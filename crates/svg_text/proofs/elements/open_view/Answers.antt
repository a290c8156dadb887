use Rattle.kit_words.proofs.Common.{codes, appended_four}
use Rattle.svg_text.specs.Common.{view_box_text, box_attributes}
use Rattle.svg_text.proofs.Appending.{both_whole}
use Rattle.svg_text.proofs.elements.open_view.Goals as goal

pub returns : goal.returns
returns g c =
    let placed = c.push_box_attributes.new.text.items in
    let boxed = c.push_view_box.new.text.items in
    appended_four c.args.text.now.items (codes "<svg") (box_attributes c.args.place) (view_box_text c.args.width c.args.height) (codes ">\n")
    c.extend_from_slice.new.self.items placed boxed c.extend_from_slice-2.new.self.items
    c.in_ok-extend_from_slice.ensures.items c.in_ok-push_box_attributes.ensures
    (both_whole view_box_text placed boxed c.args.width c.args.height c.ranges.width c.ranges.height c.in_ok-push_view_box.ensures)
    c.in_ok-extend_from_slice-2.ensures.items
