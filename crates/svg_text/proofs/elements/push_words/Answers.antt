use Rattle.kit_words.proofs.Common.{◌++◌, ◌∙◌, ap, codes, appended_four, appended_five}
use Rattle.svg_text.specs.Common.{escaped, attribute_text}
use Rattle.svg_text.proofs.Appending.{whole}
use Rattle.svg_text.proofs.elements.push_words.Goals as goal

pub returns : goal.returns
returns g c =
    let x = attribute_text (codes "x") c.args.x in
    let y = attribute_text (codes "y") c.args.y in
    let words = escaped c.args.words.now in
    let begun = c.extend_from_slice.new.self.items in
    let styled = c.extend_from_slice-3.new.self.items in
    let across = c.push_attribute.new.text.items in
    let placed = c.push_attribute-2.new.text.items in
    let end = c.extend_from_slice-5.new.self.items in
    appended_four c.args.text.now.items (codes "<text class=\"") c.args.style.now (codes "\"") (x ++ (y ++ (codes ">" ++ (words ++ codes "</text>\n"))))
    begun c.extend_from_slice-2.new.self.items styled end
    c.in_ok-extend_from_slice.ensures.items
    (c.in_ok-extend_from_slice-2.ensures.items ∙ ap (λ z. begun ++ z) c.as_bytes.ensures.value)
    c.in_ok-extend_from_slice-3.ensures.items
    (appended_five styled x y (codes ">") words (codes "</text>\n")
    across placed c.extend_from_slice-4.new.self.items c.push_escaped.new.text.items end
    (whole (attribute_text (codes "x")) styled across c.args.x c.ranges.x c.in_ok-push_attribute.ensures)
    (whole (attribute_text (codes "y")) across placed c.args.y c.ranges.y c.in_ok-push_attribute-2.ensures)
    c.in_ok-extend_from_slice-4.ensures.items c.in_ok-push_escaped.ensures.escaped c.in_ok-extend_from_slice-5.ensures.items)
