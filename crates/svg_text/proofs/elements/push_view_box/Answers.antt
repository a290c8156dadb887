use Rattle.kit_words.proofs.Common.{codes, appended_three}
use Rattle.svg_text.specs.Common.{number_pair_text}
use Rattle.svg_text.proofs.Appending.{both_whole}
use Rattle.svg_text.proofs.elements.push_view_box.Goals as goal

pub returns : goal.returns
returns g c =
    let begun = c.extend_from_slice.new.self.items in
    let paired = c.push_pair.new.text.items in
    appended_three c.args.text.now.items (codes " viewBox=\"0 0 ") (number_pair_text c.args.width c.args.height) (codes "\"") begun paired c.extend_from_slice-2.new.self.items
    c.in_ok-extend_from_slice.ensures.items
    (both_whole number_pair_text begun paired c.args.width c.args.height c.ranges.width c.ranges.height c.in_ok-push_pair.ensures)
    c.in_ok-extend_from_slice-2.ensures.items
