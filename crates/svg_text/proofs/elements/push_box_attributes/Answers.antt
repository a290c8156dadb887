use mir.Syntax.{w64}
use mir.Val.{SFits}
use Rattle.kit_words.proofs.Common.{rules, codes, appended_four}
use Rattle.svg_text.specs.Common.{attribute_text}
use Rattle.svg_text.proofs.Appending.{whole}
use Rattle.svg_text.proofs.elements.push_box_attributes.Goals as goal

pub returns : goal.returns
returns g c =
    let p = c.args.place in
    let old = c.args.text.now.items in
    let t = c.push_attribute.new.text.items in
    let u = c.push_attribute-2.new.text.items in
    let v = c.push_attribute-3.new.text.items in
    let new = c.push_attribute-4.new.text.items in
    let x : SFits w64 c.args.place.x = search rules in
    let y : SFits w64 c.args.place.y = search rules in
    let width : SFits w64 c.args.place.width = search rules in
    let height : SFits w64 c.args.place.height = search rules in
    appended_four old (attribute_text (codes "x") p.x) (attribute_text (codes "y") p.y) (attribute_text (codes "width") p.width) (attribute_text (codes "height") p.height) t u v new
    (whole (attribute_text (codes "x")) old t p.x x c.in_ok-push_attribute.ensures)
    (whole (attribute_text (codes "y")) t u p.y y c.in_ok-push_attribute-2.ensures)
    (whole (attribute_text (codes "width")) u v p.width width c.in_ok-push_attribute-3.ensures)
    (whole (attribute_text (codes "height")) v new p.height height c.in_ok-push_attribute-4.ensures)
