use mir.Syntax.{w64}
use mir.Val.{SFits}
use Rattle.kit_words.proofs.Common.{◌∙◌, ◌++◌, ap, rules, to_z-of_z}
use Rattle.grid_decimals.specs.Common.{view_grid, x_text, y_text}
use Rattle.geo_features.proofs.RingTexts.{position_put}
use Rattle.geo_features.proofs.style.Style.push_position.Goals as goal

pub returns : goal.returns
returns g c =
    let grid = view_grid c.args.self.now.coordinates.grid in
    let k = c.args.self.now.coordinates.decimals in
    let x : SFits w64 c.x.result = search rules in
    let y : SFits w64 c.y.result = search rules in
    position_put (x_text grid k c.args.pos.x) (y_text grid k c.args.pos.y) c.args.text.now.items _ _ _ _ _
    c.in_ok-push.ensures.items
    (c.in_ok-push_x.ensures ∙ ap (λ z. c.push.new.self.items ++ x_text grid k z) (to_z-of_z w64 c.x.result x ∙ c.x.ensures.value))
    c.in_ok-push-2.ensures.items
    (c.in_ok-push_y.ensures ∙ ap (λ z. c.push-2.new.self.items ++ y_text grid k z) (to_z-of_z w64 c.y.result y ∙ c.y.ensures.value))
    c.in_ok-push-3.ensures.items
