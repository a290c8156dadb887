use Rattle.kit_words.proofs.Common.{◌∙◌, ap, map, option_map, sym}
use Rattle.topo_outline.specs.Common.{view_head, view_kept}
use Rattle.geo_text.specs.Found.{head_or_none}
use Rattle.geo_text.specs.Layer.{name_text}
use Rattle.geo_features.proofs.Carrying.{put_back, put_of}
use Rattle.geo_text.proofs.FrontTexts.{front_put}
use Rattle.geo_text.proofs.front.push_front_with.Goals as goal

pub returns : goal.returns
returns g c =
    let ms = map view_kept c.args.members.now in
    let h = head_or_none (option_map (λ h. view_head h.now) c.args.head) in
    put_back _ _ _
    (front_put c.args.token.now h ms c.args.text.now.items c.extend_from_slice.new.self.items c.push_name.new.text.items c.push_head.new.text.items c.push_members.new.text.items c.extend_from_slice-2.new.self.items
    c.in_ok-extend_from_slice.ensures.items
    (put_of c.extend_from_slice.new.self.items c.push_name.new.text.items (name_text c.args.token.now ms) c.in-Ok.ensures)
    (sym c.in_ok-wrong.ensures ∙ ap (option_map view_kept) c.in_default.is)
    c.in_ok-push_head.ensures c.in_ok-push_members.ensures c.in_ok-extend_from_slice-2.ensures.items)
