use Rattle.kit_words.proofs.Common.{◌∙◌, ap, codes, map, not, refl, sym}
use Rattle.topo_outline.specs.Common.{duplicate, view_kept}
use Rattle.geo_features.proofs.Carrying.{put_back}
use Rattle.geo_text.proofs.FrontNames.{name_there}
use Rattle.geo_text.proofs.FrontTexts.{name_left, name_put, name_twice}
use Rattle.geo_text.proofs.front.push_name.Goals as goal

pub returns-then-is_none : goal.returns-then-is_none
returns-then-is_none g c =
    let ms = map view_kept c.args.members.now in
    let no = name_there ms c.in_ok-first_of.field-0 c.is_none.result c.in_ok-first_of.ensures c.is_none.ensures ∙ ap not c.if-is_none.true in
    put_back _ _ _ (name_put c.args.token.now ms c.args.text.now.items c.push_member.new.text.items no c.in_ok-push_member.ensures)

pub returns-then-branch : goal.returns-then-branch
returns-then-branch g c =
    let ms = map view_kept c.args.members.now in
    let there = name_there ms c.in_ok-first_of.field-0 c.is_none.result c.in_ok-first_of.ensures c.is_none.ensures ∙ ap not c.if-is_none.false in
    put_back _ _ _ (name_left c.args.token.now ms c.args.text.now.items there (sym c.in_ok-is_one_of.ensures ∙ c.if-branch.true))

pub returns : goal.returns
returns g c =
    let ms = map view_kept c.args.members.now in
    let there = name_there ms c.in_ok-first_of.field-0 c.is_none.result c.in_ok-first_of.ensures c.is_none.ensures ∙ ap not c.if-is_none.false in
    (duplicate (codes "name"), refl, name_twice c.args.token.now ms there (sym c.in_ok-is_one_of.ensures ∙ c.if-branch.false))
