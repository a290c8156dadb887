use Rattle.kit_words.proofs.Common.{◌∙◌, ap, into_iter_items, length, map, on_ok_weaker, subst}
use Rattle.topo_outline.specs.Common.{leaves_in, view_item}
use Rattle.topo_reader.specs.Common.{feature_positions}
use Rattle.cover_report.specs.Layers.{AddsLook, view_looked}
use Rattle.cover_report.proofs.TakenLayers.{taken_layer, taken_owned, taken_proper}
use Rattle.cover_report.proofs.looked.Looks.step.Goals as goal

pub push_look-requires-clause-owned : goal.push_look-requires-clause-owned
push_look-requires-clause-owned g c =
    taken_owned feature_positions (into_iter_items c.args.self.now.rest) c.args.self.now.first c.leaf_count-count.result c.in_ok-owned.owned.polygons.items _
    c.in_ok-owned.ensures.polygons c.in_ok-owned.ensures.owners

pub push_look-requires-clause-proper : goal.push_look-requires-clause-proper
push_look-requires-clause-proper g c =
    taken_proper feature_positions (into_iter_items c.args.self.now.rest) c.leaf_count-count.result _ c.requires.proper c.in_ok-owned.ensures.polygons

pub returns-then-is_asked-clause-looked : goal.returns-then-is_asked-clause-looked
returns-then-is_asked-clause-looked g c asked =
    let rest = into_iter_items c.args.self.now.rest in
    let owned = c.in_ok-owned.owned in
    on_ok_weaker c.push_look.result
    (λ adds. subst (λ l. AddsLook l (map view_looked c.args.self.now.looks.items) (map view_looked c.push_look.new.looks.items))
    (taken_layer feature_positions rest c.args.layer.now.name.now c.args.self.now.first c.leaf_count-count.result (length (leaves_in (map view_item c.args.layer.now.items.items))) owned
    (c.leaf_count-count.ensures.value ∙ ap (λ z. length (leaves_in (map view_item z))) c.as_slice.ensures.value)
    c.in_ok-owned.ensures.polygons c.in_ok-owned.ensures.owners c.in_ok-owned.ensures.numbers) adds)
    c.push_look.ensures.looked
