use Rattle.kit_words.proofs.Common.{ap, ◌∙◌, ◌++◌}
use Rattle.ring_machine.specs.Common.{in_feature, is_junction}
use Rattle.map_text.specs.Common.{arcs_of, indexes, feature_text}
use Rattle.topo_writer.specs.Common.{feature_or_bare, arcs_in}
use Rattle.topo_writer.proofs.InDocument.{rings_there, form_fits}
use Rattle.topo_writer.proofs.ItemSteps.{after_comma}
use Rattle.topo_writer.proofs.Leading.{feature_whole, leaf_rings, leaf_few}
use Rattle.topo_writer.proofs.items.push_leaf.Goals as goal

pub push_feature-requires-clause-fits : goal.push_feature-requires-clause-fits
push_feature-requires-clause-fits g c = form_fits c.args.map.now c.requires.formed c.args.n

pub push_feature-requires-clause-there : goal.push_feature-requires-clause-there
push_feature-requires-clause-there g c = rings_there c.args.map.now c.args.n

pub push_feature-requires-clause-few : goal.push_feature-requires-clause-few
push_feature-requires-clause-few g c = leaf_few c.args.map.now (arcs_in c.args.map.now c.args.arcs.now) c.args.n c.requires.there c.requires.leads

pub returns-clause-text : goal.returns-clause-text
returns-clause-text g c =
    let d = c.args.map.now in
    let f = feature_or_bare d c.args.n in
    after_comma c.args.text.now.items c.args.more (feature_text (in_feature (indexes (is_junction d) (arcs_of d)) f)) c.push_comma.new.text.items c.push_feature.new.text.items
    c.in_ok-push_comma.ensures
    (c.in_ok-push_feature.ensures.text f c.requires.there
    ∙ ap (λ z. c.push_comma.new.text.items ++ feature_text z) (feature_whole d (arcs_in c.args.map.now c.args.arcs.now) (arcs_in c.args.map.now c.push_feature.new.arcs) f c.requires.leads (leaf_rings d c.args.n (arcs_in c.args.map.now c.push_feature.new.arcs) (arcs_in c.args.map.now c.args.arcs.now) c.requires.there c.in_ok-push_feature.ensures.arcs)))
