use Rattle.kit_words.proofs.Common.{◌≡◌, map, rules, true, IfErr-weaker}
use Rattle.topo_outline.specs.Common.{values, view_layer}
use Rattle.topo_reader.specs.Common.{view_raw}
use Rattle.cover_report.specs.Faults.{IsLookFault, IsUnlooked}
use Rattle.cover_report.specs.Names.{are_there}
use Rattle.cover_report.proofs.ProperLayers.{proper_layer}
use Rattle.cover_report.proofs.Refusing.{unlooked}
use Rattle.cover_report.proofs.report.looks_at.Goals as goal

pub looks_of-requires-clause-proper : goal.looks_of-requires-clause-proper
looks_of-requires-clause-proper g c = proper_layer (view_raw c.args.raw) c.requires.rings c.requires.proper

pub returns-clause-fault : goal.returns-clause-fault
returns-clause-fault g c =
    let names = map (λ name. name.now) c.args.names.now in
    let layers = map view_layer (values c.args.raw.layers) in
    let there : are_there names layers ≡ true = search rules in
    IfErr-weaker c.looks_of.result IsLookFault (IsUnlooked names layers) (λ e h. unlooked names layers e there h) c.looks_of.ensures.fault
