use Rattle.map_frame.proofs.CopiedFrames.{feature_copied}
use Rattle.map_frame.specs.Common.{Feature}
use Rattle.map_frame.proofs.copying.FeatureClone.clone.Goals as goal

pub returns : goal.returns
returns g c =
    let f = c.args.self.now in
    let copy : Feature g.row.A.Denot = record {
      texts = c.in_ok-clone.field-0;
      polygons = c.in_ok-clone-2.field-0;
    } in
    record { cases = feature_copied f copy c.in_ok-clone.ensures.cases c.in_ok-clone-2.ensures.cases.0 }
