use Rattle.kit_words.proofs.Common.{◌≡◌, subst, IfOk}
use Rattle.ring_machine.specs.Common.{feature_at}
use Rattle.ring_parts.specs.Common.{polygons_seen}
use Rattle.arc_store.proofs.map.Map.polygons.Goals as goal

pub returns : goal.returns
returns g c =
    subst (λ s. IfOk c.read_polygons.result (λ found. polygons_seen found.items ≡ (feature_at s.doc c.args.n).polygons)) c.self.view_is
    c.read_polygons.ensures
