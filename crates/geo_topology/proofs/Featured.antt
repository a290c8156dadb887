-- Features: which step answers.
use Rattle.kit_words.proofs.Common.{◌≡◌, List, refl, Ok}
use Rattle.json_spans.specs.Common.{Node}
use Rattle.topo_outline.specs.Common.{Fails}
use Rattle.topo_outline.specs.declared.fault.OpenFault.{OpenFault}
use Rattle.topo_outline.proofs.Walking.{carry}
use Rattle.geo_topology.specs.Members.{Named, members_once}
use Rattle.geo_topology.specs.Features.{geometry_member, with_geometry, feature_pieces}

pub names_fail : (o : OpenFault) (n : Node) → Fails o (members_once n) → Fails o (feature_pieces n)
unfolding feature_pieces
names_fail o n h = carry o (members_once n) _ (λ f e. rw e refl) h

pub value_fails : (o : OpenFault) (n : Node) (ms : List Named) → members_once n ≡ Ok ms → Fails o (geometry_member ms) → Fails o (feature_pieces n)
unfolding feature_pieces
value_fails o n ms m h = carry o (geometry_member ms) _ (λ f e. rw (m, e) refl) h

pub made_of_value : (n : Node) (ms : List Named) (v : Named) → members_once n ≡ Ok ms → geometry_member ms ≡ Ok v → feature_pieces n ≡ with_geometry ms v.value
unfolding feature_pieces
made_of_value n ms v m k = rw (m, k) refl
