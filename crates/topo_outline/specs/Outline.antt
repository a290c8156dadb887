-- The outline of a topology, or the first fault of its shape.
use Rattle.std.specs.Prelude.{List, codes, Option, Result, Ok}
use Rattle.json_spans.specs.Common.{Node}
use Rattle.topo_outline.specs.declared.fault.Limit.TheVariants as limit
use Rattle.ring_machine.specs.Common.{Text}
use Rattle.topo_outline.specs.declared.words.Word.TheVariants as word
use Rattle.topo_outline.specs.declared.members.Owner.TheVariants as owner
use Rattle.topo_outline.specs.Faults.{Fault, not_topology, too_large, ◌>>=◌, demand}
use Rattle.topo_outline.specs.Members.{EntryNode, member, kept}
use Rattle.topo_outline.specs.Layers.{LayerText, OutlineText}
pub use Rattle.topo_outline.specs.Layers.{leaf_of, at_most_one, few}
unfoldable pub use Rattle.topo_outline.specs.Layers.{leaves_in, leaves}
use Rattle.topo_outline.specs.Shape.{members_of, member_that, is_list, is_object, is_topology, transform_from, layers}

-- the outline of a topology with these members
abbrev pub outline_text : Option Text → List LayerText → Node → List EntryNode → OutlineText
outline_text t ls arcs' ms = record {
  transform = t;
  layers = ls;
  arcs = arcs';
  members = kept owner.Topology ms;
}

abbrev pub limited : OutlineText → Result OutlineText Fault
limited o = demand (few o.layers) (too_large limit.Features) (Ok o)

-- the members are tested in this order: transform, objects, arcs, the layers
abbrev pub outlined : List EntryNode → Result OutlineText Fault
outlined ms = do
  t ← transform_from (member word.Transform ms)
  objects ← member_that is_object (codes "objects") word.Objects ms
  arcs' ← member_that is_list (codes "arcs") word.Arcs ms
  ls ← layers objects.value
  limited (outline_text t ls arcs'.value ms)

-- the first fault of a topology's shape, or its outline (TopoJSON 1.0, 2.1)
abbrev pub outline : Node → Result OutlineText Fault
outline root = demand (is_object root) not_topology (do
  ms ← members_of root
  demand (is_topology (member word.Type ms)) not_topology (outlined ms))
