-- What the code holds, as the definitions see it.
use Rattle.std.specs.Prelude.{map, option_map}
use Rattle.json_spans.specs.Common.{node, Node}
use Rattle.ring_machine.specs.Common.{Form, Polygon, MultiPolygon, Null, Head, Member}
use Rattle.topo_outline.specs.declared.entries.Entry.{Entry}
use Rattle.topo_outline.specs.declared.document.Form.{Form as CodeForm}
use Rattle.topo_outline.specs.declared.document.Form.TheVariants as form
use Rattle.topo_outline.specs.declared.document.KeptMember.{KeptMember}
use Rattle.topo_outline.specs.declared.document.Head.{Head as CodeHead}
use Rattle.topo_outline.specs.declared.document.Item.{Item}
use Rattle.topo_outline.specs.declared.document.Item.TheVariants as item
use Rattle.topo_outline.specs.declared.document.RawLayer.{RawLayer}
use Rattle.topo_outline.specs.declared.places.Place.{Place}
use Rattle.topo_outline.specs.Members.{EntryNode}
use Rattle.topo_outline.specs.Layers.{Piece, starts, ends, leaf, text, LayerText}

-- the form in the definitions
abbrev pub form_of : CodeForm → Form
form_of form.Polygon = Polygon
form_of form.MultiPolygon = MultiPolygon
form_of form.Null = Null

abbrev pub view_entry : Entry → EntryNode
view_entry e = record { word = e.word; name = node e.name; value = node e.value }

abbrev pub view_kept : KeptMember → Member
view_kept k = record { name = k.name.now; value = k.value.now }

abbrev pub view_head : {A : Type 0} → CodeHead A → Head
view_head h = record {
  id = option_map (λ t. t.now) h.id;
  properties = option_map (λ t. t.now) h.properties;
  members = map view_kept h.members.items;
}

abbrev pub view_item : {A : Type 0} → Item A → Piece
view_item (item.Open h) = starts (view_head h)
view_item item.Close = ends
view_item (item.Leaf f) = leaf (form_of f.form) (view_head f.head) (node f.arcs)
view_item (item.Kept t) = text t.now

abbrev pub view_layer : {A : Type 0} → RawLayer A → LayerText
view_layer l = record { name = l.name.now; pieces = map view_item l.items.items }

abbrev pub view_place : Place → Form × Node
view_place p = (form_of p.form, node p.arcs)
