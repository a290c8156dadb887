-- The written text of a document is read as the document.
use Rattle.kit_words.proofs.Common.{◌≡◌, ℕ, ◌≤◌, ◌+◌, List, [], ◌∷◌, ◌++◌, map, length, true, refl, sym, ap, ◌∙◌, subst}
use Rattle.kit_words.proofs.Common.{codes, ℤ, Option, Some, None, option_map, is_some, AllByRecursion, AllZip, flat_map}
use Rattle.kit_words.proofs.Common.{filter_map}
use Rattle.grid_geometry.specs.Common.{Position, InRange}
use Rattle.ring_machine.specs.Common.{Text, Member, Layer, Document, feature_of, in_feature, in_item, in_layer}
use Rattle.ring_machine.specs.Common.{is_geometry, Same, is_junction}
use Rattle.json_spans.specs.Common.{Node}
use Rattle.topo_outline.specs.declared.words.Word.TheVariants as word
use Rattle.topo_outline.specs.declared.members.Owner.TheVariants as owner
use Rattle.topo_outline.specs.Common.{word_of, EntryNode, LayerText, value_at, HasEntries, IsTransform, no_transform}
use Rattle.topo_outline.specs.Common.{IsOutline, IsJson, IsName, IfThere, IsKeptTransform, KeepsItem}
use Rattle.topo_reader.specs.Common.{Arc, Opened, document_of, AreArcs, Reads}
use Rattle.map_text.specs.Common.{pieces, arcs_of, indexes, object_text, member, member_if, arcs_text, layer_member}
use Rattle.map_text.specs.Common.{text_of, Saved, IsWritable}
use Rattle.map_text.proofs.Ends.{arcs_long, arcs_each}
use Rattle.map_text.proofs.Saved.{saved_by}
use Rattle.map_text.proofs.GrammarLists.{bytes_of, bare}
use Rattle.map_text.proofs.GrammarObjects.{IsMember, object_is_json}
use Rattle.map_text.proofs.MembersKnown.{transform_named, objects_named, topology_named}
use Rattle.map_text.proofs.MembersSeen.{Says, object_seen}
use Rattle.map_text.proofs.MembersFields.{Field, present, IsField, written_object, written_json}
use Rattle.map_text.proofs.ReadingLists.{all_made}
use Rattle.map_text.proofs.ReadingArcs.{IsLine, arcs_json, arcs_read}
use Rattle.map_text.proofs.ReadingPlaces.{node_there, kept_transform}
use Rattle.map_text.proofs.ReadingFeatures.{name_json, type_field, arcs_field, type_is_field, arcs_is_field, has_type, four_joined}
use Rattle.map_text.proofs.ReadingRings.{Drawn, all_drawn, all_both, all_passed, all_plain, IsPlain, items_written}
use Rattle.map_text.proofs.ReadingLayers.{layer_polygons, IsPlainLayer, layer_json, IsReadLayer, AreReadLayers, layer_as, layers_read, layer_uses, layers_use, layers_lead, layers_same}

-- ---- the layers

abbrev ring_indexes : Document → List Position → List ℤ
ring_indexes d = indexes (is_junction d) (arcs_of d)

abbrev ring_pieces : Document → List Position → List Arc
ring_pieces d = pieces (is_junction d)

abbrev Plain : Document → Layer → Type 0
Plain d = IsPlainLayer (arcs_of d) (ring_indexes d) (ring_pieces d)

plain_layers : (d : Document) (ls : List Layer) → AllByRecursion (λ (l : Layer). is_geometry l.items ≡ true) ls → AllByRecursion (λ (l : Layer). AllByRecursion (IsPlain (Drawn d)) (filter_map feature_of l.items)) ls → AllByRecursion (λ (l : Layer). AllByRecursion KeepsItem l.items) ls → AllByRecursion (Plain d) ls
plain_layers d [] h k t = tt
plain_layers d (l ∷ ls) h k t =
    (record { geometry = h.0; written = items_written (arcs_of d) (ring_indexes d) (ring_pieces d) l.items k.0 t.0; plain = k.0 }, plain_layers d ls h.1 k.1 t.1)

are_plain : (d : Document) → IsWritable d → AllByRecursion (Plain d) d.layers
are_plain d w = plain_layers d d.layers (all_passed (λ (l : Layer). is_geometry l.items) d.layers w.formed.geometries) (all_plain (Drawn d) d w.formed.forms (all_drawn d w.are_rings w.small)) w.keeps.items

abbrev layer_is : Document → Layer → Member
layer_is d = layer_as (arcs_of d) (ring_indexes d) (ring_pieces d)

layers_as : (d : Document) (ls : List Layer) → map layer_member (map (in_layer (map (in_item (in_feature (ring_indexes d))))) ls) ≡ map (layer_is d) ls
layers_as d [] = refl
layers_as d (l ∷ ls) = ap (λ (z : List Member). layer_is d l ∷ z) (layers_as d ls)

layers_are_members : (d : Document) (ls : List Layer) (ts : List (List ℕ)) → AllZip (λ (l : Layer) t. IsName l.name t) ls ts → AllByRecursion (Plain d) ls → AllByRecursion IsMember (map (layer_is d) ls)
layers_are_members d [] ts k h = tt
layers_are_members d (l ∷ ls) [] k h = absurd k
layers_are_members d (l ∷ ls) (t ∷ ts) k h =
    (record { string = k.0.string; json = layer_json (arcs_of d) (ring_indexes d) (ring_pieces d) l h.0 }, layers_are_members d ls ts k.1 h.1)

layers_said : (d : Document) (ls : List Layer) (ts : List (List ℕ)) → AllZip (λ (l : Layer) t. IsName l.name t) ls ts → AllZip Says (map (layer_is d) ls) ts
layers_said d [] [] k = tt
layers_said d [] (t ∷ ts) k = absurd k
layers_said d (l ∷ ls) [] k = absurd k
layers_said d (l ∷ ls) (t ∷ ts) k = (k.0.says, layers_said d ls ts k.1)

abbrev objects_text : Document → Text
objects_text d = object_text (map (layer_is d) d.layers)

objects_json : (d : Document) → IsWritable d → IsJson (objects_text d)
objects_json d w = object_is_json (map (layer_is d) d.layers) (layers_are_members d d.layers w.keeps.layer_names w.keeps.layers_named (are_plain d w))

-- `objects`, as it is read
record HasLayers (d : Document) (n : Node) : Type 0 where
  named : List EntryNode
  has : HasEntries n named
  read : AreReadLayers (arcs_of d) (ring_indexes d) (ring_pieces d) named d.layers

objects_read : (d : Document) → IsWritable d → (n : Node) → n.bytes ≡ objects_text d → HasLayers d n
objects_read d w n e =
    let k = w.keeps in
    let o = object_seen n (map (layer_is d) d.layers) k.layer_names e (layers_are_members d d.layers k.layer_names k.layers_named (are_plain d w)) (layers_said d d.layers k.layer_names k.layers_named) k.layers_differ in
    record { named = o.entries; has = o.has; read = layers_read (arcs_of d) (ring_indexes d) (ring_pieces d) d.layers k.layer_names o.entries k.layers_named (are_plain d w) o.are }

-- ---- the arcs

are_lines : (d : Document) → IsWritable d → AllByRecursion IsLine (arcs_of d)
are_lines d w =
    all_made (λ a. AllByRecursion InRange a × (2 ≤ length a)) IsLine (arcs_of d) (λ a h. record { range = h.0; long = h.1 })
    (all_both (AllByRecursion InRange) (λ a. 2 ≤ length a) (arcs_of d) (arcs_each InRange d w.in_range) (arcs_long d))

abbrev all_arcs_text : Document → Text
all_arcs_text d = arcs_text (is_some d.transform) (arcs_of d)

-- ---- the members of the topology

abbrev transform_field : Option Text → Field
transform_field value = record { word = word.Transform; says = codes "transform"; token = codes "\"transform\""; value = value }

abbrev objects_field : Text → Field
objects_field value = record { word = word.Objects; says = codes "objects"; token = codes "\"objects\""; value = Some value }

transform_is_field : (value : Option Text) → IfThere IsJson value → IsField owner.Topology (transform_field value)
unfolding word_of
transform_is_field value j = record { named = transform_named; word_is = refl; known = refl; json = j }

objects_is_field : (value : Text) → IsJson value → IsField owner.Topology (objects_field value)
unfolding word_of
objects_is_field value j = record { named = objects_named; word_is = refl; known = refl; json = j }

abbrev fields : Document → List Field
fields d = type_field (codes "\"Topology\"") ∷ transform_field d.transform ∷ objects_field (objects_text d) ∷ arcs_field (Some (all_arcs_text d)) ∷ []

transform_json : (v : Option Text) → IfThere IsKeptTransform v → IfThere IsJson v
transform_json None k = tt
transform_json (Some t) k = k.value

are_fields : (d : Document) → IsWritable d → AllByRecursion (IsField owner.Topology) (fields d)
are_fields d w = (
  type_is_field owner.Topology (codes "\"Topology\"") refl (name_json _ _ topology_named),
  (
    transform_is_field d.transform (transform_json d.transform w.keeps.transform),
    (
      objects_is_field (objects_text d) (objects_json d w),
      (arcs_is_field owner.Topology (Some (all_arcs_text d)) refl (arcs_json (is_some d.transform) (arcs_of d) (are_lines d w)), tt),
    ),
  ),
)

text_is : (d : Document) → text_of d ≡ object_text (present (fields d) ++ d.members)
text_is d =
    let parts : Text → List Member = λ (objects : Text). member (codes "\"type\"") (codes "\"Topology\"") ∷ (member_if (codes "\"transform\"") d.transform ++ (member (codes "\"objects\"") objects ∷ (member (codes "\"arcs\"") (all_arcs_text d) ∷ d.members))) in
    ap (λ (z : List Member). object_text (parts (object_text z))) (layers_as d d.layers)
    ∙ ap object_text (sym (four_joined (member (codes "\"type\"") (codes "\"Topology\"") ∷ []) (member_if (codes "\"transform\"") d.transform) (member (codes "\"objects\"") (objects_text d) ∷ []) (member (codes "\"arcs\"") (all_arcs_text d) ∷ []) d.members))

pub text_json : (d : Document) → IsWritable d → IsJson (text_of d)
text_json d w = subst IsJson (sym (text_is d)) (written_json owner.Topology (fields d) d.members (are_fields d w) w.keeps.members)

-- ---- the topology

transform_read : (o : Option Node) (v : Option Text) → option_map bytes_of o ≡ v → IfThere IsKeptTransform v → IsTransform o v
transform_read None None e k = no_transform
transform_read None (Some t) e k = absurd cc
transform_read (Some n) None e k = absurd cc
transform_read (Some n) (Some t) e k = let same : n.bytes ≡ t = cc in kept_transform t n k same

-- the outline of the text, with its layers and its arcs
record IsOutlined (d : Document) (root : Node) : Type 0 where
  arcs : Node
  layers : List LayerText
  outline : IsOutline root (record { transform = d.transform; layers = layers; arcs = arcs; members = d.members })
  arcs_are : AreArcs (is_some d.transform) arcs (arcs_of d)
  read : AllZip (IsReadLayer (arcs_of d) (ring_indexes d) (ring_pieces d)) d.layers layers

outlined : (d : Document) → IsWritable d → (root : Node) → root.bytes ≡ text_of d → IsOutlined d root
outlined d w root e =
    let o = written_object owner.Topology root (fields d) d.members (are_fields d w) refl w.keeps.members (e ∙ text_is d) in
    let objects = node_there (value_at word.Objects o.entries) (objects_text d) (o.values word.Objects refl) in
    let found = node_there (value_at word.Arcs o.entries) (all_arcs_text d) (o.values word.Arcs refl) in
    let inside = objects_read d w objects.0 objects.2 in
    let lines = arcs_read (is_some d.transform) found.0 (arcs_of d) (are_lines d w) found.2 in
    record {
      arcs = found.0;
      layers = inside.read.texts;
      outline = record {
        entries = o.entries;
        objects = objects.0;
        named = inside.named;
        of_root = o.has;
        topology = has_type owner.Topology root (fields d) d.members (codes "\"Topology\"") (codes "Topology") o (o.values word.Type refl) topology_named;
        transform = transform_read (value_at word.Transform o.entries) d.transform (o.values word.Transform refl) w.keeps.transform;
        has_objects = objects.1;
        of_objects = inside.has;
        layers = inside.read.layers;
        has_arcs = found.1;
        are_arcs = (lines.0, lines.1);
        members = sym o.keeps;
      };
      arcs_are = lines;
      read = inside.read.read;
    }

-- ---- the document

abbrev as_read : (d : Document) → List LayerText → Opened
as_read d layers = record { transform = d.transform; layers = layers; members = d.members; polygons = flat_map layer_polygons d.layers }

same_as_read : (d : Document) → IsWritable d → (layers : List LayerText) → AllZip (IsReadLayer (arcs_of d) (ring_indexes d) (ring_pieces d)) d.layers layers → Same d (document_of (as_read d layers))
same_as_read d w layers h =
    ap (λ (ls : List Layer). let e : Document = record { transform = d.transform; layers = ls; members = d.members } in e)
    (layers_same (arcs_of d) (ring_indexes d) (ring_pieces d) d.layers layers h (are_plain d w) (flat_map layer_polygons d.layers) [] 0 refl refl)

-- the text stands alone, with no space round it
abbrev whole : Document → Node
whole d = record { at_byte = 0 + 0; bytes = text_of d }

abbrev reading : (d : Document) → (w : IsWritable d) → (o : IsOutlined d (whole d)) → Reads (text_of d) (document_of (as_read d o.layers))
reading d w o = record {
  levels = (text_json d w).0;
  root = whole d;
  json = bare 0 (text_of d) (text_json d w).1;
  shape = record { transform = d.transform; layers = o.layers; arcs = o.arcs; members = d.members };
  arcs = arcs_of d;
  uses = flat_map (layer_uses (arcs_of d) (ring_indexes d) (ring_pieces d)) d.layers;
  polygons = flat_map layer_polygons d.layers;
  topology = o.outline;
  arcs_are = o.arcs_are;
  uses_are = layers_use (arcs_of d) (ring_indexes d) (ring_pieces d) d.layers o.layers o.read (are_plain d w);
  rings_are = layers_lead (arcs_of d) (ring_indexes d) (ring_pieces d) d.layers (are_plain d w);
  document = refl;
}

-- the text of a document keeps it: it is read as the document, but for the numbers of its features,
-- and each border stands in it once
pub text_saves : (d : Document) → IsWritable d → Saved (text_of d) d
text_saves d w =
    let o = outlined d w (whole d) refl in
    saved_by (text_of d) d (document_of (as_read d o.layers)) w.are_rings (reading d w o) refl (same_as_read d w o.layers o.read)
