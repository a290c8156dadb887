-- The members of an object by their names, and those of them that a document keeps.
use Rattle.std.specs.Prelude.{ℕ, List, ◌==◌, map, filter, Bool, true, false, not, Option, option_map, find}
use Rattle.json_spans.specs.Common.{Node}
use Rattle.ring_machine.specs.Common.{Text, Head, Member}
use Rattle.topo_outline.specs.declared.words.Word.{Word}
use Rattle.topo_outline.specs.declared.words.Word.TheVariants as word
use Rattle.topo_outline.specs.declared.members.Owner.{Owner}
use Rattle.topo_outline.specs.declared.members.Owner.TheVariants as owner
use Rattle.topo_outline.specs.Words.{word_of}

-- a member of an object (RFC 8259, 4): what its decoded name says, its name and its value
pub record EntryNode : Type 0 where
  pub word : Word
  pub name : Node
  pub value : Node

-- the member whose name stands for this text
abbrev pub entry_of : List ℕ → Node × Node → EntryNode
entry_of t m = record { word = word_of t; name = m.0; value = m.1 }

-- the place of a word in the list of words
abbrev pub code : Word → ℕ
code word.Type = 0
code word.Transform = 1
code word.Objects = 2
code word.Arcs = 3
code word.Geometries = 4
code word.Id = 5
code word.Properties = 6
code word.Bbox = 7
code word.Scale = 8
code word.Translate = 9
code word.Other = 10

-- the member with this name
abbrev pub member : Word → List EntryNode → Option EntryNode
member w ms = find (λ m. code m.word == code w) ms

-- ---- kept members

-- known to the reader, or a bounding box, which is dropped (TopoJSON 1.0, 3)
abbrev pub is_known : Owner → Word → Bool
is_known o word.Type = true
is_known o word.Bbox = true
is_known owner.Topology word.Transform = true
is_known owner.Topology word.Objects = true
is_known owner.Topology word.Arcs = true
is_known owner.Rings word.Arcs = true
is_known owner.Collection word.Geometries = true
is_known owner.Rings word.Id = true
is_known owner.Rings word.Properties = true
is_known owner.Collection word.Id = true
is_known owner.Collection word.Properties = true
is_known owner.Null word.Id = true
is_known owner.Null word.Properties = true
is_known _ _ = false

abbrev pub kept_text : EntryNode → Member
kept_text m = record { name = m.name.bytes; value = m.value.bytes }

-- every other member is kept, in order
abbrev pub kept : Owner → List EntryNode → List Member
kept o ms = map kept_text (filter (λ m. not (is_known o m.word)) ms)

abbrev pub text_of : Word → List EntryNode → Option Text
text_of w ms = option_map (λ m. m.value.bytes) (member w ms)

abbrev pub head : Owner → List EntryNode → Head
head o ms = record {
  id = text_of word.Id ms;
  properties = text_of word.Properties ms;
  members = kept o ms;
}
