-- The members of an object by their names, and which names an object may have.
use Rattle.std.specs.Prelude.{ℕ, List, [], ◌∷◌, ◌++◌, ◌==◌, find, Bool, true, false, not, Option, Some, None, Result, Ok, Err}
use Rattle.std.specs.List.{list_any}
use Rattle.std.specs.Str.{bytes_eq}
use Rattle.json_spans.specs.Common.{Node, members}
use Rattle.topo_outline.specs.Common.{Fault, bad_member, duplicate, demand, ◌>>=◌, name_text, unquoted}
use Rattle.geo_topology.specs.Words.{word_named}
use Rattle.geo_topology.specs.declared.words.Word.{Word}
use Rattle.geo_topology.specs.declared.words.Word.TheVariants as word
use Rattle.geo_topology.specs.declared.members.Owner.{Owner}
use Rattle.geo_topology.specs.declared.members.Owner.TheVariants as owner

-- a member_with_word of an object (RFC 8259, 4): what its decoded name says, its name and its value
pub record Named : Type 0 where
  pub word : Word
  pub name : Node
  pub value : Node

-- the member_with_word whose name stands for this text
abbrev pub member_named : List ℕ → Node × Node → Named
member_named t m = record { word = word_named t; name = m.0; value = m.1 }

-- the members in order, each tested against the texts of those before it
unfoldable pub distinct_members : List (List ℕ) → List (Node × Node) → Result (List Named) Fault
distinct_members seen [] = Ok []
distinct_members seen (m ∷ ms) = do
  t ← name_text m.0
  rest ← demand (not (list_any (bytes_eq t) seen)) (duplicate (unquoted m.0.bytes))
      (distinct_members (seen ++ t ∷ []) ms)
  Ok (member_named t m ∷ rest)

-- the members, where their decoded names differ
abbrev pub members_once : Node → Result (List Named) Fault
members_once n = distinct_members [] (members n)

-- the place of a word in the list of words
abbrev pub word_code : Word → ℕ
word_code word.Type = 0
word_code word.Features = 1
word_code word.Geometry = 2
word_code word.Geometries = 3
word_code word.Coordinates = 4
word_code word.Id = 5
word_code word.Properties = 6
word_code word.Bbox = 7
word_code word.Name = 8
word_code word.Arcs = 9
word_code word.Other = 10

-- the member_with_word with this name
abbrev pub member_with_word : Word → List Named → Option Named
member_with_word w ms = find (λ m. word_code m.word == word_code w) ms

-- ---- faults

-- a wrong_member member_with_word is distinct_members as it stands
abbrev pub wrong_member : Named → Fault
wrong_member m = bad_member (unquoted m.name.bytes)

abbrev pub right_member : Bool → Named → Result Named Fault
right_member right m = demand right (wrong_member m) (Ok m)

-- a missing one by the name expected
abbrev pub member_expected : List ℕ → Option Named → Result Named Fault
member_expected expected None = Err (bad_member expected)
member_expected expected (Some m) = Ok m

abbrev pub expected_member : List ℕ → Word → List Named → Result Named Fault
expected_member expected w ms = member_expected expected (member_with_word w ms)

-- r, where member_expected is no such member_with_word
abbrev pub unless_member : {A : Type 0} → Option Named → Result A Fault → Result A Fault
unless_member None r = r
unless_member (Some m) r = Err (wrong_member m)

-- ---- names of another object (RFC 7946, 7.1)

abbrev pub is_barred : Owner → Word → Bool
is_barred owner.Collection word.Coordinates = true
is_barred owner.Collection word.Geometries = true
is_barred owner.Collection word.Geometry = true
is_barred owner.NamedCollection word.Coordinates = true
is_barred owner.NamedCollection word.Geometries = true
is_barred owner.NamedCollection word.Geometry = true
is_barred owner.Feature word.Coordinates = true
is_barred owner.Feature word.Geometries = true
is_barred owner.Feature word.Features = true
is_barred owner.Feature word.Arcs = true
is_barred owner.Geometry word.Geometry = true
is_barred owner.Geometry word.Properties = true
is_barred owner.Geometry word.Features = true
is_barred _ _ = false

-- the first member_with_word whose name is another object's
abbrev pub barred : Owner → List Named → Option Named
barred o ms = find (λ m. is_barred o m.word) ms

-- ---- foreign members (RFC 7946, 6.1)

-- the member_with_word has its own place in the made text, or is dropped as a `bbox`; any other is foreign
abbrev pub has_own_place : Owner → Word → Bool
has_own_place o word.Type = true
has_own_place o word.Bbox = true
has_own_place owner.Collection word.Id = true
has_own_place owner.Collection word.Properties = true
has_own_place owner.Collection word.Features = true
has_own_place owner.NamedCollection word.Id = true
has_own_place owner.NamedCollection word.Properties = true
has_own_place owner.NamedCollection word.Features = true
has_own_place owner.NamedCollection word.Name = true
has_own_place owner.Feature word.Id = true
has_own_place owner.Feature word.Properties = true
has_own_place owner.Feature word.Geometry = true
has_own_place owner.Geometry word.Coordinates = true
has_own_place owner.Geometry word.Geometries = true
has_own_place _ _ = false
