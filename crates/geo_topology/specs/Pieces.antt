-- What the text of the topology is made of, up to its arcs.
use Rattle.std.specs.Prelude.{ℕ, List, [], ◌∷◌, ◌++◌, Bool, true, false, not, ◌||◌, codes, Option, Some, None, Result, Ok}
use Rattle.json_spans.specs.Common.{Node}
use Rattle.topo_outline.specs.Common.{Fault, ◌>>=◌}
use Rattle.geo_topology.specs.declared.words.Word.TheVariants as word
use Rattle.geo_topology.specs.declared.members.Owner.{Owner}
use Rattle.geo_topology.specs.declared.members.Owner.TheVariants as owner
use Rattle.geo_topology.specs.Members.{Named, member_with_word, has_own_place}

-- words of our own, a copy of a name or a value, the arcs of a polygon with these rings, or those of
-- several polygons
pub data TextPiece : Type 0 where
  words : List ℕ → TextPiece
  copied : Node → TextPiece
  rings : Node → TextPiece
  polygons : Node → TextPiece

-- a comma, but before the first
abbrev pub comma : Bool → List TextPiece
comma true = []
comma false = words (codes ",") ∷ []

-- one after another, with commas between them
unfoldable pub separated : {A : Type 0} → (A → Result (List TextPiece) Fault) → Bool → List A →
    Result (List TextPiece) Fault
separated f first [] = Ok []
separated f first (a ∷ as') = do
  xs ← f a
  ys ← separated f false as'
  Ok (comma first ++ (xs ++ ys))

-- a member_with_word as it stands, behind these words
abbrev pub member_behind : List ℕ → Named → List TextPiece
member_behind before m =
    words before ∷ copied m.name ∷ words (codes ":") ∷ copied m.value ∷ []

-- the value of a member_with_word behind these words, where it is there
abbrev pub value_behind : List ℕ → Option Named → List TextPiece
value_behind before None = []
value_behind before (Some m) = words before ∷ copied m.value ∷ []

-- the id and the properties of a Feature (RFC 7946, 3.2), or of a collection
abbrev pub id_and_properties : List Named → List TextPiece
id_and_properties ms =
    value_behind (codes ",\"id\":") (member_with_word word.Id ms)
    ++ value_behind (codes ",\"properties\":") (member_with_word word.Properties ms)

-- a member_with_word as it stands, where it is foreign
abbrev pub kept_one : Bool → List ℕ → Named → List TextPiece
kept_one true before m = []
kept_one false before m = member_behind before m

-- the foreign members of a Feature, or of a collection
abbrev pub foreign : Owner → List Named → List TextPiece
foreign o [] = []
foreign o (m ∷ ms) = kept_one (has_own_place o m.word) (codes ",") m ++ foreign o ms

abbrev pub before_inside : Bool → List ℕ
before_inside true = codes ","
before_inside false = codes ",\"geometry\":{"

abbrev pub end_inside : Bool → List TextPiece
end_inside true = words (codes "}") ∷ []
end_inside false = []

-- the foreign members of a geometry, in a member_with_word `geometry`, whether that is open already
abbrev pub inside : Bool → List Named → List TextPiece
inside open' [] = end_inside open'
inside open' (m ∷ ms) =
    kept_one (has_own_place owner.Geometry m.word) (before_inside open') m
    ++ inside (open' || not (has_own_place owner.Geometry m.word)) ms
