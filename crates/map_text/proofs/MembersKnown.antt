-- The names and the types that the writer makes are JSON strings, and decode to themselves.
use Rattle.kit_words.proofs.Common.{◌≡◌, ℕ, true, List, [], ◌∷◌, ◌++◌, refl, codes, Some, IsUtf8, list_all, and_parts}
use Rattle.serde_json.specs.Read.{read}
use Rattle.serde_json.specs.Data.{string}
use Rattle.serde_json.proofs.OnLiterals.{serde_json_on_literals}
use Rattle.json_spans.specs.Common.{is_ascii, Chars, quote, ascii, quoted}
use Rattle.json_spans.proofs.Decoding.{decoded_as}
use Rattle.topo_outline.specs.Common.{IsName}

-- the name between quotation marks
abbrev pub token_of : List ℕ → List ℕ
token_of name = 34 ∷ (name ++ (34 ∷ []))

plain_chars : (name : List ℕ) → list_all is_ascii name ≡ true → Chars (name ++ (34 ∷ [])) []
plain_chars [] e = quote
plain_chars (c ∷ cs) e = ascii {a = c} (and_parts (is_ascii c) (list_all is_ascii cs) e).0 (plain_chars cs (and_parts (is_ascii c) (list_all is_ascii cs) e).1)

pub plain_name : (name : List ℕ) → list_all is_ascii name ≡ true → IsUtf8 (token_of name) → read (token_of name) ≡ Some (string name) → IsName (token_of name) name
plain_name name e u r = record { string = quoted (plain_chars name e); says = decoded_as (token_of name) (string name) u r }

pub type_named : IsName (codes "\"type\"") (codes "type")
unfolding serde_json_on_literals
type_named = plain_name (codes "type") refl (codes "\"type\"", (refl, refl)) refl

pub id_named : IsName (codes "\"id\"") (codes "id")
unfolding serde_json_on_literals
id_named = plain_name (codes "id") refl (codes "\"id\"", (refl, refl)) refl

pub properties_named : IsName (codes "\"properties\"") (codes "properties")
unfolding serde_json_on_literals
properties_named = plain_name (codes "properties") refl (codes "\"properties\"", (refl, refl)) refl

pub arcs_named : IsName (codes "\"arcs\"") (codes "arcs")
unfolding serde_json_on_literals
arcs_named = plain_name (codes "arcs") refl (codes "\"arcs\"", (refl, refl)) refl

pub geometries_named : IsName (codes "\"geometries\"") (codes "geometries")
unfolding serde_json_on_literals
geometries_named = plain_name (codes "geometries") refl (codes "\"geometries\"", (refl, refl)) refl

pub transform_named : IsName (codes "\"transform\"") (codes "transform")
unfolding serde_json_on_literals
transform_named = plain_name (codes "transform") refl (codes "\"transform\"", (refl, refl)) refl

pub objects_named : IsName (codes "\"objects\"") (codes "objects")
unfolding serde_json_on_literals
objects_named = plain_name (codes "objects") refl (codes "\"objects\"", (refl, refl)) refl

pub polygon_named : IsName (codes "\"Polygon\"") (codes "Polygon")
unfolding serde_json_on_literals
polygon_named = plain_name (codes "Polygon") refl (codes "\"Polygon\"", (refl, refl)) refl

pub multi_polygon_named : IsName (codes "\"MultiPolygon\"") (codes "MultiPolygon")
unfolding serde_json_on_literals
multi_polygon_named = plain_name (codes "MultiPolygon") refl (codes "\"MultiPolygon\"", (refl, refl)) refl

pub collection_named : IsName (codes "\"GeometryCollection\"") (codes "GeometryCollection")
unfolding serde_json_on_literals
collection_named = plain_name (codes "GeometryCollection") refl (codes "\"GeometryCollection\"", (refl, refl)) refl

pub topology_named : IsName (codes "\"Topology\"") (codes "Topology")
unfolding serde_json_on_literals
topology_named = plain_name (codes "Topology") refl (codes "\"Topology\"", (refl, refl)) refl
