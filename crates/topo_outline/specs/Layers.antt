-- What stands in the layers of a topology: its pieces in the order of the text, and its features.
use Rattle.std.specs.Prelude.{ℕ, List, [], ◌∷◌, ◌++◌, length, Bool, nat_le, Option, Some, None}
use Rattle.json_spans.specs.Common.{Node}
use Rattle.ring_machine.specs.Common.{Text, Form, Head, Member}

-- a collection stands from its start to the end that belongs to it (TopoJSON 1.0, 2.2.7)
pub data Piece : Type 0 where
  starts : Head → Piece
  ends : Piece
  leaf : Form → Head → Node → Piece
  text : Text → Piece

-- a named geometry of `objects` (TopoJSON 1.0, 2.1.5)
pub record LayerText : Type 0 where
  pub name : Text
  pub pieces : List Piece

-- a topology's text, where `arcs` is the list of its arcs
pub record OutlineText : Type 0 where
  pub transform : Option Text
  pub layers : List LayerText
  pub arcs : Node
  pub members : List Member

-- ---- the features

-- a feature's form, and where its arcs stand
abbrev pub leaf_of : Piece → Option (Form × Node)
leaf_of (starts h) = None
leaf_of ends = None
leaf_of (leaf f h n) = Some (f, n)
leaf_of (text t) = None

abbrev pub at_most_one : {A : Type 0} → Option A → List A
at_most_one None = []
at_most_one (Some a) = a ∷ []

-- the features in the order of the text
unfoldable pub leaves_in : List Piece → List (Form × Node)
leaves_in [] = []
leaves_in (p ∷ ps) = at_most_one (leaf_of p) ++ leaves_in ps

unfoldable pub leaves : List LayerText → List (Form × Node)
leaves [] = []
leaves (l ∷ ls) = leaves_in l.pieces ++ leaves ls

-- at most 200,000 features
abbrev pub few : List LayerText → Bool
few ls = nat_le (length (leaves ls)) 200000
