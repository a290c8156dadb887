-- Looking for a member by its name, as the loop does.
use Rattle.kit_words.proofs.Common.{◌≡◌, ℕ, List, [], ◌∷◌, true, false, Option, Some, None}
use Rattle.json_spans.specs.Common.{Node, decoded}
use Rattle.grid_reader.specs.Common.{member_value}
use Rattle.decimal_texts.specs.Geometries.{is_string_of}

pub found : (name : List ℕ) (m : Node × Node) (ms left : List (Node × Node)) (whole : Option Node) → left ≡ m ∷ ms → is_string_of name (decoded m.0.bytes) ≡ true → member_value name left ≡ whole → Some m.1 ≡ whole
unfolding member_value
found name m ms left whole e is h = rw (e, is) at h

pub passed : (name : List ℕ) (m : Node × Node) (ms left : List (Node × Node)) (whole : Option Node) → left ≡ m ∷ ms → is_string_of name (decoded m.0.bytes) ≡ false → member_value name left ≡ whole → member_value name ms ≡ whole
unfolding member_value
passed name m ms left whole e is h = rw (e, is) at h

pub ended : (name : List ℕ) (left : List (Node × Node)) (whole : Option Node) → left ≡ [] → member_value name left ≡ whole → None ≡ whole
unfolding member_value
ended name left whole e h = rw e at h
