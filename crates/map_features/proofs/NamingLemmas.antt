-- Looking for the member that names a feature, as the loop does.
use Rattle.kit_words.proofs.Common.{◌≡◌, ℕ, List, [], ◌∷◌, true, false, Option, Some, None}
use Rattle.json_spans.specs.Common.{Node}
use Rattle.map_features.specs.Names.{named_by, names_feature}

pub found : (m : Node × Node) (ms left : List (Node × Node)) (whole : Option (List ℕ)) → left ≡ m ∷ ms → names_feature m ≡ true → named_by left ≡ whole → Some m.1.bytes ≡ whole
found m ms left whole e is h = rw (e, is) at h

pub passed : (m : Node × Node) (ms left : List (Node × Node)) (whole : Option (List ℕ)) → left ≡ m ∷ ms → names_feature m ≡ false → named_by left ≡ whole → named_by ms ≡ whole
passed m ms left whole e is h = rw (e, is) at h

pub ended : (left : List (Node × Node)) (whole : Option (List ℕ)) → left ≡ [] → named_by left ≡ whole → None ≡ whole
ended left whole e h = rw e at h
