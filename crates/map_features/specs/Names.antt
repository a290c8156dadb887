-- What features are called.
use Rattle.std.specs.Prelude.{ℕ, Bool, false, ◌&&◌, ◌||◌, ◌==◌, List, [], ◌∷◌, ◌++◌, codes, slice_index}
use Rattle.std.specs.Prelude.{Option, Some, None, option_map, option_and_then}
use Rattle.std.specs.Fmt.{decimal}
use Rattle.std.specs.List.{find}
use Rattle.std.specs.Option.{option_or}
use Rattle.std.specs.Str.{bytes_eq}
use Rattle.json_spans.specs.Common.{Node, members}
use Rattle.map_features.specs.Values.{shown_value, stands_for}

-- the feature is called so: its `id` stands for this text
abbrev pub is_called : Option (List ℕ) → List ℕ → Bool
is_called None text = false
is_called (Some id) text = stands_for id text

-- the number of a feature, and what its `id` stands for behind it
abbrev pub number_text : ℕ → List ℕ
number_text number = codes "#" ++ decimal number

abbrev pub id_behind : Option (List ℕ) → List ℕ
id_behind None = []
id_behind (Some id) = codes " " ++ shown_value id

-- what its `id` stands for, or that it has none
abbrev pub id_text : Option (List ℕ) → List ℕ
id_text None = codes "no id"
id_text (Some id) = shown_value id

-- ---- its name

-- a member of `properties` names the feature: it is a string
abbrev pub is_naming_member : List ℕ → Bool
is_naming_member name =
    bytes_eq name (codes "\"name\"") || (bytes_eq name (codes "\"Name\"") || bytes_eq name (codes "\"NAME\""))

abbrev pub names_feature : Node × Node → Bool
names_feature member = is_naming_member member.0.bytes && slice_index member.1.bytes 0 == 34

-- the value of the first such member
abbrev pub named_by : List (Node × Node) → Option (List ℕ)
named_by members = option_map (λ member. member.1.bytes) (find names_feature members)

abbrev pub name_in : List ℕ → Option (List ℕ)
name_in properties = named_by (members (record { at_byte = 0; bytes = properties }))

-- what a feature is called by its property `name`, or without one by its `id`; nothing without both
abbrev pub called_by : Option (List ℕ) → List ℕ
called_by None = []
called_by (Some value) = shown_value value

abbrev pub feature_name_text : Option (List ℕ) → Option (List ℕ) → List ℕ
feature_name_text properties id = called_by (option_or (option_and_then name_in properties) id)
