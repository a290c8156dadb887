-- The names of layers that are asked for.
use Rattle.std.specs.Prelude.{Bool, true, false, List, [], ◌∷◌, Option, Some, None}
use Rattle.std.specs.List.{list_all, list_any}
use Rattle.std.specs.Str.{bytes_eq}
use Rattle.json_spans.specs.Common.{decoded}
use Rattle.ring_machine.specs.Common.{Text}
use Rattle.topo_outline.specs.Common.{LayerText}

-- a name's token stands for a text (RFC 8259, 7), and this is one of these
abbrev pub is_text_of : List Text → Option Text → Bool
is_text_of names None = false
is_text_of names (Some t) = list_any (λ name. bytes_eq t name) names

abbrev pub is_one_of : List Text → Text → Bool
is_one_of names token = is_text_of names (decoded token)

-- a layer's name is one of those that are asked for, or none is asked for
abbrev pub is_asked : List Text → Text → Bool
is_asked [] token = true
is_asked (name ∷ names) token = is_one_of (name ∷ names) token

-- a layer has this name
abbrev pub has_name : List LayerText → Text → Bool
has_name layers name = list_any (λ l. is_one_of (name ∷ []) l.name) layers

-- each name that is asked for is one of a layer
abbrev pub are_there : List Text → List LayerText → Bool
are_there names layers = list_all (has_name layers) names
