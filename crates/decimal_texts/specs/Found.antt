-- A value that may be missing, as a list of at most one.
use Rattle.std.specs.Prelude.{List, [], ◌∷◌, Option, Some, None}
use Rattle.json_spans.specs.Common.{Node, node}
use Rattle.json_spans.specs.declared.span.Span.{Span}

abbrev pub found_value : Option Span → List Node
found_value None = []
found_value (Some s) = node s ∷ []
