-- The value of a whole text.
use Rattle.json_spans.specs.declared.scanning.Root.{Root}
use Rattle.json_spans.specs.declared.span.Span.{Span}

abbrev pub span_of : Root → Span
span_of root = root.span
