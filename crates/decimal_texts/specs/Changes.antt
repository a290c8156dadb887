-- A coordinate and the number that it becomes, as the definitions see it.
use Rattle.std.specs.Prelude.{ℕ, List}
use Rattle.std.specs.Fmt.{signed_decimal}
use Rattle.json_spans.specs.Common.{Node, node}
use Rattle.decimal_texts.specs.declared.rounding.Change.{Change}

abbrev pub change : Change → Node × List ℕ
change c = (node c.span, signed_decimal c.number)
