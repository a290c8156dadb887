use Rattle.kit_words.proofs.Common.{◌≡◌, map, drop, fold}
use Rattle.json_spans.specs.Common.{node}
use Rattle.decimal_texts.specs.Common.{without_line}
use Rattle.decimal_texts.proofs.dropped.without_lines.Given as goal

abbrev pub invariant-loop-line : goal.invariant-loop-line
invariant-loop-line g l = fold without_line l.text.items (map node (drop l.line-index l.line-items)) ≡ fold without_line l.fn.bytes (map node l.line-items)
