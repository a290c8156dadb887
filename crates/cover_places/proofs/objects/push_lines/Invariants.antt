use Rattle.kit_words.proofs.Common.{◌≡◌, ◌++◌, map, codes}
use Rattle.std.specs.List.{range_with_len}
use Rattle.map_text.specs.Common.{commas}
use Rattle.cover_places.specs.Text.{line_text}
use Rattle.cover_places.proofs.objects.push_lines.Given as goal

-- the lines so far
abbrev pub invariant-loop-index : goal.invariant-loop-index
invariant-loop-index g l = l.text.items ≡ (l.fn.text.items ++ codes "[") ++ commas (map line_text (range_with_len l.fn.first l.index))
