use Rattle.kit_words.proofs.Common.{◌≡◌, take}
use Rattle.std.specs.List.{filter}
use Rattle.border_show.specs.Found.{is_shape_called}
use Rattle.border_show.proofs.finding.features_called.Given as goal

-- what was found so far
abbrev pub invariant-loop-shape : goal.invariant-loop-shape
invariant-loop-shape l = l.found.items ≡ filter (is_shape_called l.id) (take l.shape-index l.shapes)
