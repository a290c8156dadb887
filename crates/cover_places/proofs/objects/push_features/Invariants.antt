use Rattle.kit_words.proofs.Common.{◌≡◌, ◌++◌, map, take, codes, decimal}
use Rattle.map_text.specs.Common.{commas}
use Rattle.cover_places.proofs.objects.push_features.Given as goal

-- the numbers so far
abbrev pub invariant-loop-index : goal.invariant-loop-index
invariant-loop-index g l = l.text.items ≡ (l.fn.text.items ++ codes ",\"features\":[") ++ commas (map decimal (take l.index l.numbers))
