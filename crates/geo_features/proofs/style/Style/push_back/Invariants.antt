use Rattle.kit_words.proofs.Common.{◌≡◌, ◌++◌, map}
use Rattle.map_text.specs.Common.{further}
use Rattle.geo_features.specs.Rings.{position_text}
use Rattle.geo_features.specs.Seen.{view_style}
use Rattle.geo_features.proofs.style.Style.push_back.Given as goal

abbrev pub invariant-loop-pos : goal.invariant-loop-pos
invariant-loop-pos g l = l.text.items ≡ l.fn.text.items ++ further (map (position_text (view_style l.self)) (map (λ p. p.now) l.yielded))
