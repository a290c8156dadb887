use Rattle.kit_words.proofs.Common.{◌≡◌, drop, map}
use Rattle.topo_outline.specs.Common.{view_kept}
use Rattle.geo_features.specs.Names.{first_of}
use Rattle.geo_features.proofs.names.first_of.Given as goal

abbrev pub invariant-loop-member : goal.invariant-loop-member
invariant-loop-member l = first_of (map (λ word. word.now) l.words) (map view_kept (drop l.member-index l.members)) ≡ first_of (map (λ word. word.now) l.fn.words) (map view_kept l.fn.members)
