use Rattle.kit_words.proofs.Common.{◌++◌, ◌∷◌, [], drop, flat_map}
use Rattle.grid_geometry.specs.Common.{links}
use Rattle.walk_faults.specs.Common.{segment_at}
use Rattle.place_text.specs.Common.{Tables, Tells}
use Rattle.place_text.proofs.tables.tell_walk.Given as goal

-- once what is left is reported, the whole walk is
abbrev pub invariant-loop-to : goal.invariant-loop-to
invariant-loop-to g l =
    (end : Tables _)
    → Tells l.feature (l.from ∷ drop l.to-index l.rest) (flat_map segment_at (links (l.from ∷ drop l.to-index l.rest ++ l.first ∷ []))) l.tables end
    → Tells l.feature (l.first ∷ l.rest) (flat_map segment_at (links (l.first ∷ l.rest ++ l.first ∷ []))) l.fn.tables end
