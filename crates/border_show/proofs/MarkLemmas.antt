-- A conflict that is named is the first pair.
use Rattle.kit_words.proofs.Common.{◌≡◌, ℕ, List, Option, Some, None, IfSome, subst}
use Rattle.grid_geometry.specs.Common.{Segment}
use Rattle.map_features.specs.declared.conflicts.Conflict.{Conflict}
use Rattle.map_drawing.specs.Marks.{IsNamedIn}
use Rattle.border_show.specs.Conflicts.{conflict_pair}

abbrev IsNamedPair : List ℕ → Option (Segment × Segment) → Type 0
IsNamedPair picture pair = IfSome pair (λ p. IsNamedIn picture (record { first = p.0; second = p.1 }))

as_pair : (picture : List ℕ) (conflict : Option Conflict) → IfSome conflict (IsNamedIn picture) → IsNamedPair picture (conflict_pair conflict)
as_pair picture None h = h
as_pair picture (Some conflict) h = h

pub marked : (picture : List ℕ) (conflict : Option Conflict) (pair : Option (Segment × Segment)) → conflict_pair conflict ≡ pair
    → IfSome conflict (IsNamedIn picture) → IfSome pair (λ p. IsNamedIn picture (record { first = p.0; second = p.1 }))
marked picture conflict pair is h = subst (IsNamedPair picture) is (as_pair picture conflict h)
