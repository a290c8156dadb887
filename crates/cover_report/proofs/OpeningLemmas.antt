-- Why a map does not open.
use Rattle.kit_words.proofs.Common.{◌≡◌, ◌∙◌, ℕ, List, Option, Some, None}
use Rattle.grid_geometry.specs.Common.{Segment}
use Rattle.ring_machine.specs.Common.{Proper, first_pair}
use Rattle.topo_outline.specs.declared.fault.OpenFault.TheVariants as open_fault
use Rattle.topo_reader.specs.Common.{IsFault, IsOfRings, Opened, Opens, document_of}

-- two segments of the map are in conflict
pub conflict_told : (bytes : List ℕ) (o : Opened) (pair : Option (Segment × Segment)) (s t : Segment) → Opens bytes o
    → first_pair (document_of o) ≡ pair → pair ≡ Some (s, t) → IsFault bytes (open_fault.Conflict s t)
conflict_told bytes o pair s t opens found is = (o, opens, found ∙ is)

-- none are
pub opens_proper : (o : Opened) (pair : Option (Segment × Segment)) → IsOfRings o → first_pair (document_of o) ≡ pair → pair ≡ None → Proper (document_of o)
opens_proper o pair is found none = record { are_rings = is.are_rings; apart = found ∙ none }
