-- What a fault of a question says.
use Rattle.std.specs.Prelude.{ℕ, ◌≡◌, true, false}
use Rattle.ring_machine.specs.Common.{Document, has_feature}
use Rattle.point_queries.specs.declared.sharing.QueryFault.{QueryFault}
use Rattle.point_queries.specs.declared.sharing.QueryFault.TheVariants.{NoFeature, OutOfMemory}

-- no feature has the number; allocation failure comes only where one has it
abbrev pub IsFaultOf : Document → ℕ → QueryFault → Type 0
IsFaultOf d n NoFeature = has_feature d n ≡ false
IsFaultOf d n OutOfMemory = has_feature d n ≡ true
