use Rattle.ring_store.proofs.EmptyTables.{empty_sound}
use Rattle.ring_store.proofs.borders.Borders.new.Goals as goal

pub invariant_of-result : goal.invariant_of-result
invariant_of-result g c = empty_sound _ c.new.ensures.empty c.new-2.ensures.empty
