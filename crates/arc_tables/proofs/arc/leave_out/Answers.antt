use Rattle.kit_words.proofs.Common.{rules}
use Rattle.arrayvec.proofs.ArrayVecLemmas.{filter-from_retain}
use Rattle.arc_tables.proofs.arc.leave_out.Goals as goal

pub returns : goal.returns
returns g c = filter-from_retain _ _ _ (λ x b f' y called. search rules) _ _ c.retain.ensures.filtered
