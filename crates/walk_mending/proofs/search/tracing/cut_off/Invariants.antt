use Rattle.kit_words.proofs.Common.{vec_len}
use Rattle.walk_mending.proofs.search.tracing.cut_off.Given as goal

abbrev pub decreases-loop-last : goal.decreases-loop-last
decreases-loop-last g l = vec_len l.stack
