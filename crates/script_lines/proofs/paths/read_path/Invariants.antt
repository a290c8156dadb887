use Rattle.kit_words.proofs.Common.{length}
use Rattle.script_lines.proofs.PathLemmas.{Read}
use Rattle.script_lines.proofs.paths.read_path.Given as goal

abbrev pub invariant-loop-place : goal.invariant-loop-place
invariant-loop-place l = Read l.bytes l.rest l.path.items

abbrev pub decreases-loop-place : goal.decreases-loop-place
decreases-loop-place l = length l.rest
