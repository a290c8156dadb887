use Rattle.kit_words.proofs.Common.{refl, sym, subst}
use Rattle.edit_program.specs.declared.refused_lines.RefusedLines.{RefusedLines}
use Rattle.edit_program.specs.Listing.{Lists}
use Rattle.edit_program.proofs.ListingLemmas.{lists_more, lists_same}
use Rattle.edit_program.proofs.refused_lines.RefusedLines.take_answers.Goals as goal
use Rattle.edit_program.proofs.refused_lines.RefusedLines.take_answers.Goals.{then-branch+in_ok-answer, else-branch}

pub loop-byte-preserved : goal.loop-byte-preserved
loop-byte-preserved c =
    elim c.if-branch.branch [
      | then-branch+in_ok-answer w ↦ subst (λ (s : RefusedLines). Lists c.args.self.now s) (sym w.self-is)
          (lists_more _ _ _ (lists_same _ c.loop-byte.self _ refl refl c.loop-byte.invariant) w.in_ok-answer.ensures)
      | else-branch w ↦ subst (λ (s : RefusedLines). Lists c.args.self.now s) (sym w.self-is)
          (lists_same _ c.loop-byte.self _ refl refl c.loop-byte.invariant)
    ]
