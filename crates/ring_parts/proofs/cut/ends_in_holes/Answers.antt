use Rattle.kit_words.proofs.Common.{sym, ap, ◌∙◌, ◌||◌}
use Rattle.ring_machine.specs.Common.{has}
use Rattle.ring_parts.proofs.Lists.{some_here}
use Rattle.ring_parts.proofs.cut.ends_in_holes.Goals as goal

pub returns-then-has_end : goal.returns-then-has_end
returns-then-has_end g c = sym (some_here (λ r. r.items) (λ h. has h c.args.path.now.first || has h c.args.path.now.last) c.args.holes.now c.loop-hole.hole-index c.hole-item.result c.loop-hole-test.true c.hole-item.is (ap (λ z. has z c.args.path.now.first || has z c.args.path.now.last) (sym c.as_slice.ensures.value) ∙ sym c.has_end.ensures ∙ c.if-has_end.true))
