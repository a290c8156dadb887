use Rattle.kit_words.proofs.Common.{◌≡◌, ◌++◌, map}
use Rattle.ring_parts.proofs.stretch.first_part.Given as goal

-- those of the path so far
abbrev pub invariant-loop-pos : goal.invariant-loop-pos
invariant-loop-pos g l = l.part.items ≡ l.initial.part.items ++ map (λ p. p.now) l.yielded
