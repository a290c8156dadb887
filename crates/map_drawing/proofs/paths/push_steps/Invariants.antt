use Rattle.kit_words.proofs.Common.{◌≡◌, ◌++◌, drop}
use Rattle.map_drawing.specs.Common.{steps_path}
use Rattle.map_drawing.proofs.paths.push_steps.Given as goal

-- the steps so far and those that are left
abbrev pub invariant-loop-to : goal.invariant-loop-to
invariant-loop-to g l =
    l.text.items ++ steps_path l.from (drop l.to-index l.points) ≡ l.fn.text.items ++ steps_path l.fn.start l.points
