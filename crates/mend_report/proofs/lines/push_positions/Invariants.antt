use Rattle.kit_words.proofs.Common.{◌≡◌, ◌++◌, take, codes}
use Rattle.std.specs.Prelude.{flat_map}
use Rattle.grid_geometry.specs.Common.{position_text}
use Rattle.mend_report.proofs.lines.push_positions.Given as goal

-- the positions so far, each after a space
abbrev pub invariant-loop-position : goal.invariant-loop-position
invariant-loop-position g l =
    l.text.items ≡ l.fn.text.items ++ flat_map (λ q. codes " " ++ position_text q) (take l.position-index l.positions)
