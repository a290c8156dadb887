use Rattle.kit_words.proofs.Common.{◌≡◌, ◌≤◌, map, take}
use Rattle.cover_report.specs.Counted.{count_wide}
use Rattle.cover_report.specs.Faces.{view_told}
use Rattle.cover_report.proofs.lines.count_wide.Given as goal

abbrev pub invariant-loop-face : goal.invariant-loop-face
invariant-loop-face g l = record {
  value : l.count ≡ count_wide l.fn.kind l.fn.over l.fn.most (map (λ f. view_told f.now) (take l.face-index l.faces));
  bound : l.count ≤ l.face-index;
}
