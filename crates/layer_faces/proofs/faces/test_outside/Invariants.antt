use Rattle.kit_words.proofs.Common.{◌≡◌, ◌≤◌, take}
use Rattle.std.specs.List.{count_by}
use Rattle.layer_faces.specs.Faces.{is_outside}
use Rattle.layer_faces.proofs.faces.test_outside.Given as goal

-- how many are the outside so far
abbrev pub invariant-loop-face : goal.invariant-loop-face
invariant-loop-face g l = record {
  counted : l.outsides ≡ count_by (λ f. is_outside f.kind) (take l.face-index l.faces);
  few : l.outsides ≤ 1;
}
