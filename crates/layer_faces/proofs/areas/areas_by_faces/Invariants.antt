use Rattle.kit_words.proofs.Common.{◌≡◌, ℕ, pos, ◌*◌, ◌≤◌, unsigned_abs, get_or, length, take}
use Rattle.layer_faces.specs.Areas.{total}
use Rattle.layer_faces.specs.Weighed.{area_of_holder, area_of_holders, reach}
use Rattle.layer_faces.proofs.areas.areas_by_faces.Given as goal

-- the areas by the faces so far, and how large they may be
abbrev pub invariant-loop-face : goal.invariant-loop-face
invariant-loop-face g l = record {
  count : length l.areas.items ≡ l.count;
  each : (n : ℕ) → get_or l.areas.items n (pos 0) ≡ area_of_holder (take l.face-index l.faces) n;
  sum : total (λ z. z) l.areas.items ≡ area_of_holders (take l.face-index l.faces);
  bound : (n : ℕ) → unsigned_abs (get_or l.areas.items n (pos 0)) ≤ 4000000 * reach (take l.face-index l.faces);
}
