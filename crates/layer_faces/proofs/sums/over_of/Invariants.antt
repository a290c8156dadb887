use Rattle.kit_words.proofs.Common.{◌≡◌, pos, ◌*ℤ◌, ◌*◌, ◌-◌, ◌≤◌, unsigned_abs, length, take}
use Rattle.layer_faces.specs.Areas.{total}
use Rattle.layer_faces.specs.Weighed.{reach}
use Rattle.layer_faces.proofs.sums.over_of.Given as goal

-- the sum so far, and how large it may be
abbrev pub invariant-loop-face : goal.invariant-loop-face
invariant-loop-face g l = record {
  whole : l.over ≡ total (λ f. pos (length f.holders.items - 1) *ℤ f.twice_area) (take l.face-index l.faces);
  bound : unsigned_abs l.over ≤ 4000000 * reach (take l.face-index l.faces);
}
