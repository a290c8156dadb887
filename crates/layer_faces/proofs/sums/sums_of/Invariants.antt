use Rattle.kit_words.proofs.Common.{◌≡◌, ◌≤◌, neg_ℤ, unsigned_abs, take}
use Rattle.layer_faces.specs.Faces.{is_outside}
use Rattle.layer_faces.specs.Sums.{is_gap}
use Rattle.layer_faces.specs.Weighed.{area_of_kinds, is_land, reach}
use Rattle.layer_faces.proofs.sums.sums_of.Given as goal

-- the sums so far, and how large they may be
abbrev pub invariant-loop-face : goal.invariant-loop-face
invariant-loop-face g l = record {
  covered : l.covered ≡ area_of_kinds is_land (take l.face-index l.faces);
  gaps : l.gaps ≡ area_of_kinds is_gap (take l.face-index l.faces);
  within : l.within ≡ neg_ℤ (area_of_kinds is_outside (take l.face-index l.faces));
  covered_bound : unsigned_abs l.covered ≤ reach (take l.face-index l.faces);
  gaps_bound : unsigned_abs l.gaps ≤ reach (take l.face-index l.faces);
  within_bound : unsigned_abs l.within ≤ reach (take l.face-index l.faces);
}
