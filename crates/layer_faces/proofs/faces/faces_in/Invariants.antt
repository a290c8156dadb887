use Rattle.kit_words.proofs.Common.{◌≡◌, ◌≤◌, ◌<◌, ◌*◌, ◌++◌, length, map, All, IsSorted}
use Rattle.std.specs.List.{flat_map}
use Rattle.layer_sides.specs.Seen.{borders_seen}
use Rattle.layer_faces.specs.Kept.{IsFound}
use Rattle.layer_faces.specs.Order.{labelled_cmp, side_of}
use Rattle.layer_faces.proofs.faces.faces_in.Given as goal

-- the faces so far, and the sides that are left
abbrev pub invariant-loop-rest : goal.invariant-loop-rest
invariant-loop-rest g l = record {
  found : All (IsFound (borders_seen l.borders) l.owners) l.faces.items;
  all : flat_map (λ f. f.sides.items) l.faces.items ++ map side_of l.rest ≡ map side_of l.order;
  few : length l.rest ≤ 8000000;
  ascending : IsSorted labelled_cmp l.rest;
  within : All (λ a. a < 2 * length l.borders) (map side_of l.rest);
}

abbrev pub decreases-loop-rest : goal.decreases-loop-rest
decreases-loop-rest g l = length l.rest
