-- Worked examples of how many tests a thinning takes at most, each computed by the checker.
use Rattle.kit_words.proofs.Common.{◌≡◌, pos, refl, None}
use Rattle.grid_geometry.specs.Common.{cross, is_within, conflict, orientation, is_on, are_split}
use Rattle.ring_machine.specs.Common.{first_pair, remove_refusals, remove_sweeps}
use Rattle.ring_machine.proofs.Common.{M}
use Rattle.segment_index.specs.Common.{times_by}
use Rattle.local_planarity.specs.Common.{most_for}
use Rattle.edit_vertex.specs.Common.{most_for_thin}

-- of two squares with a common side, without cells: a corner goes, and its segment is tested against
-- five; then one of the other square, against five; no segment comes for what can't go from a
-- triangle
two_corners : most_for_thin (times_by None) (pos 100) M ≡ 10
unfolding most_for_thin most_for remove_refusals first_pair remove_sweeps conflict cross is_within is_on are_split orientation
two_corners = refl

-- no triangle at a corner is flat enough
none_flat : most_for_thin (times_by None) (pos 99) M ≡ 0
unfolding most_for_thin most_for remove_refusals first_pair remove_sweeps conflict cross is_within is_on are_split orientation
none_flat = refl
