use Rattle.kit_words.proofs.Common.{◌≡◌, map, drop}
use Rattle.geo_topology.specs.Places.{in_file}
use Rattle.geo_topology.specs.Views.{view_part}
use Rattle.geo_topology.proofs.made.place_in_file.Given as goal

abbrev pub invariant-loop-part : goal.invariant-loop-part
invariant-loop-part l = in_file (map view_part (drop l.part-index l.parts)) l.place ≡ in_file (map view_part l.fn.parts) l.fn.place
