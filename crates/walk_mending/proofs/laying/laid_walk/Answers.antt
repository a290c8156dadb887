use Rattle.kit_words.proofs.Common.{◌≡◌, map, arith, common_steps}
use Rattle.segment_paths.specs.Common.{path_of_segment}
use Rattle.walk_mending.specs.Common.{laid}
use Rattle.walk_mending.proofs.Along.{none_keeps, keeps_if}
use Rattle.walk_mending.proofs.Going.{none_goes, goes_if}
use Rattle.walk_mending.proofs.laying.laid_walk.Goals as goal

pub returns-in_default-clause-kept : goal.returns-in_default-clause-kept
returns-in_default-clause-kept g c = none_keeps c.args.walk.now c.new-found.result.items (omega arith) c.new-found.ensures.items

pub returns-clause-kept : goal.returns-clause-kept
returns-clause-kept g c =
    let is : c.push_edge-2.new.found.items ≡ laid (map path_of_segment c.args.paths.now) c.args.walk.now = grind (arith, common_steps) in
    keeps_if (map path_of_segment c.args.paths.now) c.args.walk.now c.push_edge-2.new.found.items is

pub returns-in_default-clause-links : goal.returns-in_default-clause-links
returns-in_default-clause-links g c = none_goes (map path_of_segment c.args.paths.now) c.args.walk.now c.new-found.result.items (omega arith)

pub returns-clause-links : goal.returns-clause-links
returns-clause-links g c =
    let is : c.push_edge-2.new.found.items ≡ laid (map path_of_segment c.args.paths.now) c.args.walk.now = grind (arith, common_steps) in
    goes_if (map path_of_segment c.args.paths.now) c.args.walk.now c.push_edge-2.new.found.items is
