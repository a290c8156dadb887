use Rattle.kit_words.proofs.Common.{◌≡◌, ◌<◌, length, List, subst, sym, refl}
use Rattle.grid_geometry.specs.Common.{Position}
use Rattle.segment_paths.specs.Common.{IsWay, inner_of, paths_seen}
use Rattle.map_mending.proofs.Beside.{way_of}
use Rattle.map_mending.specs.Common.{swept_by}
use Rattle.map_mending.proofs.StepByStep.{path_found, nothing_swept}
use Rattle.map_mending.proofs.sweeping.swept_by.Goals as goal

pub swept_along-requires : goal.swept_along-requires
swept_along-requires g c =
    let paths = paths_seen c.args.paths.now in
    let s = c.in-Some.segment in
    let is : c.positions_between.result.now ≡ inner_of paths s = path_found paths s _ c.positions_between.result.now c.segment.view_is (c.positions_between.ensures c.requires.ascending) in
    subst (λ (inner : List Position). 0 < length inner → IsWay s inner) (sym is) (way_of paths s c.requires.ways)

pub returns-in-None-clause-value : goal.returns-in-None-clause-value
returns-in-None-clause-value g c =
    let paths = paths_seen c.args.paths.now in
    sym (subst (λ (to : Position). swept_by paths (c.args.from, to) ≡ 0) (c.in-None.ensures.none.0 refl) (nothing_swept paths c.args.from c.requires.ways))
