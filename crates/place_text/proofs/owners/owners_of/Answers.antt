use Rattle.kit_words.proofs.Common.{◌≡◌, sym, subst, map, option_map}
use Rattle.std.specs.Prelude.{All}
use Rattle.grid_geometry.specs.Common.{segment_cmp}
use Rattle.segment_paths.specs.Common.{paths_seen}
use Rattle.walk_faults.specs.Common.{features_seen}
use Rattle.place_text.specs.Common.{segment_features, pair_features, numbers_at, numbers_held, told_paths, Answers, AnswersBoth}
use Rattle.place_text.proofs.Asking.{answers, empty_yet, pairs_among}
use Rattle.place_text.proofs.owners.owners_of.Goals as goal

pub tell_all-requires : goal.tell_all-requires
tell_all-requires g c =
    empty_yet c.as_slice.result.now c.args.sides.now (told_paths (option_map (λ ps. paths_seen ps.now) c.args.paths))
    c.new.result c.new-2.result c.ask_sides.new.table _ c.new.ensures.empty c.new-2.ensures.empty
    c.in_ok-ask_vertices.ensures c.in_ok-ask_sides.ensures c.in_ok-ask_paths.ensures

pub returns-clause-tables : goal.returns-clause-tables
returns-clause-tables g c =
    let paths = told_paths (option_map (λ ps. paths_seen ps.now) c.args.paths) in
    subst (λ touches. Answers (features_seen c.args.walks.now) touches c.args.sides.now paths c.tell_all.new.tables) c.as_slice.ensures.value
    (answers (features_seen c.args.walks.now) c.as_slice.result.now c.args.sides.now paths c.new.result c.new-2.result c.ask_sides.new.table _ c.tell_all.new.tables
    c.in_ok-ask_vertices.ensures c.in_ok-ask_sides.ensures c.in_ok-ask_paths.ensures c.in_ok-tell_all.ensures)

pub returns-clause-pairs : goal.returns-clause-pairs
returns-clause-pairs g c =
    let features = features_seen c.args.walks.now in
    let segments = c.tell_all.new.tables.segments in
    let told =
    answers features c.as_slice.result.now c.args.sides.now (told_paths (option_map (λ ps. paths_seen ps.now) c.args.paths))
    c.new.result c.new-2.result c.ask_sides.new.table _ c.tell_all.new.tables
    c.in_ok-ask_vertices.ensures c.in_ok-ask_sides.ensures c.in_ok-ask_paths.ensures c.in_ok-tell_all.ensures in
    let answered =
    pairs_among (λ s. numbers_at segment_cmp segments s ≡ segment_features features s) c.args.findings.now c.args.sides.now c.requires told.at_sides in
    subst (λ cs. map numbers_held c.in_ok-pairs.pairs.items ≡ map (pair_features features) cs) c.as_slice-2.ensures.value
    (c.in_ok-pairs.ensures features (subst (All (AnswersBoth features segments)) (sym c.as_slice-2.ensures.value) answered))
