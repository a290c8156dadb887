use Rattle.kit_words.proofs.Common.{sym, ap, ◌∙◌, map, option_map, take_all}
use Rattle.grid_geometry.specs.Common.{segment_cmp}
use Rattle.segment_paths.specs.Common.{path_of_segment, paths_seen}
use Rattle.place_text.specs.Common.{numbers_in, asked_with, path_segment, told_paths}
use Rattle.place_text.proofs.Asking.{asked_next}
use Rattle.place_text.proofs.Listed.{map_twice}
use Rattle.place_text.proofs.owners.ask_paths.Goals as goal

pub loop-path-preserved : goal.loop-path-preserved
loop-path-preserved g c = λ s.
    asked_next segment_cmp (λ path. path_segment (path_of_segment path)) c.in-Some.paths.now c.loop-path.path-index c.path-item.result s
    (numbers_in segment_cmp c.args.table.now s) (numbers_in segment_cmp c.loop-path.table s) (numbers_in segment_cmp c.ask.new.table s)
    c.loop-path-test.true c.path-item.is (c.loop-path.invariant s) (c.in_ok-ask.ensures s)

pub returns : goal.returns
returns g c = λ s.
    let before = numbers_in segment_cmp c.args.table.now s in
    let paths = c.in-Some.paths.now in
    c.loop-path.invariant s
    ∙ ap (λ ks. asked_with segment_cmp ks s before)
    (ap (map (λ path. path_segment (path_of_segment path))) (take_all c.loop-path.path-index paths c.loop-path-test.false) ∙ sym (map_twice path_segment path_of_segment paths))
    ∙ ap (λ o. asked_with segment_cmp (map path_segment (told_paths (option_map (λ ps. paths_seen ps.now) o))) s before) (sym c.in-Some.is)
