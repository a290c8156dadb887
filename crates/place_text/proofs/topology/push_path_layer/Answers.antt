use Rattle.kit_words.proofs.Common.{sym, ap, ◌∙◌, ◌+◌, [], ◌∷◌, ◌++◌, codes, option_map, appended_two}
use Rattle.segment_paths.specs.Common.{path_of_segment, paths_seen}
use Rattle.walk_faults.specs.Common.{flat_map_at}
use Rattle.place_text.specs.Common.{told_by, collection_text, path_layer, path_text}
use Rattle.place_text.proofs.Listed.{each_map}
use Rattle.place_text.proofs.topology.push_path_layer.Goals as goal

pub returns : goal.returns
returns g c =
    let old = c.args.text.now.items in
    let told = told_by c.args.owners.now in
    let others = c.args.others in
    let paths = c.in-Some.paths.now in
    appended_two old (codes ",\"paths\":") (collection_text (flat_map_at (λ n p. path_text told n (others + n) (path_of_segment p) ∷ []) 0 paths))
    c.extend_from_slice.new.self.items c.push_collection.new.text.items c.in_ok-extend_from_slice.ensures.items c.in_ok-push_collection.ensures
    ∙ ap (λ z. old ++ (codes ",\"paths\":" ++ collection_text z)) (sym (each_map (λ n p. path_text told n (others + n) p) path_of_segment 0 paths))
    ∙ ap (λ o. old ++ path_layer told others (option_map (λ ps. paths_seen ps.now) o)) (sym c.in-Some.is)
