use Rattle.kit_words.proofs.Common.{◌∙◌, codes, rules}
use Rattle.program_ends.proofs.Common.{copies_apart}
use Rattle.border_cover.proofs.WordLemmas.{bound_found, count_found, text_found, texts_found, word_found}
use Rattle.border_cover.proofs.command_line.asked.Goals as goal

pub returns : goal.returns
returns c =
    let m = c.args.matches.now in
    record {
      layers = texts_found m (codes "layer") _ c.get_strs.result _ c.unwrap_or.result _ (search rules) c.get_strs.ensures (search rules) c.unwrap_or.ensures
          c.in_ok-layers.ensures;
      map = word_found m (codes "MAP") _ c.get_str-4.result _ c.unwrap_or-map.result _ (search rules) c.get_str-4.ensures (search rules) c.unwrap_or-map.ensures
          c.in_ok-from_str.ensures.ok;
      width = bound_found m _ (codes "width") _ c.get_str.result _ (search rules) c.get_str.ensures c.in_ok-width.ensures;
      area = bound_found m _ (codes "area") _ c.get_str-2.result _ (search rules) c.get_str-2.ensures c.in_ok-area.ensures;
      most = count_found m (codes "most") _ c.get_str-3.result _ (search rules) c.get_str-3.ensures c.in_ok-most.ensures;
      places = c.in_ok-copied.ensures ∙ text_found m (codes "places") _ c.get_str-places.result (search rules) c.get_str-places.ensures;
      apart = copies_apart c.get_str-places.result c.unwrap_or-map.result _ _ c.is_file.result
          c.is_file.ensures (search rules) c.in_ok-copied.ensures c.in_ok-from_str.ensures.ok;
    }
