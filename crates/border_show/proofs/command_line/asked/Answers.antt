use Rattle.kit_words.proofs.Common.{◌∙◌, codes, rules}
use Rattle.border_show.proofs.WordLemmas.{flag_found, part_found, text_found, word_found}
use Rattle.border_show.proofs.command_line.asked.Goals as goal

pub returns : goal.returns
returns c =
    let m = c.args.matches.now in
    record {
      before = word_found m (codes "MAP") _ c.get_str-2.result _ c.unwrap_or.result _ (search rules) c.get_str-2.ensures (search rules) c.unwrap_or.ensures
          c.in_ok-from_str.ensures.ok;
      after = c.in_ok-copied.ensures ∙ text_found m (codes "AFTER") _ c.get_str-3.result (search rules) c.get_str-3.ensures;
      out = word_found m (codes "out") _ c.get_str-4.result _ c.unwrap_or-2.result _ (search rules) c.get_str-4.ensures (search rules) c.unwrap_or-2.ensures
          c.in_ok-from_str-2.ensures.ok;
      part = part_found m (codes "at") _ (codes "feature") _ c.get_strs.result c.get_str.result _ (search rules) (search rules) c.get_strs.ensures c.get_str.ensures
          c.in_ok-part.ensures;
      ids = flag_found m (codes "ids") _ c.get_flag.result (search rules) c.get_flag.ensures.none c.get_flag.ensures.value c.get_flag.ensures.other;
    }
