use Rattle.kit_words.proofs.Common.{◌∙◌, codes, rules}
use Rattle.border_export.proofs.WordLemmas.{decimals_found, flag_found, text_found, winding_found, word_found}
use Rattle.border_export.proofs.command_line.asked.Goals as goal

pub returns : goal.returns
returns c =
    let m = c.args.matches.now in
    record {
      map = word_found m (codes "MAP") _ c.get_str-3.result _ c.unwrap_or.result _ (search rules) c.get_str-3.ensures (search rules) c.unwrap_or.ensures
          c.in_ok-from_str.ensures.ok;
      out = word_found m (codes "out") _ c.get_str-4.result _ c.unwrap_or-2.result _ (search rules) c.get_str-4.ensures (search rules) c.unwrap_or-2.ensures
          c.in_ok-from_str-2.ensures.ok;
      layer = c.in_ok-copied.ensures ∙ text_found m (codes "layer") _ c.get_str-5.result (search rules) c.get_str-5.ensures;
      decimals = decimals_found m (codes "decimals") _ c.get_str.result _ (search rules) c.get_str.ensures c.in_ok-decimals.ensures;
      winding = winding_found m (codes "winding") _ c.get_str-2.result _ (search rules) c.get_str-2.ensures c.in_ok-keeps_winding.ensures;
      flatten = flag_found m (codes "flatten") _ c.get_flag.result (search rules) c.get_flag.ensures.none c.get_flag.ensures.value c.get_flag.ensures.other;
    }
