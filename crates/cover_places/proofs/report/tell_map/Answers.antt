use Rattle.kit_words.proofs.Common.{◌∙◌, ◌++◌, ap, map, option_map}
use Rattle.cover_report.specs.Common.{counts_of, report_text, view_asked, view_looked}
use Rattle.cover_places.proofs.report.tell_map.Goals as goal

pub returns-clause-told : goal.returns-clause-told
returns-clause-told g c =
    let wants = view_asked c.args.asked.now in
    let looked = c.in-Ok.looked in
    let seen = ap (map view_looked) c.as_slice.ensures.value in
    record {
      transform = option_map (λ t. t.now) looked.transform;
      looks = map view_looked looked.looks.items;
      found = c.in-Ok.ensures.found;
      told = c.in_ok-counts.ensures.lines ∙ ap (λ z. c.args.texts.now.report.items ++ report_text wants z) seen;
      counted = c.in_ok-counts.ensures.counts ∙ ap (counts_of wants) seen;
      placed = c.in_ok-put_places.ensures.placed;
    }
