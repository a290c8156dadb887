use Rattle.kit_words.proofs.Common.{◌∙◌, ap, map, map_push}
use Rattle.cover_report.specs.Layers.{view_looked}
use Rattle.cover_report.proofs.looked.push_look.Goals as goal

pub returns-clause-looked : goal.returns-clause-looked
returns-clause-looked g c =
    (view_looked c.in-Ok.value, c.in-Ok.ensures.found, ap (map view_looked) c.in_ok-push.ensures.items ∙ map_push view_looked c.args.looks.now.items c.in-Ok.value)
