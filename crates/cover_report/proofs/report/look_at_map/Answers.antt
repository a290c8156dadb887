use Rattle.kit_words.proofs.Common.{refl}
use Rattle.topo_reader.specs.Common.{view_raw}
use Rattle.cover_report.proofs.report.look_at_map.Goals as goal

pub returns-clause-found : goal.returns-clause-found
returns-clause-found g c = record {
  map = view_raw c.in-Ok.raw;
  opens = record { opens = c.in-Ok.ensures.opens; proper = c.in-Ok.ensures.proper };
  under = refl;
  there = c.in-Ok-looks_at.ensures.there;
  found = c.in-Ok-looks_at.ensures.found;
}
