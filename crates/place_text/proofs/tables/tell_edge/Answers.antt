use Rattle.kit_words.proofs.Common.{sym, ap, ◌∙◌, option_map, false≢true}
use Rattle.grid_geometry.specs.Common.{segment_cmp}
use Rattle.place_text.specs.Common.{once_if, numbers_in}
use Rattle.place_text.proofs.Telling.{segment_there}
use Rattle.place_text.proofs.tables.tell_edge.Goals as goal

pub returns-in_ok-tell-2 : goal.returns-in_ok-tell-2
returns-in_ok-tell-2 g c = record {
  vertices = c.in_ok-tell.ensures;
  segments = λ s. c.in_ok-tell-2.ensures s
      ∙ ap (λ ss. option_map (once_if segment_cmp c.args.feature ss s) (numbers_in segment_cmp c.args.tables.now.segments s))
      (segment_there c.args.from c.args.to c.in-Some.segment c.in-Some.ensures.some (λ e. false≢true (sym (c.in-Some.ensures.none.1 e))));
}
