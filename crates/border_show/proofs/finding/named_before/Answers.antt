use Rattle.kit_words.proofs.Common.{ap, subst, ◌∙◌}
use Rattle.std.specs.List.{filter}
use Rattle.map_features.specs.Shapes.{features_described}
use Rattle.border_show.specs.Found.{IsNamedBefore, IsShownBefore, is_shape_called}
use Rattle.border_show.proofs.FoundLemmas.{weaker}
use Rattle.border_show.proofs.finding.named_before.Goals as goal

pub returns : goal.returns
returns c =
    let raw = c.args.before.now in
    let text = c.args.name.now in
    weaker c.earlier_or.result (IsShownBefore c.as_slice-3.result.now) (IsNamedBefore raw text) (λ shown h. record {
      shapes = c.in_ok-earlier.earlier.items;
      are_shapes = c.in_ok-earlier.ensures ∙ ap (features_described raw) c.as_slice.ensures.value;
      is_shown = subst (λ fs. IsShownBefore fs shown)
          (c.as_slice-3.ensures.value ∙ (c.in_ok-found.ensures ∙ ap (filter (is_shape_called text)) c.as_slice-2.ensures.value)) h;
    }) c.earlier_or.ensures
