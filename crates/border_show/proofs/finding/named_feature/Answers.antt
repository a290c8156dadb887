use Rattle.kit_words.proofs.Common.{◌≡◌, ◌==◌, ℕ, List, Option, ap, arith, length, option_map, subst, sym, vec_len, ◌∙◌}
use Rattle.std.specs.List.{filter}
use Rattle.std.specs.declared.alloc.Global.{Global}
use Rattle.map_features.specs.Shapes.{features_described}
use Rattle.map_features.specs.declared.shapes.Shape.{Shape}
use Rattle.topo_reader.specs.declared.document.RawDoc.{RawDoc}
use Rattle.border_show.specs.Found.{IsEarlier, IsNamed, IsShownFeature, IsShownOf, is_shape_called}
use Rattle.border_show.proofs.FoundLemmas.{found_here, found_nowhere, weaker, weaker_within}
use Rattle.border_show.proofs.finding.named_feature.Goals as goal

pub returns : goal.returns
returns c =
    let raw = c.args.map.now in
    let text = c.args.name.now in
    let before : Option (RawDoc Global) = option_map (λ b. b.now) c.args.before in
    let found = c.as_slice-else-is_empty.result.now in
    weaker c.single_feature.result (IsShownFeature found) (IsNamed before raw text) (λ shown h. record {
      shapes = c.in_ok-shapes.shapes.items;
      are_shapes = c.in_ok-shapes.ensures ∙ ap (features_described raw) c.as_slice.ensures.value;
      is_shown = subst (λ (fs : List (Shape Global)). IsShownOf before text fs shown)
          (c.as_slice-else-is_empty.ensures.value ∙ (c.in_ok-found.ensures ∙ ap (filter (is_shape_called text)) c.as_slice-2.ensures.value))
          (found_here before text found shown h);
    }) c.single_feature.ensures

pub returns-then-is_empty : goal.returns-then-is_empty
returns-then-is_empty c =
    let raw = c.args.map.now in
    let text = c.args.name.now in
    let before : Option (RawDoc Global) = option_map (λ b. b.now) c.args.before in
    let found = c.in_ok-found.found in
    let same : length found.items ≡ vec_len found = omega (arith, found.ok.0) in
    weaker_within c.named_elsewhere.result (IsEarlier before text) (IsNamed before raw text) (λ shown h. record {
      shapes = c.in_ok-shapes.shapes.items;
      are_shapes = c.in_ok-shapes.ensures ∙ ap (features_described raw) c.as_slice.ensures.value;
      is_shown = subst (λ (fs : List (Shape Global)). IsShownOf before text fs shown)
          (c.in_ok-found.ensures ∙ ap (filter (is_shape_called text)) c.as_slice-2.ensures.value)
          (found_nowhere before text found.items shown (ap (λ (n : ℕ). n == 0) same ∙ (sym c.is_empty.ensures ∙ c.if-is_empty.true)) h);
    }) c.named_elsewhere.ensures
