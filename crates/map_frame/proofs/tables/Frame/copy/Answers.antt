use Rattle.kit_words.proofs.Common.{◌≡◌, ◌∙◌, refl, ap, map, rules, each_same}
use Rattle.topo_outline.proofs.Common.{copied_map}
use Rattle.topo_outline.specs.Common.{view_kept}
use Rattle.map_frame.specs.Common.{AreCopied, Tables, layer_text, slot_text, seen}
use Rattle.map_frame.proofs.CopiedFrames.{options_copied, same_framed, copy_framed}
use Rattle.map_frame.proofs.tables.Frame.copy.Goals as goal

pub invariant_of-result : goal.invariant_of-result
invariant_of-result g c =
    let t = c.self.inside.tables in
    let copy : Tables g.row.A.Denot = record {
      alloc = t.alloc;
      transform = t.transform;
      layers = c.in_ok-layers.layers;
      members = c.in_ok-members.members;
      features = c.in_ok-features.features;
      stands = c.in_ok-stands.stands;
      count = t.count;
      names = c.in_ok-names.names;
      empty = c.in_ok-empty.empty;
    } in
    let copied : AreCopied t copy = record {
      transform = refl;
      layers = copied_map (λ l copy. layer_text copy ≡ layer_text l) layer_text (λ l copy same. same) t.layers.items c.in_ok-layers.layers.items c.in_ok-layers.ensures.cases.0;
      members = ap (map view_kept) (each_same t.members.items c.in_ok-members.members.items c.in_ok-members.ensures.cases.0);
      features = options_copied _ seen (λ x y same. search rules) (λ x same. search rules) (λ y same. search rules) t.features.items c.in_ok-features.features.items c.in_ok-features.ensures.cases.0;
      stands = c.in_ok-stands.ensures.items ∙ c.as_slice.ensures.value;
      count = refl;
      names = c.in_ok-names.ensures.items ∙ c.as_slice-2.ensures.value;
      empty = copied_map (λ s copy. slot_text copy ≡ slot_text s) slot_text (λ s copy same. same) t.empty.items c.in_ok-empty.empty.items c.in_ok-empty.ensures.cases.0;
    } in
    copy_framed t copy copied c.self.invariant

pub returns : goal.returns
returns g c =
    let t = c.self.inside.tables in
    let copy : Tables g.row.A.Denot = record {
      alloc = t.alloc;
      transform = t.transform;
      layers = c.in_ok-layers.layers;
      members = c.in_ok-members.members;
      features = c.in_ok-features.features;
      stands = c.in_ok-stands.stands;
      count = t.count;
      names = c.in_ok-names.names;
      empty = c.in_ok-empty.empty;
    } in
    let copied : AreCopied t copy = record {
      transform = refl;
      layers = copied_map (λ l copy. layer_text copy ≡ layer_text l) layer_text (λ l copy same. same) t.layers.items c.in_ok-layers.layers.items c.in_ok-layers.ensures.cases.0;
      members = ap (map view_kept) (each_same t.members.items c.in_ok-members.members.items c.in_ok-members.ensures.cases.0);
      features = options_copied _ seen (λ x y same. search rules) (λ x same. search rules) (λ y same. search rules) t.features.items c.in_ok-features.features.items c.in_ok-features.ensures.cases.0;
      stands = c.in_ok-stands.ensures.items ∙ c.as_slice.ensures.value;
      count = refl;
      names = c.in_ok-names.ensures.items ∙ c.as_slice-2.ensures.value;
      empty = copied_map (λ s copy. slot_text copy ≡ slot_text s) slot_text (λ s copy same. same) t.empty.items c.in_ok-empty.empty.items c.in_ok-empty.ensures.cases.0;
    } in
    same_framed t copy copied ∙ c.self.view_is
