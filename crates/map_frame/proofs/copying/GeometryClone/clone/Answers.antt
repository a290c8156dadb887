use Rattle.kit_words.proofs.Common.{◌≡◌, ◌∙◌, sym, ap}
use Rattle.topo_outline.proofs.Common.{copied_map}
use Rattle.map_frame.specs.Common.{holds, slot_text, geometry_text}
use Rattle.map_frame.proofs.copying.GeometryClone.clone.Goals as goal

pub returns-in_ok-clone-in-Items : goal.returns-in_ok-clone-in-Items
returns-in_ok-clone-in-Items g c = record {
  cases = ap holds
      (copied_map (λ s copy. slot_text copy ≡ slot_text s) slot_text (λ s copy same. same) c.in-Items.slots.items c.in_ok-clone-in-Items.field-0.items c.in_ok-clone-in-Items.ensures.cases.0)
      ∙ ap geometry_text (sym c.in-Items.is);
}
