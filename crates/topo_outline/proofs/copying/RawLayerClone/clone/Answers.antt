use Rattle.kit_words.proofs.Common.{◌≡◌, ap, List}
use Rattle.topo_outline.specs.Common.{LayerText, Piece, view_item}
use Rattle.topo_outline.proofs.Copied.{copied_map}
use Rattle.topo_outline.proofs.copying.RawLayerClone.clone.Goals as goal

pub returns : goal.returns
returns g c =
    let named : List Piece → LayerText = λ ps. record { name = c.args.self.now.name.now; pieces = ps } in
    record { cases = ap named (copied_map (λ item copy. view_item copy ≡ view_item item) view_item (λ item copy same. same) c.args.self.now.items.items c.in_ok-clone.field-0.items c.in_ok-clone.ensures.cases.0) }
