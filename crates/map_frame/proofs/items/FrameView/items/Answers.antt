use Rattle.kit_words.proofs.Common.{None, Some, ap, ◌∙◌}
use Rattle.map_frame.proofs.ReadItems.{layer_as}
use Rattle.map_frame.proofs.ReadLists.{got, got_none}
use Rattle.map_frame.proofs.items.FrameView.items.Goals as goal

pub returns-in_err-layer : goal.returns-in_err-layer
returns-in_err-layer g c =
    let t = c.self.inside.tables.now in
    let i = c.args.layer in
    c.from_residual.ensures
    ∙ layer_as t i (λ k. k.items) None (got_none t.layers.items c.deref.result.now i c.deref.ensures.value c.in_err-layer.ensures.lookup.3) _ c.self.view_is

pub returns : goal.returns
returns g c =
    let t = c.self.inside.tables.now in
    let i = c.args.layer in
    let l = c.in_ok-layer.layer.now in
    ap Some c.items_in.ensures
    ∙ layer_as t i (λ k. k.items) (Some l)
    (got t.layers.items c.deref.result.now i c.deref.ensures.value l c.in_ok-layer.ensures.lookup.3.0 c.in_ok-layer.ensures.lookup.1) _ c.self.view_is
