use Rattle.kit_words.proofs.Common.{rules, ◌≡◌, ap₂, ◌∙◌, to_z, of_z, w64}
use Rattle.std.proofs.Math.Facts.{to_z-of_z}
use Rattle.grid_geometry.specs.Common.{position}
use Rattle.topo_writer.proofs.Differences.{pair_is}
use Rattle.topo_writer.proofs.texts.pair_at.Goals as goal

pub returns : goal.returns
returns c =
    let x : to_z w64 (of_z w64 c.across.result) ≡ c.across.result = search (rules, to_z-of_z) in
    let y : to_z w64 (of_z w64 c.upward.result) ≡ c.upward.result = search (rules, to_z-of_z) in
    ap₂ (λ a b. position a b) (x ∙ c.across.ensures) (y ∙ c.upward.ensures)
    ∙ pair_is c.args.delta c.args.arc.now c.args.i c.index-arc-i.result c.index-arc-i-2.result c.requires c.if-not-delta.false c.if-i-eq0.false
    c.index-arc-i.is c.index-arc-i-2.is
