use Rattle.kit_words.proofs.Common.{◌∙◌, ap, codes, flat_map, map, refl, sym}
use Rattle.grid_geometry.specs.Common.{edges}
use Rattle.grid_decimals.specs.Common.{view_found, view_grid}
use Rattle.topo_outline.specs.Common.{bad_member}
use Rattle.topo_reader.specs.Common.{document_of, positions_of, view_raw}
use Rattle.geo_text.specs.Wants.{view_asked}
use Rattle.geo_text.proofs.Sides.{longest_of}
use Rattle.geo_text.proofs.Styled.{longest_same, no_style, styled}
use Rattle.geo_text.proofs.exporting.style_of.Goals as goal

pub returns-in_default : goal.returns-in_default
returns-in_default g c =
    (bad_member (codes "transform"), refl, no_style (view_asked c.args.asked.now) (document_of (view_raw c.args.raw.now)) (sym c.in_ok-grid.ensures ∙ ap view_found c.in_default.is))

pub returns : goal.returns
returns g c =
    let o = view_raw c.args.raw.now in
    let longest =
    c.longest_side-longest.ensures.value
    ∙ ap (λ z. longest_of 0 (flat_map edges (flat_map (λ polygon. map positions_of polygon.items) (flat_map (λ polygons. polygons.items) z)))) c.as_slice.ensures.value
    ∙ longest_same o c.args.raw.now.polygons.items c.requires refl in
    styled (view_asked c.args.asked.now) (document_of o) (view_grid c.in-Some.grid) c.longest_side-longest.result c.in-Ok.value
    (sym c.in_ok-grid.ensures ∙ ap view_found c.in-Some.is) longest c.in-Ok.ensures.value
