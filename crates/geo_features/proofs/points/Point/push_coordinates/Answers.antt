use Rattle.kit_words.proofs.Common.{◌∙◌, ap, codes, option_map, refl, subst, sym}
use Rattle.json_spans.specs.Common.{node, nodes}
use Rattle.topo_outline.specs.Common.{bad_member}
use Rattle.geo_features.specs.Gives.{Appends, IsGeoFault}
use Rattle.geo_features.specs.Seen.{view_style}
use Rattle.geo_features.proofs.PointTexts.{coordinates_missing, coordinates_there, coordinates_wrong}
use Rattle.geo_features.proofs.points.Point.push_coordinates.Goals as goal

pub returns-then-are_positions : goal.returns-then-are_positions
returns-then-are_positions g c t is =
    subst (λ r. Appends c.args.text.now.items c.push_placed.new.text.items c.push_placed.result r)
    (coordinates_there (view_style c.args.style.now) c.args.self.now.number c.args.self.now.is_one t (node c.in-Some.name) (node c.in-Some.value)
    is.one (ap (option_map nodes) (sym c.in-Some.is) ∙ is.coordinates) (sym c.are_positions.ensures ∙ c.if-are_positions.true))
    c.push_placed.ensures

pub returns-else-are_positions : goal.returns-else-are_positions
returns-else-are_positions g c t is =
    subst (IsGeoFault c.bad_member.result)
    (coordinates_wrong (view_style c.args.style.now) c.args.self.now.number c.args.self.now.is_one t (node c.in-Some.name) (node c.in-Some.value)
    is.one (ap (option_map nodes) (sym c.in-Some.is) ∙ is.coordinates) (sym c.are_positions.ensures ∙ c.if-are_positions.false))
    c.bad_member.ensures

pub returns-in-None : goal.returns-in-None
returns-in-None g c t is = (
  bad_member (codes "coordinates"),
  refl,
  coordinates_missing (view_style c.args.style.now) c.args.self.now.number t (ap (option_map nodes) (sym c.in-None.is) ∙ is.coordinates),
)
