-- A point that the code holds, as the definitions see it.
use Rattle.std.specs.Prelude.{◌≡◌, option_map, codes}
use Rattle.json_spans.specs.Common.{nodes}
use Rattle.ring_machine.specs.Common.{Text}
use Rattle.topo_outline.specs.Common.{view_head}
use Rattle.geo_features.specs.Points.{is_one_point, named, point_head}
use Rattle.geo_features.specs.declared.points.Point.{Point}

-- it has the parts of this text
pub record IsPoint {A : Type 0} (point : Point A) (t : Text) : Type 0 where
  pub one : point.is_one ≡ is_one_point t
  pub coordinates : option_map nodes point.coordinates ≡ named (codes "coordinates") t
  pub head : view_head point.head ≡ point_head t
