-- The points of a map, put on the grid that is asked for.
use Rattle.std.specs.Prelude.{◌≡◌, ℕ, true, List, Option, Some, None, Result, Ok}
use Rattle.grid_reader.specs.PointDigits.{point_grid}
use Rattle.grid_reader.specs.declared.needs.PointNeeds.{PointNeeds}
use Rattle.grid_reader.specs.declared.wants.Wants.{Wants}
use Rattle.mend_report.specs.declared.asked.Asked.{Asked}
use Rattle.mend_report.specs.declared.looking.LookFault.{LookFault}
use Rattle.mend_report.specs.declared.looking.LookFault.TheVariants as look
use Rattle.decimal_texts.specs.Common.{rounded_points}
use Rattle.decimal_texts.specs.declared.fault.PointFault.{PointFault}
use Rattle.decimal_texts.specs.declared.fault.PointFault.TheVariants as point
use Rattle.topo_outline.specs.declared.fault.OpenFault.TheVariants as open_fault

-- where the grid has so many decimals; without them the text stays as it is
abbrev pub rounded_to : Wants → List ℕ → Option ℕ → Result (List ℕ) PointFault
rounded_to grid text None = Ok text
rounded_to grid text (Some digits) = rounded_points digits grid.finer text

-- the text with its points on the grid that is asked for
abbrev pub points_on_grid : Wants → List ℕ → Result (List ℕ) PointFault
points_on_grid grid text = rounded_to grid text (point_grid grid text).digits

-- what its points need of that grid
abbrev pub points_needed : Wants → List ℕ → PointNeeds
points_needed grid text = (point_grid grid text).needs

-- the same is asked, of a text whose points lie on the grid, and count
pub record AsksOfLying (before after : Asked) : Type 0 where
  pub digits : after.grid.digits ≡ before.grid.digits
  pub finer : after.grid.finer ≡ before.grid.finer
  pub drop_heights : after.grid.drop_heights ≡ before.grid.drop_heights
  pub lie : after.grid.points_lie ≡ true
  pub most : after.most ≡ before.most
  pub dropped : after.dropped ≡ before.dropped

-- a coordinate of a point is at fault as one of an arc is
abbrev pub unread : PointFault → LookFault
unread (point.NotNumber place) = look.Open (open_fault.NotWhole place)
unread (point.OutOfRange place) = look.Open (open_fault.OutOfRange place)
unread point.OutOfMemory = look.OutOfMemory
