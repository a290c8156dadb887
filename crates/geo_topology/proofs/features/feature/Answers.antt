use Rattle.kit_words.proofs.Common.{sym, refl}
use Rattle.json_spans.specs.Common.{node}
use Rattle.geo_topology.proofs.Featured.{names_fail, value_fails, made_of_value}
use Rattle.geo_topology.proofs.features.feature.Goals as goal

pub returns-in-Err : goal.returns-in-Err
returns-in-Err g c = names_fail c.in-Err.fault (node c.args.span) c.in-Err.ensures

pub returns-in-Err-geometry_of : goal.returns-in-Err-geometry_of
returns-in-Err-geometry_of g c = value_fails c.in-Err-geometry_of.fault (node c.args.span) _ c.in-Ok.ensures (rw c.as_slice.ensures.value at c.in-Err-geometry_of.ensures)

pub returns-then-is_object : goal.returns-then-is_object
returns-then-is_object g c = rw (made_of_value (node c.args.span) _ _ c.in-Ok.ensures (rw c.as_slice.ensures.value at c.in-Ok-geometry_of.ensures), sym c.if-is_object.ensures) (rw c.as_slice-then-is_object.ensures.value at c.geometry.ensures)

pub returns : goal.returns
returns g c = rw (made_of_value (node c.args.span) _ _ c.in-Ok.ensures (rw c.as_slice.ensures.value at c.in-Ok-geometry_of.ensures), sym c.if-is_object.ensures, rw c.as_slice-2.ensures.value at c.in_ok-put_empty.ensures) refl
