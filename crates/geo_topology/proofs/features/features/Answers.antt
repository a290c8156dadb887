use Rattle.kit_words.proofs.Common.{sym, refl}
use Rattle.topo_outline.specs.declared.fault.OpenFault.TheVariants as open_fault
use Rattle.geo_topology.specs.Features.{feature_in_list}
use Rattle.geo_topology.specs.Views.{view_named}
use Rattle.geo_topology.proofs.Separated.{separated_turn, separated_stop, separated_end}
use Rattle.geo_topology.proofs.features.features.Goals as goal

pub loop-part-preserved : goal.loop-part-preserved
loop-part-preserved g c = separated_turn (feature_in_list (view_named c.args.list)) _ _ _ _ _ _ _ _ c.in-Some.ensures.steps c.in_ok-put_comma.ensures (rw (sym c.if-not-is_object.ensures) c.in-Ok.ensures) c.loop-part.invariant

pub returns-then-not-is_object : goal.returns-then-not-is_object
returns-then-not-is_object g c = separated_stop (feature_in_list (view_named c.args.list)) (open_fault.BadMember c.token_of.result) _ _ _ _ _ _ _ c.in-Some.ensures.steps (rw (sym c.if-not-is_object.ensures, c.token_of.ensures) refl) c.loop-part.invariant

pub returns-in-Err : goal.returns-in-Err
returns-in-Err g c = separated_stop (feature_in_list (view_named c.args.list)) c.in-Err.fault _ _ _ _ _ _ _ c.in-Some.ensures.steps (rw (sym c.if-not-is_object.ensures) c.in-Err.ensures) c.loop-part.invariant

pub returns : goal.returns
returns g c = separated_end (feature_in_list (view_named c.args.list)) _ _ _ _ _ c.in-None.ensures.steps.0 c.loop-part.invariant
