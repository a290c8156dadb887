use Rattle.kit_words.proofs.Common.{◌-◌, refl, sym, map}
use Rattle.json_spans.specs.Common.{node}
use Rattle.topo_outline.specs.declared.fault.OpenFault.TheVariants as open_fault
use Rattle.geo_topology.specs.Views.{view_named}
use Rattle.geo_topology.proofs.Separated.{separated_turn, separated_stop, separated_end}
use Rattle.geo_topology.proofs.Depth.{within, names_fail, typed_fails, single_gives, deep, collection, collection_fails, enclosed_gives}
use Rattle.geo_topology.proofs.geometries.+geometry.Goals as goal

pub returns-in-Err : goal.returns-in-Err
returns-in-Err g t c = names_fail c.in-Err.fault c.args.depth (map view_named c.args.feature.now) (node c.args.span) c.in-Err.ensures

pub returns-in-Err-typed_value : goal.returns-in-Err-typed_value
returns-in-Err-typed_value g t c = typed_fails c.in-Err-typed_value.fault c.args.depth (map view_named c.args.feature.now) (node c.args.span) _ c.in-Ok.ensures (rw c.as_slice.ensures.value at c.in-Err-typed_value.ensures)

pub returns-then-not-is_collection : goal.returns-then-not-is_collection
returns-then-not-is_collection g t c = single_gives c.args.depth _ (node c.args.span) _ _ _ c.in-Ok.ensures (rw c.as_slice.ensures.value at c.in-Ok-typed_value.ensures) _ _ (sym c.if-not-is_collection.ensures) (rw c.as_slice-then-not-is_collection.ensures.value at c.in_ok-put_single.ensures)

pub returns-then-depth-eq0 : goal.returns-then-depth-eq0
returns-then-depth-eq0 g t c = deep c.args.depth _ (node c.args.span) _ _ _ c.in-Ok.ensures (rw c.as_slice.ensures.value at c.in-Ok-typed_value.ensures) (sym c.if-not-is_collection.ensures) c.if-depth-eq0.true

pub returns-then-not-is_object : goal.returns-then-not-is_object
returns-then-not-is_object g t c = collection_fails c.args.depth _ (node c.args.span) _ _ _ c.in-Ok.ensures (rw c.as_slice.ensures.value at c.in-Ok-typed_value.ensures) (open_fault.BadMember c.token_of.result) (sym c.if-not-is_collection.ensures) c.if-depth-eq0.false
    (separated_stop (within (view_named c.in-Ok-typed_value.value.1) (c.args.depth - 1)) (open_fault.BadMember c.token_of.result) _ _ _ _ _ _ _ c.in-Some.ensures.steps (rw (sym c.if-not-is_object.ensures, c.token_of.ensures) refl) c.loop-part.invariant)

pub loop-part-preserved : goal.loop-part-preserved
loop-part-preserved g t c = separated_turn (within (view_named c.in-Ok-typed_value.value.1) (c.args.depth - 1)) _ _ _ _ _ _ _ _ c.in-Some.ensures.steps c.in_ok-put_comma.ensures (rw (sym c.if-not-is_object.ensures) (rw c.no_members-alone.ensures at c.in-Ok-geometry.ensures)) c.loop-part.invariant

pub returns-in-Err-geometry : goal.returns-in-Err-geometry
returns-in-Err-geometry g t c = collection_fails c.args.depth _ (node c.args.span) _ _ _ c.in-Ok.ensures (rw c.as_slice.ensures.value at c.in-Ok-typed_value.ensures) c.in-Err-geometry.fault (sym c.if-not-is_collection.ensures) c.if-depth-eq0.false
    (separated_stop (within (view_named c.in-Ok-typed_value.value.1) (c.args.depth - 1)) c.in-Err-geometry.fault _ _ _ _ _ _ _ c.in-Some.ensures.steps (rw (sym c.if-not-is_object.ensures) (rw c.no_members-alone.ensures at c.in-Err-geometry.ensures)) c.loop-part.invariant)

pub returns : goal.returns
returns g t c = rw (collection c.args.depth _ (node c.args.span) _ _ _ c.in-Ok.ensures (rw c.as_slice.ensures.value at c.in-Ok-typed_value.ensures) (sym c.if-not-is_collection.ensures) c.if-depth-eq0.false)
    (enclosed_gives (map view_named c.args.feature.now) (map view_named c.in-Ok.value.items) _ _ _ _ _ c.in_ok-put_start.ensures (separated_end (within (view_named c.in-Ok-typed_value.value.1) (c.args.depth - 1)) _ _ _ _ _ c.in-None.ensures.steps.0 c.loop-part.invariant) (rw c.as_slice-2.ensures.value at c.in_ok-put_finish.ensures))
