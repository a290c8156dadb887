use Rattle.kit_words.proofs.Common.{◌-◌, refl, sym, map}
use Rattle.json_spans.specs.Common.{node}
use Rattle.topo_outline.specs.Common.{view_entry}
use Rattle.topo_outline.specs.declared.fault.OpenFault.TheVariants as open_fault
use Rattle.topo_outline.proofs.Depth.{inside, names_fail, type_fails, single_fails, single_gives, list_fails, deep, collection, collection_fails, joined_turn, joined_stop, joined_end, enclosed_gives}
use Rattle.topo_outline.proofs.geometries.+geometry.Goals as goal

pub returns-in-Err : goal.returns-in-Err
returns-in-Err g t c = names_fail c.in-Err.fault c.args.depth (node c.args.span) c.in-Err.ensures

pub returns-in-Err-type_of : goal.returns-in-Err-type_of
returns-in-Err-type_of g t c = type_fails c.in-Err-type_of.fault c.args.depth (node c.args.span) _ c.in-Ok.ensures (rw c.as_slice.ensures.value at c.in-Err-type_of.ensures)

pub returns-then-not-is_collection : goal.returns-then-not-is_collection
returns-then-not-is_collection g t c = single_gives c.args.depth (node c.args.span) _ _ _ _ _ _ c.in-Ok.ensures (rw c.as_slice.ensures.value at c.in-Ok-type_of.ensures) (sym c.if-not-is_collection.ensures) (rw c.as_slice-then-not-is_collection.ensures.value at c.in-Ok-single.ensures) c.in_ok-push.ensures

pub returns-in-Err-single : goal.returns-in-Err-single
returns-in-Err-single g t c = single_fails c.in-Err-single.fault c.args.depth (node c.args.span) _ _ _ c.in-Ok.ensures (rw c.as_slice.ensures.value at c.in-Ok-type_of.ensures) (sym c.if-not-is_collection.ensures) (rw c.as_slice-then-not-is_collection.ensures.value at c.in-Err-single.ensures)

pub returns-in-Err-list_member : goal.returns-in-Err-list_member
returns-in-Err-list_member g t c = list_fails c.in-Err-list_member.fault c.args.depth (node c.args.span) _ _ _ c.in-Ok.ensures (rw c.as_slice.ensures.value at c.in-Ok-type_of.ensures) (sym c.if-not-is_collection.ensures) (rw c.as_slice-2.ensures.value at c.in-Err-list_member.ensures)

pub returns-then-depth-eq0 : goal.returns-then-depth-eq0
returns-then-depth-eq0 g t c = deep c.args.depth (node c.args.span) _ _ _ _ c.in-Ok.ensures (rw c.as_slice.ensures.value at c.in-Ok-type_of.ensures) (sym c.if-not-is_collection.ensures) (rw c.as_slice-2.ensures.value at c.in-Ok-list_member.ensures) c.if-depth-eq0.true

pub returns-then-not-is_object : goal.returns-then-not-is_object
returns-then-not-is_object g t c = collection_fails (open_fault.BadMember c.token_of.result) c.args.depth (node c.args.span) _ _ _ _ c.in-Ok.ensures (rw c.as_slice.ensures.value at c.in-Ok-type_of.ensures) (sym c.if-not-is_collection.ensures) (rw c.as_slice-2.ensures.value at c.in-Ok-list_member.ensures) c.if-depth-eq0.false
    (joined_stop (open_fault.BadMember c.token_of.result) (inside (view_entry c.in-Ok-list_member.value) (c.args.depth - 1)) _ _ _ _ _ _ c.in-Some.ensures.steps (rw (sym c.if-not-is_object.ensures, c.token_of.ensures) refl) c.loop-part.invariant)

pub loop-part-preserved : goal.loop-part-preserved
loop-part-preserved g t c = joined_turn (inside (view_entry c.in-Ok-list_member.value) (c.args.depth - 1)) _ _ _ _ _ _ c.in-Some.ensures.steps (rw (sym c.if-not-is_object.ensures) c.in-Ok-geometry.ensures) c.loop-part.invariant

pub returns-in-Err-geometry : goal.returns-in-Err-geometry
returns-in-Err-geometry g t c = collection_fails c.in-Err-geometry.fault c.args.depth (node c.args.span) _ _ _ _ c.in-Ok.ensures (rw c.as_slice.ensures.value at c.in-Ok-type_of.ensures) (sym c.if-not-is_collection.ensures) (rw c.as_slice-2.ensures.value at c.in-Ok-list_member.ensures) c.if-depth-eq0.false
    (joined_stop c.in-Err-geometry.fault (inside (view_entry c.in-Ok-list_member.value) (c.args.depth - 1)) _ _ _ _ _ _ c.in-Some.ensures.steps (rw (sym c.if-not-is_object.ensures) c.in-Err-geometry.ensures) c.loop-part.invariant)

pub returns : goal.returns
returns g t c = rw (collection c.args.depth (node c.args.span) _ _ _ _ c.in-Ok.ensures (rw c.as_slice.ensures.value at c.in-Ok-type_of.ensures) (sym c.if-not-is_collection.ensures) (rw c.as_slice-2.ensures.value at c.in-Ok-list_member.ensures) c.if-depth-eq0.false)
    (enclosed_gives (map view_entry c.in-Ok.value.items) _ _ _ _ _ (rw (rw c.as_slice-3.ensures.value at c.in_ok-head.ensures) at c.in_ok-push-2.ensures) (joined_end (inside (view_entry c.in-Ok-list_member.value) (c.args.depth - 1)) _ _ _ _ c.in-None.ensures.steps.0 c.loop-part.invariant) c.in_ok-push-3.ensures)
