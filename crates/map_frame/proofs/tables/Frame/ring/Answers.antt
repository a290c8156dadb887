use Rattle.kit_words.proofs.Common.{refl, sym, ap, ◌∙◌, None, Some, slice_get_past}
use Rattle.map_frame.specs.Common.{element}
use Rattle.map_frame.proofs.ReadLists.{got, got_none, ring_as}
use Rattle.map_frame.proofs.tables.Frame.ring.Goals as goal

pub returns-in_err-polygons : goal.returns-in_err-polygons
returns-in_err-polygons g c =
    c.from_residual.ensures ∙ ap (λ o. element (element o c.args.polygon) c.args.ring) c.in_err-polygons.ensures

pub returns-in_err-rings : goal.returns-in_err-rings
returns-in_err-rings g c =
    let ps = c.in_ok-polygons.field-0.now in
    c.from_residual-in_err-rings.ensures
    ∙ ring_as _ ps c.args.polygon c.args.ring None c.in_ok-polygons.ensures (slice_get_past ps c.args.polygon c.in_err-rings.ensures.lookup.3)

pub returns-in-Some : goal.returns-in-Some
returns-in-Some g c =
    let ps = c.in_ok-polygons.field-0.now in
    let rs = c.in_ok-rings.rings.now in
    sym (got rs.items c.deref.result.now c.args.ring c.deref.ensures.value c.in-Some.number.now c.in-Some.ensures.lookup.3.0 c.in-Some.ensures.lookup.1)
    ∙ ring_as _ ps c.args.polygon c.args.ring (Some rs) c.in_ok-polygons.ensures
    (got ps ps c.args.polygon refl rs c.in_ok-rings.ensures.lookup.3.0 c.in_ok-rings.ensures.lookup.1)

pub returns-in-None : goal.returns-in-None
returns-in-None g c =
    let ps = c.in_ok-polygons.field-0.now in
    let rs = c.in_ok-rings.rings.now in
    sym (got_none rs.items c.deref.result.now c.args.ring c.deref.ensures.value c.in-None.ensures.lookup.3)
    ∙ ring_as _ ps c.args.polygon c.args.ring (Some rs) c.in_ok-polygons.ensures
    (got ps ps c.args.polygon refl rs c.in_ok-rings.ensures.lookup.3.0 c.in_ok-rings.ensures.lookup.1)
