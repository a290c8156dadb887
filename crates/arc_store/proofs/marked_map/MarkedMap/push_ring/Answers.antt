use Rattle.kit_words.proofs.Common.{sym, ap, ◌∙◌, subst, [], ◌++◌, map, unwrap_or, append-nil}
use Rattle.ring_machine.specs.Common.{is_junction}
use Rattle.map_frame.specs.Common.{frame_ring}
use Rattle.feature_exchange.specs.Common.{MarksAlong, stored_in, stored_document}
use Rattle.feature_exchange.proofs.Common.{along}
use Rattle.arc_store.proofs.MarkedRings.{ring_read, no_ring_read, number_held, junctions_along}
use Rattle.arc_store.proofs.marked_map.MarkedMap.push_ring.Goals as goal

pub returns-in_default-clause-positions : goal.returns-in_default-clause-positions
returns-in_default-clause-positions g c =
    let s = stored_in c.self.inside.frame.now c.self.inside.rings.now in
    let old = c.args.positions.now.items in
    sym (append-nil old)
    ∙ ap (λ ps. old ++ ps) (no_ring_read s c.args.feature c.args.polygon c.args.ring c.in_default.ensures)
    ∙ ap (λ d. old ++ unwrap_or (frame_ring d c.args.feature c.args.polygon c.args.ring) []) c.self.view_is

pub returns-in_default-clause-marks : goal.returns-in_default-clause-marks
returns-in_default-clause-marks g c =
    let s = stored_in c.self.inside.frame.now c.self.inside.rings.now in
    let old = c.args.marks.now.items in
    sym (append-nil old)
    ∙ ap (λ ps. old ++ map (is_junction (stored_document s)) ps) (no_ring_read s c.args.feature c.args.polygon c.args.ring c.in_default.ensures)
    ∙ ap (λ d. old ++ map (is_junction d) (unwrap_or (frame_ring d c.args.feature c.args.polygon c.args.ring) [])) c.self.view_is

pub push_marked_ring-requires-clause-held : goal.push_marked_ring-requires-clause-held
push_marked_ring-requires-clause-held g c =
    let s = stored_in c.self.inside.frame.now c.self.inside.rings.now in
    number_held s c.self.invariant.whole c.args.feature c.args.polygon c.args.ring c.in-Some.number c.in-Some.ensures

pub push_marked_ring-requires-clause-along : goal.push_marked_ring-requires-clause-along
push_marked_ring-requires-clause-along g c =
    along (stored_in c.self.inside.frame.now c.self.inside.rings.now) c.self.invariant.whole

pub returns-clause-positions : goal.returns-clause-positions
returns-clause-positions g c =
    let s = stored_in c.self.inside.frame.now c.self.inside.rings.now in
    let old = c.args.positions.now.items in
    c.in_ok-push_marked_ring.ensures.positions
    ∙ ap (λ ps. old ++ ps) (ring_read s c.args.feature c.args.polygon c.args.ring c.in-Some.number c.in-Some.ensures)
    ∙ ap (λ d. old ++ unwrap_or (frame_ring d c.args.feature c.args.polygon c.args.ring) []) c.self.view_is

pub returns-clause-marks : goal.returns-clause-marks
returns-clause-marks g c =
    let s = stored_in c.self.inside.frame.now c.self.inside.rings.now in
    let old = c.args.marks.now.items in
    let here = junctions_along s c.self.invariant.whole c.self.inside.meetings.items c.self.invariant.told c.in-Some.number in
    c.in_ok-push_marked_ring.ensures.marks (is_junction (stored_document s)) (subst (λ marks. MarksAlong s.places s.rings c.in-Some.number marks (is_junction (stored_document s))) (sym c.as_slice.ensures.value) here)
    ∙ ap (λ ps. old ++ map (is_junction (stored_document s)) ps) (ring_read s c.args.feature c.args.polygon c.args.ring c.in-Some.number c.in-Some.ensures)
    ∙ ap (λ d. old ++ map (is_junction d) (unwrap_or (frame_ring d c.args.feature c.args.polygon c.args.ring) [])) c.self.view_is
