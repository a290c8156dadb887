use Rattle.kit_words.proofs.Common.{arith, sym, ap, ◌∙◌, ◌≡◌, [], Some, option_map}
use Rattle.map_frame.specs.Common.{frame_ring}
use Rattle.feature_exchange.specs.Common.{stored, ring_under}
use Rattle.arc_store.proofs.FrameNames.{number_there}
use Rattle.arc_store.proofs.FrameReads.{ring-in_rings}
use Rattle.arc_store.proofs.RingKeys.{there, no_keys, keys_placed, keys_round, keys_value, keys_few}
use Rattle.arc_store.proofs.map.Map.ring.Goals as goal

pub returns-in_err-number : goal.returns-in_err-number
returns-in_err-number g c =
    let m = c.self.inside in
    let n = c.args.n in
    let at = ring_under (stored m.frame m.rings.borders m.rings.vertices) in
    c.from_residual.ensures
    ∙ ap (option_map at) c.in_err-number.ensures
    ∙ sym (ring-in_rings at m.frame.doc n c.args.polygon c.args.ring)
    ∙ ap (λ s. frame_ring s.doc n c.args.polygon c.args.ring) c.self.view_is

pub returns-in_err-keys : goal.returns-in_err-keys
returns-in_err-keys g c =
    let m = c.self.inside in
    let number = c.in_ok-number.number in
    let held = number_there m.frame.doc (record { feature = c.args.n; polygon = c.args.polygon; ring = c.args.ring }) number (sym c.in_ok-number.ensures) in
    absurd (no_keys (stored m.frame m.rings.borders m.rings.vertices) c.self.invariant.holds.whole number held c.in_err-keys.ensures)

pub begin-requires-clause-placed : goal.begin-requires-clause-placed
begin-requires-clause-placed g c =
    let m = c.self.inside in
    keys_placed (stored m.frame m.rings.borders m.rings.vertices) c.self.invariant.holds.whole c.in_ok-number.number c.in_ok-keys.field-0 c.in_ok-keys.ensures

pub begin-requires-clause-few : goal.begin-requires-clause-few
begin-requires-clause-few g c =
    let m = c.self.inside in
    let number = c.in_ok-number.number in
    let held = number_there m.frame.doc (record { feature = c.args.n; polygon = c.args.polygon; ring = c.args.ring }) number (sym c.in_ok-number.ensures) in
    omega (
      arith,
      keys_few (stored m.frame m.rings.borders m.rings.vertices) c.self.invariant.holds.whole number c.in_ok-keys.field-0 c.in_ok-keys.ensures held,
      c.self.invariant.holds.small,
    )

pub returns : goal.returns
returns g c =
    let m = c.self.inside in
    let s = stored m.frame m.rings.borders m.rings.vertices in
    let n = c.args.n in
    let number = c.in_ok-number.number in
    let keys = c.in_ok-keys.field-0 in
    there c.begin.result _ (keys ≡ []) c.begin.ensures.some c.begin.ensures.none (keys_round s c.self.invariant.holds.whole number keys c.in_ok-keys.ensures)
    ∙ ap Some (keys_value s c.self.invariant.holds.whole number keys c.in_ok-keys.ensures)
    ∙ ap (option_map (ring_under s)) c.in_ok-number.ensures
    ∙ sym (ring-in_rings (ring_under s) m.frame.doc n c.args.polygon c.args.ring)
    ∙ ap (λ s. frame_ring s.doc n c.args.polygon c.args.ring) c.self.view_is
