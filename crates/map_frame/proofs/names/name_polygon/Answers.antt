use Rattle.kit_words.proofs.Common.{◌<◌, ◌≤◌, ◌∙◌, arith, length, length-set, get_or, slice_set, Some, refl, slice_get-get_or}
use Rattle.map_frame.proofs.NamedLists.{put_name, ring_named, rings_named, gain_none, OfPolygon}
use Rattle.map_frame.proofs.names.name_polygon.Goals as goal

pub loop-ring-init : goal.loop-ring-init
loop-ring-init g c = record {
  gained = gain_none c.args.names.now.items (λ o k. OfPolygon c.args.feature c.args.polygon c.args.rings.now o k × (o.ring < 0)) (λ o k i. absurd (omega (arith, i.1)));
  len = refl;
}

pub loop-ring-preserved : goal.loop-ring-preserved
loop-ring-preserved g c =
    let rings = c.args.rings.now in
    let n = c.loop-ring.ring in
    let within : n < length rings = omega (arith, c.loop-ring-test.true) in
    let room : get_or rings n 0 < length c.args.names.now.items = c.requires (get_or rings n 0) (n, slice_get-get_or rings n 0 within) in
    record {
      gained = ring_named c.args.feature c.args.polygon rings n c.args.names.now.items c.loop-ring.names.items c.loop-ring.invariant.gained
          (slice_set c.loop-ring.names.items (get_or rings n 0) (Some (record { feature = c.args.feature; polygon = c.args.polygon; ring = n })))
          (get_or rings n 0) (slice_get-get_or rings n 0 within)
          (put_name c.loop-ring.names.items (get_or rings n 0) (record { feature = c.args.feature; polygon = c.args.polygon; ring = n }) (omega (arith, room, c.loop-ring.invariant.len)));
      len = length-set c.loop-ring.names.items (get_or rings n 0) _ ∙ c.loop-ring.invariant.len;
    }

pub returns-clause-gained : goal.returns-clause-gained
returns-clause-gained g c =
    let rings = c.args.rings.now in
    let n = c.loop-ring.ring in
    let past : length rings ≤ n = omega (arith, c.loop-ring-test.false) in
    rings_named c.args.feature c.args.polygon rings n c.args.names.now.items c.loop-ring.names.items c.loop-ring.invariant.gained past

pub index_mut-requires : goal.index_mut-requires
index_mut-requires g c =
    let rings = c.args.rings.now in
    let n = c.loop-ring.ring in
    let within : n < length rings = omega (arith, c.loop-ring-test.true) in
    let room : get_or rings n 0 < length c.args.names.now.items = c.requires (get_or rings n 0) (n, slice_get-get_or rings n 0 within) in
    omega (arith, room, c.loop-ring.invariant.len, c.loop-ring.names.ok)
