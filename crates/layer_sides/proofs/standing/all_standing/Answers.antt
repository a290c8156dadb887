use Rattle.kit_words.proofs.Common.{◌∙◌, ◌++◌, ap, arith}
use Rattle.ring_parts.specs.Common.{rings_seen}
use Rattle.layer_sides.specs.Standing.{standing_in}
use Rattle.layer_sides.proofs.Gathered.{standing_next}
use Rattle.layer_sides.proofs.standing.all_standing.Goals as goal

pub loop-polygon-preserved : goal.loop-polygon-preserved
loop-polygon-preserved g c =
    let l = c.loop-polygon in record {
      number = omega (arith, l.invariant.number);
      found =
          standing_next c.args.polygons.now l.polygon-index l.number c.polygon-item.result l.found.items c.push_polygon.new.found.items
          c.loop-polygon-test.true c.polygon-item.is l.invariant.number l.invariant.found
          (c.in_ok-push_polygon.ensures ∙ ap (λ z. l.found.items ++ standing_in l.number (rings_seen z)) c.as_slice.ensures.value);
    }
