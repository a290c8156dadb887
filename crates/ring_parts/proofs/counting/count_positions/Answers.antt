use Rattle.kit_words.proofs.Common.{length, arith, Vec}
use Rattle.grid_geometry.specs.Common.{Position}
use Rattle.ring_parts.proofs.CountedFew.{counted_few}
use Rattle.ring_parts.proofs.counting.count_positions.Goals as goal

pub overflow_add-count : goal.overflow_add-count
overflow_add-count g c =
    omega (
      arith,
      c.loop-ring.invariant,
      c.len-count.ensures,
      counted_few (λ (ring : Vec Position _). ring.items) length c.args.rings.now c.loop-ring.ring-index c.ring-item.result c.loop-ring-test.true c.ring-item.is,
      c.requires,
    )
