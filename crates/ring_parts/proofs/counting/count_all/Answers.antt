use Rattle.kit_words.proofs.Common.{ap, length, arith, sum_by, Vec}
use Rattle.grid_geometry.specs.Common.{Position}
use Rattle.ring_parts.specs.Common.{rings_seen}
use Rattle.ring_parts.proofs.CountedFew.{counted_few}
use Rattle.ring_parts.proofs.counting.count_all.Goals as goal

pub count_positions-count-requires : goal.count_positions-count-requires
count_positions-count-requires g c =
    omega (
      arith,
      ap (λ z. sum_by length (rings_seen z)) c.as_slice.ensures.value,
      counted_few (λ (rings : Vec (Vec Position _) _). rings_seen rings.items) (sum_by length) c.args.polygons.now c.loop-rings.rings-index c.rings-item.result c.loop-rings-test.true c.rings-item.is,
      c.requires,
    )

pub overflow_add-count : goal.overflow_add-count
overflow_add-count g c =
    omega (
      arith,
      c.loop-rings.invariant,
      c.count_positions-count.ensures,
      ap (λ z. sum_by length (rings_seen z)) c.as_slice.ensures.value,
      counted_few (λ (rings : Vec (Vec Position _) _). rings_seen rings.items) (sum_by length) c.args.polygons.now c.loop-rings.rings-index c.rings-item.result c.loop-rings-test.true c.rings-item.is,
      c.requires,
    )
