use Rattle.kit_words.proofs.Common.{◌++◌, ap, ◌∙◌, map, map-append}
use Rattle.walk_faults.specs.Common.{placed, walk_seen}
use Rattle.walk_faults.proofs.Walking.{one_appended}
use Rattle.walk_faults.proofs.walks.push_rings.Goals as goal

pub loop-ring-preserved : goal.loop-ring-preserved
loop-ring-preserved g c =
    one_appended (placed c.args.feature c.args.polygon) (λ ring. ring.items) c.args.rings.now c.loop-ring.ring c.index-rings-ring.result
    (map walk_seen c.args.walks.now.items) (map walk_seen c.loop-ring.walks.items) (map walk_seen c.push.new.self.items)
    c.loop-ring-test.true c.index-rings-ring.is c.loop-ring.invariant
    (ap (map walk_seen) c.in_ok-push.ensures.items ∙ map-append walk_seen c.loop-ring.walks.items _
    ∙ ap (λ z. map walk_seen c.loop-ring.walks.items ++ placed c.args.feature c.args.polygon c.loop-ring.ring z) c.as_slice.ensures.value)
