use Rattle.vertex_index.specs.Common.{place}
use Rattle.feature_exchange.specs.Common.{meets}
use Rattle.feature_exchange.proofs.MarkedRing.{appended_parts}
use Rattle.feature_exchange.proofs.marked_ring.push_turned.Goals as goal

pub returns-clause-positions : goal.returns-clause-positions
returns-clause-positions g c =
    appended_parts (place c.args.vertices.now) c.args.keys.now c.args.start c.args.positions.now.items c.push_marked.new.positions.items c.push_marked-2.new.positions.items c.in_ok-push_marked.ensures.positions c.in_ok-push_marked-2.ensures.positions

pub returns-clause-marks : goal.returns-clause-marks
returns-clause-marks g c =
    appended_parts (meets c.args.meetings.now) c.args.keys.now c.args.start c.args.marks.now.items c.push_marked.new.marks.items c.push_marked-2.new.marks.items c.in_ok-push_marked.ensures.marks c.in_ok-push_marked-2.ensures.marks
