use Rattle.kit_words.proofs.Common.{◌/◌, ◌<◌, length, arith}
use Rattle.layer_faces.specs.Seen.{segments_seen}
use Rattle.layer_faces.proofs.Reading.{segment_at, left_ends, right_ends}
use Rattle.layer_faces.proofs.measures.ends_at.Goals as goal

pub returns-then-side-eq0 : goal.returns-then-side-eq0
returns-then-side-eq0 g c =
    let within : c.args.side / 2 < length c.args.borders.now = omega arith in
    left_ends (segments_seen c.args.borders.now) c.args.side _ _ _
    (segment_at c.args.borders.now (c.args.side / 2) c.index-borders-side.result within)
    c.if-side-eq0.true c.upwards-bottom.ensures.bottom c.upwards-bottom.ensures.top

pub returns-else-side-eq0 : goal.returns-else-side-eq0
returns-else-side-eq0 g c =
    let within : c.args.side / 2 < length c.args.borders.now = omega arith in
    right_ends (segments_seen c.args.borders.now) c.args.side _ _ _
    (segment_at c.args.borders.now (c.args.side / 2) c.index-borders-side.result within)
    c.if-side-eq0.false c.upwards-bottom.ensures.bottom c.upwards-bottom.ensures.top
