use Rattle.layer_sides.proofs.Seeing.{segment_seen}
use Rattle.layer_sides.proofs.under.segment_at.Goals as goal

pub returns : goal.returns
returns g c = segment_seen c.args.borders.now c.args.place c.index-borders-place.result c.requires
