use Rattle.kit_words.proofs.Common.{take}
use Rattle.ring_parts.specs.Common.{polygons_seen}
use Rattle.cover_report.specs.Filling.{Fills, feature_segments}
use Rattle.cover_report.proofs.conflict.Filling.put_feature.Given as goal

abbrev pub invariant-loop-rings : goal.invariant-loop-rings
invariant-loop-rings g l = Fills l.fn.self (feature_segments (polygons_seen (take l.rings-index l.polygons))) l.self
