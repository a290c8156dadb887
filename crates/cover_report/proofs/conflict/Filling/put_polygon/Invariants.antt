use Rattle.kit_words.proofs.Common.{take}
use Rattle.ring_parts.specs.Common.{rings_seen}
use Rattle.cover_report.specs.Filling.{Fills, polygon_segments}
use Rattle.cover_report.proofs.conflict.Filling.put_polygon.Given as goal

abbrev pub invariant-loop-ring : goal.invariant-loop-ring
invariant-loop-ring g l = Fills l.fn.self (polygon_segments (rings_seen (take l.ring-index l.rings))) l.self
