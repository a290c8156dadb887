use Rattle.kit_words.proofs.Common.{arith, ap, length}
use Rattle.topo_writer.proofs.Cuts.{between_count}
use Rattle.topo_writer.proofs.cutting.CutRing.len.Goals as goal

pub returns : goal.returns
returns g c = omega (arith, ap length c.self.view_is, between_count c.self.inside.way.items c.self.inside.cuts.items, c.len.ensures, c.saturating_sub.ensures)
