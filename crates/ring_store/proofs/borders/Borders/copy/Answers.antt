use Rattle.kit_words.proofs.Common.{◌∙◌}
use Rattle.arc_tables.proofs.CopyLemmas.{copy_sound, copy_rings}
use Rattle.ring_store.proofs.borders.Borders.copy.Goals as goal

pub invariant_of-result : goal.invariant_of-result
invariant_of-result g c = copy_sound c.self.inside.tables c.in_ok-tables.tables c.in_ok-tables.ensures.arcs c.in_ok-tables.ensures.rings.0 c.in_ok-tables.ensures.stands c.self.invariant

pub returns : goal.returns
returns g c = copy_rings c.self.inside.tables c.in_ok-tables.tables c.in_ok-tables.ensures.arcs.0 c.in_ok-tables.ensures.rings ∙ c.self.view_is
