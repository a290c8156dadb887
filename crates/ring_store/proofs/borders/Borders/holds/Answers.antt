use Rattle.kit_words.proofs.Common.{ap, sym, ◌∙◌, is_some}
use Rattle.ring_store.proofs.ReadLemmas.{copied_is_some}
use Rattle.arc_tables.proofs.Common.{holds_ring}
use Rattle.ring_store.proofs.borders.Borders.holds.Goals as goal

pub returns : goal.returns
returns g c = c.is_some.ensures ∙ copied_is_some c.get.result ∙ ap is_some c.get.ensures ∙ sym (holds_ring c.self.inside.tables c.args.r c.args.self.now c.self.view_is)
