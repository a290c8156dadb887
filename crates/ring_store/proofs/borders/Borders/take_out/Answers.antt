use Rattle.kit_words.proofs.Common.{ap, ◌∙◌}
use Rattle.std.specs.FinMap as map
use Rattle.arc_tables.proofs.Common.{rings_taken}
use Rattle.ring_store.proofs.borders.Borders.take_out.Goals as goal

pub returns : goal.returns
returns g c = rings_taken c.self.inside.tables c.take_out.new.self c.args.r c.take_out.ensures.ring c.take_out.ensures.others c.take_out.ensures.gone ∙ ap (λ m. map.remove m c.args.r) c.self.view_is
