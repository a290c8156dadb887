use Rattle.kit_words.proofs.Common.{◌∙◌}
use Rattle.cover_report.proofs.SideLemmas.{side_read}
use Rattle.cover_report.proofs.faces.ends_at.Goals as goal

pub returns-in-Some : goal.returns-in-Some
returns-in-Some g c =
    c.side_ends.ensures ∙ side_read c.args.borders.now c.args.side c.in-Some.border.now c.in-Some.ensures.lookup.3.0 c.in-Some.ensures.lookup.1
