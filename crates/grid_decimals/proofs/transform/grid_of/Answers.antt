use Rattle.kit_words.proofs.Common.{codes}
use Rattle.grid_decimals.specs.Common.{numbers_in, two_parts}
use Rattle.grid_decimals.proofs.Grids.{no_scale_read, no_translate_read}
use Rattle.grid_decimals.proofs.transform.grid_of.Goals as goal

pub returns-in_default-2 : goal.returns-in_default-2
returns-in_default-2 c =
    rw c.in-Some.is
    (no_translate_read c.in_ok-translate.translate (two_parts (numbers_in (codes "scale") c.in-Some.text.now))
    (two_parts (numbers_in (codes "translate") c.in-Some.text.now)) c.in_default-2.is-1 c.in_ok-translate.ensures)

pub returns-in_default-2-2 : goal.returns-in_default-2-2
returns-in_default-2-2 c =
    rw c.in-Some.is
    (no_scale_read c.in_ok-scale.scale (two_parts (numbers_in (codes "scale") c.in-Some.text.now))
    (two_parts (numbers_in (codes "translate") c.in-Some.text.now)) c.in_default-2.is-0 c.in_ok-scale.ensures)
