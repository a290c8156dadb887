use Rattle.kit_words.proofs.Common.{[]}
use Rattle.border_show.proofs.NumberLemmas.{named_by}
use Rattle.border_show.proofs.command_line.square_of.Goals as goal

pub returns : goal.returns
returns c =
    named_by c.args.values.now (record { ref_ptr = (0, 0); now = [] }) c.in_ok-x.x c.in_ok-y.y c.in_ok-width.width c.in_ok-middle.middle c.about.result
    c.in-len3.len_at_least c.in-len3.len_below c.in_ok-x.ensures.written c.in_ok-y.ensures.written c.in_ok-width.ensures.written
    c.in_ok-x.ensures.fits c.in_ok-y.ensures.fits c.in_ok-width.ensures.fits c.in_ok-middle.ensures.value c.about.ensures
