use Rattle.kit_words.proofs.Common.{◌||◌, ◌+◌, false, get_or, sym, ap, arith}
use Rattle.topo_writer.proofs.Marks.{not_end}
use Rattle.topo_writer.proofs.cutting.ends_at.Goals as goal

pub returns-else-i-way : goal.returns-else-i-way
returns-else-i-way c =
    ap (λ b. b || get_or c.args.marks.now c.args.i false)
    (sym (not_end c.args.way.now (c.args.i + 1) (omega (arith, c.requires.way, c.if-i-way.false))))
