use Rattle.kit_words.proofs.Common.{◌≡◌, ap, sym, ◌∙◌, arith, Some, length, option_copied}
use Rattle.slab.specs.Slab.{get}
use Rattle.arc_tables.specs.Common.{path_in}
use Rattle.arc_tables.proofs.Running.{ends_by_cut}
use Rattle.arc_tables.proofs.tables.Tables.end_at.Goals as goal

pub returns-clause-ok : goal.returns-clause-ok
returns-clause-ok g c =
    let is : get c.args.self.now.arcs c.args.i ≡ Some c.unwrap.result.now = sym c.get.ensures ∙ ap option_copied c.unwrap.ensures in
    let len = ap (λ o. length (path_in o)) is in
    ends_by_cut c.args.self.now c.cut.new.self c.args.i _ c.args.m c.requires.some (omega (arith, len, c.len-len.ensures, c.unwrap.result.now.keys.ok)) c.in_ok-cut.ensures.ok
