use Rattle.kit_words.proofs.Common.{◌≡◌, ap, sym, ◌∙◌, arith, Some, length, option_copied}
use Rattle.slab.specs.Slab.{get}
use Rattle.arc_tables.specs.Common.{path_of, users_in}
use Rattle.arc_tables.proofs.Counting.{users_here, users_nowhere}
use Rattle.arc_tables.proofs.tables.Tables.uses.Goals as goal
use Rattle.arc_tables.proofs.Inserting.{placed}

pub returns-in-Some : goal.returns-in-Some
returns-in-Some g c =
    let n = c.in-Some.place.arc in
    let is : get c.args.self.now.arcs n ≡ Some c.unwrap.result.now = sym c.get.ensures ∙ ap option_copied c.unwrap.ensures in
    let count = users_here c.args.self.now c.args.a c.args.b c.requires n (placed c.args.a c.args.b c.in-Some.place.at c.in-Some.place.back (path_of c.args.self.now n) c.in-Some.ensures.some) in
    omega (arith, count, ap (λ o. length (users_in o)) is, ap length c.as_slice.ensures)

pub returns-in-None : goal.returns-in-None
returns-in-None g c = sym (users_nowhere c.args.self.now c.args.a c.args.b c.in-None.ensures.none)
