use Rattle.kit_words.proofs.Common.{rules, ap, sym, ◌∙◌, arith, take, option_copied}
use Rattle.slab.specs.Slab.{get}
use Rattle.arc_tables.specs.Common.{path_in}
use Rattle.arc_tables.proofs.Running.{agreed_two, run_grows, advances_not}
use Rattle.arc_tables.proofs.tables.Tables.run.Goals as goal

pub end_at-requires-clause-some : goal.end_at-requires-clause-some
end_at-requires-clause-some g c = let two = agreed_two (get c.args.self.now.arcs c.args.i) c.unwrap.result.now c.as_slice.result.now c.args.keys.now c.agreed-m.result (sym c.get.ensures ∙ ap option_copied c.unwrap.ensures) c.as_slice.ensures.value c.requires.arc_two c.requires.two c.requires.agrees c.agreed-m.ensures.all in omega (arith, two)

pub returns-in_err-go_along : goal.returns-in_err-go_along
returns-in_err-go_along g c = advances_not c.args.self.now c.go_along.new.self c.args.r c.args.keys.now _ (λ m. m) c.from_residual-in_err-go_along.ensures.0 (search rules) c.go_along.ensures.whole (search rules)

pub returns : goal.returns
returns g c =
    let is = sym c.get.ensures ∙ ap option_copied c.unwrap.ensures in
    let two = agreed_two (get c.args.self.now.arcs c.args.i) c.unwrap.result.now c.as_slice.result.now c.args.keys.now c.agreed-m.result is c.as_slice.ensures.value c.requires.arc_two c.requires.two c.requires.agrees c.agreed-m.ensures.all in
    let same = ap (take c.agreed-m.result) (ap path_in is ∙ sym c.as_slice.ensures.value) ∙ c.agreed-m.ensures.same in
    let grown = run_grows c.args.self.now c.end_at.new.self c.go_along.new.self c.args.r c.args.i c.agreed-m.result c.args.keys.now c.in_ok-end_at.ensures.ok same c.in_ok-go_along.ensures.ok in
    record { two = two; within = search rules; grown = grown; kept = tt; whole = search rules; held = search rules }
