use Rattle.kit_words.proofs.Common.{rules, ◌≡◌, ◌-◌, ap, sym, ◌∙◌, arith, take, drop, length, reverse, option_copied}
use Rattle.slab.specs.Slab.{get}
use Rattle.arc_tables.specs.Common.{path_in, store}
use Rattle.arc_tables.proofs.Running.{run_back_grows, advances_not}
use Rattle.arc_tables.proofs.tables.Tables.run_back.Goals as goal

pub returns-in_err-go_along : goal.returns-in_err-go_along
returns-in_err-go_along g c = advances_not c.args.self.now c.go_along.new.self c.args.r c.args.keys.now _ (λ m. m) c.from_residual-in_err-go_along.ensures.0 (search rules) c.go_along.ensures.whole (search rules)

pub returns : goal.returns
returns g c =
    let q = path_in (get c.args.self.now.arcs c.args.i) in
    let m = c.in_ok-m.m in
    let is : c.as_slice-path.result.now ≡ q = c.as_slice-path.ensures.value ∙ ap path_in (sym (ap option_copied c.unwrap.ensures) ∙ c.get.ensures) in
    let grown = run_back_grows (store c.args.self.now) (store c.begin_at.new.self) (store c.go_along.new.self) c.args.r c.in_ok-n.n m q c.args.keys.now c.begin_at.ensures.keeps
    (c.in_ok-n.ensures.ok ∙ ap (λ z. drop (length z - m) q) is) (omega (arith, c.in_ok-m.ensures.path, ap length is)) (ap (λ z. take m (reverse z)) (sym is) ∙ c.in_ok-m.ensures.same) c.in_ok-go_along.ensures.ok in
    record { two = search rules; within = search rules; grown = grown; kept = tt; whole = search rules; held = search rules }
