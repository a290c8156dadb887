use Rattle.kit_words.proofs.Common.{ap, subst, arith, is_some}
use Rattle.slab.specs.Slab.{get}
use Rattle.arc_tables.specs.Common.{OpenAt, Store, path_in, uses_in, store, IsOpen}
use Rattle.arc_tables.proofs.Moves.{extend_grows, open_started, extended}
use Rattle.arc_tables.proofs.Running.{advances_new}
use Rattle.arc_tables.proofs.Segments.{if_ok_map}
use Rattle.arc_tables.proofs.tables.Tables.go_new.Goals as goal

pub returns-in_ok-extend-in-Some-clause-advances : goal.returns-in_ok-extend-in-Some-clause-advances
returns-in_ok-extend-in-Some-clause-advances g c =
    let s : Store = store c.args.self.now in
    let t : Store = store c.extend.new.self in
    let n = c.in-Some.n in
    let rings = c.extend.ensures.rings in
    let o : OpenAt s c.args.r n c.args.a = subst (λ m. IsOpen c.args.self.now c.args.r m c.args.a) c.in-Some.is c.requires.making in
    let e = extended c.args.r n c.args.a c.args.b s t o c.in_ok-extend-in-Some.ensures.ok (λ j f. ap path_in (c.extend.ensures.others j f)) (λ k. ap (λ z. uses_in (get z k)) rings) in
    let grown = extend_grows c.args.r n o.ps c.args.a c.args.b o.before s t e c.requires.new in
    record { two = omega arith; within = omega arith; grown = grown; kept = tt; whole = c.extend.ensures.whole; held = λ k. ap (λ z. is_some (get z k)) rings }

pub returns-in-None-clause-advances : goal.returns-in-None-clause-advances
returns-in-None-clause-advances g c =
    let a = c.start.ensures in
    advances_new c.args.self.now c.start.new.self c.args.r c.args.a c.args.b c.start.result a.ok a.err a.err_rings a.whole a.held c.requires.new

pub returns-in-None-clause-making : goal.returns-in-None-clause-making
returns-in-None-clause-making g c = if_ok_map c.start.result (λ n. open_started c.args.r n c.args.a c.args.b (store c.args.self.now) (store c.start.new.self)) c.start.ensures.ok
