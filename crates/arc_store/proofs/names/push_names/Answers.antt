use Rattle.kit_words.proofs.Common.{◌≡◌, ◌<◌, subst, ap, ◌∙◌, arith, length, get_or, map, Some, IfSome, take_all}
use Rattle.ring_machine.proofs.Common.{in_contains, in_at}
use Rattle.map_frame.specs.Common.{number_at}
use Rattle.arc_store.proofs.NamedRings.{names_begin, names_more}
use Rattle.arc_store.proofs.names.push_names.Goals as goal
use Rattle.arc_store.proofs.names.push_names.Goals.{in-Some+in_ok-push, in_default}

pub loop-r-init : goal.loop-r-init
loop-r-init g c = names_begin c.args.frame.now.doc c.args.numbers.now c.args.out.now.items

pub loop-r-preserved : goal.loop-r-preserved
loop-r-preserved g c =
    let d = c.args.frame.now.doc in
    let numbers = c.args.numbers.now in
    let i = c.loop-r.r-index in
    let within : i < length numbers = omega (arith, c.loop-r-test.true) in
    elim c.match-name_of.branch [
      | in-Some+in_ok-push w ↦
          names_more d numbers i c.args.out.now.items c.loop-r.out.items c.match-name_of.out.items w.in-Some.name within (subst (λ o. IfSome o (λ name. number_at d name ≡ Some (get_or numbers i 0))) w.in-Some.is c.name_of.ensures.right) (ap (λ z. z.items) w.out-is ∙ w.in_ok-push.ensures.items) c.loop-r.invariant
      | in_default w ↦
          let named = c.requires (get_or numbers i 0) (in_contains numbers (get_or numbers i 0) (in_at numbers i 0 within)) in
          absurd (c.name_of.ensures.none w.in_default.is named.0 named.1)
    ]

pub returns : goal.returns
returns g c =
    let h = c.loop-r.invariant in
    record {
      found = h.found;
      appended = h.appended;
      are = h.are ∙ ap (map Some) (take_all c.loop-r.r-index c.args.numbers.now c.loop-r-test.false);
    }
