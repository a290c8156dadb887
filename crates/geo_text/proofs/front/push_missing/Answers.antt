use Rattle.kit_words.proofs.Common.{◌≡◌, ◌∙◌, ap, contains_text, false, map, not-false, not-true, refl, rules, subst, true}
use Rattle.topo_outline.specs.Common.{view_head, view_kept}
use Rattle.geo_features.specs.Names.{HasNames}
use Rattle.geo_text.proofs.FrontNames.{missing_kept, missing_left, one_kept}
use Rattle.geo_text.proofs.front.push_missing.Goals as goal
use Rattle.geo_text.proofs.front.push_missing.Goals.{then-not-has+in_ok-push, else-not-has}

pub loop-member-preserved : goal.loop-member-preserved
loop-member-preserved g c =
    let h = view_head c.args.head.now in
    let i = c.loop-member.member-index in
    let old = map view_kept c.loop-member.found.items in
    let names = subst (λ z. HasNames (contains_text c.in_ok-names.names) (map view_kept z)) c.as_slice.ensures.value c.in_ok-names.ensures in
    let test = c.in_ok-has.ensures names in
    elim c.if-not-has.branch [
      | then-not-has+in_ok-push w ↦
          (let absent : c.in_ok-has.has ≡ false = search (rules, not-true, w.if-not-has.true) in
          missing_kept h c.args.of_topology.now i _ _ c.in_ok-has.has old _ _ c.loop-member-test.true refl test absent
          (ap (λ f. map view_kept f.items) w.found-is ∙ one_kept c.loop-member.found.items w.push.new.self.items _ w.in_ok-push.ensures.items)
          c.loop-member.invariant)
      | else-not-has w ↦
          (let there : c.in_ok-has.has ≡ true = search (rules, not-false, w.if-not-has.false) in
          missing_left h c.args.of_topology.now i _ _ c.in_ok-has.has old _ _ c.loop-member-test.true refl test there
          (ap (λ f. map view_kept f.items) w.found-is)
          c.loop-member.invariant)
    ]
