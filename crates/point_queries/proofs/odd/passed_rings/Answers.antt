use Rattle.kit_words.proofs.Common.{subst, []}
use Rattle.point_queries.specs.Common.{ListsOdd}
use Rattle.point_queries.proofs.odd.passed_rings.Goals as goal

pub returns : goal.returns
returns g c =
    let d = c.args.map.now.doc in
    let ss = c.in_ok-segments.segments.items in
    let names = c.push_rings.new.out.items in
    record {
      ss = ss;
      passed = c.in_ok-segments.ensures;
      listed = subst (λ z. ListsOdd d z [] names) c.as_slice.ensures.value
          (subst (λ z. ListsOdd d c.as_slice.result.now z names) c.new-rings.ensures.items c.in_ok-push_rings.ensures);
    }
