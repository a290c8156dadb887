use Rattle.kit_words.proofs.Common.{◌∙◌, ap, subst, [], filter}
use Rattle.arc_store.specs.Common.{ListsNear}
use Rattle.point_queries.specs.Common.{is_passed}
use Rattle.point_queries.proofs.PassedSegments.{passed_are}
use Rattle.point_queries.proofs.passed.passed.Goals as goal

pub returns : goal.returns
returns g c =
    let d = c.args.map.now.doc in
    let p = c.args.p in
    let near = c.candidates.new.out.items in
    let n : ListsNear d c.args.rect [] near =
    subst (λ z. ListsNear d c.args.rect z near) c.new-near.ensures.items c.in_ok-candidates.ensures.near in
    passed_are d p c.args.rect near n c.in_ok-found.found.items c.sort_unstable.new.self.items c.dedup.new.self.items
    (c.in_ok-found.ensures ∙ ap (filter (is_passed p)) c.as_slice.ensures.value)
    c.sort_unstable.ensures.permutation c.sort_unstable.ensures.sorted c.dedup.ensures.filtered
