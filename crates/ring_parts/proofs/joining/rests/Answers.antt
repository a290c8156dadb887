use Rattle.kit_words.proofs.Common.{◌≡◌, ◌∙◌, ◌++◌, ap, sym, subst, cond, reverse, map, map-append}
use Rattle.grid_geometry.specs.Common.{edges}
use Rattle.ring_machine.specs.Common.{is_common, off_run}
use Rattle.ring_parts.specs.Common.{is_shared, IsEitherWay}
use Rattle.ring_parts.proofs.Rests.{as_many}
use Rattle.ring_parts.proofs.KeptSides.{first_tests, second_tests, turned_way}
use Rattle.ring_parts.proofs.joining.rests.Goals as goal

pub push_rest-requires : goal.push_rest-requires
push_rest-requires g c =
    let shared = c.args.shared.now in
    as_many (is_shared shared.first.now shared.second.now) shared.first.now c.in_ok-ones.ones.items c.in_ok-ones.ensures

pub push_rest-requires-2 : goal.push_rest-requires-2
push_rest-requires-2 g c =
    let shared = c.args.shared.now in
    as_many (is_shared shared.first.now shared.second.now) c.as_slice-2.result.now c.in_ok-others.others.items
    (c.in_ok-others.ensures ∙ ap (λ ps. map (is_shared shared.first.now shared.second.now) (edges ps)) (c.as_slice.ensures.value ∙ sym c.as_slice-2.ensures.value))

pub returns : goal.returns
returns g c =
    let r = c.args.shared.now.first.now in
    let s = c.args.shared.now.second.now in
    let way : IsEitherWay s c.as_slice-2.result.now = subst (IsEitherWay s) (sym (c.as_slice-2.ensures.value ∙ c.in_ok-other.ensures)) (turned_way s c.args.turns) in
    let ones = map (λ e. e.0) (off_run (is_common s) (edges r)) in
    c.in_ok-push_rest-2.ensures (is_common r)
    (c.in_ok-others.ensures ∙ ap (λ ps. map (is_shared r s) (edges ps)) (c.as_slice.ensures.value ∙ sym c.as_slice-2.ensures.value) ∙ second_tests r s c.as_slice-2.result.now way)
    ∙ ap (λ ps. ps ++ map (λ e. e.0) (off_run (is_common r) (edges c.as_slice-2.result.now))) (c.in_ok-push_rest.ensures (is_common s) (c.in_ok-ones.ensures ∙ first_tests r s) ∙ ap (λ ps. ps ++ ones) c.new-rest.ensures.items)
    ∙ ap (λ ps. ones ++ map (λ e. e.0) (off_run (is_common r) (edges ps))) (c.as_slice-2.ensures.value ∙ c.in_ok-other.ensures)
    ∙ sym (map-append (λ e. e.0) (off_run (is_common s) (edges r)) (off_run (is_common r) (edges (cond c.args.turns (reverse s) s))))
