use Rattle.kit_words.proofs.Common.{◌∙◌, ◌≡◌, true, ap, sym, [], list_any}
use Rattle.ring_machine.specs.Common.{is_cut_by}
use Rattle.ring_parts.specs.Common.{path_seen, rings_seen}
use Rattle.ring_parts.proofs.Lists.{some_here, first_here, map-take}
use Rattle.ring_parts.proofs.cut.first_cut.Goals as goal

pub returns-then-is_cut_by-clause-any : goal.returns-then-is_cut_by-clause-any
returns-then-is_cut_by-clause-any g c =
    let cut : is_cut_by (path_seen c.args.path.now) (rings_seen c.index-polygons-place.result.items) ≡ true = ap (λ z. is_cut_by (path_seen c.args.path.now) (rings_seen z)) (sym c.as_slice.ensures.value) ∙ sym c.is_cut_by.ensures ∙ c.if-is_cut_by.true in
    sym (some_here (λ p. rings_seen p.items) (is_cut_by (path_seen c.args.path.now)) c.args.polygons.now c.loop-place.place c.index-polygons-place.result c.loop-place-test.true c.index-polygons-place.is cut)

pub returns-then-is_cut_by-clause-first : goal.returns-then-is_cut_by-clause-first
returns-then-is_cut_by-clause-first g c =
    let cut : is_cut_by (path_seen c.args.path.now) (rings_seen c.index-polygons-place.result.items) ≡ true = ap (λ z. is_cut_by (path_seen c.args.path.now) (rings_seen z)) (sym c.as_slice.ensures.value) ∙ sym c.is_cut_by.ensures ∙ c.if-is_cut_by.true in
    first_here (λ p. rings_seen p.items) (is_cut_by (path_seen c.args.path.now)) c.args.polygons.now c.loop-place.place c.index-polygons-place.result [] c.loop-place-test.true c.index-polygons-place.is c.loop-place.invariant cut

pub returns-then-is_cut_by-clause-none_before : goal.returns-then-is_cut_by-clause-none_before
returns-then-is_cut_by-clause-none_before g c = ap (list_any (is_cut_by (path_seen c.args.path.now))) (sym (map-take (λ p. rings_seen p.items) c.loop-place.place c.args.polygons.now)) ∙ c.loop-place.invariant
