use Rattle.kit_words.proofs.Common.{◌≡◌, refl, sym, ap, ap₂, ◌∙◌, subst, get_or, [], ◌∷◌, Some, None, arith}
use Rattle.ring_machine.specs.Common.{feature_at}
use Rattle.ring_parts.specs.Common.{joined_rings, rings_seen, polygons_seen}
use Rattle.feature_exchange.specs.Common.{seen}
use Rattle.arc_store.specs.Common.{MayExchange, asked_document, feature_with}
use Rattle.arc_store.proofs.ChangesCounted.{seen_two}
use Rattle.arc_store.proofs.ChangesRecorded.{record_kept}
use Rattle.arc_store.proofs.MergePlan as plan
use Rattle.arc_store.proofs.Outcomes.{is_made, with_last}
use Rattle.arc_store.proofs.PolygonsSeen.{first_seen}
use Rattle.arc_store.proofs.map.Map.raw_merge.Given.{Over}
use Rattle.arc_store.proofs.map.Map.raw_merge.Goals as goal
use Rattle.arc_store.proofs.map.Map.raw_merge.Goals.{After-as_mut_slice}

pub index-requires : goal.index-requires
index-requires g c =
    let there = plan.first_there c.args.self.now.doc c.args.n c.args.g c.requires c.in_ok-ones.ones.items c.in_ok-ones.ensures in
    omega (arith, there, c.in_ok-ones.ones.ok)

pub index-requires-2 : goal.index-requires-2
index-requires-2 g c =
    let there = plan.second_there c.args.self.now.doc c.args.n c.args.g c.requires c.in_ok-others.others.items c.in_ok-others.ensures in
    omega (arith, there, c.in_ok-others.others.ok)

pub with_polygons-requires : goal.with_polygons-requires
with_polygons-requires g c = plan.first_has c.args.self.now.doc c.args.n c.args.g c.requires

-- the rings are those of the first polygons of both, joined
joined : (g : Over) (c : After-as_mut_slice g) → rings_seen c.in_ok-rings.rings.items
    ≡ joined_rings (get_or (feature_at c.args.self.now.doc c.args.n).polygons 0 []) (get_or (feature_at c.args.self.now.doc c.args.g).polygons 0 [])
joined g c =
    let d = c.args.self.now.doc in
    let ones = c.in_ok-ones.ones.items in
    let others = c.in_ok-others.others.items in
    let one = first_seen ones c.index.result.now c.index.ensures (plan.first_there d c.args.n c.args.g c.requires ones c.in_ok-ones.ensures) c.as_slice.result.now c.as_slice.ensures.value in
    let other = first_seen others c.index-2.result.now c.index-2.ensures (plan.second_there d c.args.n c.args.g c.requires others c.in_ok-others.ensures) c.as_slice-2.result.now c.as_slice-2.ensures.value in
    c.in_ok-rings.ensures ∙ ap₂ joined_rings (one ∙ ap (λ z. get_or z 0 []) c.in_ok-ones.ensures) (other ∙ ap (λ z. get_or z 0 []) c.in_ok-others.ensures)

-- what is asked for: one feature with them, and none in the place of the other
asked : (g : Over) (c : After-as_mut_slice g) → seen c.as_mut_slice.result.now
    ≡ (c.args.n, Some (feature_with c.args.self.now.doc c.args.n (rings_seen c.in_ok-rings.rings.items ∷ []))) ∷ (c.args.g, None) ∷ []
asked g c =
    seen_two c.in_ok-joined.joined (record { number = c.args.g; was = None }) _ _ c.as_mut_slice.result.now (c.as_mut_slice.ensures.value ∙ c.in_ok-changes.ensures)
    (c.in_ok-joined.ensures ∙ ap (λ z. (c.args.n, Some (feature_with c.args.self.now.doc c.args.n (polygons_seen z))) ∷ []) c.in_ok-one_polygon.ensures) refl

pub exchange-requires : goal.exchange-requires
exchange-requires g c =
    let held = c.next_number.ensures in
    subst (λ z. MayExchange None z c.args.self.now) (sym (asked g c))
    (plan.merge_may c.args.self.now c.args.n c.args.g c.requires held.placed held.held.map held.keeps (rings_seen c.in_ok-rings.rings.items) (joined g c))

pub returns-clause-edits : goal.returns-clause-edits
returns-clause-edits g c =
    let st = c.args.self.now in
    let held = c.next_number.ensures in
    let path = (goal.at.returns-clause-edits g c).After-as_mut_slice in
    let both = asked g path in
    let v = c.in_ok-changes.changes in
    is_made refl
    (with_last st (c.self-2.view_is ∙ c.in_ok-exchange.ensures.exchanged)
    (ap (λ z. asked_document None z st) both
    ∙ plan.merge_is st c.args.n c.args.g c.requires held.placed held.held.map held.keeps (rings_seen c.in_ok-rings.rings.items) (joined g path))
    (record_kept st.doc v.items c.as_mut_slice.result.now c.exchange.new.changes v.len v.ok.0 c.as_mut_slice.ensures.value c.in_ok-exchange.ensures.had _ both)
    refl)
