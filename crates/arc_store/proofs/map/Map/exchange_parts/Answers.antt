use Rattle.kit_words.proofs.Common.{◌≡◌, ◌+◌, ◌++◌, sym, ap, ap₂, ◌∙◌, subst, length, take, drop, [], ◌∷◌, Some}
use Rattle.ring_machine.specs.Common.{first_polygon, second_polygon, feature, feature_at}
use Rattle.ring_parts.specs.Common.{path_seen, rings_seen}
use Rattle.edit_records.specs.Common.{grown, Exchanged}
use Rattle.feature_exchange.specs.Common.{seen}
use Rattle.arc_store.specs.Common.{MayExchange, asked_document, feature_with, part_of, State}
use Rattle.arc_store.proofs.ChangesCounted.{seen_two}
use Rattle.arc_store.proofs.ChangesRecorded.{record_kept, next_none}
use Rattle.arc_store.proofs.SplitMade.{both_parts}
use Rattle.arc_store.proofs.SplitPlan.{split_is, split_may, put_first}
use Rattle.arc_store.proofs.map.Map.exchange_parts.Given.{Over}
use Rattle.arc_store.proofs.map.Map.exchange_parts.Goals as goal
use Rattle.arc_store.proofs.map.Map.exchange_parts.Goals.{After-as_mut_slice}

-- what is asked for: both parts
asked : (g : Over) (c : After-as_mut_slice g) → seen c.as_mut_slice.result.now
    ≡ both_parts c.args.self.now.doc c.args.n c.args.self.now.next c.args.id.items (path_seen c.args.path.now) c.args.found.place (rings_seen c.args.found.rings.items)
asked g c =
    let d = c.args.self.now.doc in
    let p = path_seen c.args.path.now in
    let q = rings_seen c.args.found.rings.items in
    let stays = put_first c.args.found.others.items (feature_at d c.args.n).polygons c.args.found.place c.in_ok-first.first (first_polygon p q) c.requires.found.others
    (c.in_ok-first.ensures.first ∙ ap (λ z. first_polygon p (rings_seen z)) c.as_slice.ensures.value) in
    let comes : rings_seen c.in_ok-first.second.items ≡ second_polygon p q =
    c.in_ok-first.ensures.second ∙ ap (λ z. second_polygon p (rings_seen z)) c.as_slice.ensures.value in
    seen_two c.in_ok-kept.kept c.in_ok-part.part _ _ c.as_mut_slice.result.now (c.as_mut_slice.ensures.value ∙ c.in_ok-changes.ensures)
    (c.in_ok-kept.ensures ∙ ap (λ z. (c.args.n, Some (feature_with d c.args.n z)) ∷ []) stays)
    (c.in_ok-part.ensures ∙ ap₂ (λ k z. (k, Some (part_of d c.args.n k c.args.id.items z)) ∷ []) c.next_number-number.ensures.next comes)

pub exchange-requires : goal.exchange-requires
exchange-requires g c =
    let held = c.next_number-number.ensures in
    subst (λ z. MayExchange (Some c.args.n) z c.args.self.now) (sym (asked g c))
    (split_may c.args.self.now c.args.n c.args.id.items (path_seen c.args.path.now) c.args.found.place (rings_seen c.args.found.rings.items) held.placed held.keeps c.requires.text c.requires.cuttable c.requires.found.first c.requires.accepted)

pub returns-clause-split : goal.returns-clause-split
returns-clause-split g c =
    let st = c.args.self.now in
    let n = c.args.n in
    let held = c.next_number-number.ensures in
    let both = asked g (goal.at.returns-clause-split g c).After-as_mut_slice in
    let v = c.in_ok-changes.changes in
    ap (λ (s : State). record s { last = Some (Exchanged (seen (take v.len (c.exchange.new.changes ++ drop (length c.exchange.new.changes) v.items)))) }) (c.self-2.view_is ∙ c.in_ok-exchange.ensures.exchanged)
    ∙ ap₂ (λ y z. record st { doc = y; next = st.next + 1; places = grown n st.next st.places; last = z })
    (ap (λ z. asked_document (Some n) z st) both
    ∙ split_is st n c.args.id.items (path_seen c.args.path.now) c.args.found.place (rings_seen c.args.found.rings.items) held.placed held.keeps c.requires.text c.requires.cuttable c.requires.found.first c.requires.accepted)
    (record_kept st.doc v.items c.as_mut_slice.result.now c.exchange.new.changes v.len v.ok.0 c.as_mut_slice.ensures.value c.in_ok-exchange.ensures.had _ both
    ∙ ap (λ o. Some (Exchanged ((n, feature st.doc n) ∷ (st.next, o) ∷ []))) (next_none st.places st.next st.doc held.placed))
