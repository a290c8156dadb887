use Rattle.kit_words.proofs.Common.{◌≡◌, refl, sym, ap, ◌∙◌, subst, [], ◌∷◌, None}
use Rattle.ring_machine.proofs.Common.{take_out_none}
use Rattle.feature_exchange.specs.Common.{seen}
use Rattle.arc_store.specs.Common.{MayExchange, asked_document}
use Rattle.arc_store.proofs.ChangesRecorded.{record_kept}
use Rattle.arc_store.proofs.DeletePlan.{deleted_is, deleted_may}
use Rattle.arc_store.proofs.Outcomes.{is_made, with_last}
use Rattle.arc_store.proofs.map.Map.raw_delete.Given.{Over}
use Rattle.arc_store.proofs.map.Map.raw_delete.Goals as goal
use Rattle.arc_store.proofs.map.Map.raw_delete.Goals.{After-as_mut_slice}

-- nothing is taken out
pub returns-then-not-has_feature-clause-edits : goal.returns-then-not-has_feature-clause-edits
returns-then-not-has_feature-clause-edits g c =
    let st = c.args.self.now in
    is_made refl
    (ap (λ z. record st { doc = z }) (sym (take_out_none c.args.n st.doc (sym c.has_feature.ensures ∙ c.if-not-has_feature.true))))

-- what is asked for: none in the place of the feature
asked : (g : Over) (c : After-as_mut_slice g) → seen c.as_mut_slice.result.now ≡ (c.args.n, None) ∷ []
asked g c = ap seen (c.as_mut_slice.ensures.value ∙ c.in_ok-changes.ensures)

pub exchange-requires : goal.exchange-requires
exchange-requires g c =
    let held = c.next_number.ensures in
    subst (λ z. MayExchange None z c.args.self.now) (sym (asked g c))
    (deleted_may c.args.self.now c.args.n held.placed held.held.map held.keeps (sym c.has_feature.ensures ∙ c.if-not-has_feature.false))

pub returns-clause-edits : goal.returns-clause-edits
returns-clause-edits g c =
    let st = c.args.self.now in
    is_made refl
    (with_last st (c.self-2.view_is ∙ c.in_ok-exchange.ensures.exchanged)
    (ap (λ z. asked_document None z st) (asked g (goal.at.returns-clause-edits g c).After-as_mut_slice)
    ∙ deleted_is st c.args.n c.next_number.ensures.placed) refl refl)

pub returns-clause-recorded : goal.returns-clause-recorded
returns-clause-recorded g c = λ there.
    let v = c.in_ok-changes.changes in
    record_kept c.args.self.now.doc v.items c.as_mut_slice.result.now c.exchange.new.changes v.len v.ok.0 c.as_mut_slice.ensures.value c.in_ok-exchange.ensures.had _
    (asked g (goal.at.returns-clause-recorded g c).After-as_mut_slice)
