use Rattle.kit_words.proofs.Common.{◌≡◌, ◌∙◌, is_some, sym, ap, subst, false≢true}
use Rattle.ring_machine.specs.Common.{renamed}
use Rattle.ring_machine.proofs.Common.{has_feature-found}
use Rattle.edit_records.specs.Common.{with_id}
use Rattle.map_frame.specs.Common.{Framed}
use Rattle.arc_store.specs.Common.{IsKept}
use Rattle.arc_store.proofs.FeaturesKept.{kept_renamed}
use Rattle.arc_store.proofs.RenamedMap.{renamed_state}
use Rattle.arc_store.proofs.map.Map.raw_rename.Goals as goal

pub invariant_of-self : goal.invariant_of-self
invariant_of-self g c =
    let m = c.self.inside in
    let is : c.rename-id.new.self ≡ record m.frame { doc = renamed m.frame.doc c.args.n c.args.id.items } =
    c.rename-id.ensures.renamed ∙ ap (λ z. record m.frame { doc = with_id m.frame.doc c.args.n z }) c.given.ensures in
    subst (λ (f : Framed). IsKept f m.rings.borders m.rings.vertices m.rings.index.held m.positions) (sym is)
    (kept_renamed c.self.invariant c.args.n c.args.id.items c.requires.text)

pub returns-then-has_feature-clause-renamed : goal.returns-then-has_feature-clause-renamed
returns-then-has_feature-clause-renamed g c = λ f e.
    let m = c.self.inside in
    let is : c.rename-id.new.self ≡ record m.frame { doc = renamed m.frame.doc c.args.n c.args.id.items } =
    c.rename-id.ensures.renamed ∙ ap (λ z. record m.frame { doc = with_id m.frame.doc c.args.n z }) c.given.ensures in
    c.keep.ensures
    ∙ renamed_state c.self.invariant c.self.view_is c.args.n c.args.id.items c.rename-id.new.self is c.rename-id.result c.rename-id.ensures.old f e

pub returns-then-has_feature-clause-unchanged : goal.returns-then-has_feature-clause-unchanged
returns-then-has_feature-clause-unchanged g c = λ e.
    let d = c.args.self.now.doc in
    absurd (false≢true (sym (ap is_some e) ∙ sym (has_feature-found d c.args.n) ∙ sym c.has_feature.ensures ∙ c.if-has_feature.true))

pub returns-else-has_feature-clause-renamed : goal.returns-else-has_feature-clause-renamed
returns-else-has_feature-clause-renamed g c = λ f e.
    let d = c.args.self.now.doc in
    absurd (false≢true (sym c.if-has_feature.false ∙ c.has_feature.ensures ∙ has_feature-found d c.args.n ∙ ap is_some e))
