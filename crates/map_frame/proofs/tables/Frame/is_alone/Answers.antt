use Rattle.kit_words.proofs.Common.{◌≡◌, sym, ap, ◌∙◌, length, Some, arith, slice_get_within}
use Rattle.ring_machine.specs.Common.{is_layer}
use Rattle.map_frame.specs.Common.{live}
use Rattle.map_frame.proofs.ReadAlone.{none_alone, is_alone, not_alone, in_some_layer}
use Rattle.map_frame.proofs.ReadFeatures.{live_there}
use Rattle.map_frame.proofs.ReadLists.{got, got_none}
use Rattle.map_frame.proofs.tables.Frame.is_alone.Goals as goal

pub returns-in_default : goal.returns-in_default
returns-in_default g c =
    let n = c.args.n in
    none_alone c.self.inside.tables c.self.invariant n (sym (c.in_default.ensures ∙ ap (λ fs. live fs n) c.as_slice.ensures.value))
    ∙ ap (λ f. is_layer f.doc n) c.self.view_is

pub returns-in_default-get : goal.returns-in_default-get
returns-in_default-get g c =
    let t = c.self.inside.tables in
    let n = c.args.n in
    let there : live t.features.items n ≡ Some c.in-Some._feature.now =
    sym (c.in-Some.ensures ∙ ap (λ fs. live fs n) c.as_slice.ensures.value) in
    let within = slice_get_within t.features.items n (Some c.in-Some._feature.now) (live_there t.features.items n c.in-Some._feature.now there) in
    absurd (let l = c.self.invariant.alike in
    omega (arith, within, l, c.in_default-get.ensures.lookup.3, ap length c.deref.ensures.value))

pub returns-in-Alone : goal.returns-in-Alone
returns-in-Alone g c =
    let t = c.self.inside.tables in
    let n = c.args.n in
    let s = c.in-Some-get.stand.now in
    let l = c.in-Some-get-2.layer.now in
    is_alone t c.self.invariant n c.in-Some._feature.now (sym (c.in-Some.ensures ∙ ap (λ fs. live fs n) c.as_slice.ensures.value)) s
    (got t.stands.items c.deref.result.now n c.deref.ensures.value s c.in-Some-get.ensures.lookup.3.0 c.in-Some-get.ensures.lookup.1) l
    (got t.layers.items c.deref-2.result.now s.layer c.deref-2.ensures.value l c.in-Some-get-2.ensures.lookup.3.0 c.in-Some-get-2.ensures.lookup.1)
    c.in-Alone.field-0 c.in-Alone.is
    ∙ ap (λ f. is_layer f.doc n) c.self.view_is

pub returns-in_default-matches : goal.returns-in_default-matches
returns-in_default-matches g c =
    let t = c.self.inside.tables in
    let n = c.args.n in
    let s = c.in-Some-get.stand.now in
    let l = c.in-Some-get-2.layer.now in
    not_alone t c.self.invariant n c.in-Some._feature.now (sym (c.in-Some.ensures ∙ ap (λ fs. live fs n) c.as_slice.ensures.value)) s
    (got t.stands.items c.deref.result.now n c.deref.ensures.value s c.in-Some-get.ensures.lookup.3.0 c.in-Some-get.ensures.lookup.1) l
    (got t.layers.items c.deref-2.result.now s.layer c.deref-2.ensures.value l c.in-Some-get-2.ensures.lookup.3.0 c.in-Some-get-2.ensures.lookup.1)
    c.in_default-matches.field-0 c.in_default-matches.is
    ∙ ap (λ f. is_layer f.doc n) c.self.view_is

pub returns-in-None : goal.returns-in-None
returns-in-None g c =
    let t = c.self.inside.tables in
    let n = c.args.n in
    let s = c.in-Some-get.stand.now in
    absurd (in_some_layer t c.self.invariant n s
    (got t.stands.items c.deref.result.now n c.deref.ensures.value s c.in-Some-get.ensures.lookup.3.0 c.in-Some-get.ensures.lookup.1)
    (got_none t.layers.items c.deref-2.result.now s.layer c.deref-2.ensures.value c.in-None.ensures.lookup.3))
