use Rattle.kit_words.proofs.Common.{◌≡◌, ◌+◌, ◌<◌, refl, sym, ap, ap₂, ◌∙◌, subst, [], ◌∷◌, ◌++◌, length, arith, None, slice_get}
use Rattle.kit_words.proofs.Common.{true, false, with_item}
use Rattle.edit_records.specs.Common.{grown}
use Rattle.ring_machine.specs.Common.{has_feature, is_layer}
use Rattle.map_frame.specs.Common.{Framed, doc_of, with_number, numbers_under}
use Rattle.map_frame.proofs.GrownFrames.{number_within, stand_got, layer_within, layer_got, grow_all, found}
use Rattle.map_frame.proofs.GrownPlace.{slot_within}
use Rattle.map_frame.proofs.PlacedFrames.{moved_kept}
use Rattle.map_frame.proofs.tables.Frame.grow.Goals as goal

pub index-stand-requires : goal.index-stand-requires
index-stand-requires g c =
    let t = c.self.inside.tables in
    let there : has_feature (doc_of t) c.args.n ≡ true = ap (λ (f : Framed). has_feature f.doc c.args.n) c.self.view_is ∙ c.requires.there in
    let within = number_within t c.self.invariant c.args.n there in
    let l = c.self.invariant.alike in
    omega (arith, within, l, t.stands.ok)

pub invariant_of-self : goal.invariant_of-self
invariant_of-self g c =
    let t = c.self.inside.tables in
    moved_kept t c.reserve.new.self t.stands c.in_err-reserve.ensures.items refl c.self.invariant

pub invariant_of-self-in_err-push : goal.invariant_of-self-in_err-push
invariant_of-self-in_err-push g c =
    let t = c.self.inside.tables in
    moved_kept t c.reserve.new.self c.push.new.self c.in_ok-reserve.ensures.items c.in_err-push.ensures.items c.self.invariant

pub index_mut-requires : goal.index_mut-requires
index_mut-requires g c =
    let t = c.self.inside.tables in
    let n = c.args.n in
    let there : has_feature (doc_of t) n ≡ true = ap (λ (f : Framed). has_feature f.doc n) c.self.view_is ∙ c.requires.there in
    let inside : is_layer (doc_of t) n ≡ false = ap (λ (f : Framed). is_layer f.doc n) c.self.view_is ∙ c.requires.inside in
    let s = c.index-stand.result.now in
    let at = stand_got t c.self.invariant n there s c.index-stand.ensures in
    let l = layer_within t c.self.invariant n there inside s at in
    omega (arith, l, t.layers.ok)

pub put_numbers-requires : goal.put_numbers-requires
put_numbers-requires g c slots e =
    let t = c.self.inside.tables in
    let n = c.args.n in
    let k = c.self.invariant in
    let there : has_feature (doc_of t) n ≡ true = ap (λ (f : Framed). has_feature f.doc n) c.self.view_is ∙ c.requires.there in
    let inside : is_layer (doc_of t) n ≡ false = ap (λ (f : Framed). is_layer f.doc n) c.self.view_is ∙ c.requires.inside in
    let s = c.index-stand.result.now in
    let at = stand_got t k n there s c.index-stand.ensures in
    let old = c.index_mut.result.now in
    let at_layer = layer_got t k n there inside s at old c.index_mut.ensures.value in
    let f = found t k n there in
    slot_within t n f.0 s k inside f.1 at old slots at_layer e

pub invariant_of-self-2 : goal.invariant_of-self-2
invariant_of-self-2 g c =
    let t = c.self.inside.tables in
    let n = c.args.n in
    let k = c.self.invariant in
    let there : has_feature (doc_of t) n ≡ true = ap (λ (f : Framed). has_feature f.doc n) c.self.view_is ∙ c.requires.there in
    let inside : is_layer (doc_of t) n ≡ false = ap (λ (f : Framed). is_layer f.doc n) c.self.view_is ∙ c.requires.inside in
    let few : length t.features.items < 200000 = subst (λ (f : Framed). f.next < 200000) (sym c.self.view_is) c.requires.few in
    let s = c.index-stand.result.now in
    let at = stand_got t k n there s c.index-stand.ensures in
    let old = c.index_mut.result.now in
    let at_layer = layer_got t k n there inside s at old c.index_mut.ensures.value in
    let number : c.len-number.result ≡ length t.features.items = omega (arith, c.len-number.ensures, t.features.ok) in
    let numbers : c.in_ok-numbers.numbers.items ≡ with_number n (length t.features.items) (numbers_under (slice_get t.layers.items s.layer) s.slot) =
    c.in_ok-numbers.ensures ∙ ap₂ (λ a z. with_number n a z) number (c.numbers_in-standing.ensures
    ∙ ap (λ ls. numbers_under (slice_get ls s.layer) s.slot) c.as_slice.ensures.value) in
    let features : c.push_reserved.new.self.items ≡ t.features.items ++ None ∷ [] =
    c.push_reserved.ensures.items ∙ ap (λ z. z ++ None ∷ []) c.in_ok-reserve.ensures.items in
    (grow_all t k n there inside s at old c.put_numbers.new.layer at_layer c.in_ok-numbers.numbers numbers
    c.put_numbers.ensures c.push_reserved.new.self features c.push.new.self c.in_ok-push.ensures.items
    (with_item t.layers s.layer c.put_numbers.new.layer) refl).1 few

pub returns-clause-ok : goal.returns-clause-ok
returns-clause-ok g c =
    let t = c.self.inside.tables in
    let n = c.args.n in
    let k = c.self.invariant in
    let there : has_feature (doc_of t) n ≡ true = ap (λ (f : Framed). has_feature f.doc n) c.self.view_is ∙ c.requires.there in
    let inside : is_layer (doc_of t) n ≡ false = ap (λ (f : Framed). is_layer f.doc n) c.self.view_is ∙ c.requires.inside in
    let s = c.index-stand.result.now in
    let at = stand_got t k n there s c.index-stand.ensures in
    let old = c.index_mut.result.now in
    let at_layer = layer_got t k n there inside s at old c.index_mut.ensures.value in
    let number : c.len-number.result ≡ length t.features.items = omega (arith, c.len-number.ensures, t.features.ok) in
    let numbers : c.in_ok-numbers.numbers.items ≡ with_number n (length t.features.items) (numbers_under (slice_get t.layers.items s.layer) s.slot) =
    c.in_ok-numbers.ensures ∙ ap₂ (λ a z. with_number n a z) number (c.numbers_in-standing.ensures
    ∙ ap (λ ls. numbers_under (slice_get ls s.layer) s.slot) c.as_slice.ensures.value) in
    let features : c.push_reserved.new.self.items ≡ t.features.items ++ None ∷ [] =
    c.push_reserved.ensures.items ∙ ap (λ z. z ++ None ∷ []) c.in_ok-reserve.ensures.items in
    (grow_all t k n there inside s at old c.put_numbers.new.layer at_layer c.in_ok-numbers.numbers numbers
    c.put_numbers.ensures c.push_reserved.new.self features c.push.new.self c.in_ok-push.ensures.items
    (with_item t.layers s.layer c.put_numbers.new.layer) refl).0
    ∙ ap (λ (f : Framed). record f { next = f.next + 1; places = grown n f.next f.places }) c.self.view_is

pub returns-clause-number : goal.returns-clause-number
returns-clause-number g c =
    let t = c.self.inside.tables in
    let number : c.len-number.result ≡ length t.features.items = omega (arith, c.len-number.ensures, t.features.ok) in
    number ∙ ap (λ (f : Framed). f.next) c.self.view_is
